use Rattle.std.specs.Prelude.{ℕ, cond, List, ◌==◌}
use Rattle.siphash.specs.Sip.{sip_hash, word_bytes}
use Rattle.state.specs.declared.raw.RawState.{RawState}
use Rattle.state.specs.Refusals.{first}
use Rattle.state.specs.States.{raw_words, making_checks}

-- the figures of a state as one raw state
abbrev pub raw : ℕ → ℕ → List ℕ → RawState
raw place number amounts = record { place = place; number = number; amounts = amounts }

-- the number of the answer: 0 where the state is made
abbrev pub answer_number : RawState → ℕ
answer_number x = (first (making_checks x)).0

-- the tag afterwards: that of the figures, and as it was where no state is made of them
abbrev pub tag_after : ℕ → ℕ → RawState → ℕ → ℕ
tag_after k0 k1 x before = cond (answer_number x == 0) (sip_hash k0 k1 (word_bytes (raw_words x))) before
