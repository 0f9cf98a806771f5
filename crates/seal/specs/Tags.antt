use Rattle.std.specs.Prelude.{◌≡◌, ℕ, Bool, true, List, [], ◌∷◌, ◌==◌, nat_lt}
use Rattle.siphash.specs.Sip.{sip_hash, word_bytes}
use Rattle.state.specs.declared.state.State.{State}
use Rattle.state.specs.States.{words}
use Rattle.seal.specs.declared.tag.TagScheme.{TagScheme}
use Rattle.seal.specs.Seals.{Seals}

-- the most seals that a tag scheme can be set up for
abbrev pub max_limit : ℕ
max_limit = 1000000

-- the tag of a state: SipHash-2-4 of its words, each least byte first
abbrev pub tag_of : ℕ → ℕ → State → ℕ
tag_of k0 k1 state = sip_hash k0 k1 (word_bytes (words state))

-- what a tag scheme means under this key with so many seals left
abbrev pub tag_seals : ℕ → ℕ → ℕ → Seals
tag_seals k0 k1 left = record { good = λ state seal. (seal == tag_of k0 k1 state); left = left }

abbrev pub tag_meaning : TagScheme → Seals
tag_meaning s = tag_seals s.key.k0 s.key.k1 s.left

-- a tag scheme gives the one seal that is good with the state, and no pair becomes good or bad
abbrev pub TagGives : Seals → State → ℕ → Seals → Type 0
TagGives before state seal after = ((k : ℕ) → after.good state k ≡ true → k ≡ seal) × (after.good ≡ before.good)

-- the checks of a set-up: the limit is 1 to 1,000,000
abbrev pub set_up_checks : ℕ → List (Bool × ℕ)
set_up_checks limit = (nat_lt limit 1, 20) ∷ (nat_lt max_limit limit, 20) ∷ []
