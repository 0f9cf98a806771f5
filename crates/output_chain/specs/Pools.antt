use Rattle.std.specs.Prelude.{◌≡◌, ℕ, ◌<◌, Bool, true, false, List, length, Some, None, Option, slice_index_or}
use Rattle.ledger.specs.Model.{Stage, fresh, holds, done}
use Rattle.output_chain.specs.declared.output.Output.{Output}
use Rattle.output_chain.specs.declared.output.Payment.{Payment}
use Rattle.output_chain.specs.declared.output.Posted.{Posted}
use Rattle.output_chain.specs.Coins.{payout, payout_at, own, in_cell, coin_of}

abbrev pub is_held : Stage → Bool
is_held fresh = false
is_held (holds n t a) = true
is_held (done n a) = false

-- what an update output shows, or that it is none
abbrev pub Shows : Option Posted → Stage → Type 0
Shows None s = is_held s ≡ false
Shows (Some g) s = s ≡ holds g.number.value g.since.blocks g.amounts

-- what a payout output of a place and index pays, or that the output is no such one
abbrev pub Pays : Option Payment → Output → ℕ → ℕ → Type 0
Pays None o p k = own p (payout_at k) (coin_of o) ≡ 0
Pays (Some m) o p k = coin_of o ≡ payout p k m.number.value m.value

-- what a cell pays to a party of a place, or that it pays nothing
abbrev pub PaymentOf : Option Payment → Option Output → ℕ → ℕ → Type 0
PaymentOf None c p k = in_cell (own p (payout_at k)) c ≡ 0
PaymentOf (Some m) None p k = ⊥
PaymentOf (Some m) (Some o) p k = Pays (Some m) o p k

abbrev pub Paid : Option Payment → List (Option Output) → ℕ → ℕ → Type 0
Paid None cells p k = (i : ℕ) → i < length cells → PaymentOf None (slice_index_or cells i None) p k
Paid (Some m) cells p k = (i : ℕ) × (i < length cells) × PaymentOf (Some m) (slice_index_or cells i None) p k
