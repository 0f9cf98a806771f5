use Rattle.std.specs.Prelude.{ℕ, zero, suc, if◌then◌else◌, List, [], ◌∷◌, map, Some, None, sum_by, Option, ◌==◌, slice_index}
use Rattle.std.specs.List.{range_with_len}
use Rattle.ledger.specs.Model.{Stage, fresh, holds, done}
use Rattle.output_chain.specs.declared.output.Output.{Output}
use Rattle.output_chain.specs.declared.output.Kind.{Kind}
use Rattle.output_chain.specs.declared.output.Kind.TheVariants.{Funding, Update, Payout}

-- an output, in plain numbers
pub data Coin : Type 0 where
  -- place, value
  funding : ℕ → ℕ → Coin
  -- place, value, number, amounts, since
  update : ℕ → ℕ → ℕ → List ℕ → ℕ → Coin
  -- place, index, number, value
  payout : ℕ → ℕ → ℕ → ℕ → Coin

abbrev pub coin_by : ℕ → ℕ → Kind → Coin
coin_by p v Funding = funding p v
coin_by p v (Update g) = update p v g.number.value g.amounts g.since.blocks
coin_by p v (Payout i n) = payout p i n.value v

abbrev pub coin_of : Output → Coin
coin_of o = coin_by o.place o.value o.kind

-- A tally is the sum over some outputs of a function that gives each output a number. A function that gives 1 to an output and 0 to every other counts that output.

-- the number of the output in a cell: 0 where it is free
abbrev pub in_cell : (Coin → ℕ) → Option Output → ℕ
in_cell f None = 0
in_cell f (Some o) = f (coin_of o)

-- the tally of a pool
abbrev pub tally : List (Option Output) → (Coin → ℕ) → ℕ
tally cells f = sum_by (in_cell f) cells

-- the outputs of a place of value v at a stage
abbrev pub outs : ℕ → ℕ → Stage → List Coin
outs p v fresh = funding p v ∷ []
outs p v (holds n h a) = update p v n a h ∷ []
outs p v (done n a) = map (λ i. payout p i n (slice_index a i)) (range_with_len 0 8)

-- the tally of the outputs of eight places
abbrev pub due : List ℕ → (ℕ → Stage) → (Coin → ℕ) → ℕ
due vs S f = sum_by (λ p. sum_by f (outs p (slice_index vs p) (S p))) (range_with_len 0 8)

abbrev pub owner : Coin → ℕ
owner (funding p v) = p
owner (update p v n a h) = p
owner (payout p i n v) = p

-- the number of an output of one place, and 0 for an output of another
abbrev pub own : ℕ → (Coin → ℕ) → Coin → ℕ
own p g x = if p == owner x then g x else 0

-- one for a funding or update output
abbrev pub spend : Coin → ℕ
spend (funding p v) = 1
spend (update p v n a h) = 1
spend (payout p i n v) = 0

abbrev pub updates : Coin → ℕ
updates (funding p v) = 0
updates (update p v n a h) = 1
updates (payout p i n v) = 0

abbrev pub payouts : Coin → ℕ
payouts (funding p v) = 0
payouts (update p v n a h) = 0
payouts (payout p i n v) = 1

-- the number: that of the update output, or of the payout with index 0
abbrev pub number : Coin → ℕ
number (funding p v) = 0
number (update p v n a h) = n
number (payout p i n v) = if 0 == i then n else 0

abbrev pub since : Coin → ℕ
since (funding p v) = 0
since (update p v n a h) = h
since (payout p i n v) = 0

-- the amount at an index: that of the update output, or the value of that payout
abbrev pub amount : ℕ → Coin → ℕ
amount k (funding p v) = 0
amount k (update p v n a h) = slice_index a k
amount k (payout p i n v) = if k == i then v else 0

abbrev pub each : Coin → ℕ
each x = 1

-- the stage that an output to be spent stands for
abbrev pub stage_in : Kind → Stage
stage_in Funding = fresh
stage_in (Update g) = holds g.number.value g.since.blocks g.amounts
stage_in (Payout i n) = done n.value []

abbrev pub stage_by : ℕ → ℕ → ℕ → ℕ → List ℕ → Stage
stage_by zero zero n h a = fresh
stage_by zero (suc k) n h a = done n a
stage_by (suc u) k n h a = holds n h a

-- the stage of a place, read off the outputs
abbrev pub stage_of : ((Coin → ℕ) → ℕ) → ℕ → Stage
stage_of W p = stage_by (W (own p updates)) (W (own p payouts)) (W (own p number)) (W (own p since)) (map (λ i. W (own p (amount i))) (range_with_len 0 8))

-- one for a payout with this index
abbrev pub payout_at : ℕ → Coin → ℕ
payout_at k (funding p v) = 0
payout_at k (update p v n a h) = 0
payout_at k (payout p i n v) = if k == i then 1 else 0
