use Rattle.std.specs.Prelude.{◌≡◌, ℕ, Bool, true, ◌&&◌, List, map, length, None, sum_by, sum, Option, ◌==◌, nat_le, slice_index}
use Rattle.std.specs.List.{range_with_len, flat_map}
use Rattle.state.specs.Limits.{min_number, max_number, parties}
use Rattle.ledger.specs.declared.setup.Terms.{Terms}
use Rattle.ledger.specs.SetUps.{funding_in, blocks_in}
use Rattle.ledger.specs.Model.{Model, Place, Stage, fresh, holds, done, place_at}
use Rattle.output_chain.specs.declared.output.Output.{Output}
use Rattle.output_chain.specs.Coins.{Coin, outs, tally, stage_of}

-- a stage that shows a state has the place's value for its total
abbrev pub backs : ℕ → Stage → ℕ → Bool
backs v fresh h = true
backs v (holds n t a) h = sum a == v && (length a == parties && (nat_le t h && (nat_le min_number n && nat_le n max_number)))
backs v (done n a) h = sum a == v && (length a == parties && (nat_le min_number n && nat_le n max_number))

abbrev pub fundings_of : List Terms → List ℕ
fundings_of ts = map funding_in ts

abbrev pub delays_of : List Terms → List ℕ
delays_of ts = map blocks_in ts

-- a root of the set-up's figures at the stage that its outputs show
abbrev pub row_by : List ℕ → List ℕ → (ℕ → Stage) → ℕ → Place
row_by ds vs S p = record { parent = None; delay = slice_index ds p; funding = slice_index vs p; stage = S p }

abbrev pub places_by : List ℕ → List ℕ → (ℕ → Stage) → List Place
places_by ds vs S = map (row_by ds vs S) (range_with_len 0 8)

abbrev pub model_by : ℕ → List Terms → List (Option Output) → Model
model_by h ts cells = record { height = h; places = places_by (delays_of ts) (fundings_of ts) (stage_of (tally cells)) }

-- the outputs that the stages of eight places stand for, in one order
abbrev pub outputs_of : Model → List Coin
outputs_of m = flat_map (λ p. outs p (place_at m p).funding (place_at m p).stage) (range_with_len 0 8)

-- the pool holds the outputs that the stages stand for, each as often, and no others: every tally of outputs gives the same
abbrev pub PoolIs : List (Option Output) → Model → Type 0
PoolIs cells m = (f : Coin → ℕ) → tally cells f ≡ sum_by f (outputs_of m)
