use Rattle.std.specs.Prelude.{◌≡◌, ℕ, ◌+◌, ◌<◌, false, List, [], ◌∷◌, length, Some, None, nat_lt, slice_index_or}
use Rattle.state.specs.declared.refusal.Refusal.{Refusal}
use Rattle.state.specs.declared.state.State.{State}
use Rattle.state.specs.Refusals.{refused, told, first}
use Rattle.ledger.specs.declared.view.Standing.{Standing}
use Rattle.ledger.specs.Model.{Model, Stage, holds, place_at, seen, status_by, shown_amounts}
use Rattle.ledger.specs.Steps.{is_done, post_stage_checks, post_checks, settle_checks}
use Rattle.output_chain.specs.declared.chain.OutputChain.{OutputChain}
use Rattle.output_chain.specs.declared.output.Output.{Output}
use Rattle.output_chain.specs.declared.output.Unspent.{Unspent}
use Rattle.output_chain.specs.Coins.{coin_of, tally, own, spend, stage_in}
use Rattle.output_chain.specs.Models.{model_by, PoolIs}
use Rattle.output_chain.specs.Pools.{is_held}

abbrev pub model_of : OutputChain → Model
model_of c = model_by c.height.blocks c.roots c.pool

-- the pool holds exactly the outputs that the stages stand for: a funding output for a place that holds no state, an update output for a posted one, and eight payouts for a settled one
abbrev pub Holds : OutputChain → Type 0
Holds c = PoolIs c.pool (model_of c)

-- an output of a root that can be spent stands in this cell
pub record InCell (c : OutputChain) (u : Unspent) : Type 0 where
  pub root : u.output.place < 8
  pub there : u.cell < length c.pool
  pub is : slice_index_or c.pool u.cell None ≡ Some u.output
  pub owned : own u.output.place spend (coin_of u.output) ≡ 1

-- the checks of a call come to those of the output that it spends
pub record ChecksBy (m : Model) (p : ℕ) (o : Output) : Type 0 where
  pub unsettled : is_done (stage_in o.kind) ≡ false
  pub post : (x : State) → x.place ≡ p → first (post_checks m x) ≡ first (post_stage_checks o.value (stage_in o.kind) x)
  pub idle : is_held (stage_in o.kind) ≡ false → first (settle_checks m p) ≡ refused 14
  pub due : (n t : ℕ) (a : List ℕ) → stage_in o.kind ≡ holds n t a → first (settle_checks m p) ≡ first ((nat_lt m.height (t + (place_at m p).delay), 13) ∷ [])

-- a place that has nothing to be spent is settled
pub record NoneLeft (c : OutputChain) (p : ℕ) : Type 0 where
  pub none : tally c.pool (own p spend) ≡ 0
  pub post : (x : State) → x.place ≡ p → first (post_checks (model_of c) x) ≡ refused 5
  pub settle : first (settle_checks (model_of c) p) ≡ refused 5

-- the output of a place that can be spent
pub record Spends (c : OutputChain) (p : ℕ) (u : Unspent) : Type 0 where
  pub place : u.output.place ≡ p
  pub cell : InCell c u
  pub checks : ChecksBy (model_of c) p u.output

-- a call at a place that has nothing to be spent is refused
pub record Refuses (c : OutputChain) (p : ℕ) (e : Refusal) : Type 0 where
  pub post : (x : State) → x.place ≡ p → told e ≡ first (post_checks (model_of c) x)
  pub settle : told e ≡ first (settle_checks (model_of c) p)

-- what is shown of a root at a stage
pub record Stands (shown : Standing × List ℕ) (s : Stage) : Type 0 where
  pub status : seen shown.0 shown.1 ≡ status_by (Some 0) s
  pub amounts : shown.1 ≡ shown_amounts (status_by (Some 0) s)
