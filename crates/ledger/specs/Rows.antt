use Rattle.std.specs.Prelude.{ℕ, ◌-◌, Bool, List, Result}
use Rattle.ledger.specs.declared.phase.Phase.{Phase}
use Rattle.ledger.specs.declared.phase.Phase.TheVariants.{Open, Posted, Settled}
use Rattle.ledger.specs.declared.phase.Call.{Call}
use Rattle.ledger.specs.declared.phase.Call.TheVariants.{Post, Settle}
use Rattle.ledger.specs.declared.row.Row.{Row}
use Rattle.state.specs.declared.refusal.Refusal.{Refusal}
use Rattle.ledger.specs.Model.{Model, Stage, fresh, holds, done, place_at}
use Rattle.ledger.specs.Steps.{Does, place_checks, with_stage, post_stage_checks, settle_stage_checks, posted_stage, settled_stage}

-- what a row holds
abbrev pub stage_by : Phase → ℕ → List ℕ → Stage
stage_by Open delay a = fresh
stage_by (Posted n t) delay a = holds n.value (t.blocks - delay) a
stage_by (Settled n) delay a = done n.value a

abbrev pub stage_of : Row → Stage
stage_of r = stage_by r.phase r.delay.blocks r.amounts

-- the step of a call at what a row holds
abbrev pub call_checks : Call → Stage → ℕ → ℕ → List (Bool × ℕ)
call_checks (Post x value) s delay height = post_stage_checks value s x
call_checks Settle s delay height = settle_stage_checks s delay height

abbrev pub call_next : Call → Stage → ℕ → Stage
call_next (Post x value) s height = posted_stage x height
call_next Settle s height = settled_stage s

-- a call at a place does its step
abbrev pub DoesAt : {A : Type 0} → Result A Refusal → Model → Model → ℕ → Call → Type 0
DoesAt r before after p call =
    Does r before after
    (place_checks before p (call_checks call (place_at before p).stage (place_at before p).delay before.height))
    (with_stage before p (call_next call (place_at before p).stage before.height))
