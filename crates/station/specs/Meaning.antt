use Rattle.std.specs.Prelude.{ℕ, Bool, not, List, [], ◌∷◌, length, Result, nat_lt}
use Rattle.std.specs.Result.{result_map_both}
use Rattle.state.specs.declared.refusal.Refusal.{Refusal}
use Rattle.ledger.specs.Model.{Model}
use Rattle.seal.specs.Seals.{Seals}
use Rattle.eltoo.specs.declared.answer.Outcome.{Outcome}
use Rattle.eltoo.specs.declared.call.Call.{Call}
use Rattle.eltoo.specs.Safety.{GoesOn}
use Rattle.eltoo.specs.Stations.{StationModel, means}
use Rattle.eltoo.specs.Steps.{Answer, Own, Step}
use Rattle.tower.specs.Towers.{newest_of, marks_of}
use Rattle.station.specs.declared.station.Station.{Station}

-- what a station means, by what its host and its scheme mean
abbrev pub meant : {B S : Type 0} → (B → Model) → (S → Seals) → Station B S → StationModel
meant model seals s = means (model s.host) (seals s.scheme) (newest_of s.tower) (marks_of s.tower)

-- a call, with its answer and the stations before and after it: it does its step, and goes on with every run that led to it
pub record Makes {B S : Type 0} (model : B → Model) (seals : S → Seals) (own : Own) (s : Station B S) (c : Call) (a : Answer) (t : Station B S) : Type 0 where
  pub step : Step own (meant model seals s) c a (meant model seals t)
  pub goes : GoesOn own (meant model seals s) c a (meant model seals t)

-- what a call answers, where an accepted one gives an x
abbrev pub answered : {A : Type 0} → (A → Outcome) → Result A Refusal → Answer
answered outcome r = result_map_both outcome (λ e. e) r

-- the one check of a look at a place
abbrev pub look_checks : Model → ℕ → List (Bool × ℕ)
look_checks m p = (not (nat_lt p (length m.places)), 1) ∷ []
