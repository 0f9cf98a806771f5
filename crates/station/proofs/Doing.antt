-- What a host did, as a call of a station.
use Rattle.std.proofs.Common.{Bool, ℕ, List, Ok, Err, Result, sym, ap}
use Rattle.state.specs.declared.refusal.Refusal.{Refusal}
use Rattle.ledger.specs.Model.{Model}
use Rattle.ledger.specs.Steps.{Does}
use Rattle.eltoo.specs.declared.answer.Outcome.TheVariants.{Done}
use Rattle.eltoo.specs.Stations.{StationModel, with_ledger}
use Rattle.eltoo.specs.Steps.{Decided}
use Rattle.station.specs.Meaning.{answered}

pub decided : (r : Result (Unit {0}) Refusal) (s : StationModel) (m : Model) (checks : List (Bool × ℕ)) (next : Model) → Does r s.ledger m checks next → Decided (answered (λ _. Done) r) s (with_ledger s m) checks (with_ledger s next)
decided (Ok x) s m checks next d = (sym d.answers, ap (with_ledger s) d.leaves)
decided (Err e) s m checks next d = (d.answers, ap (with_ledger s) d.leaves)
