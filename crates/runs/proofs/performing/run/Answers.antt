use Rattle.std.proofs.Common.{subst}
use Rattle.eltoo.specs.Lists.{Performs, WholeRun}
use Rattle.eltoo.specs.Stations.{StationModel}
use Rattle.eltoo.proofs.Performing.{whole_run}
use Rattle.station.specs.Meaning.{meant}
use Rattle.runs.proofs.performing.run.Goals as goal

pub returns-clause-steps : goal.returns-clause-steps
returns-clause-steps g c =
    let own = g.S.Scheme.gives in
    let t = meant g.B.Ledger.model g.S.Scheme.seals c.perform.new.station in
    subst (λ (y : StationModel). Performs own y c.perform.new.turns t) c.set_up-station.ensures.means c.perform.ensures.performed.steps

pub returns-clause-whole : goal.returns-clause-whole
returns-clause-whole g c =
    let own = g.S.Scheme.gives in
    let s = meant g.B.Ledger.model g.S.Scheme.seals c.set_up-station.result in
    let t = meant g.B.Ledger.model g.S.Scheme.seals c.perform.new.station in
    let ts = c.perform.new.turns in
    let start = c.set_up-station.ensures in
    subst (λ (y : StationModel). WholeRun own y ts t) start.means (whole_run own s t ts start.starts c.perform.ensures.performed)
