use Rattle.std.proofs.Common.{◌≡◌, [], refl, ap, subst}
use Rattle.seal.specs.Registers.{row_seals, register_meaning, RowGives}
use Rattle.seal.specs.Seals.{Seals}
use Rattle.eltoo.specs.Lists.{Performs, WholeRun}
use Rattle.eltoo.specs.Stations.{set_up}
use Rattle.eltoo.proofs.Performing.{whole_fresh}
use Rattle.station.specs.Meaning.{meant}
use Rattle.runs.proofs.performing.run_fresh.Goals as goal

pub returns-clause-steps : goal.returns-clause-steps
returns-clause-steps g c =
    let m = g.B.Ledger.model c.args.host in
    let t = meant g.B.Ledger.model register_meaning c.run.result in
    let empty : register_meaning c.new.result ≡ row_seals [] = ap row_seals c.new.ensures in
    subst (λ (a : Seals). Performs RowGives (set_up m a) c.run.new.turns t) empty c.run.ensures.steps

pub returns-clause-whole : goal.returns-clause-whole
returns-clause-whole g c =
    let m = g.B.Ledger.model c.args.host in
    let t = meant g.B.Ledger.model register_meaning c.run.result in
    let ts = c.run.new.turns in
    let empty : register_meaning c.new.result ≡ row_seals [] = ap row_seals c.new.ensures in
    whole_fresh (set_up m (row_seals [])) t ts (λ x k. refl) (subst (λ (a : Seals). WholeRun RowGives (set_up m a) ts t) empty c.run.ensures.whole)
