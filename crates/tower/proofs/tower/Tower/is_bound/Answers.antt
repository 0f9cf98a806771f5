use Rattle.std.proofs.Common.{length, arith, rules, tests}
use Rattle.std.proofs.lemmas.Iterator.{YieldsList-from_range}
use Rattle.std.proofs.lemmas.Iterator.Search.{any_from_yields_List}
use Rattle.eltoo.specs.Stations.{binds}
use Rattle.tower.specs.Towers.{newest_of}
use Rattle.tower.proofs.tower.Tower.is_bound.Goals as goal

pub returns : goal.returns
returns g c =
    let m = g.B.Ledger.model c.args.host.now in
    let places = length m.places in
    any_from_yields_List (binds m (newest_of c.args.self.now) c.args.state.now) _ _ _ c.any.ensures.ran (YieldsList-from_range 0 places places (cc) (omega arith)) (λ x b q k. search (rules, tests))
