use Rattle.std.proofs.Common.{rules}
use Rattle.ledger.specs.declared.setup.Terms.{Terms}
use Rattle.ledger.specs.Roots.{root}
use Rattle.ledger.specs.SetUps.{open_root}
use Rattle.ledger.proofs.Mapping.{map_is}
use Rattle.ledger.proofs.Starting.{roots_start}
use Rattle.adjudicator.proofs.opening.opened.Goals as goal

pub returns : goal.returns
returns c =
    let opened = map_is _ (λ (t : Terms). open_root t.funding t.delay.blocks) root (λ p x y q h. search rules) (search rules) c.map.ensures.items in
    record {
      start = λ s m. (roots_start s c.args.terms c.map.result (search rules) m.fundings m.delays opened).start;
      lawful = λ s m. (roots_start s c.args.terms c.map.result (search rules) m.fundings m.delays opened).lawful;
      untouched = λ s m. (roots_start s c.args.terms c.map.result (search rules) m.fundings m.delays opened).untouched;
    }
