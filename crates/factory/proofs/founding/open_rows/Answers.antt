use Rattle.std.proofs.Common.{rules}
use Rattle.ledger.specs.SetUps.{blocks_of, figures, open_figures}
use Rattle.ledger.proofs.Mapping.{map_is}
use Rattle.factory.proofs.Making.{open_given}
use Rattle.factory.proofs.founding.open_rows.Goals as goal

pub returns-clause-rows : goal.returns-clause-rows
returns-clause-rows c =
    open_given c.in_ok-delays_of.field-0 c.map.result c.args.delays.now (map_is _ (λ d. open_figures (blocks_of d)) figures (λ p x y q h. search rules) (search rules) c.map.ensures.items) c.in_ok-delays_of.ensures.value
