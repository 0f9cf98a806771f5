use Rattle.ledger.specs.Model.{Model}
use Rattle.ledger.specs.Roots.{rooted}
use Rattle.adjudicator.specs.declared.table.Adjudicator.{Adjudicator}

abbrev pub model_of : Adjudicator → Model
model_of t = rooted t.height.blocks t.roots
