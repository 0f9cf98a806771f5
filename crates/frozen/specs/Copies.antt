use Rattle.ledger.specs.Model.{Model}
use Rattle.frozen.specs.declared.snapshot.Frozen.{Frozen}
use Rattle.frozen.specs.Holding.{held_model}

-- what a frozen copy means: the places of its views
abbrev pub model_of : Frozen → Model
model_of f = held_model f.height.blocks f.views
