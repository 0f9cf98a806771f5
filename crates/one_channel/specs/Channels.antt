use Rattle.std.specs.Prelude.{[], ◌∷◌}
use Rattle.ledger.specs.Model.{Model}
use Rattle.ledger.specs.Roots.{rooted}
use Rattle.one_channel.specs.declared.channel.OneChannel.{OneChannel}

-- one root
abbrev pub model_of : OneChannel → Model
model_of c = rooted c.height.blocks (c.root ∷ [])
