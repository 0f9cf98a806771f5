use Rattle.std.specs.Prelude.{ℕ, List, map, None}
use Rattle.ledger.specs.declared.root.Root.{Root}
use Rattle.ledger.specs.Model.{Model, Place}
use Rattle.ledger.specs.Rows.{stage_of}

-- what a root means
abbrev pub root : Root → Place
root r = record { parent = None; delay = r.row.delay.blocks; funding = r.funding; stage = stage_of r.row }

-- a ledger of roots alone
abbrev pub rooted : ℕ → List Root → Model
rooted height roots = record { height = height; places = map root roots }
