use Rattle.std.specs.Prelude.{Bool, List, map, Option}
use Rattle.state.specs.declared.update.Update.{Update}
use Rattle.tower.specs.declared.tower.Tower.{Tower}
use Rattle.tower.specs.declared.tower.Watch.{Watch}

-- What a tower keeps, by place.

abbrev pub newest_of : Tower → List (Option Update)
newest_of t = map {B = Option Update} (λ (w : Watch). w.newest) t.watches

abbrev pub marks_of : Tower → List Bool
marks_of t = map {B = Bool} (λ (w : Watch). w.marked) t.watches
