use Rattle.std.proofs.Common.{rules}
use Rattle.tower.proofs.Touring.{midway_next}
use Rattle.tower.proofs.tower.Tower.round.Goals as goal

pub loop-place-preserved : goal.loop-place-preserved
loop-place-preserved g c = search (rules, midway_next)
