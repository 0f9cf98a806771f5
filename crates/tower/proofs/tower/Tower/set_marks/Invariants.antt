use Rattle.std.proofs.Common.{◌≡◌}
use Rattle.eltoo.specs.Lineage.{lineage}
use Rattle.eltoo.specs.Stations.{mark_each}
use Rattle.tower.specs.Towers.{newest_of, marks_of}
use Rattle.tower.proofs.Walking.{onward, steps_left}
use Rattle.tower.proofs.tower.Tower.set_marks.Given as goal

abbrev pub invariant-loop-next : goal.invariant-loop-next
invariant-loop-next g l =
    let m = g.B.Ledger.model l.host in
    (mark_each (onward m l.next) (marks_of l.self) ≡ mark_each (lineage m l.place) (marks_of l.fn.self)) × (newest_of l.self ≡ newest_of l.fn.self)

abbrev pub decreases-loop-next : goal.decreases-loop-next
decreases-loop-next g l = steps_left l.next
