use Rattle.std.proofs.Common.{ap, sym, ◌∙◌}
use Rattle.eltoo.specs.Stations.{mark_each}
use Rattle.tower.specs.Towers.{marks_of}
use Rattle.tower.proofs.Walking.{onward, mark_on}
use Rattle.tower.proofs.tower.Tower.set_marks.Goals as goal

pub loop-next-preserved : goal.loop-next-preserved
loop-next-preserved g c =
    let h = c.args.host.now in
    let m = g.B.Ledger.model h in
    let l = c.loop-next in (
      mark_on m (g.met.B.Ledger.laid h) c.in-Some.at c.parent_of-next.result (marks_of l.self) (marks_of c.set_mark.new.self) c.parent_of-next.ensures c.set_mark.ensures.marks
          ∙ ap (λ o. mark_each (onward m o) (marks_of l.self)) (sym c.in-Some.is)
          ∙ l.invariant.0,
      c.set_mark.ensures.newest ∙ l.invariant.1,
    )
