use Rattle.tower.specs.Towers.{newest_of, marks_of}
use Rattle.tower.proofs.Touring.{Midway}
use Rattle.tower.proofs.tower.Tower.round.Given as goal

abbrev pub invariant-loop-place : goal.invariant-loop-place
invariant-loop-place g l = Midway (marks_of l.self) (newest_of l.self) (g.B.Ledger.model l.initial.host) l.place (g.B.Ledger.model l.host) l.counts
