use Rattle.std.proofs.Common.{◌≡◌, ℕ, None, slice_index_or, ◌<◌, ◌≤◌}
use Rattle.frozen.specs.Holding.{Holds}
use Rattle.frozen.proofs.copy.views_of.Given as goal

abbrev pub invariant-loop-place : goal.invariant-loop-place
invariant-loop-place g l =
    ((p : ℕ) → p < l.place → Holds (slice_index_or l.view-items p None) (g.L.Ledger.model l.ledger) p)
    × ((p : ℕ) → l.place ≤ p → slice_index_or l.view-items p None ≡ None)
