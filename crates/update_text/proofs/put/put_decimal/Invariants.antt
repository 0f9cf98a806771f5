use Rattle.std.proofs.Common.{◌≡◌, ◌<◌, ◌≤◌, ◌++◌, length, drop, decimal}
use Rattle.update_text.proofs.put.put_decimal.Given as goal

abbrev pub invariant-loop-place : goal.invariant-loop-place
invariant-loop-place l = (l.rest ≤ l.n) × (0 < l.place) × (length l.out ≡ length (decimal l.n)) × (length (decimal l.rest) ≡ l.place) × (decimal l.rest ++ drop l.place l.out ≡ decimal l.n)
