use Rattle.std.proofs.Common.{◌≡◌, ◌≤◌, take, sum}
use Rattle.state.proofs.total.sum_within.Given as goal

abbrev pub invariant-loop-amount : goal.invariant-loop-amount
invariant-loop-amount l = (l.total ≡ sum (take l.amount-index l.amounts)) × (l.total ≤ l.limit)
