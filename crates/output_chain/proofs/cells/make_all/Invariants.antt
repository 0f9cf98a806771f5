use Rattle.std.proofs.Common.{◌≡◌, ℕ, ◌+◌, map, take, sum_by}
use Rattle.output_chain.specs.Coins.{Coin, coin_of, tally}
use Rattle.output_chain.proofs.cells.make_all.Given as goal

abbrev pub invariant-loop-output : goal.invariant-loop-output
invariant-loop-output l = (f : Coin → ℕ) → tally l.pool f ≡ tally l.initial.pool f + sum_by f (take l.output-index (map coin_of l.outputs))
