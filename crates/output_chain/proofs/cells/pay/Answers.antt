use Rattle.std.proofs.Common.{None, sum_by, ap, arith}
use Rattle.std.proofs.lemmas.List.Sums.{sum_by-set}
use Rattle.output_chain.specs.Coins.{in_cell}
use Rattle.output_chain.proofs.cells.pay.Goals as goal

pub returns : goal.returns
returns c f =
    let made = c.make_all.ensures f in
    let paid = ap (sum_by f) c.payouts.ensures in
    let spent = sum_by-set (in_cell f) c.args.pool.now c.args.spent.cell None None c.requires.there in
    omega (arith, made, paid, spent)
