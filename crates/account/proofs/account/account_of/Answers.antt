use Rattle.std.proofs.Common.{◌^◌, ◌<◌, slice_index, arith, rules}
use Rattle.account.specs.Accounts.{paid_at, standing_at}
use Rattle.account.proofs.Summing.{sum_more}
use Rattle.account.proofs.account.account_of.Goals as goal

pub loop-place-preserved : goal.loop-place-preserved
loop-place-preserved g c =
    let m = g.L.Ledger.model c.args.ledger.now in
    let n = c.loop-place.place in
    let v = c.loop-place.invariant in
    let part = c.part_of in
    let stands : part.result.standing < 2 ^ 64 = search rules in
    record {
      sums = record {
        paid = λ j h. grind (arith, sum_more (paid_at m j) n, c.add.ensures.paid j h, v.sums.paid j h, part.ensures.paid j);
        standing = grind (arith, sum_more (standing_at m) n);
      };
      bounded = record {
        paid = λ j h. let pays : slice_index part.result.paid j < 2 ^ 64 = search rules in omega (arith, c.add.ensures.paid j h, v.bounded.paid j h);
        standing = omega arith;
      };
    }
