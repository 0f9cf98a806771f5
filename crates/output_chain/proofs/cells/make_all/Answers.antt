use Rattle.std.proofs.Common.{map, take, length, get_or, ◌≡◌, ap, ◌∙◌, sym, arith}
use Rattle.std.proofs.lemmas.List.{get_or-map, length-map, length-take}
use Rattle.std.proofs.lemmas.List.Sums.{sum_by_more}
use Rattle.output_chain.specs.Coins.{coin_of, each}
use Rattle.output_chain.proofs.Tallies.{each_one}
use Rattle.output_chain.proofs.cells.make_all.Goals as goal

pub make-requires : goal.make-requires
make-requires c =
    let xs = map coin_of c.args.outputs.now in
    let i = c.loop-output.output-index in
    let so_far = c.loop-output.invariant each in
    let ones = each_one (take i xs) in
    let long = length-map c.args.outputs.now coin_of in
    let len = length-take i xs in
    omega (arith, so_far, ones, long, len)

pub loop-output-preserved : goal.loop-output-preserved
loop-output-preserved c f =
    let outputs = c.args.outputs.now in
    let xs = map coin_of outputs in
    let i = c.loop-output.output-index in
    let o = c.output-item.result in
    let long : length xs ≡ length outputs = length-map outputs coin_of in
    let so_far = c.loop-output.invariant f in
    let more = sum_by_more f xs i (coin_of o) (omega (arith, long)) in
    let this : f (get_or xs i (coin_of o)) ≡ f (coin_of o) = ap f (get_or-map coin_of outputs i o (coin_of o) (omega arith) ∙ ap coin_of (sym c.output-item.is)) in
    let made = c.make.ensures f in
    omega (arith, so_far, more, this, made)
