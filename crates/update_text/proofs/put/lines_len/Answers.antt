use Rattle.std.proofs.Common.{◌≡◌, ℕ, List, Bor, length, map, refl, ap, arith}
use Rattle.std.proofs.lemmas.List.{length_push}
use Rattle.std.specs.Slice.Iter.{iter_rest}
use Rattle.std.specs.Iterator.Adapters.{zip_first, zip_second}
use Rattle.update_text.specs.Line.{keys}
use Rattle.update_text.proofs.Writing.{this_line, key_short}
use Rattle.update_text.proofs.put.lines_len.Goals as goal

pub loop-key-init : goal.loop-key-init
unfolding keys
loop-key-init c = (refl, omega arith)

pub loop-key-preserved : goal.loop-key-preserved
unfolding keys
loop-key-preserved c =
    let s = c.into_iter-key-iterator.result in
    let x : Bor (Bor (List ℕ)) × Bor ℕ = (c.in-Some.key, c.in-Some.value) in
    let ks : map (λ k. k.now) (iter_rest (zip_first s)) ≡ keys = rw (c.into_iter-key-iterator.ensures.into_iter_gives, c.zip-key-items.ensures.first, c.iter.ensures.rest) in
    let vs : iter_rest (zip_second s) ≡ c.args.values.now = rw c.into_iter-key-iterator.ensures.into_iter_gives c.zip-key-items.ensures.second.0 in
    let n = this_line c.args.values.now c.loop-key.yielded s c.loop-key.key-iterator c.next.new.self c.next.result x ks vs c.loop-key.yielded_by c.in-Some.is c.next.ensures.steps in
    let k = key_short (length c.loop-key.yielded) in
    let kl = ap length n.is in
    let p = length_push c.loop-key.yielded x in
    let h = c.digit_count.ensures in
    rw p (omega arith, omega arith)
