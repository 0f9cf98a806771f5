use Rattle.std.proofs.Common.{◌≡◌, ℕ, ◌+◌, ◌^◌, ◌<◌, ◌≤◌, List, Bor, length, map, ap, arith, rules}
use Rattle.std.proofs.lemmas.List.{length_push, length-drop, take_rest}
use Rattle.std.specs.Slice.Iter.{iter_rest}
use Rattle.std.specs.Iterator.Adapters.{zip_first, zip_second}
use Rattle.update_text.specs.Line.{keys}
use Rattle.update_text.proofs.Writing.{this_line, place_line, place_none}
use Rattle.update_text.proofs.put.put_lines.Goals as goal

pub loop-key-init : goal.loop-key-init
loop-key-init c = place_none c.args.buf.now c.args.pos

pub put_line-at-requires : goal.put_line-at-requires
unfolding keys
put_line-at-requires c =
    let s = c.into_iter-key-iterator.result in
    let x : Bor (Bor (List ℕ)) × Bor ℕ = (c.in-Some.key, c.in-Some.value) in
    let ks : map (λ k. k.now) (iter_rest (zip_first s)) ≡ keys = rw (c.into_iter-key-iterator.ensures.into_iter_gives, c.zip-key-items.ensures.first, c.iter.ensures.rest) in
    let vs : iter_rest (zip_second s) ≡ c.args.values.now = rw c.into_iter-key-iterator.ensures.into_iter_gives c.zip-key-items.ensures.second.0 in
    let n = this_line c.args.values.now c.loop-key.yielded s c.loop-key.key-iterator c.next.new.self c.next.result x ks vs c.loop-key.yielded_by c.in-Some.is c.next.ensures.steps in
    let v = c.loop-key.invariant in
    let t = ap length (take_rest c.loop-key.buf c.loop-key.at) in
    let d = length-drop c.loop-key.at c.loop-key.buf in
    omega arith

pub overflow_add-at : goal.overflow_add-at
unfolding keys
overflow_add-at c =
    let s = c.into_iter-key-iterator.result in
    let x : Bor (Bor (List ℕ)) × Bor ℕ = (c.in-Some.key, c.in-Some.value) in
    let ks : map (λ k. k.now) (iter_rest (zip_first s)) ≡ keys = rw (c.into_iter-key-iterator.ensures.into_iter_gives, c.zip-key-items.ensures.first, c.iter.ensures.rest) in
    let vs : iter_rest (zip_second s) ≡ c.args.values.now = rw c.into_iter-key-iterator.ensures.into_iter_gives c.zip-key-items.ensures.second.0 in
    let n = this_line c.args.values.now c.loop-key.yielded s c.loop-key.key-iterator c.next.new.self c.next.result x ks vs c.loop-key.yielded_by c.in-Some.is c.next.ensures.steps in
    let f : length c.args.buf.now < 2 ^ 64 = search rules in
    let h : c.loop-key.at + c.put_line-at.result < 2 ^ 64 = omega (arith, c.loop-key.invariant.0, c.put_line-at.ensures.len) in
    search rules

pub loop-key-preserved : goal.loop-key-preserved
unfolding keys
loop-key-preserved c =
    let s = c.into_iter-key-iterator.result in
    let x : Bor (Bor (List ℕ)) × Bor ℕ = (c.in-Some.key, c.in-Some.value) in
    let ks : map (λ k. k.now) (iter_rest (zip_first s)) ≡ keys = rw (c.into_iter-key-iterator.ensures.into_iter_gives, c.zip-key-items.ensures.first, c.iter.ensures.rest) in
    let vs : iter_rest (zip_second s) ≡ c.args.values.now = rw c.into_iter-key-iterator.ensures.into_iter_gives c.zip-key-items.ensures.second.0 in
    let n = this_line c.args.values.now c.loop-key.yielded s c.loop-key.key-iterator c.next.new.self c.next.result x ks vs c.loop-key.yielded_by c.in-Some.is c.next.ensures.steps in
    let v = c.loop-key.invariant in
    let w = c.put_line-at.ensures.len in
    let inside : c.args.pos ≤ length c.args.buf.now = omega arith in
    let i = length c.loop-key.yielded in
    rw (length_push c.loop-key.yielded x) (
      omega arith,
      place_line c.args.buf.now c.loop-key.buf c.put_line-at.new.out c.args.values.now c.in-Some.key.now.now c.in-Some.value.now c.args.pos c.loop-key.at i c.put_line-at.result n inside v.0 w v.1 c.put_line-at.ensures.after,
    )
