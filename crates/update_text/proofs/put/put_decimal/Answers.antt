use Rattle.std.proofs.Common.{◌≡◌, ◌+◌, ◌-◌, ◌%◌, ◌^◌, ◌<◌, ◌++◌, length, drop, decimal, sym, ap, ◌∙◌, arith, length-set, append-nil, rules}
use Rattle.std.proofs.lemmas.List.{drop_all}
use Rattle.std.proofs.lemmas.Fmt.{decimal_nonempty}
use Rattle.update_text.proofs.Placing.{one_digit, put_digit, put_last}
use Rattle.update_text.proofs.put.put_decimal.Goals as goal

pub loop-place-init : goal.loop-place-init
loop-place-init c =
    let out = c.args.out.now in
    let f : c.args.n < 2 ^ 64 = search rules in
    let some = decimal_nonempty c.args.n f in
    let none = ap (λ xs. decimal c.args.n ++ xs) (drop_all (length out) out (omega arith)) ∙ append-nil (decimal c.args.n) in
    (omega arith, omega (arith, some, c.requires), c.requires, sym c.requires, none)

pub loop-place-preserved : goal.loop-place-preserved
loop-place-preserved c =
    let l = c.loop-place in
    let v = l.invariant in
    let f : c.args.n < 2 ^ 64 = search rules in
    let more = c.loop-place-test.true in
    let p = put_digit c.args.n l.rest l.place (l.place - 1) l.out (omega (arith, v.0)) (omega arith) (search rules) v.3 v.4 in
    let s : 0 < l.place - 1 = omega arith in
    (omega (arith, v.0), s, length-set l.out (l.place - 1) (48 + l.rest % 10) ∙ v.2, p.1 s, p.2 s)

pub overflow_cast-out-2 : goal.overflow_cast-out-2
overflow_cast-out-2 c =
    let v = c.loop-place.invariant in
    let f : c.args.n < 2 ^ 64 = search rules in
    let d = one_digit c.loop-place.rest (omega (arith, v.0)) (omega (arith, v.1, v.3, c.loop-place-test.false)) in
    omega arith

pub overflow_add-out-2 : goal.overflow_add-out-2
overflow_add-out-2 c =
    let v = c.loop-place.invariant in
    let f : c.args.n < 2 ^ 64 = search rules in
    let d = one_digit c.loop-place.rest (omega (arith, v.0)) (omega (arith, v.1, v.3, c.loop-place-test.false)) in
    omega arith

pub returns : goal.returns
returns c =
    let l = c.loop-place in
    let v = l.invariant in
    let f : c.args.n < 2 ^ 64 = search rules in
    let one : l.place ≡ 1 = omega (arith, v.1, c.loop-place-test.false) in
    let d = one_digit l.rest (omega (arith, v.0)) (v.3 ∙ one) in
    put_last c.args.n l.rest l.out d (omega (arith, v.1, l.auto.out, l.auto.place)) (ap (λ k. decimal l.rest ++ drop k l.out) (sym one) ∙ v.4)
