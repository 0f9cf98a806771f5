use Rattle.std.proofs.Common.{◌++◌, ◌<◌, refl, ap, ◌∙◌, arith, length-set, rules}
use Rattle.std.proofs.lemmas.Result.{err_from_is_err_and}
use Rattle.std.proofs.lemmas.List.{take_all}
use Rattle.update_text.specs.Line.{keys, lines}
use Rattle.update_text.proofs.Runs.{key_now, line_more, line_bad, more_bytes, all_lines, ok_or_none, fit_zeros}
use Rattle.update_text.proofs.parse.line_values.Goals as goal

pub loop-i-init : goal.loop-i-init
unfolding keys
loop-i-init c = (refl, fit_zeros 11, refl)

pub returns-in_err-value : goal.returns-in_err-value
unfolding keys
returns-in_err-value c =
    let p = err_from_is_err_and c.from_residual.result c.from_residual.ensures.1 in
    let v = c.loop-i.invariant in
    let i = c.loop-i.i in
    let l : i < 11 = search rules in
    let none = rw (c.in_err-value.ensures.ok_part, key_now) at c.line.ensures in
    rw (p.1, p.2, ok_or_none c.line.result _ _ c.in_err-value.ensures.value c.in_err-value.ensures.ok_part) (line_bad c.args.src.now c.loop-i.values c.loop-i.rest.now i v.0 (search rules) v.1 v.2 none)

pub loop-i-preserved : goal.loop-i-preserved
unfolding keys
loop-i-preserved c =
    let i = c.loop-i.i in
    let v = c.loop-i.invariant in
    let l : i < 11 = search rules in
    let good = rw (c.in_ok-value.ensures.ok_part, key_now) at c.line.ensures in
    let n = length-set c.loop-i.values i c.in_ok-value.value in
    let m = line_more c.args.src.now c.loop-i.values c.loop-i.rest.now c.in_ok-value.after.now i c.in_ok-value.value v.0 (search rules) v.1 v.2 good in
    (omega arith, m.0, m.1)

pub returns-then-not-is_empty : goal.returns-then-not-is_empty
unfolding keys
returns-then-not-is_empty c =
    let v = c.loop-i.invariant in
    let e = v.2 ∙ ap (λ vs. lines keys vs ++ c.loop-i.rest.now) (take_all c.loop-i.i c.loop-i.values (search rules)) in
    more_bytes c.args.src.now c.loop-i.values c.loop-i.rest.now v.0 v.1 e (search rules)

pub returns : goal.returns
unfolding keys
returns c =
    let v = c.loop-i.invariant in
    let e = v.2 ∙ ap (λ vs. lines keys vs ++ c.loop-i.rest.now) (take_all c.loop-i.i c.loop-i.values (search rules)) in
    (v.0, v.1, all_lines c.args.src.now c.loop-i.values c.loop-i.rest.now e (search rules))
