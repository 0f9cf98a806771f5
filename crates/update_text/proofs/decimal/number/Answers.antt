use Rattle.std.proofs.Common.{◌-◌, get_or, refl, arith, rules, tests}
use Rattle.update_text.proofs.Decimals.{no_digits, no_digit, too_large, all_read, zero_none}
use Rattle.update_text.proofs.decimal.number.Goals as goal

pub returns-then-is_empty : goal.returns-then-is_empty
returns-then-is_empty c = no_digits c.args.digits.now (search rules)

pub returns-then-leading_zero : goal.returns-then-leading_zero
returns-then-leading_zero c = let z = c.leading_zero.ensures in λ v f e. grind (arith, zero_none)

pub returns-then-not-is_ascii_digit : goal.returns-then-not-is_ascii_digit
returns-then-not-is_ascii_digit c = no_digit c.args.digits.now c.loop-byte.byte-index c.loop-byte-test.true (λ r. search (rules, tests))

pub returns-in_err-checked_mul : goal.returns-in_err-checked_mul
returns-in_err-checked_mul c =
    let ds = c.args.digits.now in
    let i = c.loop-byte.byte-index in
    let v = c.loop-byte.value in
    let l = c.loop-byte-test.true in
    let over = c.in_err-checked_mul.ensures in
    rw c.from_residual.ensures (too_large ds i v (get_or ds i 0 - 48) l refl c.loop-byte.invariant.0 (omega (arith, over)))

pub returns-in_err-value : goal.returns-in_err-value
returns-in_err-value c =
    let ds = c.args.digits.now in
    let i = c.loop-byte.byte-index in
    let v = c.loop-byte.value in
    let l = c.loop-byte-test.true in
    let over = c.in_err-value.ensures in
    rw c.from_residual-in_err-value.ensures (too_large ds i v c.from-digit.result l (search rules) c.loop-byte.invariant.0 (search rules))

pub returns : goal.returns
returns c =
    all_read c.args.digits.now c.loop-byte.byte-index c.loop-byte.value (search rules) (search rules) (search rules) c.loop-byte.invariant.0 c.loop-byte.invariant.1 c.loop-byte.invariant.2
