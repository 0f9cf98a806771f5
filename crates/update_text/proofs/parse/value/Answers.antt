use Rattle.std.proofs.Common.{◌<◌, rules}
use Rattle.update_text.proofs.Decimals.{no_line, no_number, found}
use Rattle.update_text.proofs.parse.value.Goals as goal

pub returns-in_err-end : goal.returns-in_err-end
returns-in_err-end c = rw c.from_residual.ensures (no_line c.args.src.now c.in_err-end.ensures)

pub returns-in_err-value : goal.returns-in_err-value
returns-in_err-value c = rw c.from_residual-in_err-value.ensures (no_number c.args.src.now c.in_ok-end.end c.in_ok-end.ensures c.in_err-value.ensures)

pub returns : goal.returns
returns c = let f : c.in_ok-value.value < 18446744073709551616 = search rules in (f, found c.args.src.now c.in_ok-value.value c.in_ok-end.end c.in_ok-end.ensures c.in_ok-value.ensures)
