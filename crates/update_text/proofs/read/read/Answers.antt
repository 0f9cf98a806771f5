use Rattle.update_text.proofs.Reading.{read_bad, read_refused, read_made}
use Rattle.update_text.proofs.read.read.Goals as goal

pub returns-in_err-place-clause-answer : goal.returns-in_err-place-clause-answer
returns-in_err-place-clause-answer c = read_bad c.args.src.now _ c.from_residual.result c.from_residual.ensures.1 c.in_err-place.ensures

pub returns-in_err-state-clause-answer : goal.returns-in_err-state-clause-answer
returns-in_err-state-clause-answer c = read_refused c.args.src.now c.in_ok-place.field-0 _ c.from_residual-in_err-state.result c.from_residual-in_err-state.ensures.1 c.in_ok-place.ensures c.in_err-state.ensures

pub returns-clause-answer : goal.returns-clause-answer
returns-clause-answer c = read_made c.args.src.now c.in_ok-place.field-0 c.in_ok-state.state c.in_ok-place.ensures c.in_ok-state.ensures
