use Rattle.std.proofs.Common.{arith}
use Rattle.frozen.proofs.Copying.{none_at}
use Rattle.frozen.proofs.copy.views_of.Goals as goal

pub loop-place-init : goal.loop-place-init
loop-place-init g c = (λ p l. absurd (omega arith), λ p l. none_at 64 p)
