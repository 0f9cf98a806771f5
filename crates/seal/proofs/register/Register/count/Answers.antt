use Rattle.seal.proofs.Filling.{holds_exact}
use Rattle.seal.proofs.register.Register.count.Goals as goal

pub returns-clause-exact : goal.returns-clause-exact
returns-clause-exact c = holds_exact _
