use Rattle.std.proofs.Common.{rules}
use Rattle.factory.proofs.Calling.{post_below}
use Rattle.factory.proofs.host.FactoryHost.post.Goals as goal

pub returns-in_default : goal.returns-in_default
returns-in_default g c = search (rules, post_below, g.met.B.Ledger.laid)
