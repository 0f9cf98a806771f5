use Rattle.std.proofs.Common.{rules}
use Rattle.factory.proofs.Calling.{settle_below}
use Rattle.factory.proofs.host.FactoryHost.settle.Goals as goal

pub returns-in_default : goal.returns-in_default
returns-in_default g c = search (rules, settle_below, g.met.B.Ledger.laid)
