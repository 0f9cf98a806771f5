use Rattle.std.proofs.Common.{rules}
use Rattle.factory.proofs.Calling.{child_does}
use Rattle.factory.proofs.factory.Factory.step_at.Goals as goal

pub returns : goal.returns
returns g c =
    let s = c.args.self.now in
    child_does s.children c.unwrap.result.now c.step.result (g.B.Ledger.model s.below) c.args.place c.args.parent c.args.call c.index-rows-parent.result c.step.new.self _ (search rules) c.requires.child c.requires.valued c.step.ensures.delay c.height-height.ensures c.step.ensures.step
