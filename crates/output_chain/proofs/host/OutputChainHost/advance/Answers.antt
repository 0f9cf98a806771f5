use Rattle.std.proofs.Common.{arith}
use Rattle.output_chain.specs.Steps.{kept, kept_later}
use Rattle.output_chain.proofs.host.OutputChainHost.advance.Goals as goal

pub invariant_of-self-clause-backed : goal.invariant_of-self-clause-backed
invariant_of-self-clause-backed c =
    let s = c.args.self.now in
    let next = c.in_ok-self.field-0 in
    (kept_later s.height.blocks next.blocks s.roots s.pool (omega (arith, c.in_ok-self.ensures.value)) (kept s)).backed
