use Rattle.std.proofs.Common.{subst}
use Rattle.output_chain.specs.Pools.{Paid}
use Rattle.output_chain.proofs.Views.{must_pay, pays_this}
use Rattle.output_chain.proofs.chain.OutputChain.payment.Goals as goal

pub unwrap-requires : goal.unwrap-requires
unwrap-requires c = must_pay c.args.self.now c.args.root.place c.args.root.few c.requires.settled c.paid.result c.args.index c.requires.index c.paid.ensures

pub returns : goal.returns
returns c =
    let s = c.args.self.now in
    let p = c.args.root.place in
    let h = pays_this s p c.args.root.few c.requires.settled c.args.index c.requires.index c.unwrap.result (subst (λ r. Paid r s.pool p c.args.index) c.unwrap.ensures c.paid.ensures) in
    record { number = h.0; value = h.1 }
