use Rattle.std.proofs.Common.{sym}
use Rattle.output_chain.proofs.Settles.{room_left, paid_due, paid_out, paid_model}
use Rattle.output_chain.proofs.chain.OutputChain.pay_out.Goals as goal

pub pay-requires-clause-room : goal.pay-requires-clause-room
pay-requires-clause-room c = room_left c.args.self.now c.args.spent c.requires.spent

pub invariant_of-self : goal.invariant_of-self
invariant_of-self c =
    let n = paid_out c.args.self.now c.args.spent c.requires.spent c.args.posted.now c.pay.new.pool c.requires.shows c.pay.auto.pool c.pay.ensures in
    let k = n.kept in
    record { eight = k.eight; room = k.room; pooled = n.pooled; backed = k.backed }

pub returns : goal.returns
returns c =
    let s = c.args.self.now in
    let u = c.args.spent in
    let g = c.args.posted.now in
    record {
      answers = sym (paid_due s u c.requires.spent g c.requires.shows c.requires.due);
      leaves = paid_model s u c.requires.spent g c.pay.new.pool c.requires.shows c.pay.auto.pool c.pay.ensures;
    }
