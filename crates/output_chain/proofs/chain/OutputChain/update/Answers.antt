use Rattle.output_chain.proofs.Posts.{updated, post_does}
use Rattle.output_chain.proofs.chain.OutputChain.update.Goals as goal

pub invariant_of-self : goal.invariant_of-self
invariant_of-self c =
    let n = updated c.args.self.now c.args.spent c.args.state.now c.args.since c.requires.place c.requires.spent c.requires.total c.requires.since in
    let k = n.kept in
    record { eight = k.eight; room = k.room; pooled = n.pooled; backed = k.backed }

pub returns : goal.returns
returns c =
    let s = c.args.self.now in
    let u = c.args.spent in
    let x = c.args.state.now in
    let r = c.requires in
    post_does s _ u x c.args.since r.place r.spent r.total r.newer r.since (updated s u x c.args.since r.place r.spent r.total r.since).model
