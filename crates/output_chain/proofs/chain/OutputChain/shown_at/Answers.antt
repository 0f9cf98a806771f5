use Rattle.output_chain.specs.Laws.{view_shows}
use Rattle.output_chain.proofs.chain.OutputChain.shown_at.Goals as goal

pub returns : goal.returns
returns c =
    let s = c.standing-standing.result in
    view_shows c.args.self.now c.args.root.place c.args.root.few c.index-self-root.result s.0 s.1 c.standing-standing.ensures
