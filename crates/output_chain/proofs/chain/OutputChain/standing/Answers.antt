use Rattle.std.proofs.Common.{ap, subst, ◌∙◌}
use Rattle.output_chain.specs.Chains.{Stands}
use Rattle.output_chain.specs.Coins.{tally, stage_of}
use Rattle.output_chain.proofs.Posts.{here}
use Rattle.output_chain.proofs.chain.OutputChain.standing.Goals as goal

pub returns-in-Some : goal.returns-in-Some
returns-in-Some c =
    let s = c.args.self.now in
    let u = c.in-Some.unspent in
    subst (Stands c.standing_of.result) ((here s u c.in-Some.ensures.cell).stage ∙ ap (stage_of (tally s.pool)) c.in-Some.ensures.place) c.standing_of.ensures
