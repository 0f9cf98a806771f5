use Rattle.std.proofs.Common.{MatchOption, sym, subst, ◌∙◌}
use Rattle.output_chain.specs.Chains.{NoneLeft, Spends}
use Rattle.output_chain.proofs.Posts.{found, not_found, not_free}
use Rattle.output_chain.proofs.chain.OutputChain.spendable.Goals as goal

pub unwrap-output-requires : goal.unwrap-output-requires
unwrap-output-requires c = not_free c.args.root.place c.in_ok-cell.cell c.args.self.now.pool c.index-self-cell.result (sym c.find.ensures ∙ c.in_ok-cell.was)

pub returns : goal.returns
returns c = found c.args.self.now c.args.root.place c.in_ok-cell.cell c.index-self-cell.result c.unwrap-output.result c.args.root.few (sym c.find.ensures ∙ c.in_ok-cell.was) c.unwrap-output.ensures

pub returns-in_err-cell : goal.returns-in_err-cell
returns-in_err-cell c =
    let s = c.args.self.now in
    let p = c.args.root.place in
    subst (λ r. MatchOption r (NoneLeft s p) (Spends s p)) (sym c.from_residual.ensures) (not_found s p c.args.root.few (sym c.find.ensures ∙ c.in_err-cell.was))
