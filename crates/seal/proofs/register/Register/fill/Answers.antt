use Rattle.std.proofs.Common.{◌≡◌, List, [], ◌∷◌, ◌++◌, length, sym, ap, ◌∙◌, arith}
use Rattle.std.proofs.lemmas.List.{take_more_set}
use Rattle.state.specs.declared.state.State.{State}
use Rattle.seal.proofs.Filling.{row_signs, filled_rows}
use Rattle.seal.proofs.register.Register.fill.Goals as goal

pub returns-clause-signs : goal.returns-clause-signs
returns-clause-signs c =
    let r = c.self.inside in
    let i = c.self.invariant in
    let n : length c.args.self.now ≡ r.filled = ap length (sym c.self.view_is) ∙ filled_rows r.rows r.filled (omega (arith, i.0, i.1)) in
    row_signs _ _ _ _ c.requires (sym n)
    (take_more_set r.rows r.filled c.args.state.now (omega (arith, i.0, n, c.requires)) ∙ ap (λ (xs : List State). xs ++ (c.args.state.now ∷ [])) c.self.view_is)
