use Rattle.std.proofs.Common.{true, false, sym, ap, ◌∙◌, map, rules}
use Rattle.ledger.specs.SetUps.{figures, new_figures}
use Rattle.ledger.proofs.Mapping.{map_is}
use Rattle.ledger.proofs.SettingUp.{same_figure}
use Rattle.ledger.proofs.setting.rows_made.Goals as goal

pub returns-then-not-good : goal.returns-then-not-good
returns-then-not-good c =
    same_figure (new_figures false) (figures c.open.result) (λ _. search rules) c.args.delays.now 8 (search rules) ∙ ap (λ b. map (new_figures b) c.args.delays.now) (sym c.if-not-good.true)

pub returns : goal.returns
returns c =
    map_is _ (new_figures true) figures (λ p x y q h. search rules) (search rules) c.map.ensures.items ∙ ap (λ b. map (new_figures b) c.args.delays.now) (sym c.if-not-good.false)
