use Rattle.std.proofs.Common.{true, false, sym, ap, ◌∙◌, map, refl, rules}
use Rattle.std.proofs.lemmas.List.{map-id}
use Rattle.ledger.specs.SetUps.{funding_made}
use Rattle.ledger.proofs.Mapping.{map_is}
use Rattle.ledger.proofs.SettingUp.{same_figure}
use Rattle.ledger.proofs.Starting.{fundings_capped}
use Rattle.ledger.proofs.setting.fundings_made.Goals as goal

pub returns-then-not-good-clause-value : goal.returns-then-not-good-clause-value
returns-then-not-good-clause-value c =
    same_figure (funding_made false) 0 (λ _. refl) c.args.fundings.now 8 (search rules) ∙ ap (λ b. map (funding_made b) c.args.fundings.now) (sym c.if-not-good.true)

pub returns-clause-value : goal.returns-clause-value
returns-clause-value c =
    sym (map-id c.map.result) ∙ map_is _ (funding_made true) (λ y. y) (λ p x y q h. search rules) (search rules) c.map.ensures.items ∙ ap (λ b. map (funding_made b) c.args.fundings.now) (sym c.if-not-good.false)

pub returns-clause-capped : goal.returns-clause-capped
returns-clause-capped c =
    fundings_capped true c.args.fundings.now c.map.result
    (sym (map-id c.map.result) ∙ map_is _ (funding_made true) (λ y. y) (λ p x y q h. search rules) (search rules) c.map.ensures.items)
