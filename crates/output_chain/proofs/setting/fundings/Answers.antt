use Rattle.std.proofs.Common.{sym, ◌∙◌, rules}
use Rattle.std.proofs.lemmas.List.{map-id}
use Rattle.ledger.specs.SetUps.{funding_in}
use Rattle.ledger.proofs.Mapping.{map_is}
use Rattle.output_chain.proofs.setting.fundings.Goals as goal

pub returns : goal.returns
returns c = sym (map-id c.map.result) ∙ map_is _ funding_in (λ x. x) (λ p x y q h. search rules) (search rules) c.map.ensures.items
