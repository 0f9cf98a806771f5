use Rattle.std.proofs.Common.{◌≡◌, map, Some, sym, ap, ◌∙◌, rules, tests}
use Rattle.std.specs.List.{range_with_len}
use Rattle.std.proofs.lemmas.List.{map-id}
use Rattle.ledger.specs.Model.{Stage, status_by, shown_amounts, settled}
use Rattle.output_chain.specs.Coins.{tally, own, amount, number}
use Rattle.output_chain.proofs.Filled.{made_map}
use Rattle.output_chain.proofs.Views.{stage_done}
use Rattle.output_chain.proofs.chain.OutputChain.settled.Goals as goal

pub returns : goal.returns
returns c =
    let s = c.args.self.now in
    let p = c.args.root.place in
    let W = tally s.pool in
    let xs = c.from_fn-amounts.result in
    let list : xs ≡ map (λ k. W (own p (amount k))) (range_with_len 0 8) = sym (map-id xs) ∙ made_map (λ x. x) (λ k. W (own p (amount k))) 8 (λ k y q l h. search (rules, tests)) c.from_fn-amounts.ensures.items in
    let is = stage_done s p c.args.root.few c.requires in
    record {
      status = ap (λ n. settled n xs) c.payment.ensures.number ∙ ap (settled (W (own p number))) list ∙ ap (status_by (Some 0)) (sym is);
      amounts = list ∙ ap (λ (x : Stage). shown_amounts (status_by (Some 0) x)) (sym is);
    }
