use Rattle.std.proofs.Common.{length, sym, ap, ◌∙◌, rules}
use Rattle.ledger.specs.Model.{Model}
use Rattle.frozen.proofs.Copying.{copy_is, copy_laid, copy_holds}
use Rattle.frozen.proofs.snapshot.Frozen.of.Goals as goal

pub invariant_of-result : goal.invariant_of-result
invariant_of-result g c =
    let lay = g.met.L.Ledger.laid c.args.ledger.now in
    record {
      counted = c.count.ensures ∙ ap (λ (m : Model). length m.places) (sym (copy_is _ _ _ (search rules) lay c.height.ensures c.views_of.ensures));
      laid = copy_laid _ _ _ (search rules) lay c.height.ensures c.views_of.ensures;
      holds = copy_holds _ _ _ (search rules) lay c.height.ensures c.views_of.ensures;
    }
