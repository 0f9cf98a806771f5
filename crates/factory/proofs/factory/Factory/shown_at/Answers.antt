use Rattle.std.proofs.Common.{refl, rules}
use Rattle.factory.proofs.Calling.{child_shows}
use Rattle.factory.proofs.factory.Factory.shown_at.Goals as goal

pub returns : goal.returns
returns g c =
    let s = c.args.self.now in
    child_shows s.children c.unwrap-children.result.now (g.B.Ledger.model s.below) c.args.place c.args.parent c.index-children-parent.result _ _ (search rules) c.requires
    (record { parent = refl; delay = refl; funding = refl; status = search rules; amounts = search rules })
