use Rattle.std.proofs.Common.{get_or, sym, ap, rules}
use Rattle.ledger.proofs.Rooted.{root_settles}
use Rattle.adjudicator.proofs.table.Adjudicator.settle_at.Goals as goal

pub returns : goal.returns
returns c =
    let roots = c.args.self.now.roots in
    let old = c.index-roots-place in
    root_settles _ roots c.args.place (get_or roots c.args.place old.result) c.settle.new.self (search rules) (ap (get_or roots c.args.place) (sym old.is)) _ c.settle.ensures
