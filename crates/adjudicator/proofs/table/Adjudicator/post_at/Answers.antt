use Rattle.std.proofs.Common.{get_or, sym, ap, rules}
use Rattle.ledger.proofs.Rooted.{root_posts}
use Rattle.adjudicator.proofs.table.Adjudicator.post_at.Goals as goal

pub returns : goal.returns
returns c =
    let roots = c.args.self.now.roots in
    let place = c.args.state.now.place in
    let old = c.index-roots-state in
    root_posts _ roots c.args.state.now (get_or roots place old.result) c.post.new.self (search rules) (ap (get_or roots place) (sym old.is)) _ c.post.ensures
