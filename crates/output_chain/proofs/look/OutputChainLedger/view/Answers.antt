use Rattle.std.proofs.Common.{subst, arith}
use Rattle.ledger.specs.Model.{value_of, place_at, PlaceShows}
use Rattle.output_chain.specs.Chains.{model_of}
use Rattle.output_chain.proofs.look.OutputChainLedger.view.Goals as goal

pub returns : goal.returns
returns c =
    let m = model_of c.args.self.now in
    let root = c.in_ok-at.ensures in (
      omega arith,
      subst (λ p. PlaceShows c.shown_at.result (value_of m p) (place_at m p)) root c.shown_at.ensures,
    )
