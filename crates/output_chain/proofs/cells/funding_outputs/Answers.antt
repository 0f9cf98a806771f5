use Rattle.std.proofs.Common.{rules, tests}
use Rattle.std.specs.List.{slice_index}
use Rattle.output_chain.specs.Coins.{funding, coin_of}
use Rattle.output_chain.proofs.Filled.{made_map}
use Rattle.output_chain.proofs.cells.funding_outputs.Goals as goal

pub returns : goal.returns
returns c = made_map coin_of (λ i. funding i (slice_index c.args.fundings.now i)) 8 (λ k y q l h. search (rules, tests)) c.from_fn.ensures.items
