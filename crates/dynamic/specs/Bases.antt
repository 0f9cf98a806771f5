use Rattle.std.specs.Prelude.{◌≡◌, ℕ, Some, None, sum_by, Option}
use Rattle.adjudicator.specs.Tables as tables
use Rattle.output_chain.specs.Chains as chains
use Rattle.output_chain.specs.Coins.{each}
use Rattle.output_chain.specs.Models.{outputs_of}
use Rattle.ledger.specs.Laws.{Laid}
use Rattle.ledger.specs.Model.{Model}
use Rattle.dynamic.specs.declared.base.Base.{Base}
use Rattle.dynamic.specs.declared.base.Base.TheVariants.{Chain, Adjudicator}

-- what a base host means
abbrev pub model_of : Base → Model
model_of (Chain c) = chains.model_of c
model_of (Adjudicator a) = tables.model_of a

-- how many unspent outputs it holds, none of a host that keeps no outputs
abbrev pub pool_of : Base → Option ℕ
pool_of (Chain c) = Some (sum_by each (outputs_of (chains.model_of c)))
pool_of (Adjudicator a) = None
