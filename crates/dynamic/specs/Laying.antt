-- The layout of a base host's places.
use Rattle.std.proofs.Common.{arith}
use Rattle.ledger.specs.Laws.{Laid}
use Rattle.ledger.proofs.Rooted.{rooted_laid}
use Rattle.output_chain.specs.Laws.{chain_lawful}
use Rattle.dynamic.specs.declared.base.Base.{Base}
use Rattle.dynamic.specs.declared.base.Base.TheVariants.{Chain, Adjudicator}
use Rattle.dynamic.specs.Bases.{model_of}

pub base_laid : (b : Base) → Laid (model_of b)
base_laid (Chain c) = (chain_lawful c).laid
base_laid (Adjudicator a) = rooted_laid a.height.blocks a.roots a.height.high (omega (arith, a.eight))
