use Rattle.std.proofs.Common.{subst}
use Rattle.ledger.specs.Laws.{Lawful, Untouched}
use Rattle.sample_run.proofs.Sampling.{sample_run}
use Rattle.sample_run.proofs.exists.Goals as goal

pub returns : goal.returns
returns c = sample_run (subst Lawful c.requires.model c.requires.lawful) (subst Untouched c.requires.model c.requires.untouched)
