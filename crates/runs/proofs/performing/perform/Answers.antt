use Rattle.std.proofs.Common.{List, subst, arith, rules}
use Rattle.std.proofs.lemmas.List.{take_all}
use Rattle.eltoo.specs.declared.turn.Turn.{Turn}
use Rattle.eltoo.specs.Lists.{Performs}
use Rattle.eltoo.proofs.Performing.{performed}
use Rattle.station.specs.Meaning.{meant}
use Rattle.runs.proofs.Turning.{calls_stay, performs_next}
use Rattle.runs.proofs.performing.perform.Goals as goal

pub loop-turn-preserved : goal.loop-turn-preserved
loop-turn-preserved g c = search (rules, calls_stay, performs_next)

pub returns-clause-performed : goal.returns-clause-performed
returns-clause-performed g c =
    let own = g.S.Scheme.gives in
    let s = meant g.B.Ledger.model g.S.Scheme.seals c.args.station.now in
    let t = meant g.B.Ledger.model g.S.Scheme.seals c.loop-turn.station in
    let ts = c.loop-turn.turns in
    performed own s t ts (subst (λ (v : List Turn). Performs own s v t) (take_all c.loop-turn.turn-index ts (omega arith)) c.loop-turn.invariant.1)
