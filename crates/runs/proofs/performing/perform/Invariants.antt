use Rattle.std.proofs.Common.{◌≡◌, take}
use Rattle.eltoo.specs.Lists.{calls_of, Performs}
use Rattle.station.specs.Meaning.{meant}
use Rattle.runs.proofs.performing.perform.Given as goal

abbrev pub invariant-loop-turn : goal.invariant-loop-turn
invariant-loop-turn g l =
    (calls_of l.turns ≡ calls_of l.initial.turns)
    × Performs g.S.Scheme.gives (meant g.B.Ledger.model g.S.Scheme.seals l.initial.station) (take l.turn-index l.turns) (meant g.B.Ledger.model g.S.Scheme.seals l.station)
