use Rattle.std.specs.Prelude.{◌≡◌, List, [], ◌∷◌, ◌++◌, map, reverse, Some}
use Rattle.ledger.specs.Laws.{Lawful, Untouched}
use Rattle.seal.specs.Registers.{RowGives}
use Rattle.eltoo.specs.declared.call.Call.{Call}
use Rattle.eltoo.specs.declared.turn.Turn.{Turn}
use Rattle.eltoo.specs.Stations.{StationModel}
use Rattle.eltoo.specs.Steps.{Answer, Own, Step}
use Rattle.eltoo.specs.Runs.{Entry, Run, origin, Holds}
use Rattle.eltoo.specs.Safety.{HoldsFresh}

-- Lists of calls.

abbrev pub calls_of : List Turn → List Call
calls_of ts = map (λ (x : Turn). x.call) ts

-- station s, called so in turn, gives these answers and is t afterwards
abbrev pub Performs : Own → StationModel → List Turn → StationModel → Type 0
Performs own s [] t = t ≡ s
Performs own s (x ∷ ts) t = (a : Answer) × (u : StationModel) × (x.answer ≡ Some a) × Step own s x.call a u × Performs own u ts t

abbrev pub turn_of : Entry → Turn
turn_of e = record { call = e.call; answer = Some e.answer }

-- a run from s to t, whose calls and answers are these, the latest first; nothing is broken
pub record Story (own : Own) (s : StationModel) (ts : List Turn) (t : StationModel) : Type 0 where
  pub entries : List Entry
  pub run : Run own entries t
  pub begun : origin entries t ≡ s
  pub turns : map turn_of entries ≡ ts
  pub holds : Holds entries t

-- a list of calls is performed, and whatever run led to s, with this list added it is a run and breaks nothing
pub record Performed (own : Own) (s : StationModel) (ts : List Turn) (t : StationModel) : Type 0 where
  pub steps : Performs own s ts t
  pub whole : (es : List Entry) → Run own es s → Story own (origin es s) (reverse ts ++ map turn_of es) t

-- a list of calls from a set-up on: over a lawful ledger where nothing is posted or settled it is a run, and breaks nothing
abbrev pub WholeRun : Own → StationModel → List Turn → StationModel → Type 0
WholeRun own s ts t = Lawful s.ledger → Untouched s.ledger → Story own s (reverse ts) t

-- the same over a register that is empty at set-up: there the premise about seals drops out
pub record FreshStory (s : StationModel) (ts : List Turn) (t : StationModel) : Type 0 where
  pub story : Story RowGives s ts t
  pub fresh : HoldsFresh story.entries t

abbrev pub WholeFreshRun : StationModel → List Turn → StationModel → Type 0
WholeFreshRun s ts t = Lawful s.ledger → Untouched s.ledger → FreshStory s (reverse ts) t
