use Rattle.std.specs.Prelude.{◌≡◌, ℕ, ◌<◌, false, ◌||◌, List, [], ◌∷◌, length}
use Rattle.state.specs.declared.state.State.{State}
use Rattle.ledger.specs.Laws.{Lawful, Untouched}
use Rattle.seal.specs.Registers.{RowGives}
use Rattle.seal.specs.Seals.{Seals}
use Rattle.eltoo.specs.declared.call.Call.{Call}
use Rattle.eltoo.specs.Lineage.{lineage, among}
use Rattle.eltoo.specs.Stations.{StationModel, is_marked, claim_next}
use Rattle.eltoo.specs.Steps.{Answer, Own}
use Rattle.eltoo.specs.Runs.{Entry, Run, origin, InTime, SettledNewest, SettledInTime, Holds}

-- No run of any station, over any scheme, breaks what a run holds to.
abbrev pub Safe : Own → Type 0
Safe own = (es : List Entry) (s : StationModel) → Run own es s → Holds es s

-- whatever run led to s, with this call added it is a run, and nothing is broken
pub record GoesOn (own : Own) (s : StationModel) (c : Call) (a : Answer) (t : StationModel) : Type 0 where
  pub run : (es : List Entry) → Run own es s → Run own (record { before = s; call = c; answer = a; after = t } ∷ es) t
  pub holds : (es : List Entry) → Run own es s → Holds (record { before = s; call = c; answer = a; after = t } ∷ es) t

-- no pair of state and seal is good
abbrev pub NoneGood : Seals → Type 0
NoneGood a = (x : State) (k : ℕ) → a.good x k ≡ false

-- over a register that is empty at set-up the premise about seals drops out
pub record HoldsFresh (es : List Entry) (s : StationModel) : Type 0 where
  pub newest : (g : ℕ) → InTime g es s → SettledNewest es s
  pub in_time : (g : ℕ) → InTime g es s → SettledInTime g es s

abbrev pub SafeFresh : Type 0
SafeFresh = (es : List Entry) (s : StationModel) → Run RowGives es s → NoneGood (origin es s).seals → HoldsFresh es s

-- a run begins at this station if its ledger is lawful and nothing is posted or settled there
abbrev pub Starts : Own → StationModel → Type 0
Starts own s = Lawful s.ledger → Untouched s.ledger → Run own [] s

-- an accepted claim marks the place and all that it hangs from, and no other
abbrev pub ClaimMarks : Type 0
ClaimMarks = (s : StationModel) (p q : ℕ) → q < length s.marks → is_marked (claim_next s p).marks q ≡ (among (lineage s.ledger p) q || is_marked s.marks q)
