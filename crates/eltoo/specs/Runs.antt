use Rattle.std.specs.Prelude.{◌≡◌, ℕ, ◌+◌, ◌<◌, ◌≤◌, true, not, ◌&&◌, ◌⊎◌, List, [], ◌∷◌, length, Some, None, Option, is_ok, ◌==◌, if◌then◌else◌, slice_index}
use Rattle.state.specs.declared.state.State.{State}
use Rattle.account.specs.Accounts.{paid, Conserved}
use Rattle.account.specs.Sums.{sum_to}
use Rattle.ledger.specs.Laws.{Lawful, Untouched, has_children}
use Rattle.ledger.specs.Model.{Model, place_at, settled, status, is_settled}
use Rattle.eltoo.specs.declared.call.Call.{Call}
use Rattle.eltoo.specs.declared.call.Call.TheVariants.{Agree, Claim, Post, Settle, Advance, Round}
use Rattle.eltoo.specs.Lineage.{wait}
use Rattle.eltoo.specs.Stations.{StationModel, set_up, count}
use Rattle.eltoo.specs.Steps.{Answer, Own, Step}

-- Runs of a station.

-- a call, with its answer and the station before and after it
pub record Entry : Type 0 where
  pub before : StationModel
  pub call : Call
  pub answer : Answer
  pub after : StationModel

-- where a run begins: nothing agreed or marked, over a lawful ledger where nothing is posted or settled
pub record Begins (s : StationModel) : Type 0 where
  pub lawful : Lawful s.ledger
  pub untouched : Untouched s.ledger
  pub bare : s ≡ set_up s.ledger s.seals

-- a run: the calls made since the set-up, the latest first, and the station that they left
abbrev pub Run : Own → List Entry → StationModel → Type 0
Run own [] s = Begins s
Run own (e ∷ es) s = Run own es e.before × Step own e.before e.call e.answer e.after × (e.after ≡ s)

-- the station at which a run began
abbrev pub origin : List Entry → StationModel → StationModel
origin [] s = s
origin (e ∷ es) s = origin es e.before

-- What was agreed, and claimed.

-- x was agreed in the run
abbrev pub Agreed : List Entry → State → Type 0
Agreed [] x = ⊥
Agreed (e ∷ es) x = ((e.call ≡ Agree x) × (is_ok e.answer ≡ true)) ⊎ Agreed es x

abbrev pub newest_by : Call → Answer → ℕ → Option State → Option State
newest_by (Agree x) a p before = if is_ok a && p == x.place then Some x else before
newest_by (Claim q) a p before = before
newest_by (Post x k) a p before = before
newest_by (Settle q) a p before = before
newest_by (Advance k) a p before = before
newest_by Round a p before = before

-- the newest agreed state of a place: the last that was agreed for it in the run
abbrev pub newest_agreed : List Entry → ℕ → Option State
newest_agreed [] p = None
newest_agreed (e ∷ es) p = newest_by e.call e.answer p (newest_agreed es p)

-- p was claimed at height h
abbrev pub Claimed : List Entry → ℕ → ℕ → Type 0
Claimed [] p h = ⊥
Claimed (e ∷ es) p h = ((e.call ≡ Claim p) × (is_ok e.answer ≡ true) × (e.before.ledger.height ≡ h)) ⊎ Claimed es p h

-- The premises.

-- the state with its seal gets beyond the check of the seal
abbrev pub Passes : StationModel → State → ℕ → Type 0
Passes s x seal = (x.place < count s.ledger) × (s.seals.good x seal ≡ true)

-- every state that passes with its seal in a post was agreed earlier
abbrev pub SealedEarlier : List Entry → Type 0
SealedEarlier [] = Unit {0}
SealedEarlier (e ∷ es) = SealedEarlier es × ((x : State) (seal : ℕ) → e.call ≡ Post x seal → Passes e.before x seal → Agreed es x)

abbrev pub risen_by : Call → Answer → ℕ → ℕ
risen_by (Agree x) a n = n
risen_by (Claim p) a n = n
risen_by (Post x k) a n = n
risen_by (Settle p) a n = n
risen_by (Advance k) a n = if is_ok a then n + k else n
risen_by Round a n = 0

-- the sum of the accepted advances since the last round, or since the set-up where there was none
abbrev pub risen : List Entry → ℕ
risen [] = 0
risen (e ∷ es) = risen_by e.call e.answer (risen es)

-- in each stretch without a round the accepted advances add up to at most g
abbrev pub Gaps : ℕ → List Entry → Type 0
Gaps g [] = Unit {0}
Gaps g (e ∷ es) = Gaps g es × (risen (e ∷ es) ≤ g)

-- g is below the delay of every place
abbrev pub BelowDelays : ℕ → Model → Type 0
BelowDelays g m = (p : ℕ) → p < length m.places → g < (place_at m p).delay

-- the premise about rounds
abbrev pub InTime : ℕ → List Entry → StationModel → Type 0
InTime g es s = Gaps g es × BelowDelays g s.ledger

-- The promises.

abbrev pub amount_in : Option State → ℕ → ℕ
amount_in None j = 0
amount_in (Some x) j = slice_index x.amounts j

-- every settled place shows its newest agreed state, and each party is paid its amounts in those of the settled channels
pub record SettledNewest (es : List Entry) (s : StationModel) : Type 0 where
  pub shows : (p n : ℕ) (a : List ℕ) → p < count s.ledger → status s.ledger p ≡ settled n a → (x : State) × (newest_agreed es p ≡ Some x) × (x.number.value ≡ n) × (x.amounts ≡ a)
  pub pays : (j : ℕ) → paid s.ledger j ≡ sum_to (count s.ledger) (λ p. if is_settled (status s.ledger p) && not (has_children p s.ledger.places) then amount_in (newest_agreed es p) j else 0)

-- a place that was claimed at height h is settled at every height above h + wait
abbrev pub SettledInTime : ℕ → List Entry → StationModel → Type 0
SettledInTime g es s = (p h : ℕ) → Claimed es p h → h + wait s.ledger g p < s.ledger.height → is_settled (status s.ledger p) ≡ true

-- what no run breaks
pub record Holds (es : List Entry) (s : StationModel) : Type 0 where
  pub newest : (g : ℕ) → SealedEarlier es → InTime g es s → SettledNewest es s
  pub in_time : (g : ℕ) → SealedEarlier es → InTime g es s → SettledInTime g es s
  pub conserved : Conserved s.ledger
