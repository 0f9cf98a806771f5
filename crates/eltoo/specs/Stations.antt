use Rattle.std.specs.Prelude.{ℕ, Bool, true, false, not, ◌&&◌, List, [], ◌∷◌, length, replicate, Some, None, sum, Option, is_some, is_none, ◌==◌, nat_le, nat_lt, option_map, slice_index, slice_index_or, slice_set}
use Rattle.std.specs.List.{list_any, range_with_len}
use Rattle.state.specs.declared.state.State.{State}
use Rattle.state.specs.declared.update.Update.{Update}
use Rattle.ledger.specs.declared.view.Parent.{Parent}
use Rattle.ledger.specs.Laws.{max_places}
use Rattle.ledger.specs.Model.{Model, place_at, Status, shut, idle, posted, settled, status, is_settled}
use Rattle.ledger.specs.Steps.{post_checks}
use Rattle.seal.specs.Seals.{Seals, signing_checks}
use Rattle.eltoo.specs.Lineage.{lineage}

-- What a station means: its ledger, its seals, and what the tower keeps for each place, the newest agreed state with its seal, or none, and a mark.
pub record StationModel : Type 0 where
  pub ledger : Model
  pub seals : Seals
  pub newest : List (Option Update)
  pub marks : List Bool

abbrev pub means : Model → Seals → List (Option Update) → List Bool → StationModel
means m a t k = record { ledger = m; seals = a; newest = t; marks = k }

-- a station that has nothing agreed or marked
abbrev pub set_up : Model → Seals → StationModel
set_up m a = means m a (replicate max_places None) (replicate max_places false)

abbrev pub count : Model → ℕ
count m = length m.places

abbrev pub total : State → ℕ
total x = sum x.amounts

abbrev pub newest_at : List (Option Update) → ℕ → Option Update
newest_at t p = slice_index_or t p None

abbrev pub is_marked : List Bool → ℕ → Bool
is_marked ks p = slice_index_or ks p false

abbrev pub is_idle : Status → Bool
is_idle shut = false
is_idle idle = true
is_idle (posted n h a) = false
is_idle (settled n a) = false

abbrev pub is_posted : Status → Bool
is_posted shut = false
is_posted idle = false
is_posted (posted n h a) = true
is_posted (settled n a) = false

-- Tests of what is agreed.

-- the number is not above the last agreed
abbrev pub outdated : Option Update → ℕ → Bool
outdated None number = false
outdated (Some u) number = nat_le number u.state.number.value

-- the amount at an index of an agreed state
abbrev pub allotted : Option Update → ℕ → Option ℕ
allotted o i = option_map (λ u. slice_index u.state.amounts i) o

-- what a state of a place has to add up to: the funding of a root, or the amount at its index in the newest agreed state of its parent
abbrev pub allotment_by : List (Option Update) → Option Parent → ℕ → Option ℕ
allotment_by t None funding = Some funding
allotment_by t (Some u) funding = allotted (newest_at t u.place) u.index

abbrev pub allotment : Model → List (Option Update) → ℕ → Option ℕ
allotment m t p = allotment_by t (place_at m p).parent (place_at m p).funding

abbrev pub differs : Option ℕ → ℕ → Bool
differs None v = false
differs (Some w) v = not (v == w)

-- an agreed state has a total other than v
abbrev pub agreed_other : Option Update → ℕ → Bool
agreed_other None v = false
agreed_other (Some u) v = not (total u.state == v)

-- a place with this parent is a child of x's place with an agreed state whose total is not x's amount at its index
abbrev pub binds_by : Option Parent → Option Update → State → Bool
binds_by None u x = false
binds_by (Some q) u x = q.place == x.place && agreed_other u (slice_index x.amounts q.index)

abbrev pub binds : Model → List (Option Update) → State → ℕ → Bool
binds m t x c = binds_by (place_at m c).parent (newest_at t c) x

-- the test holds of some number below n
abbrev pub any_below : ℕ → (ℕ → Bool) → Bool
any_below n test = list_any test (range_with_len 0 n)

-- The checks of the calls, in their order.

abbrev pub agree_checks : StationModel → State → List (Bool × ℕ)
agree_checks s x =
    (not (nat_lt x.place (count s.ledger)), 1)
    ∷ (is_settled (status s.ledger x.place), 5)
    ∷ (is_posted (status s.ledger x.place), 9)
    ∷ (outdated (newest_at s.newest x.place) x.number.value, 7)
    ∷ (is_none (allotment s.ledger s.newest x.place), 10)
    ∷ (differs (allotment s.ledger s.newest x.place) (total x), 6)
    ∷ (any_below (count s.ledger) (binds s.ledger s.newest x), 11)
    ∷ signing_checks s.seals

abbrev pub claim_checks : StationModel → ℕ → List (Bool × ℕ)
claim_checks s p =
    (not (nat_lt p (count s.ledger)), 1)
    ∷ (is_settled (status s.ledger p), 5)
    ∷ (not (is_some (newest_at s.newest p)), 12)
    ∷ []

-- the place is there and the seal is good, and then the host's own checks
abbrev pub sealed_post_checks : StationModel → State → ℕ → List (Bool × ℕ)
sealed_post_checks s x seal =
    (not (nat_lt x.place (count s.ledger)), 1)
    ∷ (not (s.seals.good x seal), 8)
    ∷ post_checks s.ledger x

-- What accepted calls make.

abbrev pub with_ledger : StationModel → Model → StationModel
with_ledger s m = means m s.seals s.newest s.marks

abbrev pub mark_each : List ℕ → List Bool → List Bool
mark_each [] ks = ks
mark_each (p ∷ ps) ks = mark_each ps (slice_set ks p true)

-- the place and all that it hangs from are marked
abbrev pub claim_next : StationModel → ℕ → StationModel
claim_next s p = means s.ledger s.seals s.newest (mark_each (lineage s.ledger p) s.marks)
