use Rattle.std.specs.Prelude.{◌≡◌, ℕ, ◌<◌, ◌≤◌, Bool, true, false, List, length, get_or, replicate, Some, None, Ok, Err, Option, Result, slice_index, slice_index_or}
use Rattle.state.specs.declared.refusal.Refusal.{Refusal}
use Rattle.state.specs.Limits.{parties}
use Rattle.state.specs.Refusals.{told, refused}
use Rattle.ledger.specs.declared.view.Parent.{Parent}
use Rattle.ledger.specs.declared.view.View.{View}
use Rattle.ledger.specs.declared.view.Standing.{Standing}
use Rattle.ledger.specs.declared.view.Standing.TheVariants as standing

-- What a ledger means: a height, and its places in order.

-- what a place holds of its own, whatever its parent is: no state; a posted state, by number, the height since which it stands, and amounts; a settled state
pub data Stage : Type 0 where
  fresh : Stage
  holds : ℕ → ℕ → List ℕ → Stage
  done : ℕ → List ℕ → Stage

pub record Place : Type 0 where
  pub parent : Option Parent
  pub delay : ℕ
  pub funding : ℕ
  pub stage : Stage

pub record Model : Type 0 where
  pub height : ℕ
  pub places : List Place

abbrev pub nowhere : Place
nowhere = record { parent = None; delay = 0; funding = 0; stage = fresh }

abbrev pub place_at : Model → ℕ → Place
place_at m p = slice_index_or m.places p nowhere

-- The value of a place: a root's is its funding, a child's the amount at its index in its parent's settled state. A child whose parent is not settled has none.

-- the amount at an index of a settled stage
abbrev pub share : Stage → ℕ → Option ℕ
share fresh i = None
share (holds n h a) i = None
share (done n a) i = Some (slice_index a i)

abbrev pub value_by : List Place → Option Parent → ℕ → Option ℕ
value_by ps None funding = Some funding
value_by ps (Some q) funding = share (get_or ps q.place nowhere).stage q.index

abbrev pub value_of : Model → ℕ → Option ℕ
value_of m p = value_by m.places (place_at m p).parent (place_at m p).funding

-- What a place shows.

pub data Status : Type 0 where
  shut : Status
  idle : Status
  posted : ℕ → ℕ → List ℕ → Status
  settled : ℕ → List ℕ → Status

-- a place that holds no state is open (`idle`) if it has a value, and shut if not
abbrev pub unused : Option ℕ → Status
unused None = shut
unused (Some v) = idle

abbrev pub status_by : Option ℕ → Stage → Status
status_by v fresh = unused v
status_by v (holds n h a) = posted n h a
status_by v (done n a) = settled n a

abbrev pub status : Model → ℕ → Status
status m p = status_by (value_of m p) (place_at m p).stage

abbrev pub is_shut : Status → Bool
is_shut shut = true
is_shut idle = false
is_shut (posted n h a) = false
is_shut (settled n a) = false

abbrev pub is_settled : Status → Bool
is_settled shut = false
is_settled idle = false
is_settled (posted n h a) = false
is_settled (settled n a) = true

-- posted or settled
abbrev pub shows_state : Status → Bool
shows_state shut = false
shows_state idle = false
shows_state (posted n h a) = true
shows_state (settled n a) = true

abbrev pub shown_number : Status → ℕ
shown_number shut = 0
shown_number idle = 0
shown_number (posted n h a) = n
shown_number (settled n a) = n

-- the amounts shown: zeros where there is no state
abbrev pub shown_amounts : Status → List ℕ
shown_amounts shut = replicate parties 0
shown_amounts idle = replicate parties 0
shown_amounts (posted n h a) = a
shown_amounts (settled n a) = a

-- What a look answers.

abbrev pub seen : Standing → List ℕ → Status
seen standing.Shut a = shut
seen standing.Open a = idle
seen (standing.Posted n h) a = posted n.value h.blocks a
seen (standing.Settled n) a = settled n.value a

-- a view shows a place of this value
pub record PlaceShows (v : View) (value : Option ℕ) (r : Place) : Type 0 where
  pub parent : v.parent ≡ r.parent
  pub delay : v.delay.blocks ≡ r.delay
  pub funding : v.funding ≡ r.funding
  pub status : seen v.standing v.amounts ≡ status_by value r.stage
  pub amounts : v.amounts ≡ shown_amounts (status_by value r.stage)

-- a look at a place: what it shows, and 1 if there is no such place
abbrev pub Looks : Result View Refusal → Model → ℕ → Type 0
Looks (Ok v) m p = (p < length m.places) × PlaceShows v (value_of m p) (place_at m p)
Looks (Err e) m p = (length m.places ≤ p) × (told e ≡ refused 1)
