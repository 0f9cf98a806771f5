use Rattle.std.specs.Prelude.{◌≡◌, ℕ, ◌<◌, ◌≤◌, Bool, true, false, not, ◌||◌, List, [], ◌∷◌, length, Some, None, sum, Option, ◌==◌, ◌≢◌, slice_index}
use Rattle.state.specs.declared.state.State.{State}
use Rattle.state.specs.Limits.{max_height, min_delay, max_delay, min_number, max_number, max_total, parties}
use Rattle.state.specs.Refusals.{accepted, first}
use Rattle.ledger.specs.declared.view.Parent.{Parent}
use Rattle.ledger.specs.Model.{Model, Place, Stage, fresh, holds, done, place_at, value_of, shut, idle, posted, settled, status, is_shut, is_settled, shows_state, shown_number, shown_amounts}
use Rattle.ledger.specs.Steps.{is_none, post_checks, post_next, settle_checks, settle_next, advance_checks, advance_next}

-- the most places of a ledger, and the children of a factory place
abbrev pub max_places : ℕ
max_places = 64

abbrev pub child : ℕ → ℕ → Option Parent
child q i = Some (record { place = q; index = i })

-- whether a place with this parent is a child of q
abbrev pub child_of : ℕ → Option Parent → Bool
child_of q None = false
child_of q (Some u) = u.place == q

-- a place with children is a factory place, and every other a channel place
abbrev pub has_children : ℕ → List Place → Bool
has_children q [] = false
has_children q (r ∷ rest) = child_of q r.parent || has_children q rest

-- a root has a funding within the limit, and a child a parent with a lower number, an index and no funding
abbrev pub Tied : Option Parent → ℕ → ℕ → Type 0
Tied None funding p = funding ≤ max_total
Tied (Some q) funding p = (funding ≡ 0) × (q.place < p) × (q.index < parties)

-- The layout. It holds of every value of every ledger.
pub record Laid (m : Model) : Type 0 where
  pub few : length m.places ≤ max_places
  pub low : m.height ≤ max_height
  pub tied : (p : ℕ) → p < length m.places → Tied (place_at m p).parent (place_at m p).funding p
  pub waits : (p : ℕ) → p < length m.places → (min_delay ≤ (place_at m p).delay) × ((place_at m p).delay ≤ max_delay)

-- what a place holds fits its value: eight amounts that add up to it, under a number within its limits, since a height that has been
abbrev pub Backed : Option ℕ → Stage → ℕ → Type 0
Backed v fresh height = Unit {0}
Backed v (holds n h a) height = (v ≡ Some (sum a)) × (length a ≡ parties) × (h ≤ height) × (min_number ≤ n) × (n ≤ max_number)
Backed v (done n a) height = (v ≡ Some (sum a)) × (length a ≡ parties) × (min_number ≤ n) × (n ≤ max_number)

-- What every ledger that was set up keeps to.
pub record Lawful (m : Model) : Type 0 where
  pub laid : Laid m
  pub backed : (p : ℕ) → p < length m.places → Backed (value_of m p) (place_at m p).stage m.height
  -- a place with children has one for each index, and one only
  pub eight : (p q i j : ℕ) → p < length m.places → (place_at m p).parent ≡ child q i → j < parties → (c : ℕ) × (c < length m.places) × ((place_at m c).parent ≡ child q j)
  pub only : (p c q i : ℕ) → p < length m.places → c < length m.places → (place_at m p).parent ≡ child q i → (place_at m c).parent ≡ child q i → p ≡ c

-- nothing is posted or settled
abbrev pub Untouched : Model → Type 0
Untouched m = (p : ℕ) → p < length m.places → shows_state (status m p) ≡ false

-- The two laws, about what is told.
pub record TwoLaws (m : Model) : Type 0 where
  -- a child is shut exactly when its parent is not settled, and a root never
  pub root_never_shut : (p : ℕ) → p < length m.places → (place_at m p).parent ≡ None → is_shut (status m p) ≡ false
  pub child_shut : (p q i : ℕ) → p < length m.places → (place_at m p).parent ≡ child q i → is_shut (status m p) ≡ not (is_settled (status m q))
  -- the amounts that a posted or settled place shows add up to its value
  pub adds_up : (p : ℕ) → p < length m.places → shows_state (status m p) ≡ true → value_of m p ≡ Some (sum (shown_amounts (status m p)))
  -- the value of a root is its funding, that of a child the amount at its index in its parent's settled state, and a place has none exactly when it is shut
  pub root_value : (p : ℕ) → p < length m.places → (place_at m p).parent ≡ None → value_of m p ≡ Some (place_at m p).funding
  pub child_value : (p q i n : ℕ) (a : List ℕ) → p < length m.places → (place_at m p).parent ≡ child q i → status m q ≡ settled n a → value_of m p ≡ Some (slice_index a i)
  pub shut_no_value : (p : ℕ) → p < length m.places → is_shut (status m p) ≡ is_none (value_of m p)

abbrev pub LawsHold : Type 0
LawsHold = (m : Model) → Lawful m → TwoLaws m

-- No step breaks what a ledger keeps to.
pub record StepsKeep (m : Model) : Type 0 where
  pub post : (x : State) → first (post_checks m x) ≡ accepted → Lawful (post_next m x)
  pub settle : (p : ℕ) → first (settle_checks m p) ≡ accepted → Lawful (settle_next m p)
  pub advance : (k : ℕ) → first (advance_checks m k) ≡ accepted → Lawful (advance_next m k)

-- What the steps do to what the places show.

-- a post changes one place
pub record PostShows (m : Model) (x : State) (n : Model) : Type 0 where
  pub here : status n x.place ≡ posted x.number.value m.height x.amounts
  pub elsewhere : (c : ℕ) → (c ≢ x.place) → status n c ≡ status m c

-- a settlement changes one place, and opens its children
pub record SettleShows (m : Model) (p : ℕ) (n : Model) : Type 0 where
  pub here : status n p ≡ settled (shown_number (status m p)) (shown_amounts (status m p))
  pub children : (c i : ℕ) → c < length m.places → (place_at m c).parent ≡ child p i → (status m c ≡ shut) × (status n c ≡ idle)
  pub elsewhere : (c : ℕ) → (c ≢ p) → ((i : ℕ) → (place_at m c).parent ≢ child p i) → status n c ≡ status m c

pub record StepsShow (m : Model) : Type 0 where
  pub post : (x : State) → first (post_checks m x) ≡ accepted → PostShows m x (post_next m x)
  pub settle : (p : ℕ) → first (settle_checks m p) ≡ accepted → SettleShows m p (settle_next m p)
  -- what is settled stays for good
  pub final_post : (x : State) (p n : ℕ) (a : List ℕ) → first (post_checks m x) ≡ accepted → status m p ≡ settled n a → status (post_next m x) p ≡ settled n a
  pub final_settle : (q p n : ℕ) (a : List ℕ) → first (settle_checks m q) ≡ accepted → status m p ≡ settled n a → status (settle_next m q) p ≡ settled n a

-- All of it, for every lawful ledger.
abbrev pub LedgerLaws : Type 0
LedgerLaws = (m : Model) → Lawful m → TwoLaws m × StepsKeep m × StepsShow m
