use Rattle.std.specs.Prelude.{◌≡◌, ℕ, suc, ◌+◌, ◌<◌, Bool, true, false, not, ◌&&◌, List, [], ◌∷◌, ◌++◌, length, Some, None, Ok, Err, Option, Result, nat_le, nat_lt, map}
use Rattle.state.specs.declared.refusal.Refusal.{Refusal}
use Rattle.state.specs.Limits.{parties}
use Rattle.ledger.specs.declared.row.Row.{Row}
use Rattle.ledger.specs.declared.view.Parent.{Parent}
use Rattle.ledger.specs.Laws.{child, has_children}
use Rattle.ledger.specs.Model.{Model, Place, fresh, status, shows_state}
use Rattle.ledger.specs.Rows.{stage_of}
use Rattle.ledger.specs.SetUps.{good_delays, delay_made, figures, new_figures}
use Rattle.factory.specs.declared.children.Children.{Children}

-- The seat of a factory is the place below whose children it adds.

-- the i-th child of the seat, by its row
abbrev pub child_place : ℕ → ℕ → Row → Place
child_place seat i r = record { parent = child seat i; delay = r.delay.blocks; funding = 0; stage = stage_of r }

-- children from index i on
abbrev pub children : ℕ → ℕ → List Row → List Place
children seat i [] = []
children seat i (r ∷ rows) = child_place seat i r ∷ children seat (suc i) rows

-- the most places below a factory
abbrev pub max_below : ℕ
max_below = 56

-- the seat is a place below, and there is room for its children
abbrev pub fits : Option Children → Model → Bool
fits None m = true
fits (Some c) m = nat_le (length m.places) max_below && nat_lt c.seat (length m.places)

-- the places below, and then the children of the seat
abbrev pub extended : Option Children → Model → Model
extended None m = m
extended (Some c) m = record { height = m.height; places = m.places ++ children c.seat 0 c.rows }

-- a place is the child of the seat at an index
abbrev pub IsChild : Option Children → Model → ℕ → Parent → Type 0
IsChild None m p q = ⊥
IsChild (Some c) m p q = (q.place ≡ c.seat) × (q.index < parties) × (p ≡ length m.places + q.index)

-- the parent of a place that is a child; every other place that the factory has is one below
abbrev pub ParentIs : Option Parent → Option Children → Model → ℕ → Type 0
ParentIs None o m p = p < length (extended o m).places → p < length m.places
ParentIs (Some q) o m p = IsChild o m p q

-- The set-up.

-- the checks of a factory over a seat: a place below, without children, neither posted nor settled; good delays; room
abbrev pub founding_checks : Model → ℕ → List ℕ → List (Bool × ℕ)
founding_checks m seat delays =
    (not (nat_lt seat (length m.places)), 20)
    ∷ (has_children seat m.places, 20)
    ∷ (shows_state (status m seat), 20)
    ∷ (not (good_delays delays), 20)
    ∷ (nat_lt max_below (length m.places), 20)
    ∷ []

-- the checks of founding where it may be that no factory is empty
abbrev pub growing_checks : Bool → Model → ℕ → List ℕ → List (Bool × ℕ)
growing_checks room m seat delays = (not room, 20) ∷ founding_checks m seat delays

abbrev pub founds : Model → ℕ → List ℕ → Bool
founds m seat delays = nat_lt seat (length m.places) && (not (has_children seat m.places) && (not (shows_state (status m seat)) && (good_delays delays && nat_le (length m.places) max_below)))

-- new children
abbrev pub new_children : ℕ → ℕ → List ℕ → List Place
new_children seat i [] = []
new_children seat i (d ∷ delays) = record { parent = child seat i; delay = delay_made true d; funding = 0; stage = fresh } ∷ new_children seat (suc i) delays

-- what a factory starts from: eight places more, and none against a refusal
abbrev pub founded_by : Bool → Model → ℕ → List ℕ → Model
founded_by true m seat delays = record { height = m.height; places = m.places ++ new_children seat 0 delays }
founded_by false m seat delays = m

abbrev pub founded : Model → ℕ → List ℕ → Model
founded m seat delays = founded_by (founds m seat delays) m seat delays

-- the children that a set-up makes, and none against a refusal
abbrev pub Founds : Result Children Refusal → Model → ℕ → List ℕ → Type 0
Founds (Ok c) m seat delays = (founds m seat delays ≡ true) × (c.seat ≡ seat) × (map figures c.rows ≡ map (new_figures true) delays)
Founds (Err e) m seat delays = founds m seat delays ≡ false
