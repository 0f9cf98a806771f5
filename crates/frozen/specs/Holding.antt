use Rattle.std.specs.Prelude.{ℕ, ◌<◌, ◌≤◌, List, map, length, Some, None, Option}
use Rattle.std.specs.List.{flat_map}
use Rattle.std.specs.Option.{option_to_list}
use Rattle.std.proofs.Props.{props}
use Rattle.ledger.specs.declared.view.Parent.{Parent}
use Rattle.ledger.specs.declared.view.View.{View}
use Rattle.ledger.specs.Laws.{Laid, Tied}
use Rattle.ledger.specs.Model.{Model, Stage, fresh, holds, done, Place, Status, shut, idle, posted, settled, seen, place_at, value_of, PlaceShows}

-- what a place holds, by what it showed
abbrev pub held_by : Status → Stage
held_by shut = fresh
held_by idle = fresh
held_by (posted n h a) = holds n h a
held_by (settled n a) = done n a

-- the place that a view was taken of
abbrev pub held_place : View → Place
held_place v = record { parent = v.parent; delay = v.delay.blocks; funding = v.funding; stage = held_by (seen v.standing v.amounts) }

-- the views that are there
abbrev pub held_views : List (Option View) → List View
held_views = flat_map option_to_list

-- the ledger that was copied: its height, and the places of the views
abbrev pub held_model : ℕ → List (Option View) → Model
held_model height views = record { height = height; places = map held_place (held_views views) }

-- what is held of a place: a view that shows it, and nothing if there is no such place
abbrev pub Holds : Option View → Model → ℕ → Type 0
Holds None m p = length m.places ≤ p
Holds (Some v) m p = (p < length m.places) × PlaceShows v (value_of m p) (place_at m p)

-- Each of these facts has one proof at most.

Tied-prop : (o : Option Parent) (f p : ℕ) → IsProp (Tied o f p)
Tied-prop None f p = hlevel props
Tied-prop (Some q) f p = hlevel props

pub Laid-prop : (m : Model) → IsProp (Laid m)
Laid-prop m = hlevel (props, Tied-prop)

pub Holds-prop : (o : Option View) (m : Model) (p : ℕ) → IsProp (Holds o m p)
Holds-prop None m p = hlevel props
Holds-prop (Some v) m p = hlevel props
