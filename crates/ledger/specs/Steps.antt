use Rattle.std.specs.Prelude.{◌≡◌, ℕ, ◌+◌, Bool, true, false, not, List, [], ◌∷◌, length, Some, None, sum, Option, Result, ◌==◌, nat_le, nat_lt, slice_set}
use Rattle.state.specs.declared.refusal.Refusal.{Refusal}
use Rattle.state.specs.declared.state.State.{State}
use Rattle.state.specs.Limits.{max_height}
use Rattle.state.specs.Refusals.{answer, first, Leaves}
use Rattle.ledger.specs.Model.{Stage, fresh, holds, done, Place, Model, place_at, value_of}

-- The three calls of a host: the checks of each, in their order, and what an accepted one makes.

-- the height from which a post of this number is due
abbrev pub due_at : ℕ → ℕ → ℕ → ℕ
due_at number since delay = since + delay

-- the most blocks of one advance
abbrev pub max_step : ℕ
max_step = 2016

-- Tests of what a place holds.

abbrev pub is_fresh : Stage → Bool
is_fresh fresh = true
is_fresh (holds n h a) = false
is_fresh (done n a) = false

abbrev pub is_done : Stage → Bool
is_done fresh = false
is_done (holds n h a) = false
is_done (done n a) = true

abbrev pub not_newer : Stage → ℕ → Bool
not_newer fresh number = false
not_newer (holds n h a) number = nat_le number n
not_newer (done n a) number = false

abbrev pub early : Stage → ℕ → ℕ → Bool
early fresh delay height = false
early (holds n h a) delay height = nat_lt height (due_at n h delay)
early (done n a) delay height = false

abbrev pub is_none : Option ℕ → Bool
is_none None = true
is_none (Some v) = false

abbrev pub worth : Option ℕ → ℕ
worth None = 0
worth (Some v) = v

-- The checks of a call at a place that has a value.

abbrev pub post_stage_checks : ℕ → Stage → State → List (Bool × ℕ)
post_stage_checks value s x = (is_done s, 5) ∷ (not (sum x.amounts == value), 6) ∷ (not_newer s x.number.value, 7) ∷ []

abbrev pub settle_stage_checks : Stage → ℕ → ℕ → List (Bool × ℕ)
settle_stage_checks s delay height = (is_fresh s, 14) ∷ (is_done s, 5) ∷ (early s delay height, 13) ∷ []

-- What an accepted call makes of what the place holds.

abbrev pub posted_stage : State → ℕ → Stage
posted_stage x height = holds x.number.value height x.amounts

abbrev pub settled_stage : Stage → Stage
settled_stage fresh = fresh
settled_stage (holds n h a) = done n a
settled_stage (done n a) = done n a

-- the same place at another stage, and all else as it was
abbrev pub staged : Place → Stage → Place
staged r s = record { parent = r.parent; delay = r.delay; funding = r.funding; stage = s }

abbrev pub with_stage : Model → ℕ → Stage → Model
with_stage m p s = record { height = m.height; places = slice_set m.places p (staged (place_at m p) s) }

-- The checks of a call at any place: there is such a place, and it is not shut.

abbrev pub place_checks : Model → ℕ → List (Bool × ℕ) → List (Bool × ℕ)
place_checks m p rest = (not (nat_lt p (length m.places)), 1) ∷ (is_none (value_of m p), 4) ∷ rest

abbrev pub post_checks : Model → State → List (Bool × ℕ)
post_checks m x = place_checks m x.place (post_stage_checks (worth (value_of m x.place)) (place_at m x.place).stage x)

abbrev pub post_next : Model → State → Model
post_next m x = with_stage m x.place (posted_stage x m.height)

abbrev pub settle_checks : Model → ℕ → List (Bool × ℕ)
settle_checks m p = place_checks m p (settle_stage_checks (place_at m p).stage (place_at m p).delay m.height)

abbrev pub settle_next : Model → ℕ → Model
settle_next m p = with_stage m p (settled_stage (place_at m p).stage)

-- the checks of raising a height
abbrev pub rise_checks : ℕ → ℕ → List (Bool × ℕ)
rise_checks height k = ((k == 0), 15) ∷ (nat_lt max_step k, 15) ∷ (nat_lt max_height (height + k), 16) ∷ []

abbrev pub advance_checks : Model → ℕ → List (Bool × ℕ)
advance_checks m k = rise_checks m.height k

abbrev pub advance_next : Model → ℕ → Model
advance_next m k = record { height = m.height + k; places = m.places }

-- a call does its step: the answer is that of the checks; accepted, `next` is there afterwards, and refused, all is as before
pub record Does {A M : Type 0} (r : Result A Refusal) (before after : M) (checks : List (Bool × ℕ)) (next : M) : Type 0 where
  pub answers : answer r ≡ first checks
  pub leaves : Leaves r before after (λ _. after ≡ next)
