-- The places of a model and its extension by the children of a seat.
use Rattle.std.specs.Prelude.{◌≡◌, ℕ, zero, suc, ◌+◌, ◌<◌, ◌≤◌, true, List, [], ◌∷◌, ◌++◌, length, get_or, Some, None, Option, slice_index_or, refl}
use Rattle.std.proofs.Common.{ap, ◌∙◌, arith}
use Rattle.std.proofs.lemmas.List.{length-append, get_or_append_left, get_or-append_right}
use Rattle.std.proofs.lemmas.Bool.Decides.{nat_tests}
use Rattle.ledger.specs.declared.row.Row.{Row}
use Rattle.ledger.specs.declared.view.Parent.{Parent}
use Rattle.ledger.specs.Laws.{Laid, Tied}
use Rattle.ledger.specs.Model.{Model, Place, place_at, nowhere, value_of, value_by, share}
use Rattle.factory.specs.declared.children.Children.{Children}
use Rattle.factory.specs.Extending.{child_place, children, max_below, fits}

length_children : (seat i : ℕ) (rows : List Row) → length (children seat i rows) ≡ length rows
length_children seat i [] = refl
length_children seat i (r ∷ rows) = ap suc (length_children seat (suc i) rows)

pub get_or_children : (seat i : ℕ) (rows : List Row) (k : ℕ) (d : Row) → k < length rows → slice_index_or (children seat i rows) k nowhere ≡ child_place seat (i + k) (slice_index_or rows k d)
get_or_children seat i [] k d h = absurd (omega arith)
get_or_children seat i (r ∷ rows) zero d h = ap (λ n. child_place seat n r) (omega arith)
get_or_children seat i (r ∷ rows) (suc k) d h = get_or_children seat (suc i) rows k d (omega arith) ∙ ap (λ n. child_place seat n (slice_index_or rows k d)) (omega arith)

some_row : (rows : List Row) (i : ℕ) → i < length rows → Row
some_row [] i h = absurd (omega arith)
some_row (r ∷ rows) i h = r

-- what children that fit have
pub record Fitted (c : Children) (m : Model) : Type 0 where
  pub room : length m.places ≤ max_below
  pub seated : c.seat < length m.places

pub fitted : (c : Children) (m : Model) → fits (Some c) m ≡ true → Fitted c m
fitted c m e = record { room = grind (arith, nat_tests); seated = grind (arith, nat_tests) }

-- an extension
module _ (seat : ℕ) (rows : List Row) where
  abbrev pub ext : Model → Model
  ext m = record { height = m.height; places = m.places ++ children seat 0 rows }

  pub count_ext : (m : Model) → length (ext m).places ≡ length m.places + length rows
  count_ext m = length-append m.places (children seat 0 rows) ∙ ap (λ n. length m.places + n) (length_children seat 0 rows)

  pub lower_place : (m : Model) (p : ℕ) → p < length m.places → place_at (ext m) p ≡ place_at m p
  lower_place m p h = get_or_append_left m.places (children seat 0 rows) nowhere p h

  lower_by : (m : Model) (p : ℕ) → p < length m.places → (o : Option Parent) (f : ℕ) → Tied o f p → value_by (ext m).places o f ≡ value_by m.places o f
  lower_by m p h None f t = refl
  lower_by m p h (Some q) f t = ap (λ (x : Place). share x.stage q.index) (lower_place m q.place (omega (arith, t.1)))

  pub lower_value : (m : Model) → Laid m → (p : ℕ) → p < length m.places → value_of (ext m) p ≡ value_of m p
  lower_value m l p h =
      ap (λ (q : Place). value_by (ext m).places q.parent q.funding) (lower_place m p h)
      ∙ lower_by m p h (place_at m p).parent (place_at m p).funding (l.tied p h)

  -- the i-th child
  pub upper_place : (m : Model) (p i : ℕ) (d : Row) → p ≡ length m.places + i → i < length rows → place_at (ext m) p ≡ child_place seat i (slice_index_or rows i d)
  upper_place m p i d e h =
      get_or-append_right m.places (children seat 0 rows) (length m.places) p nowhere refl (omega arith)
      ∙ ap (λ k. get_or (children seat 0 rows) k nowhere) (omega arith)
      ∙ get_or_children seat 0 rows i d h
      ∙ ap (λ k. child_place seat k (slice_index_or rows i d)) (omega arith)

  pub upper_value : (m : Model) (p i : ℕ) → p ≡ length m.places + i → i < length rows → seat < length m.places → value_of (ext m) p ≡ share (place_at m seat).stage i
  upper_value m p i e h s =
      ap (λ (q : Place). value_by (ext m).places q.parent q.funding) (upper_place m p i (some_row rows i h) e h)
      ∙ ap (λ (q : Place). share q.stage i) (lower_place m seat s)
