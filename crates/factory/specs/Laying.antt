-- The layout of a factory's places, and its laws.
use Rattle.std.specs.Prelude.{◌≡◌, ℕ, ◌+◌, ◌-◌, ◌<◌, ◌≤◌, true, false, None, ◌⊎◌, List, [], ◌∷◌, length, get_or, Some, Option, ◌≢◌, slice_index_or, refl}
use Rattle.std.proofs.Common.{sym, ap, subst, ◌∙◌, inl, inr, arith}
use Rattle.std.proofs.lemmas.Bool.{cases_lt}
use Rattle.state.specs.Limits.{min_delay, max_delay, parties}
use Rattle.ledger.specs.declared.row.Row.{Row}
use Rattle.ledger.specs.declared.view.Parent.{Parent}
use Rattle.ledger.specs.Laws.{Laid, Tied, Backed, Lawful, Untouched, child}
use Rattle.ledger.specs.Model.{Model, Place, fresh, place_at, value_of, share, status_by, shows_state}
use Rattle.ledger.specs.Rows.{stage_of}
use Rattle.ledger.proofs.Changing.{some_same}
use Rattle.ledger.proofs.Starting.{unused_shows}
use Rattle.factory.specs.declared.children.Children.{Children}
use Rattle.factory.specs.Extending.{child_place, max_below, fits, extended}
use Rattle.factory.specs.Extended.{ext, count_ext, lower_place, lower_value, upper_place, upper_value, fitted}

module _ (seat : ℕ) (rows : List Row) (m : Model) (lay : Laid m) (room : length m.places ≤ max_below) (seated : seat < length m.places) (long : length rows ≡ 8) (d : Row) where
  abbrev x : Model
  x = ext seat rows m

  -- a place is a lower one or a child
  abbrev Where : ℕ → Type 0
  Where p = (p < length m.places) ⊎ ((i : ℕ) × (i < length rows) × (p ≡ length m.places + i))

  split : (p : ℕ) → p < length x.places → Where p
  split p h = go (cases_lt p (length m.places))
    where
      go : (p < length m.places) ⊎ (length m.places ≤ p) → Where p
      go (inl l) = inl l
      go (inr g) = inr (p - length m.places, omega (arith, count_ext seat rows m), omega arith)

  -- what holds of the lower places and of the children holds of all
  both : (P : ℕ → Place → Option ℕ → Type 0) → ((p : ℕ) → p < length m.places → P p (place_at m p) (value_of m p))
      → ((p i : ℕ) → i < length rows → p ≡ length m.places + i → P p (child_place seat i (slice_index_or rows i d)) (share (place_at m seat).stage i))
      → (p : ℕ) → p < length x.places → P p (place_at x p) (value_of x p)
  both P low up p h = go (split p h)
    where
      go : Where p → P p (place_at x p) (value_of x p)
      go (inl l) = subst (λ (q : Place). P p q (value_of x p)) (sym (lower_place seat rows m p l)) (subst (P p (place_at m p)) (sym (lower_value seat rows m lay p l)) (low p l))
      go (inr u) =
          subst (λ (q : Place). P p q (value_of x p)) (sym (upper_place seat rows m p u.0 d u.2 u.1))
          (subst (P p (child_place seat u.0 (slice_index_or rows u.0 d))) (sym (upper_value seat rows m p u.0 u.2 u.1 seated)) (up p u.0 u.1 u.2))

  ext_laid : Laid x
  ext_laid =
      record {
        few = omega (arith, room, count_ext seat rows m);
        low = lay.low;
        tied = both (λ p q _. Tied q.parent q.funding p) lay.tied (λ p i w e. (refl, omega (arith, seated), omega arith));
        waits = both (λ _ q _. (min_delay ≤ q.delay) × (q.delay ≤ max_delay)) lay.waits (λ p i w e. ((get_or rows i d).delay.low, (get_or rows i d).delay.high));
      }

  -- rows that hold no state, under a place that has no children
  module _ (law : Lawful m) (leaf : (p i : ℕ) → (place_at m p).parent ≢ child seat i) (new : (i : ℕ) → i < length rows → stage_of (slice_index_or rows i d) ≡ fresh) where
    parent-low : (p : ℕ) {o : Option Parent} → p < length m.places → (place_at x p).parent ≡ o → (place_at m p).parent ≡ o
    parent-low p l e = sym (ap (λ (y : Place). y.parent) (lower_place seat rows m p l)) ∙ e

    parent_up : (p i : ℕ) {q : Parent} → i < length rows → p ≡ length m.places + i → (place_at x p).parent ≡ Some q → record { place = seat; index = i } ≡ q
    parent_up p i w e g = some_same (sym (ap (λ (y : Place). y.parent) (upper_place seat rows m p i d e w)) ∙ g)

    -- the child at an index
    kid : (j : ℕ) → j < parties → (c : ℕ) × (c < length x.places) × ((place_at x c).parent ≡ child seat j)
    kid j h =
        let within : j < length rows = omega arith in
        (length m.places + j, omega (arith, count_ext seat rows m), ap (λ (q : Place). q.parent) (upper_place seat rows m (length m.places + j) j d refl within))

    eight : (p q i j : ℕ) → j < parties → Where p → (place_at x p).parent ≡ child q i → (c : ℕ) × (c < length x.places) × ((place_at x c).parent ≡ child q j)
    eight p q i j jh (inl l) e =
        let k = law.eight p q i j l (parent-low p l e) jh in
        (k.0, omega (arith, k.1, count_ext seat rows m), ap (λ (y : Place). y.parent) (lower_place seat rows m k.0 k.1) ∙ k.2)
    eight p q i j jh (inr u) e =
        let same : seat ≡ q = ap (λ (y : Parent). y.place) (parent_up p u.0 u.1 u.2 e) in
        let k = kid j jh in
        (k.0, k.1, k.2 ∙ ap (λ n. child n j) same)

    -- no lower place hangs from the seat
    apart : (p c q i : ℕ) → p < length m.places → (place_at x p).parent ≡ child q i → (u : (k : ℕ) × (k < length rows) × (c ≡ length m.places + k)) → (place_at x c).parent ≢ child q i
    apart p c q i l e u g = leaf p i (parent-low p l e ∙ ap (λ n. child n i) (sym (ap (λ (y : Parent). y.place) (parent_up c u.0 u.1 u.2 g))))

    only : (p c q i : ℕ) → Where p → Where c → (place_at x p).parent ≡ child q i → (place_at x c).parent ≡ child q i → p ≡ c
    only p c q i (inl l) (inl k) e g = law.only p c q i l k (parent-low p l e) (parent-low c k g)
    only p c q i (inl l) (inr u) e g = absurd (apart p c q i l e u g)
    only p c q i (inr u) (inl k) e g = absurd (apart c p q i k g u e)
    only p c q i (inr u) (inr w) e g =
        let a = ap (λ (y : Parent). y.index) (parent_up p u.0 u.1 u.2 e) in
        let b = ap (λ (y : Parent). y.index) (parent_up c w.0 w.1 w.2 g) in
        omega (arith, a, b, u.2, w.2)

    pub ext_lawful : Lawful x
    ext_lawful =
        record {
          laid = ext_laid;
          backed = both (λ _ q v. Backed v q.stage m.height) law.backed (λ p i w e. subst (λ s. Backed (share (place_at m seat).stage i) s m.height) (sym (new i w)) tt);
          eight = λ p q i j h e jh. eight p q i j jh (split p h) e;
          only = λ p c q i h k e g. only p c q i (split p h) (split c k) e g;
        }

    pub ext_untouched : Untouched m → Untouched x
    ext_untouched u =
        both (λ _ q v. shows_state (status_by v q.stage) ≡ false) u
        (λ p i w e. ap (λ s. shows_state (status_by (share (place_at m seat).stage i) s)) (new i w) ∙ unused_shows (share (place_at m seat).stage i))

pub factory_laid : (o : Option Children) (m : Model) → fits o m ≡ true → Laid m → Laid (extended o m)
factory_laid None m e lay = lay
factory_laid (Some c) m e lay = by_rows c.rows refl
  where
    by_rows : (rows : List Row) → rows ≡ c.rows → Laid (extended (Some c) m)
    by_rows [] s = absurd (omega (arith, ap length s, c.long))
    by_rows (r ∷ rows) s = let f = fitted c m e in ext_laid c.seat c.rows m lay f.room f.seated c.long r
