-- Calls and looks at a factory's places.
use Rattle.std.proofs.Common.{◌≡◌, ℕ, zero, suc, ◌+◌, ◌<◌, ◌≤◌, Bool, true, false, not, ltb, List, [], ◌∷◌, ◌++◌, length, get_or, set, Some, None, Ok, Err, Option, Result, sym, refl, ap, ◌∙◌, subst, ⊎_elim, arith}
use Rattle.std.proofs.lemmas.List.{set-append_left, set-append_right}
use Rattle.std.proofs.lemmas.Bool.{cases_lt}
use Rattle.std.proofs.lemmas.Bool.Decides.{nat_tests}
use Rattle.state.specs.declared.refusal.Refusal.{Refusal}
use Rattle.state.specs.declared.state.State.{State}
use Rattle.state.specs.Refusals.{refused, first, Leaves}
use Rattle.state.proofs.Checking.{passed_over}
use Rattle.ledger.specs.declared.phase.Call.{Call}
use Rattle.ledger.specs.declared.row.Row.{Row}
use Rattle.ledger.specs.declared.view.Parent.{Parent}
use Rattle.ledger.specs.declared.view.View.{View}
use Rattle.ledger.specs.Laws.{Laid, child}
use Rattle.ledger.specs.Model.{Model, Place, Stage, place_at, value_of, share, PlaceShows}
use Rattle.ledger.specs.Rows.{stage_of, call_checks, call_next, DoesAt}
use Rattle.ledger.specs.Steps.{Does, is_none, worth, staged, with_stage, place_checks, post_checks, post_next, post_stage_checks, posted_stage, settle_checks, settle_next, settle_stage_checks, settled_stage}
use Rattle.ledger.proofs.Changing.{valued_by}
use Rattle.ledger.proofs.Lifting.{lifts, no_place}
use Rattle.factory.specs.declared.children.Children.{Children}
use Rattle.factory.specs.Extending.{child_place, children, fits, extended, IsChild, ParentIs}
use Rattle.factory.specs.Extended.{ext, count_ext, lower_place, lower_value, upper_place, upper_value, fitted}

set_children : (seat i : ℕ) (rows : List Row) (k : ℕ) (r : Row) → set (children seat i rows) k (child_place seat (i + k) r) ≡ children seat i (set rows k r)
set_children seat i [] zero r = refl
set_children seat i [] (suc k) r = refl
set_children seat i (x ∷ rows) zero r = ap (λ n. child_place seat n r ∷ children seat (suc i) rows) (omega arith)
set_children seat i (x ∷ rows) (suc k) r =
    ap (λ (l : List Place). child_place seat i x ∷ l) (ap (λ n. set (children seat (suc i) rows) k (child_place seat n r)) (omega arith) ∙ set_children seat (suc i) rows k r)

lower_set : (seat : ℕ) (rows : List Row) (m : Model) (p : ℕ) (s : Stage) → p < length m.places → with_stage (ext seat rows m) p s ≡ ext seat rows (with_stage m p s)
lower_set seat rows m p s h =
    ap (λ (ps : List Place). record { height = m.height; places = ps })
    (ap (λ (q : Place). set (ext seat rows m).places p (staged q s)) (lower_place seat rows m p h) ∙ set-append_left m.places (children seat 0 rows) p _ h)

ext_leaves : {A : Type 0} (seat : ℕ) (rows : List Row) (r : Result A Refusal) (m n next : Model) → Leaves r m n (λ _. n ≡ next) → Leaves r (ext seat rows m) (ext seat rows n) (λ _. ext seat rows n ≡ ext seat rows next)
ext_leaves seat rows (Ok x) m n next h = ap (ext seat rows) h
ext_leaves seat rows (Err e) m n next h = ap (ext seat rows) h

-- A call at a place, by its checks and what it makes, from the value of the place, the place and the height.
module _ (checks : Option ℕ → Place → ℕ → List (Bool × ℕ)) (makes : Place → ℕ → Stage) where
  abbrev checks_at : Model → ℕ → List (Bool × ℕ)
  checks_at m p = place_checks m p (checks (value_of m p) (place_at m p) m.height)

  abbrev next_at : Model → ℕ → Model
  next_at m p = with_stage m p (makes (place_at m p) m.height)

  -- at a lower place it is the call below
  lower_does : {A : Type 0} (seat : ℕ) (rows : List Row) (r : Result A Refusal) (m n : Model) → Laid m → (p : ℕ) → p < length m.places
      → Does r m n (checks_at m p) (next_at m p) → Does r (ext seat rows m) (ext seat rows n) (checks_at (ext seat rows m) p) (next_at (ext seat rows m) p)
  lower_does seat rows r m n l p h d =
      let x = ext seat rows m in
      let count = count_ext seat rows m in
      let here : not (ltb p (length m.places)) ≡ false = grind (arith, nat_tests) in
      let there : not (ltb p (length x.places)) ≡ false = grind (arith, nat_tests) in
      let v = lower_value seat rows m l p h in
      let q = lower_place seat rows m p h in
      let rest : first ((is_none (value_of x p), 4) ∷ checks (value_of x p) (place_at x p) m.height) ≡ first ((is_none (value_of m p), 4) ∷ checks (value_of m p) (place_at m p) m.height)
      = ap (λ o. first ((is_none o, 4) ∷ checks o (place_at x p) m.height)) v ∙ ap (λ (y : Place). first ((is_none (value_of m p), 4) ∷ checks (value_of m p) y m.height)) q in
      let same : first (checks_at x p) ≡ first (checks_at m p)
      = passed_over (not (ltb p (length x.places))) 1 ((is_none (value_of x p), 4) ∷ checks (value_of x p) (place_at x p) m.height) there
      ∙ rest
      ∙ sym (passed_over (not (ltb p (length m.places))) 1 ((is_none (value_of m p), 4) ∷ checks (value_of m p) (place_at m p) m.height) here) in
      let next : next_at x p ≡ ext seat rows (next_at m p)
      = ap (λ (y : Place). with_stage x p (makes y m.height)) q ∙ lower_set seat rows m p (makes (place_at m p) m.height) h in
      record {
        answers = d.answers ∙ sym same;
        leaves = subst (λ (k : Model). Leaves r x (ext seat rows n) (λ _. ext seat rows n ≡ k)) (sym next) (ext_leaves seat rows r m n (next_at m p) d.leaves);
      }

  -- and past the last place it is refused as below
  gone : (m : Model) (p : ℕ) → length m.places ≤ p → first (checks_at m p) ≡ refused 1
  gone m p h = let no : not (ltb p (length m.places)) ≡ true = grind (arith, nat_tests) in ap (λ b. first ((b, 1) ∷ (is_none (value_of m p), 4) ∷ checks (value_of m p) (place_at m p) m.height)) no

  past_does : {A : Type 0} (seat : ℕ) (rows : List Row) (r : Result A Refusal) (m n : Model) (p : ℕ) → length m.places ≤ p → length (ext seat rows m).places ≤ p
      → Does r m n (checks_at m p) (next_at m p) → Does r (ext seat rows m) (ext seat rows n) (checks_at (ext seat rows m) p) (next_at (ext seat rows m) p)
  past_does {A} seat rows (Ok x) m n p h k d = let z : ◌≡◌ {A = ℕ} 0 1 = ap (λ (t : ℕ × List ℕ). t.0) (d.answers ∙ gone m p h) in absurd (omega arith)
  past_does {A} seat rows (Err e) m n p h k d =
      let x = ext seat rows m in
      subst (λ (y : Model). Does {A = A} (Err e) x (ext seat rows y) (checks_at x p) (next_at x p)) (sym d.leaves) (no_place e x p _ _ (d.answers ∙ gone m p h) k)

  -- what is no child is passed on
  below_does : {A : Type 0} (o : Option Children) (r : Result A Refusal) (m n : Model) → Laid m → (p : ℕ) → (p < length (extended o m).places → p < length m.places)
      → Does r m n (checks_at m p) (next_at m p) → Does r (extended o m) (extended o n) (checks_at (extended o m) p) (next_at (extended o m) p)
  below_does None r m n l p b d = d
  below_does (Some c) r m n l p b d =
      ⊎_elim
      (λ (h : p < length m.places). lower_does c.seat c.rows r m n l p h d)
      (λ (h : length m.places ≤ p). past_does c.seat c.rows r m n p h (grind (arith, b)) d)
      (cases_lt p (length m.places))

is_below : (a : Option Parent) (o : Option Children) (m : Model) (p : ℕ) → a ≡ None → ParentIs a o m p → p < length (extended o m).places → p < length m.places
is_below a o m p e h = subst (λ (y : Option Parent). ParentIs y o m p) e h

pub post_below : {A : Type 0} (o : Option Children) (r : Result A Refusal) (m n : Model) (x : State) (a : Option Parent) → Laid m → a ≡ None → ParentIs a o m x.place
    → Does r m n (post_checks m x) (post_next m x) → Does r (extended o m) (extended o n) (post_checks (extended o m) x) (post_next (extended o m) x)
post_below o r m n x a l e h d = below_does (λ v q h. post_stage_checks (worth v) q.stage x) (λ q h. posted_stage x h) o r m n l x.place (is_below a o m x.place e h) d

pub settle_below : {A : Type 0} (o : Option Children) (r : Result A Refusal) (m n : Model) (p : ℕ) (a : Option Parent) → Laid m → a ≡ None → ParentIs a o m p
    → Does r m n (settle_checks m p) (settle_next m p) → Does r (extended o m) (extended o n) (settle_checks (extended o m) p) (settle_next (extended o m) p)
settle_below o r m n p a l e h d = below_does (λ v q h. settle_stage_checks q.stage q.delay h) (λ q h. settled_stage q.stage) o r m n l p (is_below a o m p e h) d

-- A child.

pub child_count : (c : Children) (m : Model) → length (extended (Some c) m).places ≡ length m.places + 8
child_count c m = let n = count_ext c.seat c.rows m in omega (arith, c.long)

pub child_there : (o : Option Children) (m : Model) (p : ℕ) (q : Parent) → IsChild o m p q → p < length (extended o m).places
child_there None m p q h = absurd h
child_there (Some c) m p q h = let n = child_count c m in omega (arith, h.1, h.2)

pub child_value : (o : Option Children) (m : Model) (p : ℕ) (q : Parent) → fits o m ≡ true → IsChild o m p q → value_of (extended o m) p ≡ share (place_at m q.place).stage q.index
child_value None m p q f h = absurd h
child_value (Some c) m p q f h =
    upper_value c.seat c.rows m p q.index h.2 (omega (arith, h.1, c.long)) (fitted c m f).seated
    ∙ ap (λ k. share (place_at m k).stage q.index) (sym h.0)

child_is : (c : Children) (m : Model) (p : ℕ) (q : Parent) (d : Row) → IsChild (Some c) m p q
    → record { parent = Some q; delay = (get_or c.rows q.index d).delay.blocks; funding = 0; stage = stage_of (get_or c.rows q.index d) } ≡ place_at (extended (Some c) m) p
child_is c m p q d h =
    ap (λ k. record { parent = child k q.index; delay = (get_or c.rows q.index d).delay.blocks; funding = 0; stage = stage_of (get_or c.rows q.index d) }) h.0
    ∙ sym (upper_place c.seat c.rows m p q.index d h.2 (omega (arith, h.1, c.long)))

pub child_shows : (o : Option Children) (c : Children) (m : Model) (p : ℕ) (q : Parent) (d : Row) (v : View) (value : Option ℕ) → o ≡ Some c → IsChild o m p q
    → PlaceShows v value (record { parent = Some q; delay = (get_or c.rows q.index d).delay.blocks; funding = 0; stage = stage_of (get_or c.rows q.index d) })
    → PlaceShows v value (place_at (extended o m) p)
child_shows o c m p q d v value e h s =
    subst (λ (x : Option Children). PlaceShows v value (place_at (extended x m) p)) (sym e)
    (subst (PlaceShows v value) (child_is c m p q d (subst (λ (x : Option Children). IsChild x m p q) e h)) s)

-- a call at a child is the call on its row
row_does : {A : Type 0} (c : Children) (r : Result A Refusal) (m : Model) (p : ℕ) (q : Parent) (call : Call) (d new : Row) → IsChild (Some c) m p q
    → is_none (value_of (extended (Some c) m) p) ≡ false → new.delay ≡ (get_or c.rows q.index d).delay
    → Does r (stage_of (get_or c.rows q.index d)) (stage_of new) (call_checks call (stage_of (get_or c.rows q.index d)) (get_or c.rows q.index d).delay.blocks m.height) (call_next call (stage_of (get_or c.rows q.index d)) m.height)
    → DoesAt r (extended (Some c) m) (ext c.seat (set c.rows q.index new) m) p call
row_does c r m p q call d new h val same does =
    let rows = c.rows in
    let i = q.index in
    let x = ext c.seat rows m in
    let t = stage_of new in
    let row = get_or rows i d in
    let l : i < length rows = omega (arith, h.1, c.long) in
    let there = child_there (Some c) m p q h in
    let is = upper_place c.seat rows m p i d h.2 l in
    let at : Does r (place_at x p).stage t (call_checks call (place_at x p).stage (place_at x p).delay m.height) (call_next call (place_at x p).stage m.height)
    = subst (λ (y : Place). Does r y.stage t (call_checks call y.stage y.delay m.height) (call_next call y.stage m.height)) (sym is) does in
    let new-place : staged (place_at x p) t ≡ child_place c.seat i new
    = ap (λ (y : Place). staged y t) is ∙ ap (λ (k : _). record { parent = child c.seat i; delay = k.blocks; funding = 0; stage = t }) (sym same) in
    let after : with_stage x p t ≡ ext c.seat (set rows i new) m
    = ap (λ (ps : List Place). record { height = m.height; places = ps })
    (ap (set x.places p) new-place
    ∙ set-append_right m.places (children c.seat 0 rows) (length m.places) p (child_place c.seat i new) refl (omega (arith, h.2))
    ∙ ap (λ j. m.places ++ set (children c.seat 0 rows) j (child_place c.seat i new)) (omega (arith, h.2))
    ∙ ap (λ (ps : List Place). m.places ++ ps) (ap (λ j. set (children c.seat 0 rows) i (child_place c.seat j new)) (omega arith) ∙ set_children c.seat 0 rows i new)) in
    subst (λ (n : Model). DoesAt r x n p call) after
    (lifts r x p _ t (call_next call (place_at x p).stage m.height) (call_checks call (place_at x p).stage (place_at x p).delay m.height) there (valued_by (value_of x p) val) at)

pub child_does : {A : Type 0} (o : Option Children) (c : Children) (r : Result A Refusal) (m : Model) (p : ℕ) (q : Parent) (call : Call) (d new : Row) (h : ℕ) → o ≡ Some c → IsChild o m p q
    → is_none (value_of (extended o m) p) ≡ false → new.delay ≡ (get_or c.rows q.index d).delay → h ≡ m.height
    → Does r (stage_of (get_or c.rows q.index d)) (stage_of new) (call_checks call (stage_of (get_or c.rows q.index d)) (get_or c.rows q.index d).delay.blocks h) (call_next call (stage_of (get_or c.rows q.index d)) h)
    → DoesAt r (extended o m) (ext c.seat (set c.rows q.index new) m) p call
child_does o c r m p q call d new h e is val same at does =
    let s = get_or c.rows q.index d in
    subst (λ (x : Option Children). DoesAt r (extended x m) (ext c.seat (set c.rows q.index new) m) p call) (sym e)
    (row_does c r m p q call d new (subst (λ (x : Option Children). IsChild x m p q) e is) (subst (λ (x : Option Children). is_none (value_of (extended x m) p) ≡ false) e val) same
    (subst (λ k. Does r (stage_of s) (stage_of new) (call_checks call (stage_of s) s.delay.blocks k) (call_next call (stage_of s) k)) at does))
