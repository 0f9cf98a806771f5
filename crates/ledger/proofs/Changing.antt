-- Accepted checks, and a model in which one place has changed.
use Rattle.std.proofs.Common.{◌≡◌, ℕ, ◌<◌, Bool, true, false, not, ltb, ◌≢◌, ◌⊎◌, List, length, Some, None, Option, sym, refl, ap, ◌∙◌, subst, inl, inr, arith}
use Rattle.std.proofs.lemmas.List.{get_or-set_same, get_or-set_other, length-set}
use Rattle.std.proofs.lemmas.Bool.{cases_eq}
use Rattle.std.proofs.lemmas.Bool.Decides.{nat_tests}
use Rattle.state.specs.Refusals.{accepted, first}
use Rattle.state.proofs.Checking.{numbered, Passed, all_passed}
use Rattle.ledger.specs.declared.view.Parent.{Parent}
use Rattle.ledger.specs.Model.{Model, Place, Stage, fresh, holds, done, place_at, nowhere, value_of, value_by, share}
use Rattle.ledger.specs.Steps.{is_none, worth, staged, with_stage, place_checks}

pub some_same : {X : Type 0} {x y : X} → Some x ≡ Some y → x ≡ y
some_same e = cc

pub none_some : {X : Type 0} {x : X} → None ≡ Some x → ⊥
none_some e = let z : ◌≡◌ {A = ℕ} 0 1 = cc in omega arith

pub valued_by : (v : Option ℕ) → is_none v ≡ false → v ≡ Some (worth v)
valued_by None e = let z : ◌≡◌ {A = ℕ} 0 1 = cc in absurd (omega arith)
valued_by (Some v) e = refl

-- a call that is accepted at a place
pub record Reached (m : Model) (p : ℕ) (rest : List (Bool × ℕ)) : Type 0 where
  pub within : p < length m.places
  pub valued : value_of m p ≡ Some (worth (value_of m p))
  pub passed : Passed rest

pub reached : (m : Model) (p : ℕ) (rest : List (Bool × ℕ)) → numbered rest ≡ true → first (place_checks m p rest) ≡ accepted → Reached m p rest
reached m p rest n h =
    let a = all_passed (place_checks m p rest) n h in
    let there : not (ltb p (length m.places)) ≡ false = a.0 in
    record { within = grind (arith, nat_tests); valued = valued_by (value_of m p) a.1.0; passed = a.1.1 }

-- only a settled place gives its children a value
pub none_yet : (s : Stage) (i : ℕ) → ((k : ℕ) (a : List ℕ) → s ≡ done k a → ⊥) → share s i ≡ None
none_yet fresh i h = refl
none_yet (holds n t a) i h = refl
none_yet (done n a) i h = absurd (h n a refl)

module _ (m : Model) (p : ℕ) (s : Stage) (within : p < length m.places) where
  abbrev next : Model
  next = with_stage m p s

  pub at_same : place_at next p ≡ staged (place_at m p) s
  at_same = get_or-set_same m.places p _ nowhere within

  pub at_other : (q : ℕ) → q ≢ p → place_at next q ≡ place_at m q
  at_other q ne = get_or-set_other m.places p q _ nowhere ne

  pub count_is : length next.places ≡ length m.places
  count_is = length-set m.places p (staged (place_at m p) s)

  -- all but the stages is as it was
  pub layout : (c : ℕ) → staged (place_at next c) fresh ≡ staged (place_at m c) fresh
  layout c = go (cases_eq c p)
    where
      go : (c ≡ p) ⊎ (c ≡ p → ⊥) → staged (place_at next c) fresh ≡ staged (place_at m c) fresh
      go (inl e) = subst (λ x. staged (place_at next x) fresh ≡ staged (place_at m x) fresh) (sym e) (ap (λ (y : Place). staged y fresh) at_same)
      go (inr ne) = ap (λ (y : Place). staged y fresh) (at_other c ne)

  pub parent_is : (c : ℕ) → (place_at next c).parent ≡ (place_at m c).parent
  parent_is c = ap (λ (y : Place). y.parent) (layout c)

  value_by_lem : (o : Option Parent) (f : ℕ) → ((q : Parent) → o ≡ Some q → q.place ≡ p → ⊥) → value_by next.places o f ≡ value_by m.places o f
  value_by_lem None f ne = refl
  value_by_lem (Some q) f ne = ap (λ (y : Place). share y.stage q.index) (at_other q.place (ne q refl))

  -- the value of a place that is no child of p is as it was
  pub value_is : (c : ℕ) → ((q : Parent) → (place_at m c).parent ≡ Some q → q.place ≡ p → ⊥) → value_of next c ≡ value_of m c
  value_is c ne = ap (λ (y : Place). value_by next.places y.parent y.funding) (layout c) ∙ value_by_lem (place_at m c).parent (place_at m c).funding ne

  -- the children of p had none before it was settled
  pub child_none : (o : Option Parent) (f : ℕ) (q : Parent) → o ≡ Some q → q.place ≡ p → ((k : ℕ) (a : List ℕ) → (place_at m p).stage ≡ done k a → ⊥) → value_by m.places o f ≡ None
  child_none o f q e i still = ap (λ x. value_by m.places x f) e ∙ ap (λ x. share (place_at m x).stage q.index) i ∙ none_yet (place_at m p).stage q.index still
