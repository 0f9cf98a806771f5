-- What is held of every place of a ledger is the ledger.
use Rattle.std.proofs.Common.{◌≡◌, ℕ, zero, suc, ◌<◌, ◌≤◌, List, [], ◌∷◌, map, length, get_or, replicate, Some, None, Option, sym, refl, ap, subst, ap₂, ◌∙◌, arith}
use Rattle.ledger.specs.declared.view.View.{View}
use Rattle.ledger.specs.Laws.{Laid}
use Rattle.ledger.specs.Model.{Model, Place, Stage, fresh, holds, done, nowhere, place_at, value_of, status_by, PlaceShows}
use Rattle.frozen.specs.Holding.{Holds, held_by, held_place, held_views, held_model}

-- at first nothing is held
pub none_at : (n p : ℕ) → get_or (replicate {A = Option View} n None) p None ≡ None
none_at zero p = refl
none_at (suc n) zero = refl
none_at (suc n) (suc p) = none_at n p

-- what is held is what was shown
held_back : (v : Option ℕ) (s : Stage) → held_by (status_by v s) ≡ s
held_back None fresh = refl
held_back (Some v) fresh = refl
held_back v (holds n h a) = refl
held_back v (done n a) = refl

held_is : (v : View) (value : Option ℕ) (r : Place) → PlaceShows v value r → held_place v ≡ r
held_is v value r h = λ i. record {
  parent = h.parent i;
  delay = h.delay i;
  funding = h.funding i;
  stage = (ap held_by h.status ∙ held_back value r.stage) i;
}

-- a view of the k-th of these places, or none and there is no such place
abbrev HeldAt : Option View → List Place → ℕ → Type 0
HeldAt None ps k = length ps ≤ k
HeldAt (Some v) ps k = (k < length ps) × (held_place v ≡ get_or ps k nowhere)

held_at : (o : Option View) (m : Model) (k : ℕ) → Holds o m k → HeldAt o m.places k
held_at None m k h = h
held_at (Some v) m k h = (h.0, held_is v (value_of m k) (place_at m k) h.1)

-- the places after the first
after_none : (o : Option View) (k : ℕ) → HeldAt o [] (suc k) → HeldAt o [] k
after_none None k h = omega arith
after_none (Some v) k h = absurd (omega (arith, h.0))

after_one : (o : Option View) (r : Place) (ps : List Place) (k : ℕ) → HeldAt o (r ∷ ps) (suc k) → HeldAt o ps k
after_one None r ps k h = omega arith
after_one (Some v) r ps k h = (omega (arith, h.0), h.1)

held_same : (vs : List (Option View)) (ps : List Place) → length ps ≤ length vs → ((k : ℕ) → HeldAt (get_or vs k None) ps k) → map held_place (held_views vs) ≡ ps
held_same [] [] l h = refl
held_same [] (r ∷ ps) l h = absurd (omega arith)
held_same (None ∷ vs) [] l h = held_same vs [] (omega arith) (λ k. after_none (get_or vs k None) k (h (suc k)))
held_same (None ∷ vs) (r ∷ ps) l h = absurd (omega (arith, h 0))
held_same (Some v ∷ vs) [] l h = absurd (omega (arith, (h 0).0))
held_same (Some v ∷ vs) (r ∷ ps) l h = ap₂ (λ (x : Place) (xs : List Place). x ∷ xs) (h 0).1 (held_same vs ps (omega arith) (λ k. after_one (get_or vs k None) r ps k (h (suc k))))

-- the ledger that is held
module _ (m : Model) (height : ℕ) (vs : List (Option View)) (long : length vs ≡ 64) (lay : Laid m) (at : height ≡ m.height) (all : (k : ℕ) → Holds (get_or vs k None) m k) where
  pub copy_is : held_model height vs ≡ m
  copy_is =
      let few = lay.few in
      let places = held_same vs m.places (omega arith) (λ k. held_at (get_or vs k None) m k (all k)) in
      λ i. record { height = at i; places = places i }

  pub copy_laid : Laid (held_model height vs)
  copy_laid = subst Laid (sym copy_is) lay

  pub copy_holds : (k : ℕ) → Holds (get_or vs k None) (held_model height vs) k
  copy_holds = subst (λ (n : Model). (k : ℕ) → Holds (get_or vs k None) n k) (sym copy_is) all
