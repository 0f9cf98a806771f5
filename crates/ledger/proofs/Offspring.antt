-- Places with children.
use Rattle.std.proofs.Common.{◌≡◌, ℕ, zero, suc, ◌+◌, ◌<◌, Bool, true, false, ◌||◌, eqb, List, [], ◌∷◌, length, get_or, Some, None, Option, refl, ap, ◌∙◌, ⊎_elim, arith}
use Rattle.std.proofs.lemmas.Bool.{or_parts, or_cases, eq-eqb, eqb-true, both_ways}
use Rattle.std.specs.List.{list_any, range_with_len}
use Rattle.ledger.specs.declared.view.Parent.{Parent}
use Rattle.ledger.specs.Laws.{child, child_of, has_children}
use Rattle.ledger.specs.Model.{Model, Place, nowhere, place_at}
use Rattle.ledger.proofs.Changing.{some_same, none_some}

child_not : (q : ℕ) (o : Option Parent) (i : ℕ) → child_of q o ≡ false → o ≡ child q i → ⊥
child_not q None i h e = none_some e
child_not q (Some u) i h e = both_ways (eqb u.place q) h (eq-eqb u.place q (ap (λ (y : Parent). y.place) (some_same e)))

child_some : (q : ℕ) (o : Option Parent) → child_of q o ≡ true → (i : ℕ) × (o ≡ child q i)
child_some q None h = let z : ◌≡◌ {A = ℕ} 0 1 = cc in absurd (omega arith)
child_some q (Some u) h = (u.index, ap (λ n. child n u.index) (eqb-true u.place q h))

-- a place without children is nobody's parent
pub no_child : (q : ℕ) (ps : List Place) → has_children q ps ≡ false → (p i : ℕ) → (get_or ps p nowhere).parent ≡ child q i → ⊥
no_child q [] h p i e = none_some e
no_child q (r ∷ ps) h zero i e = child_not q r.parent i (or_parts (child_of q r.parent) (has_children q ps) h).0 e
no_child q (r ∷ ps) h (suc p) i e = no_child q ps (or_parts (child_of q r.parent) (has_children q ps) h).1 p i e

-- and one with children is somebody's
pub some_child : (q : ℕ) (ps : List Place) → has_children q ps ≡ true → (p : ℕ) × (i : ℕ) × (p < length ps) × ((get_or ps p nowhere).parent ≡ child q i)
some_child q [] h = let z : ◌≡◌ {A = ℕ} 0 1 = cc in absurd (omega arith)
some_child q (r ∷ ps) h =
    ⊎_elim
    (λ (a : child_of q r.parent ≡ true). let k = child_some q r.parent a in (0, k.0, omega arith, k.1))
    (λ (b : has_children q ps ≡ true). let k = some_child q ps b in (suc k.0, k.1, omega (arith, k.2), k.3))
    (or_cases (child_of q r.parent) (has_children q ps) h)

-- the search through the places
any_from : (q : ℕ) (test : ℕ → Bool) (ps : List Place) (a : ℕ) → ((i : ℕ) → i < length ps → test (a + i) ≡ child_of q (get_or ps i nowhere).parent) → list_any test (range_with_len a (length ps)) ≡ has_children q ps
any_from q test [] a h = refl
any_from q test (r ∷ ps) a h =
    let z : a ≡ a + 0 = omega arith in
    ap (λ b. b || list_any test (range_with_len (a + 1) (length ps))) (ap test z ∙ h 0 (omega arith))
    ∙ ap (λ b. child_of q r.parent || b) (any_from q test ps (a + 1) (λ i l. let e : a + 1 + i ≡ a + suc i = omega arith in ap test e ∙ h (suc i) (omega arith)))

pub any_child : (q : ℕ) (m : Model) → list_any (λ p. child_of q (place_at m p).parent) (range_with_len 0 (length m.places)) ≡ has_children q m.places
any_child q m = any_from q (λ p. child_of q (place_at m p).parent) m.places 0 (λ i l. let e : 0 + i ≡ i = omega arith in ap (λ k. child_of q (place_at m k).parent) e)
