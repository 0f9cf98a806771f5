-- Steps of the walk from a place up to its root.
use Rattle.std.proofs.Common.{◌≡◌, ℕ, suc, ◌<◌, ◌≤◌, Bool, true, ◌⊎◌, List, [], ◌∷◌, set, Some, None, Option, option_map, sym, refl, ap, ◌∙◌, inl, inr, arith}
use Rattle.std.proofs.lemmas.List.{get_or_past}
use Rattle.std.proofs.lemmas.Bool.{cases_lt}
use Rattle.ledger.specs.declared.view.Parent.{Parent}
use Rattle.ledger.specs.Laws.{Laid}
use Rattle.ledger.specs.Model.{Model, Place, nowhere, place_at}
use Rattle.ledger.proofs.Changing.{none_some}
use Rattle.eltoo.specs.Lineage.{lineage}
use Rattle.eltoo.specs.Stations.{count, mark_each}
use Rattle.eltoo.proofs.Moves.{parent_below}
use Rattle.eltoo.proofs.Lineages.{lineage_root, lineage_child}

-- what is left of the walk, from the next place on
abbrev pub onward : Model → Option ℕ → List ℕ
onward m None = []
onward m (Some p) = lineage m p

abbrev pub steps_left : Option ℕ → ℕ
steps_left None = 0
steps_left (Some p) = suc p

abbrev pub above : Model → ℕ → Option ℕ
above m p = option_map (λ (u : Parent). u.place) (place_at m p).parent

-- the walk goes on at the parent, and ends at the root
pub record Climbs (m : Model) (p : ℕ) : Type 0 where
  pub lower : steps_left (above m p) < suc p
  pub rest : lineage m p ≡ p ∷ onward m (above m p)

pub climbs : (m : Model) → Laid m → (p : ℕ) → Climbs m p
climbs m laid p = go (cases_lt p (count m)) (place_at m p).parent refl
  where
    by : (o : Option Parent) → (place_at m p).parent ≡ o → above m p ≡ option_map (λ (u : Parent). u.place) o
    by o e = ap (option_map (λ (u : Parent). u.place)) e

    go : (p < count m) ⊎ (count m ≤ p) → (o : Option Parent) → (place_at m p).parent ≡ o → Climbs m p
    go lt None e = record { lower = omega (arith, ap steps_left (by None e)); rest = lineage_root m laid p e ∙ sym (ap (λ o. p ∷ onward m o) (by None e)) }
    go (inl lt) (Some u) e =
        let low = (parent_below m laid p u.place u.index lt e).0 in
        record { lower = omega (arith, low, ap steps_left (by (Some u) e)); rest = lineage_child m laid p u.place u.index lt e ∙ sym (ap (λ o. p ∷ onward m o) (by (Some u) e)) }
    go (inr past) (Some u) e = absurd (none_some (sym (ap (λ (y : Place). y.parent) (get_or_past m.places p nowhere past)) ∙ e))

-- a mark more
pub mark_on : (m : Model) → Laid m → (p : ℕ) (q : Option ℕ) (ks ls : List Bool) → q ≡ above m p → ls ≡ set ks p true → mark_each (onward m q) ls ≡ mark_each (lineage m p) ks
mark_on m laid p q ks ls e f = ap (λ o. mark_each (onward m o) ls) e ∙ ap (mark_each (onward m (above m p))) f ∙ sym (ap (λ (v : List ℕ). mark_each v ks) (climbs m laid p).rest)
