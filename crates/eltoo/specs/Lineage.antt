use Rattle.std.specs.Prelude.{◌≡◌, ℕ, zero, suc, ◌+◌, ◌<◌, Bool, true, false, ◌||◌, ◌⊎◌, List, [], ◌∷◌, map, length, Some, None, Decides, sum, ◌==◌, slice_index_or}
use Rattle.ledger.specs.Laws.{Laid, child}
use Rattle.ledger.specs.Model.{Model, Place, nowhere, place_at}

-- Which places a place hangs from.

-- a place hangs from its parent, and from all that its parent hangs from
pub data HangsFrom (m : Model) : ℕ → ℕ → Type 0 where
  from_parent : {p q i : ℕ} → (place_at m p).parent ≡ child q i → HangsFrom m p q
  from_further : {p q r i : ℕ} → (place_at m p).parent ≡ child q i → HangsFrom m q r → HangsFrom m p r

-- p, its parent, and so on upward, at most n places
abbrev pub upward : List Place → ℕ → ℕ → List ℕ
upward ps zero p = []
upward ps (suc n) p = p ∷ elim (slice_index_or ps p nowhere).parent [ None ↦ [] | Some u ↦ upward ps n u.place ]

-- p and all that it hangs from: a parent's number is lower, so p + 1 places reach the root
abbrev pub lineage : Model → ℕ → List ℕ
lineage m p = upward m.places (suc p) p

abbrev pub among : List ℕ → ℕ → Bool
among [] q = false
among (x ∷ xs) q = q == x || among xs q

-- each number is below the one before it, so that none stands twice
abbrev pub Falling : List ℕ → Type 0
Falling [] = Unit {0}
Falling (x ∷ xs) = ((q : ℕ) → among xs q ≡ true → q < x) × Falling xs

-- the lineage of a place lists it and each place that it hangs from, once
pub record LineageLists (m : Model) (p : ℕ) : Type 0 where
  pub members : (q : ℕ) → Decides (among (lineage m p) q) ((q ≡ p) ⊎ HangsFrom m p q)
  pub once : Falling (lineage m p)

abbrev pub LineagesList : Type 0
LineagesList = (m : Model) → Laid m → (p : ℕ) → p < length m.places → LineageLists m p

-- g, and for p and each place that it hangs from the delay of that place plus g
abbrev pub wait : Model → ℕ → ℕ → ℕ
wait m g p = g + sum (map (λ q. (place_at m q).delay + g) (lineage m p))
