-- The places that a place hangs from, and the sums that their delays make.
use Rattle.std.proofs.Common.{◌≡◌, ℕ, zero, suc, ◌+◌, ◌<◌, Bool, true, ◌||◌, eqb, ◌⊎◌, List, [], ◌∷◌, map, length, set, Some, None, sum, Option, sym, refl, ap, ◌∙◌, subst, inl, inr, arith, rules}
use Rattle.std.proofs.lemmas.List.{length-set}
use Rattle.std.proofs.lemmas.List.Sums.{sum_by-cons}
use Rattle.std.proofs.lemmas.Bool.{cases_eq, eqb-true, eq-eqb, or_left, or_right, or_cases, true≢false}
use Rattle.ledger.specs.declared.view.Parent.{Parent}
use Rattle.ledger.specs.Laws.{Laid, child}
use Rattle.ledger.specs.Model.{Model, place_at}
use Rattle.eltoo.specs.Lineage.{HangsFrom, from_parent, from_further, upward, lineage, among, Falling, LineagesList, wait}
use Rattle.eltoo.specs.Stations.{count, is_marked, mark_each}
use Rattle.eltoo.proofs.Moves.{Alike, parent_same, parent_below}

-- p or a place that it hangs from
abbrev pub Above : Model → ℕ → ℕ → Type 0
Above m p q = (q ≡ p) ⊎ HangsFrom m p q

hangs_more : {m : Model} {p q c i : ℕ} → HangsFrom m p q → (place_at m q).parent ≡ child c i → HangsFrom m p c
hangs_more (from_parent e) f = from_further e (from_parent f)
hangs_more (from_further e h) f = from_further e (hangs_more h f)

pub above_more : (m : Model) (p q c i : ℕ) → Above m p q → (place_at m q).parent ≡ child c i → Above m p c
above_more m p q c i (inl e) f = inr (from_parent (subst (λ n. (place_at m n).parent ≡ child c i) e f))
above_more m p q c i (inr h) f = inr (hangs_more h f)

hangs_alike : {m n : Model} → Alike m n → {p q : ℕ} → HangsFrom n p q → HangsFrom m p q
hangs_alike a (from_parent {p = p} e) = from_parent (sym (parent_same a p) ∙ e)
hangs_alike a (from_further {p = p} e h) = from_further (sym (parent_same a p) ∙ e) (hangs_alike a h)

pub above_alike : {m n : Model} → Alike m n → (p q : ℕ) → Above n p q → Above m p q
above_alike a p q (inl e) = inl e
above_alike a p q (inr h) = inr (hangs_alike a h)

module _ (m : Model) (laid : Laid m) where
  hangs_below : {p q : ℕ} → HangsFrom m p q → p < count m → q < p
  hangs_below (from_parent {p = p} {q = q} {i = i} e) lt = (parent_below m laid p q i lt e).0
  hangs_below (from_further {p = p} {q = q} {r = r} {i = i} e h) lt =
      let low : q < p = (parent_below m laid p q i lt e).0 in
      let next : r < q = hangs_below h (omega arith) in
      omega arith

  pub above_count : (p q : ℕ) → Above m p q → p < count m → q < count m
  above_count p q (inl e) lt = omega (arith, e, lt)
  above_count p q (inr h) lt = omega (arith, hangs_below h lt, lt)

  -- any fuel that reaches the root gives the same
  fuel : (n k p : ℕ) → p < n → p < k → p < count m → upward m.places n p ≡ upward m.places k p
  fuel zero k p a b lt = absurd (omega arith)
  fuel (suc n) zero p a b lt = absurd (omega arith)
  fuel (suc n) (suc k) p a b lt = go (place_at m p).parent refl (fuel n k)
    where
      go : (o : Option Parent) → (place_at m p).parent ≡ o → ((q : ℕ) → q < n → q < k → q < count m → upward m.places n q ≡ upward m.places k q) → upward m.places (suc n) p ≡ upward m.places (suc k) p
      go None e f = simp e
      go (Some u) e f = search rules

  pub lineage_root : (p : ℕ) → (place_at m p).parent ≡ None → lineage m p ≡ p ∷ []
  lineage_root p e = simp e

  pub lineage_child : (p q i : ℕ) → p < count m → (place_at m p).parent ≡ child q i → lineage m p ≡ p ∷ lineage m q
  lineage_child p q i lt e =
      let low = (parent_below m laid p q i lt e).0 in
      let s : lineage m p ≡ p ∷ upward m.places p q = simp e in
      s ∙ ap (λ (v : List ℕ). p ∷ v) (fuel p (suc q) q low (omega arith) (omega arith))

  -- what is listed is the place or what it hangs from
  listed : (n p q : ℕ) → among (upward m.places n p) q ≡ true → Above m p q
  listed zero p q h = absurd (true≢false (sym h))
  listed (suc n) p q h = go (place_at m p).parent refl (listed n) h
    where
      go : (o : Option Parent) → (place_at m p).parent ≡ o → ((c d : ℕ) → among (upward m.places n c) d ≡ true → Above m c d) → (eqb q p || among (elim (place_at m p).parent as (λ _. List ℕ) [ None ↦ [] | Some u ↦ upward m.places n u.place ]) q) ≡ true → Above m p q
      go None e f h = search rules
      go (Some u) e f h =
          let g : (eqb q p || among (upward m.places n u.place) q) ≡ true = simp e at h in
          elim (or_cases (eqb q p) (among (upward m.places n u.place) q) g) [
            | inl i ↦ inl (eqb-true q p i)
            | inr i ↦ elim (f u.place q i) [ inl same ↦ inr (subst (HangsFrom m p) (sym same) (from_parent e)) | inr far ↦ inr (from_further e far) ]
          ]

  hung : {p q : ℕ} → HangsFrom m p q → p < count m → among (lineage m p) q ≡ true
  hung (from_parent {p = p} {q = q} {i = i} e) lt =
      ap (λ (v : List ℕ). among v q) (lineage_child p q i lt e) ∙ or_right (eqb q p) (among (lineage m q) q) (or_left (eqb q q) _ (eq-eqb q q refl))
  hung (from_further {p = p} {q = q} {r = r} {i = i} e h) lt =
      let low = (parent_below m laid p q i lt e).0 in
      ap (λ (v : List ℕ). among v r) (lineage_child p q i lt e) ∙ or_right (eqb r p) (among (lineage m q) r) (hung h (omega arith))

  pub above_listed : (p q : ℕ) → Above m p q → p < count m → among (lineage m p) q ≡ true
  above_listed p q (inl e) lt = or_left (eqb q p) _ (eq-eqb q p e)
  above_listed p q (inr h) lt = hung h lt

  falls : (n p : ℕ) → p < count m → Falling (upward m.places n p)
  falls zero p lt = tt
  falls (suc n) p lt = go (place_at m p).parent refl (falls n)
    where
      go : (o : Option Parent) → (place_at m p).parent ≡ o → ((q : ℕ) → q < count m → Falling (upward m.places n q)) → Falling (upward m.places (suc n) p)
      go None e f = search rules
      go (Some u) e f =
          let low = (parent_below m laid p u.place u.index lt e).0 in
          simp e ((λ q h. elim (listed n u.place q h) [ inl same ↦ omega arith | inr far ↦ omega (arith, hangs_below far (omega arith)) ]), f u.place (omega arith))

pub lineages_list : LineagesList
lineages_list m laid p lt =
    record {
      members = λ q. (listed m laid (suc p) p q, (λ a. above_listed m laid p q a lt));
      once = falls m laid (suc p) p lt;
    }

-- the lineage depends on the layout alone
upward_alike : {m n : Model} → Alike m n → (k p : ℕ) → upward n.places k p ≡ upward m.places k p
upward_alike a zero p = refl
upward_alike {m = m} {n = n} a (suc k) p = go (place_at m p).parent refl (upward_alike a k)
  where
    go : (o : Option Parent) → (place_at m p).parent ≡ o → ((q : ℕ) → upward n.places k q ≡ upward m.places k q) → upward n.places (suc k) p ≡ upward m.places (suc k) p
    go None e f = search rules
    go (Some u) e f = search rules

-- the delays of some places, each with g
abbrev delays : Model → ℕ → List ℕ → ℕ
delays m g ls = sum (map (λ q. (place_at m q).delay + g) ls)

delays_more : (m : Model) (g p : ℕ) (ls : List ℕ) → delays m g (p ∷ ls) ≡ (place_at m p).delay + g + delays m g ls
delays_more m g p ls = sum_by-cons (λ v. v) ((place_at m p).delay + g) (map (λ q. (place_at m q).delay + g) ls)

delays_alike : {m n : Model} → Alike m n → (g : ℕ) (ls : List ℕ) → delays n g ls ≡ delays m g ls
delays_alike a g [] = refl
delays_alike {m = m} {n = n} a g (p ∷ ls) = search rules

-- the delays of the places that q hangs from, each with g
abbrev ahead_by : Model → ℕ → Option Parent → ℕ
ahead_by m g None = 0
ahead_by m g (Some u) = delays m g (lineage m u.place)

abbrev pub ahead : Model → ℕ → ℕ → ℕ
ahead m g q = ahead_by m g (place_at m q).parent

pub ahead_alike : {m n : Model} → Alike m n → (g q : ℕ) → ahead n g q ≡ ahead m g q
ahead_alike {m = m} {n = n} a g q = search rules
  where
    by : (o : Option Parent) → ahead_by n g o ≡ ahead_by m g o
    by None = refl
    by (Some u) = search rules

pub whole : (m : Model) → Laid m → (g p : ℕ) → p < count m → wait m g p ≡ g + ((place_at m p).delay + g + ahead m g p)
whole m laid g p lt = go (place_at m p).parent refl
  where
    go : (o : Option Parent) → (place_at m p).parent ≡ o → wait m g p ≡ g + ((place_at m p).delay + g + ahead m g p)
    go None e = search rules
    go (Some u) e =
        let a : ahead m g p ≡ delays m g (lineage m u.place) = ap (ahead_by m g) e in
        let l = ap (delays m g) (lineage_child m laid p u.place u.index lt e) in
        let d = delays_more m g p (lineage m u.place) in
        omega arith

pub ahead_child : (m : Model) → Laid m → (g p q i : ℕ) → p < count m → (place_at m p).parent ≡ child q i → ahead m g p ≡ (place_at m q).delay + g + ahead m g q
ahead_child m laid g p q i lt e =
    let low = (parent_below m laid p q i lt e).0 in
    let a : ahead m g p ≡ delays m g (lineage m q) = ap (ahead_by m g) e in
    let w = whole m laid g q (omega arith) in
    omega arith

pub mark_length : (ls : List ℕ) (ks : List Bool) → length (mark_each ls ks) ≡ length ks
mark_length [] ks = refl
mark_length (p ∷ ls) ks = mark_length ls (set ks p true) ∙ length-set ks p true

-- what marking each of some places does to a mark
pub mark_each_lem : (ls : List ℕ) (ks : List Bool) (q : ℕ) → q < length ks → is_marked (mark_each ls ks) q ≡ (among ls q || is_marked ks q)
mark_each_lem [] ks q lt = refl
mark_each_lem (p ∷ ls) ks q lt =
    mark_each_lem ls (set ks p true) q (subst (λ n. q < n) (sym (length-set ks p true)) lt) ∙ go (cases_eq q p)
  where
    go : (q ≡ p) ⊎ (q ≡ p → ⊥) → (among ls q || is_marked (set ks p true) q) ≡ ((eqb q p || among ls q) || is_marked ks q)
    go (inl e) = search rules
    go (inr ne) = search rules
