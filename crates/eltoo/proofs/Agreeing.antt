-- An accepted agree keeps the agreed states fitting together.
use Rattle.std.proofs.Common.{◌≡◌, ℕ, ◌<◌, Bool, false, ◌⊎◌, List, length, get_or, set, Some, None, Option, is_none, sym, refl, ap, ◌∙◌, inl, inr, zero-add, arith, rules}
use Rattle.std.proofs.lemmas.List.{get_or-set_same, length-set}
use Rattle.std.proofs.lemmas.List.Folds.{list_any_at}
use Rattle.std.proofs.lemmas.List.FromFn.{length-range_with_len, get_or-range_with_len}
use Rattle.std.specs.List.{range_with_len}
use Rattle.std.proofs.lemmas.Bool.{cases_Bool, cases_eq, true≢false}
use Rattle.state.specs.declared.state.State.{State}
use Rattle.state.specs.declared.update.Update.{Update}
use Rattle.state.specs.Refusals.{accepted, first}
use Rattle.state.proofs.Checking.{Passed, all_passed}
use Rattle.ledger.specs.declared.view.Parent.{Parent}
use Rattle.ledger.specs.Model.{place_at, posted, settled, status}
use Rattle.ledger.proofs.Changing.{some_same, none_some}
use Rattle.eltoo.specs.Stations.{StationModel, count, total, newest_at, allotted, allotment_by, allotment, differs, binds_by, binds, any_below, agree_checks}
use Rattle.eltoo.proofs.Sound.{state_by, kept, Same, Stale, Sound}

pub none_below : (n : ℕ) (test : ℕ → Bool) → any_below n test ≡ false → (k : ℕ) → k < n → test k ≡ false
none_below n test e k lt =
    let is : get_or (range_with_len 0 n) k 0 ≡ k = get_or-range_with_len 0 n k 0 lt ∙ zero-add k in
    elim (cases_Bool (test k)) [
      | inl t ↦ absurd (true≢false (sym (list_any_at test (range_with_len 0 n) k 0 (omega (arith, length-range_with_len 0 n)) (ap test is ∙ t)) ∙ e))
      | inr f ↦ f
    ]

-- the newest states after x is kept
module _ (t : List (Option Update)) (u : Update) where
  abbrev pub keeping : List (Option Update)
  keeping = set t u.state.place (Some u)

  pub kept_here : u.state.place < length t → (p : ℕ) → p ≡ u.state.place → kept keeping p ≡ Some u.state
  kept_here lt p e = search rules

  pub kept_other : (p : ℕ) → (p ≡ u.state.place → ⊥) → kept keeping p ≡ kept t p
  kept_other p ne = search rules

-- an allotment that passes the checks
allotted_to : (o : Option ℕ) (v : ℕ) → is_none o ≡ false → differs o v ≡ false → o ≡ Some v
allotted_to None v a b = absurd (true≢false a)
allotted_to (Some w) v a b = search rules

-- a child with an agreed state has the amount that the new state gives it
unbound : (q : Parent) (o : Option Update) (x z : State) → binds_by (Some q) o x ≡ false → q.place ≡ x.place → state_by o ≡ Some z → get_or x.amounts q.index 0 ≡ total z
unbound q None x z b e k = absurd (none_some k)
unbound q (Some u) x z b e k = search rules

-- an accepted agree
module _ (s : StationModel) (r : ℕ) (x : State) (seal : ℕ) (ok : Sound s.newest s.ledger r) (h : first (agree_checks s x) ≡ accepted) where
  abbrev u : Update
  u = record { state = x; seal = seal }

  abbrev t' : List (Option Update)
  t' = keeping s.newest u

  passed : Passed (agree_checks s x)
  passed = all_passed (agree_checks s x) refl h

  within : x.place < count s.ledger
  within = search rules

  low : x.place < length s.newest
  low = search rules

  new : (p : ℕ) → p ≡ x.place → kept t' p ≡ Some x
  new p e = kept_here s.newest u low p e

  old : (p : ℕ) → (p ≡ x.place → ⊥) → kept t' p ≡ kept s.newest p
  old = kept_other s.newest u

  at_place : (p : ℕ) (z : State) → kept t' p ≡ Some z → (p ≡ x.place) ⊎ (p ≡ x.place → ⊥) → z.place ≡ p
  at_place p z k (inl e) = search rules
  at_place p z k (inr ne) = ok.placed p z (sym (old p ne) ∙ k)

  -- an allotment is as it was unless the parent is x's place
  same_allotment : (p : ℕ) (q : Parent) → (place_at s.ledger p).parent ≡ Some q → (q.place ≡ x.place → ⊥) → allotment s.ledger t' p ≡ allotment s.ledger s.newest p
  same_allotment p q e ne = search rules

  root_allotment : (p : ℕ) → (place_at s.ledger p).parent ≡ None → allotment s.ledger t' p ≡ allotment s.ledger s.newest p
  root_allotment p e = search rules

  checked : allotment s.ledger s.newest x.place ≡ Some (total x)
  checked = search rules

  is_x : (p : ℕ) (z : State) → p ≡ x.place → kept t' p ≡ Some z → x ≡ z
  is_x p z e k = some_same (sym (new p e) ∙ k)

  fit : (p : ℕ) (z : State) → p < count s.ledger → kept t' p ≡ Some z → (p ≡ x.place) ⊎ (p ≡ x.place → ⊥) → (o : Option Parent) → (place_at s.ledger p).parent ≡ o → allotment s.ledger t' p ≡ Some (total z)
  fit p z lt k (inl e) None i = search rules
  fit p z lt k (inl e) (Some q) i = search rules
  fit p z lt k (inr ne) None i = search rules
  fit p z lt k (inr ne) (Some q) i = by (cases_eq q.place x.place)
    where
      by : (q.place ≡ x.place) ⊎ (q.place ≡ x.place → ⊥) → allotment s.ledger t' p ≡ Some (total z)
      by (inr g) = same_allotment p q i g ∙ ok.fits p z lt (sym (old p ne) ∙ k)
      by (inl g) =
          let no_bound = none_below (count s.ledger) (binds s.ledger s.newest x) passed.1.1.1.1.1.1.0 p lt in
          let b : binds_by (Some q) (newest_at s.newest p) x ≡ false = sym (ap (λ (o : Option Parent). binds_by o (newest_at s.newest p) x) i) ∙ no_bound in
          ap (λ (o : Option Parent). allotment_by t' o (place_at s.ledger p).funding) i
          ∙ ap (λ n. allotted (newest_at t' n) q.index) g
          ∙ ap (λ (o : Option Update). allotted o q.index) (get_or-set_same s.newest x.place (Some u) None low)
          ∙ ap Some (unbound q (newest_at s.newest p) x z b g (sym (old p ne) ∙ k))

  po : (p n since : ℕ) (a : List ℕ) → p < count s.ledger → status s.ledger p ≡ posted n since a → (p ≡ x.place) ⊎ (p ≡ x.place → ⊥) → (z : State) × (kept t' p ≡ Some z) × (Same n a z ⊎ Stale s.ledger r n since z)
  po p n since a lt e (inl q) = search rules
  po p n since a lt e (inr ne) = let w = ok.posted_ok p n since a lt e in (w.0, old p ne ∙ w.1, w.2)

  se : (p n : ℕ) (a : List ℕ) → p < count s.ledger → status s.ledger p ≡ settled n a → (p ≡ x.place) ⊎ (p ≡ x.place → ⊥) → (z : State) × (kept t' p ≡ Some z) × Same n a z
  se p n a lt e (inl q) = search rules
  se p n a lt e (inr ne) = let w = ok.settled_ok p n a lt e in (w.0, old p ne ∙ w.1, w.2)

  pub sound_agree : Sound t' s.ledger r
  sound_agree =
      record {
        lawful = ok.lawful;
        long = length-set s.newest x.place (Some u) ∙ ok.long;
        placed = λ p z k. at_place p z k (cases_eq p x.place);
        fits = λ p z lt k. fit p z lt k (cases_eq p x.place) (place_at s.ledger p).parent refl;
        posted_ok = λ p n since a lt e. po p n since a lt e (cases_eq p x.place);
        settled_ok = λ p n a lt e. se p n a lt e (cases_eq p x.place);
      }
