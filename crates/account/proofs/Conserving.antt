-- Every lawful ledger conserves: what is paid and what stands add up to the fundings.
use Rattle.std.proofs.Common.{◌≡◌, ℕ, ◌+◌, ◌<◌, Bool, true, false, cond, ◌&&◌, eqb, ◌⊎◌, List, length, get_or, Some, None, sum, Option, sym, refl, ap, ◌∙◌, subst, inl, inr, arith}
use Rattle.std.proofs.lemmas.Bool.{eqb-true, eq-eqb, ne_eqb, cases_Bool, and_parts}
use Rattle.state.specs.Limits.{parties}
use Rattle.ledger.specs.declared.view.Parent.{Parent}
use Rattle.ledger.specs.Laws.{Tied, Backed, Lawful, child, has_children}
use Rattle.ledger.specs.Model.{Model, Stage, fresh, holds, done, place_at, value_of, value_by, share, status_by}
use Rattle.ledger.specs.Steps.{worth}
use Rattle.ledger.proofs.Offspring.{no_child, some_child}
use Rattle.account.specs.Sums.{sum_to}
use Rattle.account.specs.Accounts.{is_root, pays, paid_at, stands, standing_at, Conserved}
use Rattle.account.proofs.Summing.{sum_same, sum_none, sum_add, sum_swap, sum_one, sum_list}

eight_sum : (a : List ℕ) → length a ≡ parties → sum_to parties (λ j. get_or a j 0) ≡ sum a
eight_sum a e = subst (λ n. sum_to n (λ j. get_or a j 0) ≡ sum a) e (sum_list a)

-- what a place hands on to its children
abbrev hands : Stage → ℕ → ℕ
hands s i = worth (share s i)

abbrev hands_all : Stage → Bool → ℕ
hands_all s factory = cond factory (sum_to parties (hands s)) 0

-- one place: what it pays, what stands in it and what it hands on are its value
place_sums : (v : Option ℕ) (s : Stage) (factory : Bool) (h : ℕ) → Backed v s h → sum_to parties (pays (status_by v s) factory) + stands (status_by v s) (worth v) + hands_all s factory ≡ worth v
place_sums None fresh true h b = refl
place_sums None fresh false h b = refl
place_sums (Some v) fresh true h b = omega arith
place_sums (Some v) fresh false h b = omega arith
place_sums v (holds n t a) true h b = omega arith
place_sums v (holds n t a) false h b = omega arith
place_sums v (done n a) true h b = let e = ap worth b.0 in let s = eight_sum a b.1 in omega arith
place_sums v (done n a) false h b = let e = ap worth b.0 in let s = eight_sum a b.1 in omega arith

module _ (m : Model) (law : Lawful m) where
  abbrev n : ℕ
  n = length m.places

  -- the amount at index i that q hands on, and what c takes of it
  abbrev handed : ℕ → ℕ → ℕ
  handed q i = hands (place_at m q).stage i

  abbrev takes_of : Option Parent → ℕ → ℕ → ℕ
  takes_of None q i = 0
  takes_of (Some u) q i = cond (eqb q u.place && eqb i u.index) (handed q i) 0

  abbrev takes : ℕ → ℕ → ℕ → ℕ
  takes c q i = takes_of (place_at m c).parent q i

  abbrev got_of : Option Parent → ℕ
  got_of None = 0
  got_of (Some u) = handed u.place u.index

  abbrev got : ℕ → ℕ
  got c = got_of (place_at m c).parent

  -- what c gets stands once in the table of all that is handed on
  got_table : (c : ℕ) → c < n → got c ≡ sum_to n (λ q. sum_to parties (λ i. takes c q i))
  got_table c lt = go (place_at m c).parent (law.laid.tied c lt)
    where
      go : (o : Option Parent) → Tied o (place_at m c).funding c → got_of o ≡ sum_to n (λ q. sum_to parties (λ i. takes_of o q i))
      go None t = sym (sum_none n (λ q. 0) (λ q k. refl))
      go (Some u) t =
          let q0 : eqb u.place u.place ≡ true = eq-eqb u.place u.place refl in
          let i0 : eqb u.index u.index ≡ true = eq-eqb u.index u.index refl in
          let inner : sum_to parties (λ i. takes_of (Some u) u.place i) ≡ handed u.place u.index
          = sum_one parties (λ i. takes_of (Some u) u.place i) u.index t.2 (λ i k ne. simp (q0, ne_eqb i u.index ne)) ∙ simp (q0, i0) in
          sym (sum_one n (λ q. sum_to parties (λ i. takes_of (Some u) q i)) u.place (omega (arith, t.1)) (λ q k ne. simp (ne_eqb q u.place ne)) ∙ inner)

  -- what all places take of q at i is what it hands on there, if it has children
  taken_at : (q i : ℕ) → i < parties → has_children q m.places ≡ true → sum_to n (λ c. takes c q i) ≡ handed q i
  taken_at q i lt has =
      let q0 : eqb q q ≡ true = eq-eqb q q refl in
      let i0 : eqb i i ≡ true = eq-eqb i i refl in
      sum_one n (λ c. takes c q i) kid.0 kid.1 (λ c k ne. other c k ne (place_at m c).parent refl) ∙ ap (λ o. takes_of o q i) kid.2 ∙ simp (q0, i0)
    where
      kid : (c : ℕ) × (c < n) × ((place_at m c).parent ≡ child q i)
      kid = let k = some_child q m.places has in law.eight k.0 q k.1 i k.2 k.3 lt

      other : (c : ℕ) → c < n → (c ≡ kid.0 → ⊥) → (o : Option Parent) → (place_at m c).parent ≡ o → takes_of o q i ≡ 0
      other c k ne None e = refl
      other c k ne (Some u) e = at (cases_Bool (eqb q u.place && eqb i u.index))
        where
          at : ((eqb q u.place && eqb i u.index) ≡ true) ⊎ ((eqb q u.place && eqb i u.index) ≡ false) → cond (eqb q u.place && eqb i u.index) (handed q i) 0 ≡ 0
          at (inr f) = simp f
          at (inl t) =
              let b = and_parts (eqb q u.place) (eqb i u.index) t in
              let qe = eqb-true q u.place b.0 in
              let ie = eqb-true i u.index b.1 in
              let mine : (place_at m c).parent ≡ child q i = e ∙ ap (λ x. child x u.index) (sym qe) ∙ ap (λ x. child q x) (sym ie) in
              absurd (ne (law.only c kid.0 q i k kid.1 mine kid.2))

  taken_none : (q i : ℕ) → has_children q m.places ≡ false → sum_to n (λ c. takes c q i) ≡ 0
  taken_none q i non = sum_none n (λ c. takes c q i) (λ c k. go c (place_at m c).parent refl)
    where
      go : (c : ℕ) (o : Option Parent) → (place_at m c).parent ≡ o → takes_of o q i ≡ 0
      go c None e = refl
      go c (Some u) e =
          let f : eqb q u.place ≡ false = ne_eqb q u.place (λ d. no_child q m.places non c u.index (e ∙ ap (λ x. child x u.index) (sym d))) in
          simp f

  handed_table : (q : ℕ) → sum_to parties (λ i. sum_to n (λ c. takes c q i)) ≡ hands_all (place_at m q).stage (has_children q m.places)
  handed_table q = go (has_children q m.places) refl
    where
      go : (b : Bool) → has_children q m.places ≡ b → sum_to parties (λ i. sum_to n (λ c. takes c q i)) ≡ hands_all (place_at m q).stage b
      go true e = sum_same parties (λ i. sum_to n (λ c. takes c q i)) (handed q) (λ i k. taken_at q i k e)
      go false e = sum_none parties (λ i. sum_to n (λ c. takes c q i)) (λ i k. taken_none q i e)

  abbrev hands_on : ℕ → ℕ
  hands_on q = hands_all (place_at m q).stage (has_children q m.places)

  all_handed : sum_to n got ≡ sum_to n hands_on
  all_handed =
      sum_same n got (λ c. sum_to n (λ q. sum_to parties (λ i. takes c q i))) got_table
      ∙ sum_swap n n (λ c q. sum_to parties (λ i. takes c q i))
      ∙ sum_same n (λ q. sum_to n (λ c. sum_to parties (λ i. takes c q i))) hands_on (λ q k. sum_swap n parties (λ c i. takes c q i) ∙ handed_table q)

  abbrev root_part : ℕ → ℕ
  root_part p = cond (is_root (place_at m p).parent) (place_at m p).funding 0

  -- the value of a place comes from outside or from its parent
  value_from : (o : Option Parent) (f : ℕ) → cond (is_root o) f 0 + got_of o ≡ worth (value_by m.places o f)
  value_from None f = omega arith
  value_from (Some u) f = omega arith

  each_place : (p : ℕ) → p < n → sum_to parties (λ j. paid_at m j p) + standing_at m p + hands_on p ≡ root_part p + got p
  each_place p lt = place_sums (value_of m p) (place_at m p).stage (has_children p m.places) m.height (law.backed p lt) ∙ sym (value_from (place_at m p).parent (place_at m p).funding)

  pub conserved : Conserved m
  conserved =
      let swapped = sum_swap parties n (λ j p. paid_at m j p) in
      let split₁ = sum_add n (λ p. sum_to parties (λ j. paid_at m j p) + standing_at m p) hands_on in
      let split₂ = sum_add n (λ p. sum_to parties (λ j. paid_at m j p)) (standing_at m) in
      let split₃ = sum_add n root_part got in
      let same = sum_same n (λ p. sum_to parties (λ j. paid_at m j p) + standing_at m p + hands_on p) (λ p. root_part p + got p) each_place in
      omega (arith, swapped, split₁, split₂, split₃, same, all_handed)
