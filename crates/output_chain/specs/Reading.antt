-- The stages are read back from the tallies of the pool.
use Rattle.std.specs.Prelude.{◌≡◌, ℕ, zero, suc, ◌+◌, ◌<◌, ◌≤◌, true, false, cond, List, map, length, sum_by, Option, ◌==◌, ◌≢◌, slice_index, slice_index_or, refl}
use Rattle.std.proofs.Common.{sym, ap, ◌∙◌, inl, inr, arith}
use Rattle.std.proofs.Math.Path.{fun_ext}
use Rattle.std.specs.List.{range_with_len}
use Rattle.std.proofs.lemmas.List.Sums.{sum_by-cons}
use Rattle.std.proofs.lemmas.Bool.Decides.{nat_tests}
use Rattle.std.proofs.lemmas.Bool.{eq-eqb, ne_eqb, cases_eq}
use Rattle.std.proofs.lemmas.List.FromFn.{fill_by_all}
use Rattle.ledger.specs.Model.{Stage, fresh, holds, done}
use Rattle.output_chain.specs.declared.output.Output.{Output}
use Rattle.output_chain.specs.Coins.{Coin, funding, update, payout, tally, outs, due, own, updates, payouts, number, since, amount, stage_by, stage_of}

-- the pool holds the outputs of these stages, and no others: each tally gives the same
abbrev pub Exact : List (Option Output) → List ℕ → (ℕ → Stage) → Type 0
Exact cells vs S = (f : Coin → ℕ) → tally cells f ≡ due vs S f

-- sums over a range of places
pub sum_none : (g : ℕ → ℕ) (a n : ℕ) → ((q : ℕ) → a ≤ q → g q ≡ 0) → sum_by g (range_with_len a n) ≡ 0
sum_none g a zero off = refl
sum_none g a (suc n) off =
    let e = sum_by-cons g a (range_with_len (a + 1) n) in
    let z = off a (omega arith) in
    let r = sum_none g (a + 1) n (λ q h. off q (omega arith)) in
    omega (arith, e, z, r)

pub sum_same : (g k : ℕ → ℕ) (a n : ℕ) → ((q : ℕ) → a ≤ q → q < a + n → g q ≡ k q) → sum_by g (range_with_len a n) ≡ sum_by k (range_with_len a n)
sum_same g k a zero same = refl
sum_same g k a (suc n) same =
    let x = sum_by-cons g a (range_with_len (a + 1) n) in
    let y = sum_by-cons k a (range_with_len (a + 1) n) in
    let z = same a (omega arith) (omega arith) in
    let r = sum_same g k (a + 1) n (λ q h l. same q (omega arith) (omega arith)) in
    omega (arith, x, y, z, r)

-- a change at one place
pub sum_change : (g k : ℕ → ℕ) (a n p : ℕ) → a ≤ p → p < a + n → ((q : ℕ) → (q ≢ p) → g q ≡ k q) → sum_by k (range_with_len a n) + g p ≡ sum_by g (range_with_len a n) + k p
sum_change g k a zero p lo hi off = absurd (omega arith)
sum_change g k a (suc n) p lo hi off =
    let e = sum_by-cons g a (range_with_len (a + 1) n) in
    let f = sum_by-cons k a (range_with_len (a + 1) n) in
    elim (cases_eq a p) [
      | inl i ↦
          let r = sum_same g k (a + 1) n (λ q h l. off q (λ j. omega arith)) in
          let u : g a ≡ g p = ap g i in
          let w : k a ≡ k p = ap k i in
          omega (arith, e, f, r, u, w)
      | inr ne ↦
          let r = sum_change g k (a + 1) n p (omega arith) (omega arith) off in
          let z = off a ne in
          omega (arith, e, f, r, z)
    ]

-- a sum with one term
pub sum_only : (g : ℕ → ℕ) (a n p : ℕ) → a ≤ p → p < a + n → ((q : ℕ) → (q ≢ p) → g q ≡ 0) → sum_by g (range_with_len a n) ≡ g p
sum_only g a n p lo hi off =
    let c = sum_change (λ _. 0) g a n p lo hi (λ q ne. sym (off q ne)) in
    let z = sum_none (λ _. 0) a n (λ _ _. refl) in
    omega (arith, c, z)

-- the outputs of a place are its own
own_outs : (p q v : ℕ) (s : Stage) (g : Coin → ℕ) → sum_by (own p g) (outs q v s) ≡ cond (p == q) (sum_by g (outs q v s)) 0
own_outs p q v fresh g = elim (p == q) as (λ b. 0 + cond b (g (funding q v)) 0 ≡ cond b (0 + g (funding q v)) 0) [ true ↦ refl | false ↦ refl ]
own_outs p q v (holds n h a) g = elim (p == q) as (λ b. 0 + cond b (g (update q v n a h)) 0 ≡ cond b (0 + g (update q v n a h)) 0) [ true ↦ refl | false ↦ refl ]
own_outs p q v (done n a) g =
    elim (p == q) as (λ b. sum_by (λ i. cond b (g (payout q i n (slice_index a i))) 0) (range_with_len 0 8) ≡ cond b (sum_by (λ i. g (payout q i n (slice_index a i))) (range_with_len 0 8)) 0) [ true ↦ refl | false ↦ refl ]

-- the tally of one place's outputs
pub due_own : (vs : List ℕ) (S : ℕ → Stage) (p : ℕ) → p < 8 → (g : Coin → ℕ) → due vs S (own p g) ≡ sum_by g (outs p (slice_index vs p) (S p))
due_own vs S p h g =
    sum_only (λ q. sum_by (own p g) (outs q (slice_index vs q) (S q))) 0 8 p (omega arith) (omega arith)
    (λ q ne. own_outs p q (slice_index vs q) (S q) g ∙ ap (λ b. cond b (sum_by g (outs q (slice_index vs q) (S q))) 0) (ne_eqb p q (λ i. ne (sym i))))
    ∙ own_outs p p (slice_index vs p) (S p) g
    ∙ ap (λ b. cond b (sum_by g (outs p (slice_index vs p) (S p))) 0) (eq-eqb p p refl)

-- amounts that are shown are eight
abbrev pub Wide : Stage → Type 0
Wide fresh = Unit {0}
Wide (holds n h a) = length a ≡ 8
Wide (done n a) = length a ≡ 8

abbrev pub shape_of : ((Coin → ℕ) → ℕ) → Stage
shape_of V = stage_by (V updates) (V payouts) (V number) (V since) (map (λ i. V (amount i)) (range_with_len 0 8))

pub pick : (n : ℕ) (a : List ℕ) (k : ℕ) → k < 8 → slice_index a k ≡ sum_by (λ i. cond (k == i) (slice_index a i) 0) (range_with_len 0 8)
pick n a k h =
    sym (sum_only (λ i. cond (k == i) (slice_index a i) 0) 0 8 k (omega arith) (omega arith) (λ q ne. grind (arith, nat_tests)) ∙ grind (arith, nat_tests))

-- the stage of a place from its own outputs
shape : (p v : ℕ) (s : Stage) → Wide s → stage_by (sum_by updates (outs p v s)) (sum_by payouts (outs p v s)) (sum_by number (outs p v s)) (sum_by since (outs p v s)) (map (λ i. sum_by (amount i) (outs p v s)) (range_with_len 0 8)) ≡ s
shape p v fresh w = refl
shape p v (holds n h a) w =
    let x : 0 + n ≡ n = omega arith in
    let y : 0 + h ≡ h = omega arith in
    let z = fill_by_all (λ i. sum_by (amount i) (outs p v (holds n h a))) a 8 0 w (λ k l. let t : slice_index_or a k 0 ≡ 0 + slice_index_or a k 0 = omega arith in t) in
    ap (λ i. holds i (0 + h) (map (λ i. sum_by (amount i) (outs p v (holds n h a))) (range_with_len 0 8))) x
    ∙ ap (λ i. holds n i (map (λ i. sum_by (amount i) (outs p v (holds n h a))) (range_with_len 0 8))) y
    ∙ ap (holds n h) (sym z)
shape p v (done n a) w =
    let x : sum_by number (outs p v (done n a)) ≡ n = omega arith in
    let z = fill_by_all (λ i. sum_by (amount i) (outs p v (done n a))) a 8 0 w (λ k l. pick n a k l) in
    ap (λ i. done i (map (λ i. sum_by (amount i) (outs p v (done n a))) (range_with_len 0 8))) x ∙ ap (done n) (sym z)

stage_same : {a b c d u v w x : ℕ} {l m : List ℕ} → a ≡ b → c ≡ d → u ≡ v → w ≡ x → l ≡ m → stage_by a c u w l ≡ stage_by b d v x m
stage_same i j k o q = cc

-- a pool that holds the outputs of some stages shows these stages
pub read_back : (W : (Coin → ℕ) → ℕ) (vs : List ℕ) (S : ℕ → Stage) → ((f : Coin → ℕ) → W f ≡ due vs S f) → (p : ℕ) → p < 8 → Wide (S p) → stage_of W p ≡ S p
read_back W vs S e p h w =
    let at : (g : Coin → ℕ) → W (own p g) ≡ sum_by g (outs p (slice_index vs p) (S p)) = λ g. e (own p g) ∙ due_own vs S p h g in
    stage_same (at updates) (at payouts) (at number) (at since) (ap (λ (k : ℕ → ℕ). map k (range_with_len 0 8)) (fun_ext (λ i. at (amount i))))
    ∙ shape p (slice_index vs p) (S p) w
