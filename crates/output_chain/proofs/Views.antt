-- What the payouts of a settled place show.
use Rattle.std.proofs.Common.{◌≡◌, ℕ, ◌<◌, ◌≤◌, true, cond, eqb, map, get_or, is_some, Some, None, sum_by, Option, sym, refl, ap, ◌∙◌, arith}
use Rattle.std.specs.List.{range_with_len}
use Rattle.std.proofs.lemmas.List.Sums.{get_or-le-sum_by}
use Rattle.std.proofs.lemmas.Bool.Decides.{nat_tests}
use Rattle.ledger.specs.Model.{Stage, fresh, holds, done}
use Rattle.output_chain.specs.declared.output.Output.{Output}
use Rattle.output_chain.specs.declared.output.Payment.{Payment}
use Rattle.output_chain.specs.declared.chain.OutputChain.{OutputChain}
use Rattle.output_chain.specs.Coins.{Coin, payout, in_cell, tally, outs, own, spend, updates, payouts, number, since, amount, payout_at, stage_by, stage_of}
use Rattle.output_chain.specs.Models.{fundings_of}
use Rattle.output_chain.specs.Pools.{PaymentOf, Paid}
use Rattle.output_chain.specs.Reading.{sum_only, due_own, pick}
use Rattle.output_chain.specs.Spends.{same, times, same_coin, coin_same, seen_one}
use Rattle.output_chain.proofs.Posts.{exact, none_left}
use Rattle.output_chain.proofs.Tallies.{none_in}

paying : (m : Payment) (x : Option Output) (p k : ℕ) → PaymentOf (Some m) x p k → (f : Coin → ℕ) → in_cell f x ≡ f (payout p k m.number.value m.value)
paying m None p k h f = absurd h
paying m (Some o) p k h f = ap f h

payout_there : (p v : ℕ) (s : Stage) (k : ℕ) → k < 8 → sum_by spend (outs p v s) ≡ 0 → sum_by (payout_at k) (outs p v s) ≡ 1
payout_there p v fresh k l z = absurd (omega (arith, z))
payout_there p v (holds n t a) k l z = absurd (omega (arith, z))
payout_there p v (done n a) k l z =
    sum_only (λ j. cond (eqb k j) 1 0) 0 8 k (omega arith) (omega arith) (λ q ne. grind (arith, nat_tests)) ∙ grind (arith, nat_tests)

payout_is : (p v : ℕ) (s : Stage) (k m w : ℕ) → k < 8 → sum_by spend (outs p v s) ≡ 0 → ((g : Coin → ℕ) → g (payout p k m w) ≤ sum_by g (outs p v s)) → (m ≡ sum_by number (outs p v s)) × (w ≡ sum_by (amount k) (outs p v s))
payout_is p v fresh k m w l z le = absurd (omega (arith, z))
payout_is p v (holds n t a) k m w l z le = absurd (omega (arith, z))
payout_is p v (done n a) k m w l z le =
    let x = payout p k m w in
    let one : sum_by (times x) (outs p v (done n a)) ≡ times x (payout p k n (get_or a k 0)) =
    sum_only (λ j. times x (payout p j n (get_or a j 0))) 0 8 k (omega arith) (omega arith)
    (λ q ne. grind (arith, nat_tests)) in
    let me : times x x ≡ 1 = ap (λ b. cond b 1 0) (coin_same x) in
    let t = le (times x) in
    let i = same_coin x (payout p k n (get_or a k 0)) (seen_one (same x (payout p k n (get_or a k 0))) (omega (arith, one, me, t))) in
    let j : m ≡ n = cc in
    let o : w ≡ get_or a k 0 = cc in
    (omega (arith, j), o ∙ pick n a k l)

module _ (c : OutputChain) (p : ℕ) (l : p < 8) (z : tally c.pool (own p spend) ≡ 0) where
  abbrev S : Stage
  S = stage_of (tally c.pool) p

  abbrev v : ℕ
  v = get_or (fundings_of c.roots) p 0

  own_is : (g : Coin → ℕ) → tally c.pool (own p g) ≡ sum_by g (outs p v S)
  own_is g = exact c (own p g) ∙ due_own (fundings_of c.roots) (stage_of (tally c.pool)) p l g

  none_paid : (k : ℕ) → k < 8 → tally c.pool (own p (payout_at k)) ≡ 0 → ⊥
  none_paid k h e =
      let a = own_is (payout_at k) in
      let b = payout_there p v S k h (none_left c p l z) in
      omega (arith, e, a, b)

  pub must_pay : (r : Option Payment) (k : ℕ) → k < 8 → Paid r c.pool p k → is_some r ≡ true
  must_pay None k h none = absurd (none_paid k h (none_in (own p (payout_at k)) c.pool none))
  must_pay (Some m) k h there = refl

  pub pays_this : (k : ℕ) → k < 8 → (m : Payment) → Paid (Some m) c.pool p k → (m.number.value ≡ tally c.pool (own p number)) × (m.value ≡ tally c.pool (own p (amount k)))
  pays_this k h m there =
      let is = payout_is p v S k m.number.value m.value h (none_left c p l z)
      (λ g.
      let x = payout p k m.number.value m.value in
      let a = get_or-le-sum_by (in_cell (own p g)) c.pool there.0 None there.1 in
      let b = paying m (get_or c.pool there.0 None) p k there.2 (own p g) in
      let d : own p g x ≡ g x = grind (arith, nat_tests) in
      let e = own_is g in
      omega (arith, a, b, d, e)) in
      (is.0 ∙ sym (own_is number), is.1 ∙ sym (own_is (amount k)))

  none_up : (s : Stage) → sum_by spend (outs p v s) ≡ 0 → (sum_by updates (outs p v s) ≡ 0) × (sum_by payouts (outs p v s) ≡ 8)
  none_up fresh e = absurd (omega (arith, e))
  none_up (holds n t a) e = absurd (omega (arith, e))
  none_up (done n a) e = (refl, refl)

  pub stage_done : S ≡ done (tally c.pool (own p number)) (map (λ i. tally c.pool (own p (amount i))) (range_with_len 0 8))
  stage_done =
      let u = none_up S (none_left c p l z) in
      let N = tally c.pool (own p number) in
      let H = tally c.pool (own p since) in
      let L = map (λ i. tally c.pool (own p (amount i))) (range_with_len 0 8) in
      ap (λ a. stage_by a (tally c.pool (own p payouts)) N H L) (own_is updates ∙ u.0) ∙ ap (λ b. stage_by 0 b N H L) (own_is payouts ∙ u.1)
