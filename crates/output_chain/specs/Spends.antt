-- The output that stands for a place, and the pool after it is spent.
use Rattle.std.specs.Prelude.{◌≡◌, ℕ, ◌+◌, ◌<◌, ◌≤◌, Bool, true, false, cond, if◌then◌else◌, ◌&&◌, List, length, Some, None, sum_by, Option, nat_eq, ◌==◌, ◌≢◌, slice_index, slice_index_or, refl}
use Rattle.std.proofs.Common.{sym, ap, subst, ◌∙◌, arith}
use Rattle.std.specs.Bool.{Decides}
use Rattle.std.specs.Cmp.Lexicographic.{pointwise}
use Rattle.std.proofs.lemmas.Bool.Decides.{Decides-eqb, nat_tests}
use Rattle.std.proofs.lemmas.Slice.Eq.{slice_eq-Decides}
use Rattle.std.proofs.lemmas.List.Sums.{get_or-le-sum_by}
use Rattle.std.proofs.lemmas.Bool.{eq-eqb, ne_eqb, eqb-true}
use Rattle.ledger.specs.Model.{Stage, fresh, holds, done}
use Rattle.ledger.specs.Steps.{is_done}
use Rattle.output_chain.specs.declared.output.Output.{Output}
use Rattle.output_chain.specs.declared.output.Kind.{Kind}
use Rattle.output_chain.specs.declared.output.Kind.TheVariants.{Funding, Update, Payout}
use Rattle.output_chain.specs.declared.output.Posted.{Posted}
use Rattle.output_chain.specs.Coins.{Coin, funding, update, payout, coin_by, coin_of, each, stage_in, in_cell, tally, outs, owner, own, spend, updates, payouts}
use Rattle.output_chain.specs.Reading.{Exact, due_own, sum_change}

-- equality of outputs
abbrev pub same : Coin → Coin → Bool
same (funding p v) (funding q w) = p == q && v == w
same (funding p v) (update q w m b t) = false
same (funding p v) (payout q j m w) = false
same (update p v n a h) (funding q w) = false
same (update p v n a h) (update q w m b t) = p == q && (v == w && (n == m && (pointwise nat_eq a b && h == t)))
same (update p v n a h) (payout q j m w) = false
same (payout p i n v) (funding q w) = false
same (payout p i n v) (update q w m b t) = false
same (payout p i n v) (payout q j m w) = p == q && (i == j && (n == m && v == w))

-- counts an output
abbrev pub times : Coin → Coin → ℕ
times x y = if same x y then 1 else 0

false_true : {A : Type 0} → false ≡ true → A
false_true e = absurd cc

same_amounts : (a b : List ℕ) → Decides (pointwise nat_eq a b) (a ≡ b)
same_amounts a b = slice_eq-Decides Decides-eqb a b _ refl

pub same_coin : (x y : Coin) → same x y ≡ true → x ≡ y
same_coin (funding p v) (funding q w) e = grind (arith, nat_tests)
same_coin (funding p v) (update q w m b t) e = false_true e
same_coin (funding p v) (payout q j m w) e = false_true e
same_coin (update p v n a h) (funding q w) e = false_true e
same_coin (update p v n a h) (update q w m b t) e = grind (arith, nat_tests, (same_amounts a b).0)
same_coin (update p v n a h) (payout q j m w) e = false_true e
same_coin (payout p i n v) (funding q w) e = false_true e
same_coin (payout p i n v) (update q w m b t) e = false_true e
same_coin (payout p i n v) (payout q j m w) e = grind (arith, nat_tests)

yes : (n : ℕ) → (n == n) ≡ true
yes n = eq-eqb n n refl

pub coin_same : (x : Coin) → same x x ≡ true
coin_same (funding p v) = grind (arith, nat_tests)
coin_same (update p v n a h) = grind (arith, nat_tests, (same_amounts a a).1 refl)
coin_same (payout p i n v) = grind (arith, nat_tests)

owner_is : (q w : ℕ) (k : Kind) → owner (coin_by q w k) ≡ q
owner_is q w Funding = refl
owner_is q w (Update g) = refl
owner_is q w (Payout i n) = refl

owned : (b : Bool) (n : ℕ) → cond b n 0 ≡ 1 → b ≡ true
owned true n e = refl
owned false n e = absurd (omega arith)

pub seen_one : (b : Bool) → 1 ≤ cond b 1 0 → b ≡ true
seen_one true e = refl
seen_one false e = absurd (omega arith)

pub owned_by : (p : ℕ) (o : Output) → own p spend (coin_of o) ≡ 1 → p ≡ o.place
owned_by p o e = eqb-true p (owner (coin_of o)) (owned (p == owner (coin_of o)) (spend (coin_of o)) e) ∙ owner_is o.place o.value o.kind

spends_none : (b : Bool) (x : Coin) → (cond b (spend x) 0 == 1) ≡ false → cond b (spend x) 0 ≡ 0
spends_none true (funding p v) e = false_true (sym e)
spends_none true (update p v n a h) e = false_true (sym e)
spends_none true (payout p i n v) e = refl
spends_none false x e = refl

-- a cell that has no output to be spent of a place
pub not_unspent : (p : ℕ) (c : Option Output) → (in_cell (own p spend) c == 1) ≡ false → in_cell (own p spend) c ≡ 0
not_unspent p None e = refl
not_unspent p (Some o) e = spends_none (p == owner (coin_of o)) (coin_of o) e

-- the only output that there is
one_of : (p : ℕ) (x y : Coin) → own p spend x ≡ 1 → own p (times x) x ≤ 0 + times x y → x ≡ y
one_of p x y e l =
    let m : own p (times x) x ≡ 1 = ap (λ b. cond b (times x x) 0) (owned (p == owner x) (spend x) e) ∙ ap (λ b. cond b 1 0) (coin_same x) in
    same_coin x y (seen_one (same x y) (omega (arith, m, l)))

spent_coin : (p v : ℕ) (s : Stage) (x : Coin) → own p spend x ≡ 1 → ((g : Coin → ℕ) → own p g x ≤ sum_by g (outs p v s)) → (f : Coin → ℕ) → sum_by f (outs p v s) ≡ f x
spent_coin p v fresh x e le f = let i : f x ≡ f (funding p v) = ap f (one_of p x (funding p v) e (le (times x))) in omega (arith, i)
spent_coin p v (holds n h a) x e le f = let i : f x ≡ f (update p v n a h) = ap f (one_of p x (update p v n a h) e (le (times x))) in omega (arith, i)
spent_coin p v (done n a) x e le f = let l : own p spend x ≤ 0 = le spend in absurd (omega (arith, e, l))

spent_cell : (p v : ℕ) (s : Stage) (c : Option Output) → in_cell (own p spend) c ≡ 1 → ((g : Coin → ℕ) → in_cell (own p g) c ≤ sum_by g (outs p v s)) → (f : Coin → ℕ) → sum_by f (outs p v s) ≡ in_cell f c
spent_cell p v s None e le f = absurd (omega arith)
spent_cell p v s (Some o) e le f = spent_coin p v s (coin_of o) e le f

-- a funding or update output of a place is all that the place has
pub spent : (cells : List (Option Output)) (vs : List ℕ) (S : ℕ → Stage) (p i : ℕ) → Exact cells vs S → p < 8 → i < length cells → in_cell (own p spend) (slice_index_or cells i None) ≡ 1 → (f : Coin → ℕ) → sum_by f (outs p (slice_index vs p) (S p)) ≡ in_cell f (slice_index_or cells i None)
spent cells vs S p i ex h l e =
    spent_cell p (slice_index vs p) (S p) (slice_index_or cells i None) e
    (λ g. subst (λ n. in_cell (own p g) (slice_index_or cells i None) ≤ n) (ex (own p g) ∙ due_own vs S p h g) (get_or-le-sum_by (in_cell (own p g)) cells i None l))

-- the output that is spent stands for the place
pub record Spent (p v : ℕ) (s : Stage) (q w : ℕ) (k : Kind) : Type 0 where
  pub place : q ≡ p
  pub value : w ≡ v
  pub stage : stage_in k ≡ s

own_one : (b : Bool) (n : ℕ) → cond b n 0 ≡ 1 → n ≡ 1
own_one true n e = e
own_one false n e = absurd (omega arith)

-- all that the place has is that output
seen_once : (x y : Coin) → 0 + times x y ≡ times x x → x ≡ y
seen_once x y e = let me : times x x ≡ 1 = ap (λ b. cond b 1 0) (coin_same x) in same_coin x y (seen_one (same x y) (omega (arith, e, me)))

funding_is : (p v q w : ℕ) → funding q w ≡ funding p v → Spent p v fresh q w Funding
funding_is p v q w e = record { place = cc; value = cc; stage = refl }

update_is : (p v n t : ℕ) (a : List ℕ) (q w : ℕ) (g : Posted) → update q w g.number.value g.amounts g.since.blocks ≡ update p v n a t → Spent p v (holds n t a) q w (Update g)
update_is p v n t a q w g e = record { place = cc; value = cc; stage = cc }

spent_is : (p v : ℕ) (s : Stage) (q w : ℕ) (k : Kind) → own p spend (coin_by q w k) ≡ 1 → ((f : Coin → ℕ) → sum_by f (outs p v s) ≡ f (coin_by q w k)) → Spent p v s q w k
spent_is p v fresh q w Funding one e = funding_is p v q w (seen_once (funding q w) (funding p v) (e (times (funding q w))))
spent_is p v (holds n t a) q w Funding one e = let z = e updates in absurd (omega (arith, z))
spent_is p v (done n a) q w Funding one e = let z = e payouts in absurd (omega (arith, z))
spent_is p v fresh q w (Update g) one e = let z = e updates in absurd (omega (arith, z))
spent_is p v (holds n t a) q w (Update g) one e =
    let x : Coin = update q w g.number.value g.amounts g.since.blocks in update_is p v n t a q w g (seen_once x (update p v n a t) (e (times x)))
spent_is p v (done n a) q w (Update g) one e = let z = e updates in absurd (omega (arith, z))
spent_is p v s q w (Payout j m) one e = let z = own_one (p == q) 0 one in absurd (omega (arith, z))

pub spent_here : (cells : List (Option Output)) (vs : List ℕ) (S : ℕ → Stage) (p i : ℕ) (o : Output) → Exact cells vs S → p < 8 → i < length cells → in_cell (own p spend) (slice_index_or cells i None) ≡ 1 → slice_index_or cells i None ≡ Some o → Spent p (slice_index vs p) (S p) o.place o.value o.kind
spent_here cells vs S p i o ex h l one is =
    spent_is p (slice_index vs p) (S p) o.place o.value o.kind (ap (in_cell (own p spend)) (sym is) ∙ one) (λ f. spent cells vs S p i ex h l one f ∙ ap (in_cell f) is)

pub own_spend : (p : ℕ) (c : Option Output) → in_cell (own p spend) c ≡ 1 → in_cell spend c ≡ 1
own_spend p None e = e
own_spend p (Some o) e = own_one (p == owner (coin_of o)) (spend (coin_of o)) e

-- a cell with an output to be spent is not free
pub full : (p : ℕ) (c : Option Output) → in_cell (own p spend) c ≡ 1 → in_cell each c ≡ 1
full p None e = e
full p (Some o) e = refl

spends : (k : Kind) (q w : ℕ) → spend (coin_by q w k) ≡ 1 → is_done (stage_in k) ≡ false
spends Funding q w e = refl
spends (Update g) q w e = refl
spends (Payout i n) q w e = absurd (omega arith)

pub not_paid : (p : ℕ) (c : Option Output) (o : Output) → in_cell (own p spend) c ≡ 1 → c ≡ Some o → is_done (stage_in o.kind) ≡ false
not_paid p c o one is = spends o.kind o.place o.value (own_spend p (Some o) (ap (in_cell (own p spend)) (sym is) ∙ one))

-- a place with nothing to spend is settled
pub none_done : (p v : ℕ) (s : Stage) → sum_by spend (outs p v s) ≡ 0 → is_done s ≡ true
none_done p v fresh z = absurd (omega (arith, z))
none_done p v (holds m t b) z = absurd (omega (arith, z))
none_done p v (done m b) z = refl

-- another stage at one place
abbrev pub put : (ℕ → Stage) → ℕ → Stage → ℕ → Stage
put S p s q = if q == p then s else S q

pub put_same : (S : ℕ → Stage) (p : ℕ) (s : Stage) → put S p s p ≡ s
put_same S p s = ap (λ b. cond b s (S p)) (yes p)

pub put_other : (S : ℕ → Stage) (p : ℕ) (s : Stage) (q : ℕ) → (q ≢ p) → put S p s q ≡ S q
put_other S p s q ne = ap (λ b. cond b s (S q)) (ne_eqb q p ne)

-- a pool in which the outputs of one place gave way to those of its next stage
pub moved : (cells next : List (Option Output)) (vs : List ℕ) (S : ℕ → Stage) (p : ℕ) (s : Stage) → Exact cells vs S → p < 8 → ((f : Coin → ℕ) → tally next f + sum_by f (outs p (slice_index vs p) (S p)) ≡ tally cells f + sum_by f (outs p (slice_index vs p) s)) → Exact next vs (put S p s)
moved cells next vs S p s ex h e f =
    let c = sum_change (λ q. sum_by f (outs q (slice_index vs q) (S q))) (λ q. sum_by f (outs q (slice_index vs q) (put S p s q))) 0 8 p (omega arith) (omega arith) (λ q ne. ap (λ x. sum_by f (outs q (slice_index vs q) x)) (sym (put_other S p s q ne))) in
    let i : sum_by f (outs p (slice_index vs p) (put S p s p)) ≡ sum_by f (outs p (slice_index vs p) s) = ap (λ x. sum_by f (outs p (slice_index vs p) x)) (put_same S p s) in
    let a = e f in
    let b = ex f in
    omega (arith, a, b, c, i)
