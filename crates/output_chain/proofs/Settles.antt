-- A settlement.
use Rattle.std.proofs.Common.{◌≡◌, ℕ, ◌+◌, ◌<◌, ◌≤◌, true, cond, eqb, List, [], ◌∷◌, length, get_or, None, sum_by, Option, sym, refl, ap, ◌∙◌, subst, inl, inr, arith}
use Rattle.std.specs.List.{range_with_len}
use Rattle.std.proofs.lemmas.List.Sums.{sum_by-le-sum_by}
use Rattle.std.proofs.lemmas.Bool.Decides.{nat_tests}
use Rattle.std.proofs.lemmas.Bool.{cases_eq, le-ltb}
use Rattle.state.specs.Refusals.{accepted, first}
use Rattle.ledger.specs.Model.{Place, Stage, fresh, holds, done, place_at}
use Rattle.ledger.specs.Steps.{settled_stage, settle_checks, settle_next, with_stage}
use Rattle.output_chain.specs.declared.chain.OutputChain.{OutputChain}
use Rattle.output_chain.specs.declared.output.Output.{Output}
use Rattle.output_chain.specs.declared.output.Posted.{Posted}
use Rattle.output_chain.specs.declared.output.Unspent.{Unspent}
use Rattle.output_chain.specs.Chains.{model_of, InCell}
use Rattle.output_chain.specs.Coins.{Coin, in_cell, tally, outs, due, each, stage_in, stage_of}
use Rattle.output_chain.specs.Models.{fundings_of, backs, model_by}
use Rattle.output_chain.specs.Reading.{sum_change}
use Rattle.output_chain.specs.Steps.{Next, next_pool, kept, at_row}
use Rattle.output_chain.proofs.Posts.{exact, all, here, checks_by}

-- at most eight outputs to a place
size : (p v : ℕ) (s : Stage) → sum_by each (outs p v s) ≤ 8
size p v fresh = omega arith
size p v (holds n t a) = omega arith
size p v (done n a) = omega arith

-- where one place has one output, there are at most 57
few : (vs : List ℕ) (S : ℕ → Stage) (p : ℕ) → p < 8 → sum_by each (outs p (get_or vs p 0) (S p)) ≡ 1 → due vs S each ≤ 57
few vs S p l one =
    let k : ℕ → ℕ = λ q. cond (eqb q p) 1 8 in
    let c = sum_change (λ _. 8) k 0 8 p (omega arith) (omega arith) (λ q ne. grind (arith, nat_tests)) in
    let i : k p ≡ 1 = grind (arith, nat_tests) in
    let le =
    sum_by-le-sum_by (λ q. sum_by each (outs q (get_or vs q 0) (S q))) k (range_with_len 0 8)
    (λ q. elim (cases_eq q p) as (λ _. sum_by each (outs q (get_or vs q 0) (S q)) ≤ k q) [
      | inl e ↦ subst (λ x. sum_by each (outs x (get_or vs x 0) (S x)) ≤ k x) (sym e) (omega (arith, one, i))
      | inr ne ↦ let j : k q ≡ 8 = grind (arith, nat_tests) in let z = size q (get_or vs q 0) (S q) in omega (arith, j, z)
    ]) in
    omega (arith, c, i, le)

-- a settled stage shows what it showed
settled_backs : (v : ℕ) (s : Stage) (h : ℕ) → backs v s h ≡ true → backs v (settled_stage s) h ≡ true
settled_backs v fresh h e = refl
settled_backs v (holds n t a) h e = grind (arith, nat_tests)
settled_backs v (done n a) h e = e

module _ (c : OutputChain) (u : Unspent) (cell : InCell c u) where
  abbrev p : ℕ
  p = u.output.place

  abbrev S : Stage
  S = stage_of (tally c.pool) p

  abbrev v : ℕ
  v = get_or (fundings_of c.roots) p 0

  pub room_left : tally c.pool each + 7 ≤ length c.pool
  room_left =
      let e = exact c each in
      let r = c.room in
      let m = few (fundings_of c.roots) (stage_of (tally c.pool)) p cell.root (all c u cell each) in
      omega (arith, e, r, m)

  pub paid_due : (g : Posted) → stage_in u.output.kind ≡ holds g.number.value g.since.blocks g.amounts → g.since.blocks + (place_at (model_of c) p).delay ≤ c.height.blocks → first (settle_checks (model_of c) p) ≡ accepted
  paid_due g shows le =
      (checks_by c u cell).due g.number.value g.since.blocks g.amounts shows
      ∙ ap (λ b. first ((b, 13) ∷ [])) (le-ltb c.height.blocks (g.since.blocks + (place_at (model_of c) p).delay) le)

  -- a pool in which eight payouts stand for the output that was spent
  module _ (g : Posted) (next : List (Option Output)) (shows : stage_in u.output.kind ≡ holds g.number.value g.since.blocks g.amounts) (long : length next ≡ length c.pool)
      (paid : (f : Coin → ℕ) → tally next f + in_cell f (get_or c.pool u.cell None) ≡ tally c.pool f + sum_by f (outs p 0 (done g.number.value g.amounts))) where
    is-done : settled_stage S ≡ done g.number.value g.amounts
    is-done = ap settled_stage (sym (here c u cell).stage ∙ shows)

    pub paid_out : Next c.height.blocks c.roots c.pool next p (done g.number.value g.amounts)
    paid_out =
        next_pool c.height.blocks c.roots c.pool next p (done g.number.value g.amounts) (kept c) cell.root (long ∙ c.room)
        (ap (λ s. backs v s c.height.blocks) (sym is-done) ∙ settled_backs v S c.height.blocks (c.backed p cell.root))
        (λ f. ap (λ z. tally next f + z) (all c u cell f ∙ sym (ap (in_cell f) cell.is)) ∙ paid f)

    pub paid_model : model_by c.height.blocks c.roots next ≡ settle_next (model_of c) p
    paid_model =
        paid_out.model
        ∙ ap (λ s. with_stage (model_of c) p s) (sym (ap (λ (q : Place). settled_stage q.stage) (at_row c.height.blocks c.roots c.pool p cell.root) ∙ is-done))
