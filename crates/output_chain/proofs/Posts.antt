-- The output that a call spends, and a post.
use Rattle.std.proofs.Common.{◌≡◌, ℕ, ◌+◌, ◌<◌, Bool, true, false, not, eqb, ltb, Ok, List, [], ◌∷◌, get_or, set, cond, is_some, Some, None, position, sum_by, sum, Option, sym, refl, ap, ◌∙◌, subst, arith}
use Rattle.std.proofs.lemmas.List.{length-set, get_or_default}
use Rattle.std.proofs.lemmas.List.Quantifiers.{position-Some}
use Rattle.std.proofs.lemmas.List.Sums.{sum_by-set, fails_before_first}
use Rattle.std.proofs.lemmas.Bool.Decides.{nat_tests}
use Rattle.std.proofs.lemmas.Bool.{eq-eqb, ltb-false, eqb-true}
use Rattle.state.specs.declared.quantity.Height.{Height}
use Rattle.state.specs.declared.state.State.{State}
use Rattle.state.specs.Refusals.{refused, first}
use Rattle.state.proofs.Checking.{passed_over}
use Rattle.ledger.specs.Model.{Model, Place, Stage, fresh, holds, done, place_at, value_of}
use Rattle.ledger.specs.Steps.{Does, with_stage, post_next, is_done, not_newer, worth, place_checks, post_stage_checks, settle_stage_checks, post_checks, settle_checks}
use Rattle.output_chain.specs.declared.chain.OutputChain.{OutputChain}
use Rattle.output_chain.specs.declared.output.Output.{Output}
use Rattle.output_chain.specs.declared.output.Posted.{Posted}
use Rattle.output_chain.specs.declared.output.Kind.TheVariants.{Update}
use Rattle.output_chain.specs.declared.output.Unspent.{Unspent}
use Rattle.output_chain.specs.Chains.{model_of, InCell, ChecksBy, NoneLeft, Spends}
use Rattle.output_chain.specs.Coins.{Coin, update, coin_of, in_cell, tally, outs, own, spend, stage_in, stage_of}
use Rattle.output_chain.specs.Models.{backs, fundings_of, delays_of}
use Rattle.output_chain.specs.Pools.{is_held}
use Rattle.output_chain.specs.Reading.{Exact, due_own}
use Rattle.output_chain.specs.Spends.{Spent, spent, spent_here, none_done, not_paid, owned_by, not_unspent}
use Rattle.output_chain.proofs.Tallies.{none_in}
use Rattle.output_chain.specs.Steps.{Next, next_pool, kept, at_row, post_checks_lem, settle_checks_lem}

pub exact : (c : OutputChain) → Exact c.pool (fundings_of c.roots) (stage_of (tally c.pool))
exact c = (kept c).exact

-- nothing to spend
pub none_left : (c : OutputChain) (p : ℕ) → p < 8 → tally c.pool (own p spend) ≡ 0 → sum_by spend (outs p (get_or (fundings_of c.roots) p 0) (stage_of (tally c.pool) p)) ≡ 0
none_left c p l z = sym (exact c (own p spend) ∙ due_own (fundings_of c.roots) (stage_of (tally c.pool)) p l spend) ∙ z

settle_told : (s : Stage) (d h : ℕ) → is_done s ≡ true → first (settle_stage_checks s d h) ≡ refused 5
settle_told fresh d h e = absurd cc
settle_told (holds n t a) d h e = absurd cc
settle_told (done n a) d h e = refl

idle_told : (s : Stage) (d h : ℕ) → is_done s ≡ false → is_held s ≡ false → first (settle_stage_checks s d h) ≡ refused 14
idle_told fresh d h e f = refl
idle_told (holds n t a) d h e f = absurd cc
idle_told (done n a) d h e f = absurd cc

abbrev stage_at : OutputChain → ℕ → Stage
stage_at c p = stage_of (tally c.pool) p

abbrev value_in : OutputChain → ℕ → ℕ
value_in c p = get_or (fundings_of c.roots) p 0

abbrev wait_at : OutputChain → ℕ → ℕ
wait_at c p = get_or (delays_of c.roots) p 0

module _ (c : OutputChain) (p : ℕ) (l : p < 8) where
  posts : (x : State) → x.place ≡ p → first (post_checks (model_of c) x) ≡ first (post_stage_checks (value_in c p) (stage_at c p) x)
  posts x e =
      ap (λ q. first (place_checks (model_of c) q (post_stage_checks (worth (value_of (model_of c) q)) (place_at (model_of c) q).stage x))) e
      ∙ post_checks_lem c.height.blocks c.roots c.pool p l x

  settles : first (settle_checks (model_of c) p) ≡ first (settle_stage_checks (stage_at c p) (wait_at c p) c.height.blocks)
  settles = settle_checks_lem c.height.blocks c.roots c.pool p l

  all_settled : tally c.pool (own p spend) ≡ 0 → NoneLeft c p
  all_settled z =
      let e = none_done p (value_in c p) (stage_at c p) (none_left c p l z) in
      record {
        none = z;
        post = λ x i. posts x i ∙ ap (λ b. first ((b, 5) ∷ (not (eqb (sum x.amounts) (value_in c p)), 6) ∷ (not_newer (stage_at c p) x.number.value, 7) ∷ [])) e;
        settle = settles ∙ settle_told (stage_at c p) (wait_at c p) c.height.blocks e;
      }

module _ (c : OutputChain) (u : Unspent) (cell : InCell c u) where
  abbrev p : ℕ
  p = u.output.place

  one : in_cell (own p spend) (get_or c.pool u.cell None) ≡ 1
  one = ap (in_cell (own p spend)) cell.is ∙ cell.owned

  pub all : (f : Coin → ℕ) → sum_by f (outs p (value_in c p) (stage_at c p)) ≡ f (coin_of u.output)
  all f = spent c.pool (fundings_of c.roots) (stage_of (tally c.pool)) p u.cell (exact c) cell.root cell.there one f ∙ ap (in_cell f) cell.is

  pub here : Spent p (value_in c p) (stage_at c p) u.output.place u.output.value u.output.kind
  here = spent_here c.pool (fundings_of c.roots) (stage_of (tally c.pool)) p u.cell u.output (exact c) cell.root cell.there one cell.is

  unsettled : is_done (stage_in u.output.kind) ≡ false
  unsettled = not_paid p (get_or c.pool u.cell None) u.output one cell.is

  pub checks_by : ChecksBy (model_of c) p u.output
  checks_by =
      record {
        unsettled = unsettled;
        post = λ x i. posts c p cell.root x i ∙ ap (λ s. first (post_stage_checks (value_in c p) s x)) (sym here.stage) ∙ ap (λ w. first (post_stage_checks w (stage_in u.output.kind) x)) (sym here.value);
        idle = λ e. settles c p cell.root ∙ idle_told (stage_at c p) (wait_at c p) c.height.blocks (ap is_done (sym here.stage) ∙ unsettled) (ap is_held (sym here.stage) ∙ e);
        due = λ n t a e.
            settles c p cell.root
            ∙ ap (λ s. first (settle_stage_checks s (wait_at c p) c.height.blocks)) (sym here.stage ∙ e)
            ∙ ap (λ (q : Place). first ((ltb c.height.blocks (t + q.delay), 13) ∷ [])) (sym (at_row c.height.blocks c.roots c.pool p cell.root));
      }

-- what `find` found
abbrev wanted : ℕ → Option Output → Bool
wanted p cell = eqb (in_cell (own p spend) cell) 1

wanted_some : (p : ℕ) (cell : Option Output) → wanted p cell ≡ true → is_some cell ≡ true
wanted_some p None e = absurd cc
wanted_some p (Some o) e = refl

pub not_free : (p i : ℕ) (cells : List (Option Output)) (d : Option Output) → position (wanted p) cells ≡ Some i → is_some (get_or cells i d) ≡ true
not_free p i cells d e = wanted_some p (get_or cells i d) (position-Some (wanted p) cells i d e).1

pub found : (c : OutputChain) (p i : ℕ) (d : Option Output) (o : Output) → p < 8 → position (wanted p) c.pool ≡ Some i → get_or c.pool i d ≡ Some o → Spends c p (record { cell = i; output = o })
found c p i d o l e is =
    let first = position-Some (wanted p) c.pool i None e in
    let here : get_or c.pool i None ≡ Some o = get_or_default c.pool i None d first.0 ∙ is in
    let one : own p spend (coin_of o) ≡ 1 = ap (in_cell (own p spend)) (sym here) ∙ eqb-true _ 1 first.1 in
    let place = owned_by p o one in
    let cell : InCell c (record { cell = i; output = o }) = record { root = omega (arith, l, place); there = first.0; is = here; owned = subst (λ q. own q spend (coin_of o) ≡ 1) place one } in
    record { place = sym place; cell = cell; checks = subst (λ q. ChecksBy (model_of c) q o) (sym place) (checks_by c (record { cell = i; output = o }) cell) }

none_first : (b : Bool) (n : ℕ) → cond b (Some n) None ≡ None → b ≡ false
none_first true n e = absurd cc
none_first false n e = refl

pub not_found : (c : OutputChain) (p : ℕ) → p < 8 → position (wanted p) c.pool ≡ None → NoneLeft c p
not_found c p l e =
    let past = none_first _ _ e in
    all_settled c p l (none_in (own p spend) c.pool (λ i h. not_unspent p (get_or c.pool i None) (fails_before_first (wanted p) c.pool i None (let w = ltb-false _ _ past in omega (arith, w, h)))))

posted_backs : (v : ℕ) (x : State) (since : Height) (h : ℕ) → sum x.amounts ≡ v → since.blocks ≡ h → backs v (holds x.number.value since.blocks x.amounts) h ≡ true
posted_backs v x since h total same = grind (arith, nat_tests, x.long, x.number.low, x.number.high)

-- a pool in which an update output stands for the one that was spent
pub updated : (c : OutputChain) (u : Unspent) (x : State) (since : Height) → u.output.place ≡ x.place → InCell c u → sum x.amounts ≡ u.output.value → since ≡ c.height
    → Next c.height.blocks c.roots c.pool (set c.pool u.cell (Some (record { place = x.place; value = u.output.value; kind = Update (record { number = x.number; amounts = x.amounts; since = since }) }))) x.place (holds x.number.value since.blocks x.amounts)
updated c u x since place cell total same =
    let p = u.output.place in
    let v = get_or (fundings_of c.roots) p 0 in
    let g : Posted = record { number = x.number; amounts = x.amounts; since = since } in
    let y : Output = record { place = p; value = u.output.value; kind = Update g } in
    let at = here c u cell in
    subst (λ q. Next c.height.blocks c.roots c.pool (set c.pool u.cell (Some (record { place = q; value = u.output.value; kind = Update g }))) q (holds x.number.value since.blocks x.amounts)) place
    (next_pool c.height.blocks c.roots c.pool (set c.pool u.cell (Some y)) p (holds x.number.value since.blocks x.amounts) (kept c) cell.root (length-set c.pool u.cell _ ∙ c.room)
    (posted_backs v x since c.height.blocks (total ∙ at.value) (ap (λ (h : Height). h.blocks) same))
    (λ f.
    let w = sum_by-set (in_cell f) c.pool u.cell (Some y) None cell.there in
    let a = all c u cell f in
    let i : in_cell f (get_or c.pool u.cell None) ≡ f (coin_of u.output) = ap (in_cell f) cell.is in
    let b : f (coin_of y) ≡ f (update p v x.number.value x.amounts since.blocks) = ap f (ap (λ z. update p z x.number.value x.amounts since.blocks) at.value) in
    omega (arith, w, a, i, b)))

-- the checks of a post are passed, and it makes what it should
pub post_does : (c : OutputChain) (n : Model) (u : Unspent) (x : State) (since : Height) → u.output.place ≡ x.place → InCell c u → sum x.amounts ≡ u.output.value → not_newer (stage_in u.output.kind) x.number.value ≡ false → since ≡ c.height
    → n ≡ with_stage (model_of c) x.place (holds x.number.value since.blocks x.amounts) → Does {A = Unit {0}} (Ok tt) (model_of c) n (post_checks (model_of c) x) (post_next (model_of c) x)
post_does c n u x since place cell total newer same made =
    let s = stage_in u.output.kind in
    let v = u.output.value in
    let by = checks_by c u cell in
    let rest : List (Bool × ℕ) = (not_newer s x.number.value, 7) ∷ [] in
    let sums : not (eqb (sum x.amounts) v) ≡ false = ap not (eq-eqb (sum x.amounts) v total) in
    record {
      answers =
          sym (by.post x (sym place)
          ∙ passed_over (is_done s) 5 ((not (eqb (sum x.amounts) v), 6) ∷ rest) by.unsettled
          ∙ passed_over (not (eqb (sum x.amounts) v)) 6 rest sums
          ∙ passed_over (not_newer s x.number.value) 7 [] newer);
      leaves = made ∙ ap (λ (h : Height). with_stage (model_of c) x.place (holds x.number.value h.blocks x.amounts)) same;
    }
