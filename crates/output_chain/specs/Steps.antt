-- The model's step from the pool's.
use Rattle.std.specs.Prelude.{◌≡◌, ℕ, ◌+◌, ◌<◌, ◌≤◌, Bool, true, false, not, List, [], ◌∷◌, length, Some, None, sum_by, Option, nat_lt, slice_index, slice_index_or, slice_set, refl}
use Rattle.std.proofs.Common.{sym, ap, subst, ◌∙◌, inl, inr, arith}
use Rattle.std.specs.List.{range_with_len, flat_map}
use Rattle.std.proofs.lemmas.List.Sums.{sum_by-cons, sum_by-append}
use Rattle.std.proofs.lemmas.List.{ext_get_or, get_or-set_same, get_or-set_other, length-set}
use Rattle.std.proofs.lemmas.List.FromFn.{get_or-map-range_with_len, length-map-range_with_len}
use Rattle.std.proofs.lemmas.Bool.Decides.{nat_tests}
use Rattle.std.proofs.lemmas.Bool.{cases_eq, lt-ltb}
use Rattle.ledger.specs.declared.setup.Terms.{Terms}
use Rattle.state.specs.declared.state.State.{State}
use Rattle.state.specs.Refusals.{first}
use Rattle.state.proofs.Checking.{passed_over}
use Rattle.ledger.specs.Model.{Model, Place, Stage, fresh, holds, done, place_at, nowhere, value_of, value_by}
use Rattle.ledger.specs.Steps.{is_none, worth, staged, with_stage, place_checks, post_stage_checks, settle_stage_checks, settle_checks}
use Rattle.output_chain.specs.declared.chain.OutputChain.{OutputChain}
use Rattle.output_chain.specs.declared.output.Output.{Output}
use Rattle.output_chain.specs.Coins.{Coin, tally, outs, due, stage_of}
use Rattle.output_chain.specs.Models.{backs, fundings_of, delays_of, row_by, places_by, model_by, outputs_of, PoolIs}
use Rattle.output_chain.specs.Reading.{Exact, sum_same, Wide, read_back}
use Rattle.output_chain.specs.Spends.{put, put_same, put_other, moved}

-- what an output chain keeps
pub record Kept (h : ℕ) (ts : List Terms) (cells : List (Option Output)) : Type 0 where
  pub eight : length ts ≡ 8
  pub room : length cells ≡ 64
  pub exact : Exact cells (fundings_of ts) (stage_of (tally cells))
  pub backed : (p : ℕ) → p < 8 → backs (slice_index (fundings_of ts) p) (stage_of (tally cells) p) h ≡ true

wide : (v : ℕ) (s : Stage) (h : ℕ) → backs v s h ≡ true → Wide s
wide v fresh h e = tt
wide v (holds n t a) h e = grind (arith, nat_tests)
wide v (done n a) h e = grind (arith, nat_tests)

pub place_row : (ds vs : List ℕ) (S : ℕ → Stage) (p : ℕ) → p < 8 → slice_index_or (places_by ds vs S) p nowhere ≡ row_by ds vs S p
place_row ds vs S p h = get_or-map-range_with_len (row_by ds vs S) 0 8 p p nowhere h (omega arith)

pub places_eight : (ds vs : List ℕ) (S : ℕ → Stage) → length (places_by ds vs S) ≡ 8
places_eight ds vs S = length-map-range_with_len (row_by ds vs S) 0 8

places_put : (ds vs : List ℕ) (S T : ℕ → Stage) (p : ℕ) (s : Stage) → p < 8 → ((q : ℕ) → q < 8 → T q ≡ put S p s q) → places_by ds vs T ≡ slice_set (places_by ds vs S) p (staged (slice_index_or (places_by ds vs S) p nowhere) s)
places_put ds vs S T p s h same =
    let old = places_by ds vs S in
    let row = staged (slice_index_or old p nowhere) s in
    let within : p < length old = omega arith in
    ext_get_or nowhere (places_by ds vs T) (slice_set old p row) (sym (length-set old p row))
    (λ q l.
    let lq : q < 8 = omega arith in
    place_row ds vs T q lq
    ∙ elim (cases_eq q p) as (λ _. row_by ds vs T q ≡ slice_index_or (slice_set old p row) q nowhere) [
      | inl e ↦
          subst (λ x. row_by ds vs T x ≡ slice_index_or (slice_set old p row) x nowhere) (sym e)
          (ap (λ x. record { parent = None; delay = slice_index ds p; funding = slice_index vs p; stage = x }) (same p h ∙ put_same S p s)
          ∙ ap (λ (r : Place). staged r s) (sym (place_row ds vs S p h))
          ∙ sym (get_or-set_same old p row nowhere within))
      | inr ne ↦
          ap (λ x. record { parent = None; delay = slice_index ds q; funding = slice_index vs q; stage = x }) (same q lq ∙ put_other S p s q ne)
          ∙ sym (place_row ds vs S q lq)
          ∙ sym (get_or-set_other old p q row nowhere ne)
    ])

sum_joined : (f : Coin → ℕ) (k : ℕ → List Coin) (xs : List ℕ) → sum_by f (flat_map k xs) ≡ sum_by (λ x. sum_by f (k x)) xs
sum_joined f k [] = refl
sum_joined f k (x ∷ xs) =
    let a = sum_by-append f (k x) (flat_map k xs) in
    let b = sum_by-cons (λ y. sum_by f (k y)) x xs in
    let r = sum_joined f k xs in
    omega (arith, a, b, r)

-- the outputs of the model have the tallies of those of the stages
pooled_due : (h : ℕ) (ts : List Terms) (cells : List (Option Output)) (f : Coin → ℕ) → sum_by f (outputs_of (model_by h ts cells)) ≡ due (fundings_of ts) (stage_of (tally cells)) f
pooled_due h ts cells f =
    let m = model_by h ts cells in
    sum_joined f (λ p. outs p (place_at m p).funding (place_at m p).stage) (range_with_len 0 8)
    ∙ sum_same (λ q. sum_by f (outs q (place_at m q).funding (place_at m q).stage)) (λ q. sum_by f (outs q (slice_index (fundings_of ts) q) (stage_of (tally cells) q))) 0 8
    (λ q _ l. ap (λ (r : Place). sum_by f (outs q r.funding r.stage)) (place_row (delays_of ts) (fundings_of ts) (stage_of (tally cells)) q (omega arith)))

pub pooled_by : (h : ℕ) (ts : List Terms) (cells : List (Option Output)) → Exact cells (fundings_of ts) (stage_of (tally cells)) → PoolIs cells (model_by h ts cells)
pooled_by h ts cells ex f = ex f ∙ sym (pooled_due h ts cells f)

pub exact_of : (h : ℕ) (ts : List Terms) (cells : List (Option Output)) → PoolIs cells (model_by h ts cells) → Exact cells (fundings_of ts) (stage_of (tally cells))
exact_of h ts cells is f = is f ∙ pooled_due h ts cells f

-- a pool after a step at one place
pub record Next (h : ℕ) (ts : List Terms) (cells next : List (Option Output)) (p : ℕ) (s : Stage) : Type 0 where
  pub kept : Kept h ts next
  pub pooled : PoolIs next (model_by h ts next)
  pub model : model_by h ts next ≡ with_stage (model_by h ts cells) p s

pub next_pool : (h : ℕ) (ts : List Terms) (cells next : List (Option Output)) (p : ℕ) (s : Stage) → Kept h ts cells → p < 8 → length next ≡ 64 → backs (slice_index (fundings_of ts) p) s h ≡ true → ((f : Coin → ℕ) → tally next f + sum_by f (outs p (slice_index (fundings_of ts) p) (stage_of (tally cells) p)) ≡ tally cells f + sum_by f (outs p (slice_index (fundings_of ts) p) s)) → Next h ts cells next p s
next_pool h ts cells next p s k l long good e =
    let S = stage_of (tally cells) in
    let ex = moved cells next (fundings_of ts) S p s k.exact l e in
    let goods : (q : ℕ) → q < 8 → backs (slice_index (fundings_of ts) q) (put S p s q) h ≡ true =
    λ q lq. elim (cases_eq q p) as (λ _. backs (slice_index (fundings_of ts) q) (put S p s q) h ≡ true) [
      | inl i ↦ subst (λ x. backs (slice_index (fundings_of ts) x) (put S p s x) h ≡ true) (sym i) (ap (λ x. backs (slice_index (fundings_of ts) p) x h) (put_same S p s) ∙ good)
      | inr ne ↦ ap (λ x. backs (slice_index (fundings_of ts) q) x h) (put_other S p s q ne) ∙ k.backed q lq
    ] in
    let back : (q : ℕ) → q < 8 → stage_of (tally next) q ≡ put S p s q = λ q lq. read_back (tally next) (fundings_of ts) (put S p s) ex q lq (wide (slice_index (fundings_of ts) q) (put S p s q) h (goods q lq)) in
    let all : Exact next (fundings_of ts) (stage_of (tally next)) = λ f. ex f ∙ sum_same (λ q. sum_by f (outs q (slice_index (fundings_of ts) q) (put S p s q))) (λ q. sum_by f (outs q (slice_index (fundings_of ts) q) (stage_of (tally next) q))) 0 8 (λ q _ lq. ap (λ x. sum_by f (outs q (slice_index (fundings_of ts) q) x)) (sym (back q (omega arith)))) in
    record {
      kept = record {
        eight = k.eight;
        room = long;
        exact = all;
        backed = λ q lq. ap (λ x. backs (slice_index (fundings_of ts) q) x h) (back q lq) ∙ goods q lq;
      };
      pooled = pooled_by h ts next all;
      model = ap (λ (ps : List Place). record { height = h; places = ps }) (places_put (delays_of ts) (fundings_of ts) S (stage_of (tally next)) p s l back);
    }

-- the checks at a place come to those of its stage
module _ (h : ℕ) (ts : List Terms) (cells : List (Option Output)) (p : ℕ) (within : p < 8) where
  abbrev m : Model
  m = model_by h ts cells

  abbrev S : Stage
  S = stage_of (tally cells) p

  pub at_row : place_at m p ≡ row_by (delays_of ts) (fundings_of ts) (stage_of (tally cells)) p
  at_row = place_row (delays_of ts) (fundings_of ts) (stage_of (tally cells)) p within

  pub value_at : value_of m p ≡ Some (slice_index (fundings_of ts) p)
  value_at = ap (λ (q : Place). value_by m.places q.parent q.funding) at_row

  pub there : p < length m.places
  there = let e = places_eight (delays_of ts) (fundings_of ts) (stage_of (tally cells)) in omega (arith, e)

  checks_at_lem : (rest : List (Bool × ℕ)) → first (place_checks m p rest) ≡ first rest
  checks_at_lem rest =
      let l = there in
      let a : not (nat_lt p (length m.places)) ≡ false = ap not (lt-ltb p (length m.places) l) in
      passed_over (not (nat_lt p (length m.places))) 1 ((is_none (value_of m p), 4) ∷ rest) a ∙ passed_over (is_none (value_of m p)) 4 rest (ap is_none value_at)

  pub post_checks_lem : (x : State) → first (place_checks m p (post_stage_checks (worth (value_of m p)) (place_at m p).stage x)) ≡ first (post_stage_checks (slice_index (fundings_of ts) p) S x)
  post_checks_lem x =
      checks_at_lem (post_stage_checks (worth (value_of m p)) (place_at m p).stage x)
      ∙ ap (λ o. first (post_stage_checks (worth o) (place_at m p).stage x)) value_at
      ∙ ap (λ (q : Place). first (post_stage_checks (slice_index (fundings_of ts) p) q.stage x)) at_row

  pub settle_checks_lem : first (settle_checks m p) ≡ first (settle_stage_checks S (slice_index (delays_of ts) p) h)
  settle_checks_lem =
      checks_at_lem (settle_stage_checks (place_at m p).stage (place_at m p).delay h)
      ∙ ap (λ (q : Place). first (settle_stage_checks q.stage q.delay h)) at_row

pub kept : (c : OutputChain) → Kept c.height.blocks c.roots c.pool
kept c = record { eight = c.eight; room = c.room; exact = exact_of c.height.blocks c.roots c.pool c.pooled; backed = c.backed }

later : (v : ℕ) (s : Stage) (h k : ℕ) → h ≤ k → backs v s h ≡ true → backs v s k ≡ true
later v fresh h k le e = refl
later v (holds n t a) h k le e = grind (arith, nat_tests)
later v (done n a) h k le e = e

pub kept_later : (h k : ℕ) (ts : List Terms) (cells : List (Option Output)) → h ≤ k → Kept h ts cells → Kept k ts cells
kept_later h k ts cells le x =
    record {
      eight = x.eight;
      room = x.room;
      exact = x.exact;
      backed = λ p l. later (slice_index (fundings_of ts) p) (stage_of (tally cells) p) h k le (x.backed p l);
    }

-- a pool that holds the funding outputs and no others
pub funded : (ts : List Terms) (cells : List (Option Output)) → length ts ≡ 8 → length cells ≡ 64 → Exact cells (fundings_of ts) (λ _. fresh) → Kept 0 ts cells
funded ts cells a b ex =
    let back : (p : ℕ) → p < 8 → stage_of (tally cells) p ≡ fresh = λ p l. read_back (tally cells) (fundings_of ts) (λ _. fresh) ex p l tt in
    record {
      eight = a;
      room = b;
      exact = λ f. ex f ∙ sum_same (λ q. sum_by f (outs q (slice_index (fundings_of ts) q) fresh)) (λ q. sum_by f (outs q (slice_index (fundings_of ts) q) (stage_of (tally cells) q))) 0 8 (λ q _ lq. ap (λ x. sum_by f (outs q (slice_index (fundings_of ts) q) x)) (sym (back q (omega arith))));
      backed = λ p l. ap (λ x. backs (slice_index (fundings_of ts) p) x 0) (back p l);
    }

pub funded_model : (ts : List Terms) (cells : List (Option Output)) → Exact cells (fundings_of ts) (λ _. fresh) → model_by 0 ts cells ≡ record { height = 0; places = places_by (delays_of ts) (fundings_of ts) (λ _. fresh) }
funded_model ts cells ex =
    ap (λ (ps : List Place). record { height = 0; places = ps })
    (ext_get_or nowhere _ _ (places_eight (delays_of ts) (fundings_of ts) (stage_of (tally cells)) ∙ sym (places_eight (delays_of ts) (fundings_of ts) (λ _. fresh)))
    (λ p h.
    let e = places_eight (delays_of ts) (fundings_of ts) (stage_of (tally cells)) in
    let l : p < 8 = omega (arith, e, h) in
    place_row (delays_of ts) (fundings_of ts) (stage_of (tally cells)) p l
    ∙ ap (λ x. record { parent = None; delay = slice_index (delays_of ts) p; funding = slice_index (fundings_of ts) p; stage = x }) (read_back (tally cells) (fundings_of ts) (λ _. fresh) ex p l tt)
    ∙ sym (place_row (delays_of ts) (fundings_of ts) (λ _. fresh) p l)))
