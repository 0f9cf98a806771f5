-- What holds of every output chain, what a look shows, and what a new one starts from.
use Rattle.std.specs.Prelude.{◌≡◌, ℕ, zero, suc, ◌<◌, ◌≤◌, true, List, [], ◌∷◌, map, length, get_or, Some, None, Option, slice_index, slice_index_or, refl}
use Rattle.std.proofs.Common.{sym, ap, subst, ◌∙◌, arith}
use Rattle.std.proofs.lemmas.List.{get_or-map, length-map}
use Rattle.std.proofs.lemmas.List.FromFn.{fill_by_all}
use Rattle.std.proofs.lemmas.Bool.Decides.{nat_tests}
use Rattle.ledger.specs.declared.setup.Terms.{Terms}
use Rattle.state.specs.Limits.{max_total, max_height, min_delay, max_delay}
use Rattle.ledger.specs.declared.setup.SetUp.{SetUp}
use Rattle.ledger.specs.declared.view.Standing.{Standing}
use Rattle.ledger.specs.declared.view.View.{View}
use Rattle.ledger.specs.Laws.{Tied, Backed, Lawful, Untouched}
use Rattle.ledger.specs.Model.{Model, Place, Stage, fresh, holds, done, place_at, nowhere, value_of, value_by, status_by, shows_state, shown_amounts, PlaceShows}
use Rattle.ledger.specs.SetUps.{is_good, delay_made, funding_made, funding_in, blocks_in, open_root, started}
use Rattle.ledger.proofs.Starting.{terms_open}
use Rattle.ledger.proofs.Changing.{none_some}
use Rattle.output_chain.specs.declared.chain.OutputChain.{OutputChain}
use Rattle.output_chain.specs.declared.output.Output.{Output}
use Rattle.output_chain.specs.Chains.{model_of, Stands}
use Rattle.output_chain.specs.Coins.{tally, stage_of}
use Rattle.output_chain.specs.Models.{backs, fundings_of, delays_of, row_by, places_by, model_by}
use Rattle.output_chain.specs.Reading.{Exact}
use Rattle.output_chain.specs.Steps.{Kept, kept, place_row, places_eight, funded_model}

capped : (ts : List Terms) (p : ℕ) → slice_index (fundings_of ts) p ≤ max_total
capped [] p = omega arith
capped (t ∷ ts) zero = t.capped
capped (t ∷ ts) (suc p) = capped ts p

waits : (ts : List Terms) (p : ℕ) → p < length ts → (min_delay ≤ slice_index (delays_of ts) p) × (slice_index (delays_of ts) p ≤ max_delay)
waits [] p h = absurd (omega arith)
waits (t ∷ ts) zero h = (t.delay.low, t.delay.high)
waits (t ∷ ts) (suc p) h = waits ts p (omega arith)

backing : (v : ℕ) (s : Stage) (h : ℕ) → backs v s h ≡ true → Backed (Some v) s h
backing v fresh h e = tt
backing v (holds n t a) h e = (grind (arith, nat_tests), grind (arith, nat_tests), grind (arith, nat_tests), grind (arith, nat_tests), grind (arith, nat_tests))
backing v (done n a) h e = (grind (arith, nat_tests), grind (arith, nat_tests), grind (arith, nat_tests), grind (arith, nat_tests))

pub kept_lawful : (h : ℕ) (ts : List Terms) (cells : List (Option Output)) → h ≤ max_height → Kept h ts cells → Lawful (model_by h ts cells)
kept_lawful h ts cells low k =
    let m = model_by h ts cells in
    let row : ℕ → Place = row_by (delays_of ts) (fundings_of ts) (stage_of (tally cells)) in
    let eights = places_eight (delays_of ts) (fundings_of ts) (stage_of (tally cells)) in
    let within : (p : ℕ) → p < length m.places → p < 8 = λ p l. omega (arith, eights) in
    let at : (P : Place → Type 0) → (p : ℕ) → p < length m.places → P (row p) → P (place_at m p) = λ P p l x. subst P (sym (place_row (delays_of ts) (fundings_of ts) (stage_of (tally cells)) p (within p l))) x in
    record {
      laid = record {
        few = omega (arith, eights);
        low = low;
        tied = λ p l. at (λ q. Tied q.parent q.funding p) p l (capped ts p);
        waits = λ p l. at (λ q. (min_delay ≤ q.delay) × (q.delay ≤ max_delay)) p l (waits ts p (let w = k.eight in let i = within p l in omega (arith, w, i)));
      };
      backed = λ p l. at (λ q. Backed (value_by m.places q.parent q.funding) q.stage h) p l (backing (slice_index (fundings_of ts) p) (stage_of (tally cells) p) h (k.backed p (within p l)));
      eight = λ p q i j l e. absurd (none_some (sym (at (λ x. x.parent ≡ None) p l refl) ∙ e));
      only = λ p d q i l _ e _. absurd (none_some (sym (at (λ x. x.parent ≡ None) p l refl) ∙ e));
    }

pub chain_lawful : (c : OutputChain) → Lawful (model_of c)
chain_lawful c = kept_lawful c.height.blocks c.roots c.pool c.height.high (kept c)

-- the delay of a place
pub delay_is : (c : OutputChain) (p : ℕ) → p < 8 → (t : Terms) → (get_or c.roots p t).delay.blocks ≡ (place_at (model_of c) p).delay
delay_is c p l t =
    let w : p < length c.roots = (let e = c.eight in omega (arith, e)) in
    sym (get_or-map blocks_in c.roots p t 0 w) ∙ sym (ap (λ (q : Place). q.delay) (place_row (delays_of c.roots) (fundings_of c.roots) (stage_of (tally c.pool)) p l))

-- a look

any_value : (v : ℕ) (s : Stage) → status_by (Some 0) s ≡ status_by (Some v) s
any_value v fresh = refl
any_value v (holds n t a) = refl
any_value v (done n a) = refl

pub view_shows : (c : OutputChain) (p : ℕ) → p < 8 → (t : Terms) (st : Standing) (a : List ℕ) → Stands (st, a) (stage_of (tally c.pool) p)
    → PlaceShows (record { parent = None; delay = (slice_index_or c.roots p t).delay; funding = (slice_index_or c.roots p t).funding; standing = st; amounts = a }) (value_of (model_of c) p) (place_at (model_of c) p)
view_shows c p l t st a stands =
    let terms = slice_index_or c.roots p t in
    let v = slice_index (fundings_of c.roots) p in
    let x : View = record { parent = None; delay = terms.delay; funding = terms.funding; standing = st; amounts = a } in
    let w : p < length c.roots = (let e = c.eight in omega (arith, e)) in
    subst (λ (q : Place). PlaceShows x (value_by (model_of c).places q.parent q.funding) q) (sym (place_row (delays_of c.roots) (fundings_of c.roots) (stage_of (tally c.pool)) p l))
    (record {
      parent = refl;
      delay = sym (get_or-map blocks_in c.roots p t 0 w);
      funding = sym (get_or-map funding_in c.roots p t 0 w);
      status = stands.status ∙ any_value v (stage_of (tally c.pool) p);
      amounts = stands.amounts ∙ ap shown_amounts (any_value v (stage_of (tally c.pool) p));
    })

-- a new chain

open_at : (ts : List Terms) (p : ℕ) → p < length ts → slice_index_or (map (λ (t : Terms). open_root t.funding t.delay.blocks) ts) p nowhere ≡ row_by (delays_of ts) (fundings_of ts) (λ _. fresh) p
open_at [] p l = absurd (omega arith)
open_at (t ∷ ts) zero l = refl
open_at (t ∷ ts) (suc p) l = open_at ts p (omega arith)

pub new_model : (ts : List Terms) (cells : List (Option Output)) → Exact cells (fundings_of ts) (λ _. fresh) → length ts ≡ 8
    → (s : SetUp) → fundings_of ts ≡ map (funding_made (is_good s)) s.fundings → delays_of ts ≡ map (delay_made (is_good s)) s.delays → model_by 0 ts cells ≡ started s
new_model ts cells ex long s f d =
    let roots = map (λ (t : Terms). open_root t.funding t.delay.blocks) ts in
    let made = fill_by_all (row_by (delays_of ts) (fundings_of ts) (λ _. fresh)) roots 8 nowhere (length-map ts _ ∙ long) (λ p l. open_at ts p (omega (arith, long, l))) in
    funded_model ts cells ex ∙ ap (λ (ps : List Place). record { height = 0; places = ps }) (sym made ∙ terms_open (is_good s) ts s.fundings s.delays f d)

pub new_untouched : (ts : List Terms) (cells : List (Option Output)) → Exact cells (fundings_of ts) (λ _. fresh) → Untouched (model_by 0 ts cells)
new_untouched ts cells ex =
    subst Untouched (sym (funded_model ts cells ex))
    (λ p h.
    let e = places_eight (delays_of ts) (fundings_of ts) (λ _. fresh) in
    let m : Model = record { height = 0; places = places_by (delays_of ts) (fundings_of ts) (λ _. fresh) } in
    ap (λ (q : Place). shows_state (status_by (value_by m.places q.parent q.funding) q.stage)) (place_row (delays_of ts) (fundings_of ts) (λ _. fresh) p (omega (arith, e, h))))
