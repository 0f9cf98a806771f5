-- The figures of a set-up, tried one by one.
use Rattle.std.proofs.Common.{◌≡◌, ℕ, suc, ◌<◌, Bool, true, false, not, ◌&&◌, List, [], ◌∷◌, map, length, get_or, replicate, Ok, Err, Result, sym, refl, ap, ◌∙◌, arith}
use Rattle.std.specs.Prelude.{IfOk, IfErr}
use Rattle.std.specs.Array.{AllZipBelow}
use Rattle.std.specs.Fn.{Mut, Called}
use Rattle.std.specs.List.{IsAmong, list_all}
use Rattle.std.specs.Result.{result_unwrap_or}
use Rattle.std.proofs.lemmas.List.Folds.{list_all_at}
use Rattle.state.specs.declared.quantity.Delay.{Delay}
use Rattle.state.specs.declared.refusal.Refusal.{Refusal}
use Rattle.state.specs.Limits.{max_delay}
use Rattle.state.specs.Refusals.{told, accepted, refused, answer, first}
use Rattle.state.proofs.Accepting.{told_not_accepted}
use Rattle.ledger.specs.declared.setup.SetUp.{SetUp}
use Rattle.ledger.specs.declared.setup.Terms.{Terms}
use Rattle.ledger.specs.SetUps.{good_delay, good_fundings, good_delays, set_up_checks, is_good, delay_made, funding_made, blocks_of, funding_in, blocks_in}
use Rattle.ledger.proofs.Mapping.{same_images}

-- an answer by one test
abbrev pub Tested : {A : Type 0} → Bool → Result A Refusal → Type 0
Tested b r = answer r ≡ first ((not b, 20) ∷ [])

both_checks : (a b : Bool) → first ((not a, 20) ∷ (not b, 20) ∷ []) ≡ first ((not (a && b), 20) ∷ [])
both_checks true b = refl
both_checks false b = refl

tested_ok : (b : Bool) → accepted ≡ first ((not b, 20) ∷ []) → b ≡ true
tested_ok true e = refl
tested_ok false e = let z : ◌≡◌ {A = ℕ} 0 20 = ap (λ (p : ℕ × List ℕ). p.0) e in absurd (omega arith)

tested_err : (b : Bool) (e : Refusal) → told e ≡ first ((not b, 20) ∷ []) → (b ≡ false) × (told e ≡ refused 20)
tested_err true e h = absurd (told_not_accepted e h)
tested_err false e h = (refl, h)

all_pass : (test : ℕ → Bool) (xs : List ℕ) → ((i : ℕ) → i < length xs → test (get_or xs i 0) ≡ true) → list_all test xs ≡ true
all_pass test [] h = refl
all_pass test (x ∷ xs) h = ap (λ b. b && list_all test xs) (h 0 (omega arith)) ∙ all_pass test xs (λ i l. h (suc i) (omega arith))

-- a delay
pub record DelayTried (x : ℕ) (r : Result Delay Refusal) : Type 0 where
  pub answer : Tested (good_delay x) r
  pub value : IfOk r (λ d. d.blocks ≡ delay_made true x)

pub record DelaysTried (xs : List ℕ) (r : Result (List Delay) Refusal) : Type 0 where
  pub answer : Tested (good_delays xs) r
  pub value : IfOk r (λ ds. map blocks_of ds ≡ map (delay_made true) xs)

module _ {F : Type 0} (g : Mut F (ℕ × Unit {0}) (Result Delay Refusal)) (one : (p : F) (x : ℕ) (r : Result Delay Refusal) (q : F) → Called g p (x, tt) r q → DelayTried x r) (xs : List ℕ) (long : length xs ≡ 8) where
  pub delays_tried : (r : Result (List Delay) Refusal) → IfOk r (λ ys. AllZipBelow (λ x y. (p : F) × (q : F) × Called g p (x, tt) (Ok y) q) xs ys 8)
      → IfErr r (λ e. (x : ℕ) × IsAmong xs x × (p : F) × (q : F) × Called g p (x, tt) (Err e) q) → DelaysTried xs r
  delays_tried (Ok ys) h k =
      record {
        answer = ap (λ b. first ((not b, 20) ∷ [])) (sym (all_pass good_delay xs (λ i l. tested_ok (good_delay (get_or xs i 0)) (at i 0 h.each.1 l).answer)));
        value = same_images (delay_made true) blocks_of xs ys (omega (arith, h.long)) (λ i d e l. (at i d e l).value);
      }
    where
      at : (i d : ℕ) (e : Delay) → i < length xs → DelayTried (get_or xs i d) (Ok (get_or ys i e))
      at i d e l = let c = h.at i d e (omega arith) in one c.0 (get_or xs i d) (Ok (get_or ys i e)) c.1 c.2
  delays_tried (Err e) h k =
      let bad = tested_err (good_delay k.0) e (one k.2 k.0 (Err e) k.3 k.4).answer in
      let is : good_delay (get_or xs k.1.0 k.0) ≡ false = ap good_delay (sym k.1.1.1) ∙ bad.0 in
      record { answer = bad.1 ∙ ap (λ b. first ((not b, 20) ∷ [])) (sym (list_all_at good_delay xs k.1.0 k.0 k.1.1.0 is)); value = tt }

-- the same figure for each
pub same_figure : {Z : Type 0} (make : ℕ → Z) (y : Z) → ((x : ℕ) → make x ≡ y) → (xs : List ℕ) (n : ℕ) → length xs ≡ n → replicate n y ≡ map make xs
same_figure make y same [] n e = ap (λ k. replicate k y) (sym e)
same_figure make y same (x ∷ xs) n e =
    ap (λ k. replicate k y) (sym e) ∙ ap (λ zs. y ∷ zs) (same_figure make y same xs (length xs) refl) ∙ ap (λ z. z ∷ map make xs) (sym (same x))

-- the terms taken, or against a bad set-up the same terms for each root
module _ (s : SetUp) (t : Terms) (r : Result (List Terms) Refusal) (view : Terms → ℕ) (make : Bool → ℕ → ℕ) (y : ℕ) (figures : List ℕ) where
  by_answer : answer r ≡ first (set_up_checks s) → IfOk r (λ ts. map view ts ≡ map (make true) figures) → length figures ≡ 8 → ((x : ℕ) → make false x ≡ y) → view t ≡ y
      → map view (result_unwrap_or r (replicate 8 t)) ≡ map (make (is_good s)) figures
  by_answer a v long bad is = go r (a ∙ both_checks (good_fundings s.fundings) (good_delays s.delays)) v
    where
      go : (o : Result (List Terms) Refusal) → Tested (is_good s) o → IfOk o (λ ts. map view ts ≡ map (make true) figures) → map view (result_unwrap_or o (replicate 8 t)) ≡ map (make (is_good s)) figures
      go (Ok ts) e v = v ∙ ap (λ b. map (make b) figures) (sym (tested_ok (is_good s) e))
      go (Err x) e v = ap (replicate 8) is ∙ same_figure (make false) y bad figures 8 long ∙ ap (λ b. map (make b) figures) (sym (tested_err (is_good s) x e).0)

pub fundings_are : (s : SetUp) (t : Terms) (r : Result (List Terms) Refusal) → answer r ≡ first (set_up_checks s) → IfOk r (λ ts. map funding_in ts ≡ map (funding_made true) s.fundings)
    → length s.fundings ≡ 8 → t.funding ≡ 0 → map funding_in (result_unwrap_or r (replicate 8 t)) ≡ map (funding_made (is_good s)) s.fundings
fundings_are s t r a v l e = by_answer s t r funding_in funding_made 0 s.fundings a v l (λ _. refl) e

pub delays_are : (s : SetUp) (t : Terms) (r : Result (List Terms) Refusal) → answer r ≡ first (set_up_checks s) → IfOk r (λ ts. map blocks_in ts ≡ map (delay_made true) s.delays)
    → length s.delays ≡ 8 → t.delay.blocks ≡ max_delay → map blocks_in (result_unwrap_or r (replicate 8 t)) ≡ map (delay_made (is_good s)) s.delays
delays_are s t r a v l e = by_answer s t r blocks_in delay_made max_delay s.delays a v l (λ _. refl) e
