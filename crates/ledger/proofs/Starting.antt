-- What a base host starts from is lawful, and nothing is posted or settled.
use Rattle.std.proofs.Common.{◌≡◌, ℕ, zero, suc, ◌<◌, ◌≤◌, Bool, true, false, List, [], ◌∷◌, map, length, get_or, Some, None, Option, sym, refl, ap, ◌∙◌, subst, arith}
use Rattle.std.proofs.lemmas.List.{length-map}
use Rattle.std.proofs.lemmas.Bool.Decides.{nat_tests}
use Rattle.state.specs.Limits.{min_delay, max_delay, max_total}
use Rattle.ledger.specs.declared.setup.SetUp.{SetUp}
use Rattle.ledger.specs.Laws.{Tied, Backed, Lawful, Untouched, child}
use Rattle.ledger.specs.Model.{Model, Place, fresh, nowhere, place_at, status_by, shows_state}
use Rattle.ledger.specs.declared.setup.Terms.{Terms}
use Rattle.ledger.specs.SetUps.{delay_made, funding_made, funding_in, blocks_in, is_good, open_root, open_roots, started_by, started}
use Rattle.ledger.specs.declared.root.Root.{Root}
use Rattle.ledger.specs.Roots.{root, rooted}
use Rattle.ledger.proofs.Changing.{none_some}

pub funding_capped : (good : Bool) (f : ℕ) → funding_made good f ≤ max_total
funding_capped true f = grind (arith, nat_tests)
funding_capped false f = omega arith

pub fundings_capped : (good : Bool) (fs ys : List ℕ) → ys ≡ map (funding_made good) fs → (k : ℕ) → get_or ys k 0 ≤ max_total
fundings_capped good fs ys e k = subst (λ zs. get_or zs k 0 ≤ max_total) (sym e) (each fs k)
  where
    each : (xs : List ℕ) (i : ℕ) → get_or (map (funding_made good) xs) i 0 ≤ max_total
    each [] i = omega arith
    each (x ∷ xs) zero = funding_capped good x
    each (x ∷ xs) (suc i) = each xs i

pub delay_within : (good : Bool) (d : ℕ) → (min_delay ≤ delay_made good d) × (delay_made good d ≤ max_delay)
delay_within true d = (grind (arith, nat_tests), grind (arith, nat_tests))
delay_within false d = (omega arith, omega arith)

pub unused_shows : (v : Option ℕ) → shows_state (status_by v fresh) ≡ false
unused_shows None = refl
unused_shows (Some v) = refl

roots_length : (good : Bool) (fs ds : List ℕ) → length fs ≡ length ds → length (open_roots good fs ds) ≡ length fs
roots_length good [] ds e = refl
roots_length good (f ∷ fs) [] e = absurd (omega arith)
roots_length good (f ∷ fs) (d ∷ ds) e = ap suc (roots_length good fs ds (omega arith))

-- what holds of every new root holds of every place
each_root : (P : Place → Type 0) (good : Bool) → ((f d : ℕ) → P (open_root (funding_made good f) (delay_made good d))) → (fs ds : List ℕ) (p : ℕ) → p < length (open_roots good fs ds) → P (get_or (open_roots good fs ds) p nowhere)
each_root P good all [] ds p l = absurd (omega arith)
each_root P good all (f ∷ fs) [] p l = absurd (omega arith)
each_root P good all (f ∷ fs) (d ∷ ds) zero l = all f d
each_root P good all (f ∷ fs) (d ∷ ds) (suc p) l = each_root P good all fs ds p (omega arith)

module _ (good : Bool) (s : SetUp) (fundings : length s.fundings ≡ 8) (delays : length s.delays ≡ 8) where
  abbrev m : Model
  m = started_by good s

  every : (P : Place → Type 0) → ((f d : ℕ) → P (open_root (funding_made good f) (delay_made good d))) → (p : ℕ) → p < length m.places → P (place_at m p)
  every P all p l = each_root P good all s.fundings s.delays p l

  orphan : (p q i : ℕ) → p < length m.places → (place_at m p).parent ≡ child q i → ⊥
  orphan p q i l e = none_some (sym (every (λ (x : Place). x.parent ≡ None) (λ _ _. refl) p l) ∙ e)

  pub started_lawful : Lawful m
  started_lawful =
      record {
        laid =
            record {
              few = let n = roots_length good s.fundings s.delays (fundings ∙ sym delays) in omega arith;
              low = omega arith;
              tied = λ p l. every (λ (x : Place). Tied x.parent x.funding p) (λ f d. funding_capped good f) p l;
              waits = λ p l. every (λ (x : Place). (min_delay ≤ x.delay) × (x.delay ≤ max_delay)) (λ f d. delay_within good d) p l;
            };
        backed = λ p l. every (λ (x : Place). (v : Option ℕ) → Backed v x.stage 0) (λ _ _ _. tt) p l _;
        eight = λ p q i j l e jl. absurd (orphan p q i l e);
        only = λ p c q i l k e g. absurd (orphan p q i l e);
      }

  pub started_untouched : Untouched m
  started_untouched p l = every (λ (x : Place). (v : Option ℕ) → shows_state (status_by v x.stage) ≡ false) (λ _ _ v. unused_shows v) p l _

-- the terms of the roots that are made
pub terms_open : (good : Bool) (ts : List Terms) (fs ds : List ℕ) → map funding_in ts ≡ map (funding_made good) fs → map blocks_in ts ≡ map (delay_made good) ds
    → map (λ (t : Terms). open_root t.funding t.delay.blocks) ts ≡ open_roots good fs ds
terms_open good [] [] ds f d = refl
terms_open good [] (x ∷ fs) ds f d = let z : ◌≡◌ {A = ℕ} 0 1 = cc in absurd (omega arith)
terms_open good (t ∷ ts) [] ds f d = let z : ◌≡◌ {A = ℕ} 0 1 = cc in absurd (omega arith)
terms_open good (t ∷ ts) (x ∷ fs) [] f d = let z : ◌≡◌ {A = ℕ} 0 1 = cc in absurd (omega arith)
terms_open good (t ∷ ts) (x ∷ fs) (y ∷ ds) f d =
    let a : t.funding ≡ funding_made good x = cc in
    let b : t.delay.blocks ≡ delay_made good y = cc in
    let rest_f : map funding_in ts ≡ map (funding_made good) fs = cc in
    let rest_d : map blocks_in ts ≡ map (delay_made good) ds = cc in
    ap (λ (k : ℕ). open_root k t.delay.blocks ∷ map (λ (u : Terms). open_root u.funding u.delay.blocks) ts) a
    ∙ ap (λ (k : ℕ). open_root (funding_made good x) k ∷ map (λ (u : Terms). open_root u.funding u.delay.blocks) ts) b
    ∙ ap (λ (ps : List Place). open_root (funding_made good x) (delay_made good y) ∷ ps) (terms_open good ts fs ds rest_f rest_d)

-- so a ledger of such roots is what a base host starts from
pub record Starts (m : Model) (s : SetUp) : Type 0 where
  pub start : m ≡ started s
  pub lawful : Lawful m
  pub untouched : Untouched m

pub roots_start : (s : SetUp) (ts : List Terms) (rs : List Root) → length ts ≡ 8 → map funding_in ts ≡ map (funding_made (is_good s)) s.fundings → map blocks_in ts ≡ map (delay_made (is_good s)) s.delays
    → map root rs ≡ map (λ (t : Terms). open_root t.funding t.delay.blocks) ts → Starts (rooted 0 rs) s
roots_start s ts rs long f d e =
    let good = is_good s in
    let fundings : length s.fundings ≡ 8 = sym (length-map s.fundings (funding_made good)) ∙ ap length (sym f) ∙ length-map ts funding_in ∙ long in
    let delays : length s.delays ≡ 8 = sym (length-map s.delays (delay_made good)) ∙ ap length (sym d) ∙ length-map ts blocks_in ∙ long in
    let start : rooted 0 rs ≡ started s = ap (λ (ps : List Place). record { height = 0; places = ps }) (e ∙ terms_open good ts s.fundings s.delays f d) in
    record {
      start = start;
      lawful = subst Lawful (sym start) (started_lawful good s fundings delays);
      untouched = subst Untouched (sym start) (started_untouched good s fundings delays);
    }
