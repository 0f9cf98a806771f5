-- What the steps do to what each place shows: a post changes one place, a settlement one place and its children.
use Rattle.std.proofs.Common.{◌≡◌, ℕ, ◌<◌, Bool, true, false, ◌⊎◌, List, length, Some, None, Option, sym, refl, ap, ◌∙◌, subst, inl, inr, arith}
use Rattle.std.proofs.lemmas.Bool.{cases_eq}
use Rattle.state.specs.declared.state.State.{State}
use Rattle.state.specs.Refusals.{accepted, first}
use Rattle.state.proofs.Checking.{Passed}
use Rattle.ledger.specs.declared.view.Parent.{Parent}
use Rattle.ledger.specs.Laws.{Tied, Backed, Lawful, PostShows, SettleShows, StepsShow, LedgerLaws, child}
use Rattle.ledger.specs.Model.{Model, Place, Stage, fresh, holds, done, place_at, value_of, value_by, share, idle, settled, status, status_by, shown_number, shown_amounts}
use Rattle.ledger.specs.Steps.{worth, is_done, post_stage_checks, settle_stage_checks, posted_stage, settled_stage, with_stage, post_checks, post_next, settle_checks, settle_next}
use Rattle.ledger.proofs.Changing.{some_same, none_some, reached, none_yet, at_same, at_other, layout, value_is, child_none}
use Rattle.ledger.proofs.Keeping.{not_done, post_passed, settle_passed, steps_keep, laws_hold}

module _ (m : Model) (p : ℕ) (s : Stage) (within : p < length m.places) where
  abbrev next : Model
  next = with_stage m p s

  status_at : (v : Option ℕ) → status_by v (place_at next p).stage ≡ status_by v s
  status_at v = ap (λ (y : Place). status_by v y.stage) (at_same m p s within)

  -- where p gives its children what it gave them before, all values are as they were
  same_by : ((i : ℕ) → share s i ≡ share (place_at m p).stage i) → (o : Option Parent) (f : ℕ) → value_by next.places o f ≡ value_by m.places o f
  same_by same None f = refl
  same_by same (Some q) f = go (cases_eq q.place p)
    where
      go : (q.place ≡ p) ⊎ (q.place ≡ p → ⊥) → share (place_at next q.place).stage q.index ≡ share (place_at m q.place).stage q.index
      go (inl e) =
          ap (λ x. share (place_at next x).stage q.index) e
          ∙ ap (λ (y : Place). share y.stage q.index) (at_same m p s within)
          ∙ same q.index
          ∙ sym (ap (λ x. share (place_at m x).stage q.index) e)
      go (inr ne) = ap (λ (y : Place). share y.stage q.index) (at_other m p s within q.place ne)

  status_other : (c : ℕ) → (c ≡ p → ⊥) → value_of next c ≡ value_of m c → status next c ≡ status m c
  status_other c ne e = ap (λ (y : Place). status_by (value_of next c) y.stage) (at_other m p s within c ne) ∙ ap (λ v. status_by v (place_at m c).stage) e

  status_same : ((i : ℕ) → share s i ≡ share (place_at m p).stage i) → (c : ℕ) → (c ≡ p → ⊥) → status next c ≡ status m c
  status_same same c ne =
      status_other c ne (ap (λ (y : Place). value_by next.places y.parent y.funding) (layout m p s within c) ∙ same_by same (place_at m c).parent (place_at m c).funding)

post_shows : (m : Model) (x : State) → first (post_checks m x) ≡ accepted → PostShows m x (post_next m x)
post_shows m x h =
    let p = x.place in
    let old = (place_at m p).stage in
    let r = reached m p (post_stage_checks (worth (value_of m p)) old x) refl h in
    let c = post_passed (worth (value_of m p)) old x r.passed in
    record {
      here = status_at m p (posted_stage x m.height) r.within (value_of (post_next m x) p);
      elsewhere = status_same m p (posted_stage x m.height) r.within (λ i. sym (none_yet old i (not_done old c.unsettled)));
    }

bare_stage : (s : Stage) (h : ℕ) → Backed None s h → s ≡ fresh
bare_stage fresh h b = refl
bare_stage (holds n t a) h b = absurd (none_some b.0)
bare_stage (done n a) h b = absurd (none_some b.0)

-- a settled place shows what it showed
settled_shows : (v w : Option ℕ) (s : Stage) (d h : ℕ) → Passed (settle_stage_checks s d h) → status_by v (settled_stage s) ≡ settled (shown_number (status_by w s)) (shown_amounts (status_by w s))
settled_shows v w fresh d h e = let z : ◌≡◌ {A = Bool} true false = e.0 in let y : ◌≡◌ {A = ℕ} 0 1 = cc in absurd (omega arith)
settled_shows v w (holds n t a) d h e = refl
settled_shows v w (done n a) d h e = refl

-- and gives its children a value
settled_opens : (s : Stage) (i d h : ℕ) → Passed (settle_stage_checks s d h) → status_by (share (settled_stage s) i) fresh ≡ idle
settled_opens fresh i d h e = let z : ◌≡◌ {A = Bool} true false = e.0 in let y : ◌≡◌ {A = ℕ} 0 1 = cc in absurd (omega arith)
settled_opens (holds n t a) i d h e = refl
settled_opens (done n a) i d h e = refl

no_loop : (o : Option Parent) (f p i : ℕ) → Tied o f p → o ≡ child p i → ⊥
no_loop None f p i t e = none_some e
no_loop (Some q) f p i t e = let same : q.place ≡ p = ap (λ (y : Parent). y.place) (some_same e) in omega (arith, t.1)

settle_shows : (m : Model) → Lawful m → (p : ℕ) → first (settle_checks m p) ≡ accepted → SettleShows m p (settle_next m p)
settle_shows m law p h =
    let s = (place_at m p).stage in
    let d = (place_at m p).delay in
    let n = settle_next m p in
    let t = settled_stage s in
    let r = reached m p (settle_stage_checks s d m.height) refl h in
    let w = r.within in
    let still = not_done s (settle_passed s d m.height r.passed) in
    record {
      here = status_at m p t w (value_of n p) ∙ settled_shows (value_of n p) (value_of m p) s d m.height r.passed;
      children = λ c i g e.
          let none : value_of m c ≡ None = child_none m p t w (place_at m c).parent (place_at m c).funding (record { place = p; index = i }) e refl still in
          let bare : (place_at m c).stage ≡ fresh = bare_stage (place_at m c).stage m.height (subst (λ v. Backed v (place_at m c).stage m.height) none (law.backed c g)) in
          let ne : c ≡ p → ⊥ = λ k. no_loop (place_at m c).parent (place_at m c).funding c i (law.laid.tied c g) (subst (λ x. (place_at m c).parent ≡ child x i) (sym k) e) in (
            ap (λ v. status_by v (place_at m c).stage) none ∙ ap (λ y. status_by None y) bare,
            ap (λ (y : Place). status_by (value_of n c) y.stage) (at_other m p t w c ne)
                ∙ ap (λ y. status_by (value_of n c) y) bare
                ∙ ap (λ v. status_by v fresh)
                (ap (λ (y : Place). value_by n.places y.parent y.funding) (layout m p t w c)
                ∙ ap (λ o. value_by n.places o (place_at m c).funding) e
                ∙ ap (λ (y : Place). share y.stage i) (at_same m p t w))
                ∙ settled_opens s i d m.height r.passed,
          );
      elsewhere = λ c ne up. status_other m p t w c ne (value_is m p t w c (λ q e k. up q.index (subst (λ (x : ℕ). (place_at m c).parent ≡ child x q.index) k e)));
    }

-- what is settled is held as settled
settled_stage_lem : (v : Option ℕ) (s : Stage) (n : ℕ) (a : List ℕ) → status_by v s ≡ settled n a → s ≡ done n a
settled_stage_lem None fresh n a e = absurd (let z : ◌≡◌ {A = ℕ} 0 1 = cc in omega arith)
settled_stage_lem (Some v) fresh n a e = absurd (let z : ◌≡◌ {A = ℕ} 0 1 = cc in omega arith)
settled_stage_lem v (holds k t b) n a e = absurd (let z : ◌≡◌ {A = ℕ} 0 1 = cc in omega arith)
settled_stage_lem v (done k b) n a e = cc

-- so a step at a place that is not settled leaves it
final : (m : Model) (q : ℕ) (s : Stage) → q < length m.places → is_done (place_at m q).stage ≡ false → (p n : ℕ) (a : List ℕ) → status m p ≡ settled n a → status (with_stage m q s) p ≡ settled n a
final m q s w open-still p n a e = go (cases_eq p q)
  where
    held : (place_at m p).stage ≡ done n a
    held = settled_stage_lem (value_of m p) (place_at m p).stage n a e

    go : (p ≡ q) ⊎ (p ≡ q → ⊥) → status (with_stage m q s) p ≡ settled n a
    go (inl i) = absurd (not_done (place_at m q).stage open-still n a (subst (λ x. (place_at m x).stage ≡ done n a) i held))
    go (inr ne) = ap (λ (y : Place). status_by (value_of (with_stage m q s) p) y.stage) (at_other m q s w p ne) ∙ ap (λ y. status_by (value_of (with_stage m q s) p) y) held

pub steps_show : (m : Model) → Lawful m → StepsShow m
steps_show m law =
    record {
      post = post_shows m;
      settle = settle_shows m law;
      final_post = λ x p n a h e.
          let q = x.place in
          let old = (place_at m q).stage in
          let r = reached m q (post_stage_checks (worth (value_of m q)) old x) refl h in
          final m q (posted_stage x m.height) r.within (post_passed (worth (value_of m q)) old x r.passed).unsettled p n a e;
      final_settle = λ q p n a h e.
          let old = (place_at m q).stage in
          let r = reached m q (settle_stage_checks old (place_at m q).delay m.height) refl h in
          final m q (settled_stage old) r.within (settle_passed old (place_at m q).delay m.height r.passed) p n a e;
    }

pub ledger_laws : LedgerLaws
ledger_laws m law = (laws_hold m law, steps_keep m law, steps_show m law)
