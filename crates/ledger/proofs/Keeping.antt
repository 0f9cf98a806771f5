-- What a ledger keeps to, no step breaks; and the two laws.
use Rattle.std.proofs.Common.{◌≡◌, ℕ, ◌+◌, ◌<◌, ◌≤◌, true, false, not, eqb, ltb, ◌⊎◌, List, length, get_or, Some, None, sum, Option, sym, refl, ap, ◌∙◌, subst, inl, inr, arith}
use Rattle.std.proofs.lemmas.Bool.{cases_eq}
use Rattle.std.proofs.lemmas.Bool.Decides.{nat_tests}
use Rattle.state.specs.declared.state.State.{State}
use Rattle.state.specs.Limits.{max_height, min_delay, max_delay}
use Rattle.state.specs.Refusals.{accepted, first}
use Rattle.state.proofs.Checking.{Passed, all_passed}
use Rattle.ledger.specs.declared.view.Parent.{Parent}
use Rattle.ledger.specs.Laws.{Tied, Laid, Backed, Lawful, LawsHold, StepsKeep}
use Rattle.ledger.specs.Model.{Model, Place, Stage, fresh, holds, done, place_at, value_of, value_by, share, settled, status_by, is_shut, is_settled, shows_state, shown_amounts}
use Rattle.ledger.specs.Steps.{is_none, worth, is_done, post_stage_checks, settle_stage_checks, posted_stage, settled_stage, with_stage, post_checks, post_next, settle_checks, settle_next, advance_checks, advance_next}
use Rattle.ledger.proofs.Changing.{some_same, none_some, reached, at_same, at_other, count_is, layout, parent_is, value_is, child_none}

-- a place without a value holds no state
any_value : (v : Option ℕ) (s : Stage) (h : ℕ) → Backed None s h → Backed v s h
any_value v fresh h b = tt
any_value v (holds n t a) h b = absurd (none_some b.0)
any_value v (done n a) h b = absurd (none_some b.0)

pub not_done : (s : Stage) → is_done s ≡ false → (k : ℕ) (a : List ℕ) → s ≡ done k a → ⊥
not_done s e k a i = let t : is_done s ≡ true = ap is_done i in let z : ◌≡◌ {A = ℕ} 0 1 = cc in omega arith

module _ (m : Model) (p : ℕ) (s : Stage) (within : p < length m.places) where
  abbrev next : Model
  next = with_stage m p s

  laid_set : Laid m → Laid next
  laid_set l =
      let count = count_is m p s within in
      record {
        few = omega (arith, count, l.few);
        low = l.low;
        tied = λ c h. subst (λ (y : Place). Tied y.parent y.funding c) (sym (layout m p s within c)) (l.tied c (omega (arith, count)));
        waits = λ c h. subst (λ (y : Place). (min_delay ≤ y.delay) × (y.delay ≤ max_delay)) (sym (layout m p s within c)) (l.waits c (omega (arith, count)));
      }

  -- a lawful ledger stays so where one place that is not settled comes to hold what fits its value
  keeps_set : Lawful m → ((k : ℕ) (a : List ℕ) → (place_at m p).stage ≡ done k a → ⊥) → Backed (value_of m p) s m.height → Lawful next
  keeps_set law still new =
      record {
        laid = laid_set law.laid;
        backed = λ c h. back c (omega (arith, count)) (cases_eq c p);
        eight = λ c q i j h e jh.
            let k = law.eight c q i j (omega (arith, count)) (sym (parent_is m p s within c) ∙ e) jh in
            (k.0, omega (arith, count, k.1), parent_is m p s within k.0 ∙ k.2);
        only = λ c d q i h k e g.
            law.only c d q i (omega (arith, count)) (omega (arith, count)) (sym (parent_is m p s within c) ∙ e) (sym (parent_is m p s within d) ∙ g);
      }
    where
      count : length next.places ≡ length m.places
      count = count_is m p s within

      above : (o : Option Parent) (f c : ℕ) → Tied o f c → (q : Parent) → o ≡ Some q → q.place ≡ c → ⊥
      above None f c t q e g = none_some e
      above (Some x) f c t q e g = let same : x.place ≡ q.place = ap (λ (y : Parent). y.place) (some_same e) in omega (arith, t.1, same)

      other : (c : ℕ) → c < length m.places → (c ≡ p → ⊥) → (o : Option Parent) → (place_at m c).parent ≡ o → Backed (value_of next c) (place_at m c).stage m.height
      other c h ne None e = subst (λ v. Backed v (place_at m c).stage m.height) (sym (value_is m p s within c (λ q g _. none_some (sym e ∙ g)))) (law.backed c h)
      other c h ne (Some x) e = go (cases_eq x.place p)
        where
          go : (x.place ≡ p) ⊎ (x.place ≡ p → ⊥) → Backed (value_of next c) (place_at m c).stage m.height
          go (inl i) =
              any_value (value_of next c) (place_at m c).stage m.height
              (subst (λ v. Backed v (place_at m c).stage m.height) (child_none m p s within (place_at m c).parent (place_at m c).funding x e i still) (law.backed c h))
          go (inr i) =
              subst (λ v. Backed v (place_at m c).stage m.height)
              (sym (value_is m p s within c (λ q g k. i (ap (λ (y : Parent). y.place) (some_same (sym e ∙ g)) ∙ k)))) (law.backed c h)

      back : (c : ℕ) → c < length m.places → (c ≡ p) ⊎ (c ≡ p → ⊥) → Backed (value_of next c) (place_at next c).stage m.height
      back c h (inl e) =
          subst (λ x. Backed (value_of next x) (place_at next x).stage m.height) (sym e)
          (subst (λ (y : Place). Backed (value_of next p) y.stage m.height) (sym (at_same m p s within))
          (subst (λ v. Backed v s m.height) (sym (value_is m p s within p (above (place_at m p).parent (place_at m p).funding p (law.laid.tied p within)))) new))
      back c h (inr ne) =
          subst (λ (y : Place). Backed (value_of next c) y.stage m.height) (sym (at_other m p s within c ne))
          (other c h ne (place_at m c).parent refl)

-- what an accepted post and settlement say of the place
pub record PostPassed (value : ℕ) (s : Stage) (x : State) : Type 0 where
  pub unsettled : is_done s ≡ false
  pub total : sum x.amounts ≡ value

pub post_passed : (value : ℕ) (s : Stage) (x : State) → Passed (post_stage_checks value s x) → PostPassed value s x
post_passed value s x h =
    let t : not (eqb (sum x.amounts) value) ≡ false = h.1.0 in
    record { unsettled = h.0; total = grind (arith, nat_tests) }

pub settle_passed : (s : Stage) (d h : ℕ) → Passed (settle_stage_checks s d h) → is_done s ≡ false
settle_passed s d h e = e.1.0

settle_backed : (o : Option ℕ) (s : Stage) (h : ℕ) → Backed o s h → Backed o (settled_stage s) h
settle_backed o fresh h b = tt
settle_backed o (holds n t a) h b = (b.0, b.1, b.3, b.4)
settle_backed o (done n a) h b = b

post_keeps : (m : Model) → Lawful m → (x : State) → first (post_checks m x) ≡ accepted → Lawful (post_next m x)
post_keeps m law x h =
    let p = x.place in
    let r = reached m p (post_stage_checks (worth (value_of m p)) (place_at m p).stage x) refl h in
    let c = post_passed (worth (value_of m p)) (place_at m p).stage x r.passed in
    keeps_set m p (posted_stage x m.height) r.within law (not_done (place_at m p).stage c.unsettled)
    (r.valued ∙ ap Some (sym c.total), x.long, omega arith, x.number.low, x.number.high)

settle_keeps : (m : Model) → Lawful m → (p : ℕ) → first (settle_checks m p) ≡ accepted → Lawful (settle_next m p)
settle_keeps m law p h =
    let r = reached m p (settle_stage_checks (place_at m p).stage (place_at m p).delay m.height) refl h in
    let s = (place_at m p).stage in
    keeps_set m p (settled_stage s) r.within law (not_done s (settle_passed s (place_at m p).delay m.height r.passed))
    (settle_backed (value_of m p) s m.height (law.backed p r.within))

older : (o : Option ℕ) (s : Stage) (h k : ℕ) → Backed o s h → Backed o s (h + k)
older o fresh h k b = tt
older o (holds n t a) h k b = (b.0, b.1, omega (arith, b.2), b.3, b.4)
older o (done n a) h k b = b

advance_keeps : (m : Model) → Lawful m → (k : ℕ) → first (advance_checks m k) ≡ accepted → Lawful (advance_next m k)
advance_keeps m law k h =
    let t : ltb max_height (m.height + k) ≡ false = (all_passed (advance_checks m k) refl h).1.1.0 in
    let l = law.laid in
    record {
      laid = record { few = l.few; low = grind (arith, nat_tests); tied = l.tied; waits = l.waits };
      backed = λ p g. older (value_of m p) (place_at m p).stage m.height k (law.backed p g);
      eight = law.eight;
      only = law.only;
    }

pub steps_keep : (m : Model) → Lawful m → StepsKeep m
steps_keep m law = record { post = post_keeps m law; settle = settle_keeps m law; advance = advance_keeps m law }

-- the two laws
root_open : (ps : List Place) (o : Option Parent) (f : ℕ) (s : Stage) → o ≡ None → is_shut (status_by (value_by ps o f) s) ≡ false
root_open ps None f fresh e = refl
root_open ps None f (holds n t a) e = refl
root_open ps None f (done n a) e = refl
root_open ps (Some q) f s e = absurd (none_some (sym e))

unsettled : (v : Option ℕ) → true ≡ not (is_settled (status_by v fresh))
unsettled None = refl
unsettled (Some v) = refl

settled_value : (v w : Option ℕ) (i h : ℕ) (s t : Stage) → w ≡ share s i → Backed w t h → is_shut (status_by w t) ≡ not (is_settled (status_by v s))
settled_value v w i h fresh fresh e b = ap (λ x. is_shut (status_by x fresh)) e ∙ unsettled v
settled_value v w i h (holds n k a) fresh e b = ap (λ x. is_shut (status_by x fresh)) e
settled_value v w i h (done n a) fresh e b = ap (λ x. is_shut (status_by x fresh)) e
settled_value v w i h fresh (holds k u c) e b = absurd (none_some (sym e ∙ b.0))
settled_value v w i h (holds n l a) (holds k u c) e b = absurd (none_some (sym e ∙ b.0))
settled_value v w i h (done n a) (holds k u c) e b = refl
settled_value v w i h fresh (done k c) e b = absurd (none_some (sym e ∙ b.0))
settled_value v w i h (holds n l a) (done k c) e b = absurd (none_some (sym e ∙ b.0))
settled_value v w i h (done n a) (done k c) e b = refl

settled_share : (v : Option ℕ) (s : Stage) (i n : ℕ) (a : List ℕ) → status_by v s ≡ settled n a → share s i ≡ Some (get_or a i 0)
settled_share None fresh i n a e = absurd (let z : ◌≡◌ {A = ℕ} 0 1 = cc in omega arith)
settled_share (Some v) fresh i n a e = absurd (let z : ◌≡◌ {A = ℕ} 0 1 = cc in omega arith)
settled_share v (holds k t b) i n a e = absurd (let z : ◌≡◌ {A = ℕ} 0 1 = cc in omega arith)
settled_share v (done k b) i n a e = let same : b ≡ a = cc in ap (λ (x : List ℕ). Some (get_or x i 0)) same

shown_adds : (v : Option ℕ) (s : Stage) (h : ℕ) → Backed v s h → shows_state (status_by v s) ≡ true → v ≡ Some (sum (shown_amounts (status_by v s)))
shown_adds None fresh h b e = absurd (let z : ◌≡◌ {A = ℕ} 0 1 = cc in omega arith)
shown_adds (Some v) fresh h b e = absurd (let z : ◌≡◌ {A = ℕ} 0 1 = cc in omega arith)
shown_adds v (holds n t a) h b e = b.0
shown_adds v (done n a) h b e = b.0

shut_none : (v : Option ℕ) (s : Stage) (h : ℕ) → Backed v s h → is_shut (status_by v s) ≡ is_none v
shut_none None fresh h b = refl
shut_none (Some v) fresh h b = refl
shut_none v (holds n t a) h b = sym (ap is_none b.0)
shut_none v (done n a) h b = sym (ap is_none b.0)

pub laws_hold : LawsHold
laws_hold m law =
    record {
      root_never_shut = λ p h e. root_open m.places (place_at m p).parent (place_at m p).funding (place_at m p).stage e;
      child_shut = λ p q i h e. settled_value (value_of m q) (value_of m p) i m.height (place_at m q).stage (place_at m p).stage (ap (λ o. value_by m.places o (place_at m p).funding) e) (law.backed p h);
      adds_up = λ p h e. shown_adds (value_of m p) (place_at m p).stage m.height (law.backed p h) e;
      root_value = λ p h e. ap (λ o. value_by m.places o (place_at m p).funding) e;
      child_value = λ p q i n a h e f. ap (λ o. value_by m.places o (place_at m p).funding) e ∙ settled_share (value_of m q) (place_at m q).stage i n a f;
      shut_no_value = λ p h. shut_none (value_of m p) (place_at m p).stage m.height (law.backed p h);
    }
