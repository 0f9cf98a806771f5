-- What the visits of a round do: under what the runs keep, none of their calls is refused.
use Rattle.std.proofs.Common.{◌≡◌, ℕ, suc, ◌<◌, Bool, true, false, ◌&&◌, ◌||◌, ◌⊎◌, List, get_or, Some, None, Option, sym, refl, ap, ◌∙◌, subst, inl, inr, arith, rules}
use Rattle.std.proofs.lemmas.Bool.{cases_eq, cases_Bool, cond-true, true≢false}
use Rattle.state.specs.declared.state.State.{State}
use Rattle.state.specs.declared.update.Update.{Update}
use Rattle.state.specs.Refusals.{accepted, first}
use Rattle.ledger.specs.declared.view.Parent.{Parent}
use Rattle.ledger.specs.Laws.{Lawful, child}
use Rattle.ledger.specs.Model.{Model, place_at, value_of, Status, shut, idle, posted, settled, status, is_shut, is_settled}
use Rattle.ledger.specs.Steps.{post_checks, post_next, settle_checks, settle_next}
use Rattle.ledger.proofs.Changing.{none_some}
use Rattle.ledger.proofs.Keeping.{laws_hold}
use Rattle.ledger.proofs.Showing.{steps_show}
use Rattle.eltoo.specs.declared.answer.Counts.{Counts}
use Rattle.eltoo.specs.Stations.{count, total, newest_at, is_marked, is_idle, is_posted, allotted, allotment_by, allotment}
use Rattle.eltoo.specs.Rounds.{Tour, one_post, tried, is_behind, wants_post, wants_settle, tried_post, tried_settle}
use Rattle.eltoo.proofs.Standings.{four, can_post, settle_taken}
use Rattle.eltoo.proofs.Moves.{Alike, alike_same, alike_then, post_alike, settle_alike, delay_same, parent_below, SettleWay, itself, opens, stays, settle_way}
use Rattle.eltoo.proofs.Sound.{state_by, kept, Same, Sound, sound_post, sound_settle}

-- the parent of a place that is not shut is settled
parent_settled : (m : Model) → Lawful m → (c q i : ℕ) → c < count m → (place_at m c).parent ≡ child q i → is_shut (status m c) ≡ false → is_settled (status m q) ≡ true
parent_settled m law c q i lt e s = search rules

-- a newest agreed state adds up to the value of its place, once that is not shut
pub adds_up : (t : List (Option Update)) (m : Model) (r p : ℕ) (x : State) → Sound t m r → p < count m → kept t p ≡ Some x → is_shut (status m p) ≡ false → value_of m p ≡ Some (total x)
adds_up t m r p x ok lt k up = go (place_at m p).parent refl
  where
    due : allotment m t p ≡ Some (total x)
    due = ok.fits p x lt k

    by : (o : Option Parent) → (place_at m p).parent ≡ o → allotment_by t o (place_at m p).funding ≡ Some (total x)
    by o e = search rules

    given : (q : Parent) (o : Option Update) (z : State) → state_by o ≡ Some z → allotted o q.index ≡ Some (total x) → get_or z.amounts q.index 0 ≡ total x
    given q None z e d = absurd (none_some e)
    given q (Some u) z e d = search rules

    go : (o : Option Parent) → (place_at m p).parent ≡ o → value_of m p ≡ Some (total x)
    go None e = (laws_hold m ok.lawful).root_value p lt e ∙ by None e
    go (Some q) e = four (value_of m p ≡ Some (total x)) (status m q.place)
        (λ s. absurd (true≢false (sym settled_up ∙ ap is_settled s)))
        (λ s. absurd (true≢false (sym settled_up ∙ ap is_settled s)))
        (λ n h a s. absurd (true≢false (sym settled_up ∙ ap is_settled s)))
        (λ n a s.
        let low : q.place < p = (parent_below m ok.lawful.laid p q.place q.index lt e).0 in
        let w = ok.settled_ok q.place n a (omega arith) s in
        (laws_hold m ok.lawful).child_value p q.place q.index n a lt e s
        ∙ ap (λ (v : List ℕ). Some (get_or v q.index 0)) (sym w.2.1)
        ∙ ap Some (given q (newest_at t q.place) w.0 w.1 (by (Some q) e)))
      where
        settled_up : is_settled (status m q.place) ≡ true
        settled_up = search rules

-- what the first half of a visit did: a post that was accepted, or nothing
pub data FirstHalf (ks : List Bool) (m : Model) (p : ℕ) (x : State) (n : Model) : Type 0 where
  posts : wants_post ks m p x ≡ true → first (post_checks m x) ≡ accepted → n ≡ post_next m x → FirstHalf ks m p x n
  rests : wants_post ks m p x ≡ false → n ≡ m → FirstHalf ks m p x n

-- and the second half: a settlement that was accepted, or nothing
pub data SecondHalf (m : Model) (p : ℕ) (n : Model) : Type 0 where
  settles : first (settle_checks m p) ≡ accepted → n ≡ settle_next m p → SecondHalf m p n
  waits : wants_settle m p ≡ false → n ≡ m → SecondHalf m p n

-- an accepted call in a round
tried_ledger : (checks : List (Bool × ℕ)) (next : Model) (more : Counts → Counts) (w : Tour) → first checks ≡ accepted → (tried checks next more w).ledger ≡ next
tried_ledger checks next more w e = search rules

pub first_half : (ks : List Bool) (t : List (Option Update)) (w : Tour) (r p : ℕ) (x : State) → Sound t w.ledger r → p < count w.ledger → kept t p ≡ Some x → FirstHalf ks w.ledger p x (tried_post ks p x w).ledger
first_half ks t w r p x ok lt k = go (cases_Bool (wants_post ks w.ledger p x))
  where
    at : x.place ≡ p
    at = ok.placed p x k

    there : x.place < count w.ledger
    there = omega (arith, at, lt)

    -- the place is neither shut nor settled, and a number shown there is lower
    way : (st : Status) → (is_behind st x.number.value || (is_idle st && is_marked ks p)) ≡ true → (is_shut st ≡ false) × ((n : ℕ) (a : List ℕ) → st ≡ settled n a → ⊥) × ((n h : ℕ) (a : List ℕ) → st ≡ posted n h a → n < x.number.value)
    way shut e = absurd (true≢false (sym e))
    way idle e = search rules
    way (posted k s b) e = search rules
    way (settled k b) e = absurd (true≢false (sym e))

    taken : wants_post ks w.ledger p x ≡ true → first (post_checks w.ledger x) ≡ accepted
    taken e =
        let b = way (status w.ledger p) e in
        let v : value_of w.ledger x.place ≡ Some (total x) = ap (value_of w.ledger) at ∙ adds_up t w.ledger r p x ok lt k b.0 in
        can_post w.ledger x there v (λ n a i. b.1 n a (ap (status w.ledger) (sym at) ∙ i)) (λ n h a i. b.2 n h a (ap (status w.ledger) (sym at) ∙ i))

    go : (wants_post ks w.ledger p x ≡ true) ⊎ (wants_post ks w.ledger p x ≡ false) → FirstHalf ks w.ledger p x (tried_post ks p x w).ledger
    go (inl e) =
        posts e (taken e)
        (ap (λ (v : Tour). v.ledger) (cond-true (wants_post ks w.ledger p x) (tried (post_checks w.ledger x) (post_next w.ledger x) one_post w) w e)
        ∙ tried_ledger (post_checks w.ledger x) (post_next w.ledger x) one_post w (taken e))
    go (inr e) = search rules

pub second_half : (w : Tour) (p : ℕ) → Lawful w.ledger → p < count w.ledger → SecondHalf w.ledger p (tried_settle p w).ledger
second_half w p law lt = go (cases_Bool (wants_settle w.ledger p))
  where
    taken : wants_settle w.ledger p ≡ true → first (settle_checks w.ledger p) ≡ accepted
    taken e = search rules

    go : (wants_settle w.ledger p ≡ true) ⊎ (wants_settle w.ledger p ≡ false) → SecondHalf w.ledger p (tried_settle p w).ledger
    go (inl e) = search rules
    go (inr e) = search rules

-- what the first half of the visit of p keeps
module _ (ks : List Bool) (t : List (Option Update)) (m n : Model) (r p : ℕ) (x : State) (ok : Sound t m r) (lt : p < count m) (k : kept t p ≡ Some x) (half : FirstHalf ks m p x n) where
  at : x.place ≡ p
  at = ok.placed p x k

  pub sound₁ : Sound t n r
  sound₁ = elim half [ posts w h i ↦ subst (λ (y : Model). Sound t y r) (sym i) (sound_post t m r x ok h (x, ap (kept t) at ∙ k, inl refl)) | rests w i ↦ subst (λ (y : Model). Sound t y r) (sym i) ok ]

  pub alike₁ : Alike m n
  alike₁ = elim half [ posts w h i ↦ subst (Alike m) (sym i) (post_alike m x h) | rests w i ↦ subst (Alike m) (sym i) (alike_same m) ]

  pub height₁ : n.height ≡ m.height
  height₁ = elim half [ posts w h i ↦ ap (λ (y : Model). y.height) i | rests w i ↦ ap (λ (y : Model). y.height) i ]

  pub others₁ : (q : ℕ) → (q ≡ p → ⊥) → status n q ≡ status m q
  others₁ q ne = elim half [ posts w h i ↦ ap (λ (y : Model). status y q) i ∙ ((steps_show m ok.lawful).post x h).elsewhere q (λ e. ne (e ∙ at)) | rests w i ↦ ap (λ (y : Model). status y q) i ]

  -- where it is posted afterwards, p shows its newest agreed state
  pub clean₁ : (j since : ℕ) (a : List ℕ) → status n p ≡ posted j since a → Same j a x
  clean₁ j since a e = go half
    where
      go : FirstHalf ks m p x n → Same j a x
      go (posts w h i) = search rules
      go (rests w i) = search rules
        where
          wanted : status m p ≡ posted j since a → j < x.number.value → wants_post ks m p x ≡ true
          wanted f low = search rules

-- and the second half
module _ (m n : Model) (p : ℕ) (half : SecondHalf m p n) where
  pub alike₂ : Alike m n
  alike₂ = elim half [ settles h i ↦ subst (Alike m) (sym i) (settle_alike m p h) | waits w i ↦ subst (Alike m) (sym i) (alike_same m) ]

  pub height₂ : n.height ≡ m.height
  height₂ = elim half [ settles h i ↦ ap (λ (y : Model). y.height) i | waits w i ↦ ap (λ (y : Model). y.height) i ]

  -- where p is not posted it does nothing
  pub unposted₂ : is_posted (status m p) ≡ false → n ≡ m
  unposted₂ e = elim half [ settles h i ↦ absurd (true≢false (sym (ap is_posted (settle_taken m p h).shown) ∙ e)) | waits w i ↦ i ]

  module _ (t : List (Option Update)) (r : ℕ) (ok : Sound t m r) where
    pub sound₂ : r < (place_at m p).delay → Sound t n r
    sound₂ slow = elim half [ settles h i ↦ subst (λ (y : Model). Sound t y r) (sym i) (sound_settle t m r p ok h slow) | waits w i ↦ subst (λ (y : Model). Sound t y r) (sym i) ok ]

    -- what is posted afterwards was posted so before
    pub posted₂ : (q j since : ℕ) (a : List ℕ) → q < count m → status n q ≡ posted j since a → status m q ≡ posted j since a
    posted₂ q j since a lt e = elim half [ settles h i ↦ by h (sym (ap (λ (y : Model). status y q) i) ∙ e) (settle_way m ok.lawful p h q lt) | waits w i ↦ sym (ap (λ (y : Model). status y q) i) ∙ e ]
      where
        by : first (settle_checks m p) ≡ accepted → status (settle_next m p) q ≡ posted j since a → SettleWay m p q → status m q ≡ posted j since a
        by h f (itself i) = search rules
        by h f (opens ne s i) = absurd (cc)
        by h f (stays ne i) = sym i ∙ f

-- the posted places below n show their newest agreed state
abbrev pub Clean : List (Option Update) → Model → ℕ → Type 0
Clean t m n = (p j since : ℕ) (a : List ℕ) → p < n → status m p ≡ posted j since a → (x : State) × (kept t p ≡ Some x) × Same j a x

-- what holds after the first n visits of a round that began at the ledger m₀
pub record Visited (t : List (Option Update)) (m₀ m : Model) (r n : ℕ) : Type 0 where
  pub sound : Sound t m r
  pub alike : Alike m₀ m
  pub same_height : m.height ≡ m₀.height
  pub clean : Clean t m n

-- the visit of a place with an agreed state
pub one_visit : (ks : List Bool) (t : List (Option Update)) (m₀ m m₁ m₂ : Model) (r n : ℕ) (x : State) → Visited t m₀ m r n → n < count m → r < (place_at m n).delay → kept t n ≡ Some x → FirstHalf ks m n x m₁ → SecondHalf m₁ n m₂ → Visited t m₀ m₂ r (suc n)
one_visit ks t m₀ m m₁ m₂ r n x v lt slow k f s =
    record {
      sound = sound₂ m₁ m₂ n s t r s₁ slow₁;
      alike = alike_then v.alike (alike_then a₁ (alike₂ m₁ m₂ n s));
      same_height = height₂ m₁ m₂ n s ∙ height₁ ks t m m₁ r n x v.sound lt k f ∙ v.same_height;
      clean = λ p j since a low e. tidy p j since a low (posted₂ m₁ m₂ n s t r s₁ p j since a (omega (arith, a₁.counts, low, lt)) e) (cases_eq p n);
    }
  where
    s₁ : Sound t m₁ r
    s₁ = sound₁ ks t m m₁ r n x v.sound lt k f

    a₁ : Alike m m₁
    a₁ = alike₁ ks t m m₁ r n x v.sound lt k f

    slow₁ : r < (place_at m₁ n).delay
    slow₁ = omega (arith, delay_same a₁ n, slow)

    tidy : (p j since : ℕ) (a : List ℕ) → p < suc n → status m₁ p ≡ posted j since a → (p ≡ n) ⊎ (p ≡ n → ⊥) → (z : State) × (kept t p ≡ Some z) × Same j a z
    tidy p j since a low e (inl q) = (x, ap (kept t) q ∙ k, clean₁ ks t m m₁ r n x v.sound lt k f j since a (ap (status m₁) (sym q) ∙ e))
    tidy p j since a low e (inr ne) = v.clean p j since a (omega arith) (sym (others₁ ks t m m₁ r n x v.sound lt k f p ne) ∙ e)

-- and of one without
pub no_visit : (t : List (Option Update)) (m₀ m : Model) (r n : ℕ) → Visited t m₀ m r n → n < count m → kept t n ≡ None → Visited t m₀ m r (suc n)
no_visit t m₀ m r n v lt k =
    record { sound = v.sound; alike = v.alike; same_height = v.same_height; clean = λ p j since a low e. tidy p j since a low e (cases_eq p n) }
  where
    tidy : (p j since : ℕ) (a : List ℕ) → p < suc n → status m p ≡ posted j since a → (p ≡ n) ⊎ (p ≡ n → ⊥) → (z : State) × (kept t p ≡ Some z) × Same j a z
    tidy p j since a low e (inl q) = search rules
    tidy p j since a low e (inr ne) = v.clean p j since a (omega arith) e
