-- A round brings every marked place on: what it leaves undone could not be done yet.
use Rattle.std.proofs.Common.{◌≡◌, ℕ, zero, suc, ◌+◌, ◌<◌, ◌≤◌, Bool, true, false, not, ◌&&◌, ◌||◌, ltb, ◌⊎◌, List, Some, None, Option, sym, refl, ap, ◌∙◌, subst, inl, inr, arith, rules}
use Rattle.std.proofs.lemmas.Bool.{cases_eq, true≢false, le-ltb, leb-false}
use Rattle.state.specs.declared.state.State.{State}
use Rattle.state.specs.declared.update.Update.{Update}
use Rattle.state.specs.Refusals.{accepted, first}
use Rattle.ledger.specs.declared.view.Parent.{Parent}
use Rattle.ledger.specs.Laws.{child}
use Rattle.ledger.specs.Model.{Model, place_at, Status, shut, idle, posted, settled, status, is_shut, is_settled}
use Rattle.ledger.specs.Steps.{post_checks, post_next}
use Rattle.ledger.proofs.Changing.{some_same, none_some}
use Rattle.ledger.proofs.Keeping.{laws_hold}
use Rattle.ledger.proofs.Showing.{steps_show}
use Rattle.eltoo.specs.Stations.{count, newest_at, is_marked, is_idle, is_posted}
use Rattle.eltoo.specs.Rounds.{Tour, is_behind, wants_post, is_due, wants_settle, visit, visits}
use Rattle.eltoo.proofs.Standings.{four, dated}
use Rattle.eltoo.proofs.Moves.{Alike, alike_then, delay_same, parent_same, parent_below}
use Rattle.eltoo.proofs.Sound.{state_by, kept, Same, Stale, Sound}
use Rattle.eltoo.proofs.Visiting.{FirstHalf, posts, rests, SecondHalf, settles, waits, sound₁, alike₁, height₁, others₁, alike₂, unposted₂, Visited}
use Rattle.eltoo.proofs.Rounds.{halves, Brief, all_visits}
use Rattle.eltoo.proofs.Lineages.{Above, above_more, ahead, ahead_alike, ahead_child}
use Rattle.eltoo.proofs.Timely.{IsSettled, Up, Timely, timely_same, timely_done, timely_settle}

-- after the first half of the visit of q: it is settled, or its newest state is up, or it is shut and as it was
module _ (t : List (Option Update)) (ks : List Bool) (m n : Model) (g h r q : ℕ) (x : State) (ok : Sound t m r) (w : Timely t ks m g h r q) (k : kept t q ≡ Some x) (le : r ≤ g) (half : FirstHalf ks m q x n) where
  abbrev bound : ℕ
  bound = h + ahead m g q + g

  pub data After : Type 0 where
    finished : IsSettled n q → After
    up : Up t n q bound → After
    shut-still : n ≡ m → status m q ≡ shut → After

  at : x.place ≡ q
  at = ok.placed q x k

  -- a place that is neither settled nor up was not claimed long ago
  recent : (IsSettled m q → ⊥) → (Up t m q bound → ⊥) → m.height ≤ h + ahead m g q + r
  recent ns nu = elim w.begun [ inl s ↦ absurd (ns s) | inr b ↦ elim b [ inl u ↦ absurd (nu u) | inr low ↦ low ] ]

  posted_up : first (post_checks m x) ≡ accepted → n ≡ post_next m x → m.height ≤ h + ahead m g q + r → After
  posted_up c i low =
      up (record {
        state = x;
        since = m.height;
        newest = k;
        shown = ap (λ (y : Model). status y q) i ∙ ap (status (post_next m x)) (sym at) ∙ ((steps_show m ok.lawful).post x c).here;
        early = omega (arith, low, le);
      })

  -- the post of a state that the round wanted
  posted_anew : first (post_checks m x) ≡ accepted → n ≡ post_next m x → wants_post ks m q x ≡ true → After
  posted_anew c i want = posted_up c i (recent
      (λ s. four ⊥ (status m q)
      (λ e. true≢false (sym s ∙ ap is_settled e))
      (λ e. true≢false (sym s ∙ ap is_settled e))
      (λ j since a e. true≢false (sym s ∙ ap is_settled e))
      (λ j a e. true≢false (sym want ∙ ap (λ v. is_behind v x.number.value || (is_idle v && is_marked ks q)) e)))
      (λ u.
      let same : u.state ≡ x = some_same (sym u.newest ∙ k) in
      let num : u.state.number.value ≡ x.number.value = ap (λ (y : State). y.number.value) same in
      let b : ltb u.state.number.value x.number.value ≡ false = le-ltb u.state.number.value x.number.value (omega arith) in
      true≢false (sym want ∙ ap (λ v. is_behind v x.number.value || (is_idle v && is_marked ks q)) u.shown ∙ ap (λ v. v || false) b)))

  rested : n ≡ m → wants_post ks m q x ≡ false → After
  rested i no-want = four After (status m q)
      (λ e. shut-still i e)
      (λ e. absurd (true≢false (sym (ap (λ v. is_behind v x.number.value || (is_idle v && is_marked ks q)) e ∙ w.marked) ∙ no-want)))
      (λ j since a e. stays_up j since a e)
      (λ j a e. finished (ap (λ (y : Model). is_settled (status y q)) i ∙ ap is_settled e))
    where
      stays_up : (j since : ℕ) (a : List ℕ) → status m q ≡ posted j since a → After
      stays_up j since a e = way (ok.posted_ok q j since a w.there e)
        where
          behind : j < x.number.value → ⊥
          behind low = search rules

          soon : since ≤ bound
          soon = elim w.begun [
            | inl s ↦ absurd (true≢false (sym s ∙ ap is_settled e))
            | inr v ↦ elim v [
              | inl u ↦ (let is : posted u.state.number.value u.since u.state.amounts ≡ posted j since a = sym u.shown ∙ e in let eh : u.since ≡ since = cc in omega (arith, u.early))
              | inr low ↦ omega (arith, dated m ok.lawful q j since a w.there e, low, le)
            ]
          ]

          way : (z : State) × (kept t q ≡ Some z) × (Same j a z ⊎ Stale m r j since z) → After
          way z =
              let same : z.0 ≡ x = some_same (sym z.1 ∙ k) in
              elim z.2 [
                | inl s ↦ up (record {
                  state = x;
                  since = since;
                  newest = k;
                  shown = ap (λ (y : Model). status y q) i ∙ e ∙ ap (λ v. posted v since a) (sym (ap (λ (y : State). y.number.value) (sym same) ∙ s.0)) ∙ ap (posted x.number.value since) (sym (ap (λ (y : State). y.amounts) (sym same) ∙ s.1));
                  early = soon;
                })
                | inr s ↦ absurd (behind (subst (λ (y : State). j < y.number.value) same s.0))
              ]

  pub after_first : After
  after_first = elim half [ posts want c i ↦ posted_anew c i want | rests no-want i ↦ rested i no-want ]

-- the visit of q itself, whose parent has been visited in this round
pub visit_self : (t : List (Option Update)) (ks : List Bool) (m m₁ m₂ : Model) (g h r q : ℕ) (x : State) → Sound t m r → Timely t ks m g h r q → kept t q ≡ Some x → r ≤ g → ((p i : ℕ) → (place_at m q).parent ≡ child p i → Timely t ks m g h 0 p) → FirstHalf ks m q x m₁ → SecondHalf m₁ q m₂ → Timely t ks m₂ g h 0 q
visit_self t ks m m₁ m₂ g h r q x ok w k le parent f s = go (after_first t ks m m₁ g h r q x ok w k le f)
  where
    a₁ : Alike m m₁
    a₁ = alike₁ ks t m m₁ r q x ok w.there k f

    s₁ : Sound t m₁ r
    s₁ = sound₁ ks t m m₁ r q x ok w.there k f

    alike : Alike m m₂
    alike = alike_then a₁ (alike₂ m₁ m₂ q s)

    height : m₂.height ≡ m.height
    height = search rules

    A : ahead m₂ g q ≡ ahead m g q
    A = ahead_alike alike g q

    D : (place_at m₂ q).delay ≡ (place_at m q).delay
    D = delay_same alike q

    D₁ : (place_at m₁ q).delay ≡ (place_at m q).delay
    D₁ = delay_same a₁ q

    H₁ : m₁.height ≡ m.height
    H₁ = height₁ ks t m m₁ r q x ok w.there k f

    not-posted : (st : Status) → (is_settled st ≡ true) ⊎ (st ≡ shut) → is_posted st ≡ false
    not-posted shut e = refl
    not-posted idle e = refl
    not-posted (posted j since a) (inl e) = sym e
    not-posted (posted j since a) (inr e) = ap is_posted e
    not-posted (settled j a) e = refl

    -- shut: its parent is not settled, so that its time has not come
    early : status m q ≡ shut → (o : Option Parent) → (place_at m q).parent ≡ o → m.height ≤ h + ahead m g q
    early e None i = search rules
    early e (Some v) i =
        let p = parent v.place v.index i in
        let a = ahead_child m ok.lawful.laid g q v.place v.index w.there i in
        let law = (laws_hold m ok.lawful).child_shut q v.place v.index w.there i in
        elim p.ended [ inl d ↦ absurd (true≢false (sym (ap is_shut e) ∙ law ∙ ap not d)) | inr low ↦ omega arith ]

    -- posted with its newest state, and not settled now: it is not due
    undue : Up t m₁ q (h + ahead m g q + g) → m₂ ≡ m₁ → wants_settle m₁ q ≡ false → Timely t ks m₂ g h 0 q
    undue u i e =
        let late : m₁.height < u.since + (place_at m₁ q).delay = leb-false (u.since + (place_at m₁ q).delay) m₁.height (sym (ap (λ v. is_due v (place_at m₁ q).delay m₁.height) u.shown) ∙ e) in
        record {
          there = omega (arith, alike.counts, w.there);
          marked = w.marked;
          state = w.state;
          agreed = w.agreed;
          begun = inr (inl (record { state = u.state; since = u.since; newest = u.newest; shown = ap (λ (y : Model). status y q) i ∙ u.shown; early = omega (arith, u.early, A) }));
          ended = inr (omega (arith, late, u.early, A, D, D₁, H₁, height));
        }

    go : After t ks m m₁ g h r q x ok w k le f → Timely t ks m₂ g h 0 q
    go (finished d) =
        let same = unposted₂ m₁ m₂ q s (not-posted (status m₁ q) (inl d)) in
        timely_done t ks m m₂ g h r 0 q alike (ap (λ (y : Model). is_settled (status y q)) same ∙ d) w
    go (shut-still i e) =
        let low = early e (place_at m q).parent refl in
        record {
          there = omega (arith, alike.counts, w.there);
          marked = w.marked;
          state = w.state;
          agreed = w.agreed;
          begun = inr (inr (omega (arith, low, A, height)));
          ended = inr (omega (arith, low, A, height));
        }
    go (up u) = elim s [
      | settles c i ↦ timely_done t ks m m₂ g h r 0 q alike (ap (λ (y : Model). is_settled (status y q)) i ∙ ap is_settled ((steps_show m₁ s₁.lawful).settle q c).here) w
      | waits e i ↦ undue u i e
    ]

-- the visit of another place
pub visit_other : (t : List (Option Update)) (ks : List Bool) (m m₁ m₂ : Model) (g h r ρ n q : ℕ) (x : State) → Sound t m r → n < count m → kept t n ≡ Some x → (q ≡ n → ⊥) → FirstHalf ks m n x m₁ → SecondHalf m₁ n m₂ → Timely t ks m g h ρ q → Timely t ks m₂ g h ρ q
visit_other t ks m m₁ m₂ g h r ρ n q x ok lt k ne f s w =
    let s₁ = sound₁ ks t m m₁ r n x ok lt k f in
    let w₁ = timely_same t ks m m₁ g h ρ q (alike₁ ks t m m₁ r n x ok lt k f) (height₁ ks t m m₁ r n x ok lt k f) (others₁ ks t m m₁ r n x ok lt k f q ne) w in
    elim s [
      | settles c i ↦ subst (λ (y : Model). Timely t ks y g h ρ q) (sym i) (timely_settle t ks m₁ g h ρ q n s₁.lawful c w₁)
      | waits e i ↦ subst (λ (y : Model). Timely t ks y g h ρ q) (sym i) w₁
    ]

-- what a round has done for q after n visits
abbrev Stage : List (Option Update) → List Bool → Model → ℕ → ℕ → ℕ → ℕ → ℕ → Type 0
Stage t ks m g h r n q = (q < n → Timely t ks m g h 0 q) × (n ≤ q → Timely t ks m g h r q)

-- the places that p hangs from, and p, after n visits of a round
pub all_timely : (t : List (Option Update)) (ks : List Bool) (w : Tour) (g h r p n : ℕ) → Sound t w.ledger r → Brief w.ledger r → r ≤ g → ((q : ℕ) → Above w.ledger p q → Timely t ks w.ledger g h r q) → n ≤ count w.ledger → (q : ℕ) → Above w.ledger p q → Stage t ks (visits ks t n w).ledger g h r n q
all_timely t ks w g h r p zero ok brief le all lim q ab = ((λ low. absurd (omega arith)), (λ _. all q ab))
all_timely t ks w g h r p (suc n) ok brief le all lim q ab = go (newest_at t n) refl (all_timely t ks w g h r p n ok brief le all (omega arith)) (cases_eq q n)
  where
    v : Visited t w.ledger (visits ks t n w).ledger r n
    v = all_visits ks t w r n ok (omega arith) brief

    lt : n < count (visits ks t n w).ledger
    lt = omega (arith, v.alike.counts, lim)

    go : (o : Option Update) → newest_at t n ≡ o → ((k : ℕ) → Above w.ledger p k → Stage t ks (visits ks t n w).ledger g h r n k) → (q ≡ n) ⊎ (q ≡ n → ⊥) → Stage t ks (visit ks (newest_at t n) n (visits ks t n w)).ledger g h r (suc n) q
    go None e stage (inl i) =
        let z = (stage q ab).1 (omega arith) in
        absurd (none_some (sym (ap (kept t) i ∙ ap state_by e) ∙ z.agreed))
    go None e stage (inr ne) =
        let z = stage q ab in
        subst (λ (o : Option Update). Stage t ks (visit ks o n (visits ks t n w)).ledger g h r (suc n) q) (sym e) ((λ low. z.0 (omega arith)), (λ high. z.1 (omega arith)))
    go (Some u) e stage (inr ne) =
        let z = stage q ab in
        let b = halves ks t (visits ks t n w) r n u v.sound lt e in
        let other = λ (ρ : ℕ). visit_other t ks (visits ks t n w).ledger b.between (visit ks (newest_at t n) n (visits ks t n w)).ledger g h r ρ n q u.state v.sound lt (ap state_by e) ne b.before b.after in
        ((λ low. other 0 (z.0 (omega arith))), (λ high. other r (z.1 (omega arith))))
    go (Some u) e stage (inl i) =
        let z = (stage q ab).1 (omega arith) in
        let b = halves ks t (visits ks t n w) r n u v.sound lt e in
        let kq : kept t n ≡ Some u.state = ap state_by e in
        let zn : Timely t ks (visits ks t n w).ledger g h r n = subst (Timely t ks (visits ks t n w).ledger g h r) i z in
        let abn : Above w.ledger p n = subst (Above w.ledger p) i ab in
        let self = visit_self t ks (visits ks t n w).ledger b.between (visit ks (newest_at t n) n (visits ks t n w)).ledger g h r n u.state v.sound zn kq le
        (λ c j up.
        let up' : (place_at w.ledger n).parent ≡ child c j = sym (parent_same v.alike n) ∙ up in
        let low = (parent_below (visits ks t n w).ledger v.sound.lawful.laid n c j lt up).0 in
        (stage c (above_more w.ledger p n c j abn up')).0 low)
        b.before b.after in
        ((λ low. subst (Timely t ks (visit ks (newest_at t n) n (visits ks t n w)).ledger g h 0) (sym i) self), (λ high. absurd (omega arith)))
