-- How long a marked place can take, and that no call but a round makes it longer.
use Rattle.std.proofs.Common.{◌≡◌, ℕ, ◌+◌, ◌<◌, ◌≤◌, Bool, true, false, ◌⊎◌, List, length, Some, Option, sym, refl, ap, ◌∙◌, inl, inr, arith, rules}
use Rattle.std.proofs.lemmas.Bool.{cases_eq, true≢false}
use Rattle.state.specs.declared.state.State.{State}
use Rattle.state.specs.declared.update.Update.{Update}
use Rattle.state.specs.Refusals.{accepted, first}
use Rattle.ledger.specs.Laws.{Lawful}
use Rattle.ledger.specs.Model.{Model, place_at, posted, status, is_settled}
use Rattle.ledger.specs.Steps.{post_checks, post_next, settle_checks, settle_next, advance_next}
use Rattle.ledger.proofs.Showing.{steps_show}
use Rattle.eltoo.specs.Stations.{count, is_marked, is_posted}
use Rattle.eltoo.proofs.Standings.{PostTaken, post_taken}
use Rattle.eltoo.proofs.Moves.{Alike, post_alike, settle_alike, advance_alike, delay_same, SettleWay, itself, opens, stays, settle_way}
use Rattle.eltoo.proofs.Sound.{kept, NotNewer}
use Rattle.eltoo.proofs.Agreeing.{keeping, kept_here, kept_other}
use Rattle.eltoo.proofs.Lineages.{ahead, ahead_alike}

abbrev pub IsSettled : Model → ℕ → Type 0
IsSettled m q = is_settled (status m q) ≡ true

-- q is posted with its newest agreed state since a height of at most b
pub record Up (t : List (Option Update)) (m : Model) (q b : ℕ) : Type 0 where
  pub state : State
  pub since : ℕ
  pub newest : kept t q ≡ Some state
  pub shown : status m q ≡ posted state.number.value since state.amounts
  pub early : since ≤ b

-- the newest state of q has been posted, or it is not yet long since it could be
abbrev pub Begun : List (Option Update) → Model → ℕ → ℕ → ℕ → ℕ → Type 0
Begun t m g h r q = IsSettled m q ⊎ (Up t m q (h + ahead m g q + g) ⊎ (m.height ≤ h + ahead m g q + r))

-- q is settled, or it is not yet long since it could be
abbrev pub Ended : Model → ℕ → ℕ → ℕ → ℕ → Type 0
Ended m g h r q = IsSettled m q ⊎ (m.height ≤ h + ahead m g q + g + (place_at m q).delay + r)

-- of a place q that is marked since height h, where the height rose by r since the last round
pub record Timely (t : List (Option Update)) (ks : List Bool) (m : Model) (g h r q : ℕ) : Type 0 where
  pub there : q < count m
  pub marked : is_marked ks q ≡ true
  pub state : State
  pub agreed : kept t q ≡ Some state
  pub begun : Begun t m g h r q
  pub ended : Ended m g h r q

-- what q shows is all that counts of what is shown
pub timely_same : (t : List (Option Update)) (ks : List Bool) (m n : Model) (g h r q : ℕ) → Alike m n → n.height ≡ m.height → status n q ≡ status m q → Timely t ks m g h r q → Timely t ks n g h r q
timely_same t ks m n g h r q alike eh es w =
    let A : ahead n g q ≡ ahead m g q = ahead_alike alike g q in
    let D : (place_at n q).delay ≡ (place_at m q).delay = delay_same alike q in
    record {
      there = omega (arith, alike.counts, w.there);
      marked = w.marked;
      state = w.state;
      agreed = w.agreed;
      begun = elim w.begun [
        | inl s ↦ inl (ap is_settled es ∙ s)
        | inr b ↦ inr (elim b [ inl u ↦ inl (record { state = u.state; since = u.since; newest = u.newest; shown = es ∙ u.shown; early = omega (arith, u.early) }) | inr le ↦ inr (omega arith) ])
      ];
      ended = elim w.ended [ inl s ↦ inl (ap is_settled es ∙ s) | inr le ↦ inr (omega arith) ];
    }

-- q has come to be settled
pub timely_done : (t : List (Option Update)) (ks : List Bool) (m n : Model) (g h r r' q : ℕ) → Alike m n → IsSettled n q → Timely t ks m g h r q → Timely t ks n g h r' q
timely_done t ks m n g h r r' q alike s w =
    record { there = omega (arith, alike.counts, w.there); marked = w.marked; state = w.state; agreed = w.agreed; begun = inl s; ended = inl s }

-- a settlement
pub timely_settle : (t : List (Option Update)) (ks : List Bool) (m : Model) (g h r q p : ℕ) → Lawful m → first (settle_checks m p) ≡ accepted → Timely t ks m g h r q → Timely t ks (settle_next m p) g h r q
timely_settle t ks m g h r q p law c w = go (settle_way m law p c q w.there)
  where
    alike : Alike m (settle_next m p)
    alike = settle_alike m p c

    go : SettleWay m p q → Timely t ks (settle_next m p) g h r q
    go (itself e) = timely_done t ks m (settle_next m p) g h r r q alike (ap (λ n. is_settled (status (settle_next m p) n)) e ∙ ap is_settled ((steps_show m law).settle p c).here) w
    go (stays ne e) = timely_same t ks m (settle_next m p) g h r q alike refl e w
    go (opens ne s e) =
        let A : ahead (settle_next m p) g q ≡ ahead m g q = ahead_alike alike g q in
        let D : (place_at (settle_next m p) q).delay ≡ (place_at m q).delay = delay_same alike q in
        let no-set : IsSettled m q → ⊥ = λ i. true≢false (sym i ∙ ap is_settled s) in
        record {
          there = omega (arith, alike.counts, w.there);
          marked = w.marked;
          state = w.state;
          agreed = w.agreed;
          begun = elim w.begun [ inl i ↦ absurd (no-set i) | inr b ↦ inr (elim b [ inl u ↦ absurd (true≢false (sym (ap is_posted u.shown) ∙ ap is_posted s)) | inr le ↦ inr (omega arith) ]) ];
          ended = elim w.ended [ inl i ↦ absurd (no-set i) | inr le ↦ inr (omega arith) ];
        }

-- a post of a state that is not newer than the newest agreed
pub timely_post : (t : List (Option Update)) (ks : List Bool) (m : Model) (g h r q : ℕ) (x : State) → Lawful m → r ≤ g → first (post_checks m x) ≡ accepted → NotNewer t x → Timely t ks m g h r q → Timely t ks (post_next m x) g h r q
timely_post t ks m g h r q x law le c old w = go (cases_eq q x.place)
  where
    alike : Alike m (post_next m x)
    alike = post_alike m x c

    taken : PostTaken m x
    taken = post_taken m x c

    no-set : q ≡ x.place → IsSettled m q → ⊥
    no-set e s = search rules

    -- a newest agreed state is not posted over
    no-up : {b : ℕ} → q ≡ x.place → Up t m q b → ⊥
    no-up e u = search rules

    go : (q ≡ x.place) ⊎ (q ≡ x.place → ⊥) → Timely t ks (post_next m x) g h r q
    go (inr ne) = timely_same t ks m (post_next m x) g h r q alike refl (((steps_show m law).post x c).elsewhere q ne) w
    go (inl e) =
        let A : ahead (post_next m x) g q ≡ ahead m g q = ahead_alike alike g q in
        let D : (place_at (post_next m x) q).delay ≡ (place_at m q).delay = delay_same alike q in
        record {
          there = omega (arith, alike.counts, w.there);
          marked = w.marked;
          state = w.state;
          agreed = w.agreed;
          begun = elim w.begun [ inl s ↦ absurd (no-set e s) | inr b ↦ inr (elim b [ inl u ↦ absurd (no-up e u) | inr low ↦ inr (omega arith) ]) ];
          ended = elim w.ended [ inl s ↦ absurd (no-set e s) | inr low ↦ inr (omega arith) ];
        }

pub timely_advance : (t : List (Option Update)) (ks : List Bool) (m : Model) (g h r q k : ℕ) → Timely t ks m g h r q → Timely t ks (advance_next m k) g h (r + k) q
timely_advance t ks m g h r q k w =
    let A : ahead (advance_next m k) g q ≡ ahead m g q = ahead_alike (advance_alike m k) g q in
    record {
      there = w.there;
      marked = w.marked;
      state = w.state;
      agreed = w.agreed;
      begun = elim w.begun [ inl s ↦ inl s | inr b ↦ inr (elim b [ inl u ↦ inl (record { state = u.state; since = u.since; newest = u.newest; shown = u.shown; early = omega (arith, u.early) }) | inr low ↦ inr (omega arith) ]) ];
      ended = elim w.ended [ inl s ↦ inl s | inr low ↦ inr (omega arith) ];
    }

-- an agree on a place that is not posted
pub timely_agree : (t : List (Option Update)) (ks : List Bool) (m : Model) (g h r q : ℕ) (u : Update) → u.state.place < length t → is_posted (status m u.state.place) ≡ false → Timely t ks m g h r q → Timely (keeping t u) ks m g h r q
timely_agree t ks m g h r q u low free w = go (cases_eq q u.state.place)
  where
    go : (q ≡ u.state.place) ⊎ (q ≡ u.state.place → ⊥) → Timely (keeping t u) ks m g h r q
    go (inl e) =
        record {
          there = w.there;
          marked = w.marked;
          state = u.state;
          agreed = kept_here t u low q e;
          begun = elim w.begun [ inl i ↦ inl i | inr b ↦ inr (elim b [ inl v ↦ absurd (true≢false (sym (ap is_posted v.shown) ∙ ap (λ n. is_posted (status m n)) e ∙ free)) | inr le ↦ inr le ]) ];
          ended = w.ended;
        }
    go (inr ne) =
        record {
          there = w.there;
          marked = w.marked;
          state = w.state;
          agreed = kept_other t u q ne ∙ w.agreed;
          begun = elim w.begun [ inl i ↦ inl i | inr b ↦ inr (elim b [ inl v ↦ inl (record { state = v.state; since = v.since; newest = kept_other t u q ne ∙ v.newest; shown = v.shown; early = v.early }) | inr le ↦ inr le ]) ];
          ended = w.ended;
        }

-- more marks
pub timely_mark : (t : List (Option Update)) (ks ls : List Bool) (m : Model) (g h r q : ℕ) → is_marked ls q ≡ true → Timely t ks m g h r q → Timely t ls m g h r q
timely_mark t ks ls m g h r q e w =
    record { there = w.there; marked = e; state = w.state; agreed = w.agreed; begun = w.begun; ended = w.ended }
