-- What every call keeps: agreed states fit together, and what is posted or settled was agreed.
use Rattle.std.proofs.Common.{◌≡◌, ℕ, ◌+◌, ◌<◌, ◌≤◌, ◌⊎◌, List, length, Some, None, Option, sym, ap, ◌∙◌, inl, inr, arith, rules}
use Rattle.std.proofs.lemmas.Bool.{cases_eq}
use Rattle.state.specs.declared.state.State.{State}
use Rattle.state.specs.declared.update.Update.{Update}
use Rattle.state.specs.Refusals.{accepted, first}
use Rattle.ledger.specs.Laws.{Lawful, max_places}
use Rattle.ledger.specs.Model.{Model, place_at, posted, settled, status, shown_number, shown_amounts}
use Rattle.ledger.specs.Steps.{post_checks, post_next, settle_checks, settle_next, advance_checks, advance_next}
use Rattle.ledger.proofs.Keeping.{steps_keep}
use Rattle.ledger.proofs.Showing.{steps_show}
use Rattle.eltoo.specs.Stations.{count, total, newest_at, allotment}
use Rattle.eltoo.proofs.Standings.{settle_taken}
use Rattle.eltoo.proofs.Moves.{Alike, post_alike, settle_alike, SettleWay, itself, opens, stays, settle_way}

abbrev pub state_by : Option Update → Option State
state_by None = None
state_by (Some u) = Some u.state

-- the newest agreed state of a place, as the tower keeps it
abbrev pub kept : List (Option Update) → ℕ → Option State
kept t p = state_by (newest_at t p)

abbrev pub Same : ℕ → List ℕ → State → Type 0
Same n a x = (x.number.value ≡ n) × (x.amounts ≡ a)

-- the number shown is lower than that of x, and stands since no longer than r blocks
abbrev pub Stale : Model → ℕ → ℕ → ℕ → State → Type 0
Stale m r n h x = (n < x.number.value) × (m.height ≤ h + r)

-- r is how far the height rose since the last round
pub record Sound (t : List (Option Update)) (m : Model) (r : ℕ) : Type 0 where
  pub lawful : Lawful m
  pub long : length t ≡ max_places
  pub placed : (p : ℕ) (x : State) → kept t p ≡ Some x → x.place ≡ p
  pub fits : (p : ℕ) (x : State) → p < count m → kept t p ≡ Some x → allotment m t p ≡ Some (total x)
  pub posted_ok : (p n h : ℕ) (a : List ℕ) → p < count m → status m p ≡ posted n h a → (x : State) × (kept t p ≡ Some x) × (Same n a x ⊎ Stale m r n h x)
  pub settled_ok : (p n : ℕ) (a : List ℕ) → p < count m → status m p ≡ settled n a → (x : State) × (kept t p ≡ Some x) × Same n a x

-- x was agreed for its place, and is the newest there or has a lower number than that
abbrev pub NotNewer : List (Option Update) → State → Type 0
NotNewer t x = (y : State) × (kept t x.place ≡ Some y) × ((x ≡ y) ⊎ (x.number.value < y.number.value))

-- what a step that keeps the layout and the agreed states leaves of it
fits_alike : (t : List (Option Update)) (m n : Model) → Alike m n → (p : ℕ) → allotment n t p ≡ allotment m t p
fits_alike t m n a p = search rules

pub sound_post : (t : List (Option Update)) (m : Model) (r : ℕ) (x : State) → Sound t m r → first (post_checks m x) ≡ accepted → NotNewer t x → Sound t (post_next m x) r
sound_post t m r x ok h old =
    record {
      lawful = (steps_keep m ok.lawful).post x h;
      long = ok.long;
      placed = ok.placed;
      fits = λ p z lt k. fits_alike t m (post_next m x) alike p ∙ ok.fits p z (there p lt) k;
      posted_ok = λ p n since a lt e. po p n since a (there p lt) e (cases_eq p x.place);
      settled_ok = λ p n a lt e. se p n a (there p lt) e (cases_eq p x.place);
    }
  where
    alike : Alike m (post_next m x)
    alike = post_alike m x h

    there : (p : ℕ) → p < count (post_next m x) → p < count m
    there p lt = omega (arith, alike.counts)

    here : status (post_next m x) x.place ≡ posted x.number.value m.height x.amounts
    here = ((steps_show m ok.lawful).post x h).here

    elsewhere : (p : ℕ) → (p ≡ x.place → ⊥) → status (post_next m x) p ≡ status m p
    elsewhere = ((steps_show m ok.lawful).post x h).elsewhere

    po : (p n since : ℕ) (a : List ℕ) → p < count m → status (post_next m x) p ≡ posted n since a → (p ≡ x.place) ⊎ (p ≡ x.place → ⊥) → (z : State) × (kept t p ≡ Some z) × (Same n a z ⊎ Stale m r n since z)
    po p n since a lt e (inl q) =
        let is : posted x.number.value m.height x.amounts ≡ posted n since a = sym here ∙ ap (status (post_next m x)) (sym q) ∙ e in
        let en : x.number.value ≡ n = cc in
        let ea : x.amounts ≡ a = cc in
        let eh : m.height ≡ since = cc in
        (old.0, ap (kept t) q ∙ old.1, (elim old.2 [ inl same ↦ inl (ap (λ (z : State). z.number.value) (sym same) ∙ en, ap (λ (z : State). z.amounts) (sym same) ∙ ea) | inr less ↦ inr (omega arith, omega arith) ]))
    po p n since a lt e (inr ne) = ok.posted_ok p n since a lt (sym (elsewhere p ne) ∙ e)

    se : (p n : ℕ) (a : List ℕ) → p < count m → status (post_next m x) p ≡ settled n a → (p ≡ x.place) ⊎ (p ≡ x.place → ⊥) → (z : State) × (kept t p ≡ Some z) × Same n a z
    se p n a lt e (inl q) = search rules
    se p n a lt e (inr ne) = ok.settled_ok p n a lt (sym (elsewhere p ne) ∙ e)

pub sound_settle : (t : List (Option Update)) (m : Model) (r p : ℕ) → Sound t m r → first (settle_checks m p) ≡ accepted → r < (place_at m p).delay → Sound t (settle_next m p) r
sound_settle t m r p ok h slow =
    record {
      lawful = (steps_keep m ok.lawful).settle p h;
      long = ok.long;
      placed = ok.placed;
      fits = λ q z lt k. fits_alike t m (settle_next m p) alike q ∙ ok.fits q z (there q lt) k;
      posted_ok = λ q n since a lt e. po q n since a (there q lt) e (settle_way m ok.lawful p h q (there q lt));
      settled_ok = λ q n a lt e. se q n a (there q lt) e (settle_way m ok.lawful p h q (there q lt));
    }
  where
    alike : Alike m (settle_next m p)
    alike = settle_alike m p h

    there : (q : ℕ) → q < count (settle_next m p) → q < count m
    there q lt = omega (arith, alike.counts)

    here : status (settle_next m p) p ≡ settled (shown_number (status m p)) (shown_amounts (status m p))
    here = ((steps_show m ok.lawful).settle p h).here

    po : (q n since : ℕ) (a : List ℕ) → q < count m → status (settle_next m p) q ≡ posted n since a → SettleWay m p q → (z : State) × (kept t q ≡ Some z) × (Same n a z ⊎ Stale m r n since z)
    po q n since a lt e (itself i) = search rules
    po q n since a lt e (opens ne s i) = absurd (cc)
    po q n since a lt e (stays ne i) = ok.posted_ok q n since a lt (sym i ∙ e)

    -- what p showed is its newest agreed state, since a lower number has not stood for so long
    was : (z : State) × (kept t p ≡ Some z) × Same (shown_number (status m p)) (shown_amounts (status m p)) z
    was =
        let s = settle_taken m p h in
        let w = ok.posted_ok p s.number s.since s.amounts s.within s.shown in (
          w.0,
          w.1,
          (elim w.2 [
            | inl same ↦ (same.0 ∙ sym (ap shown_number s.shown), same.1 ∙ sym (ap shown_amounts s.shown))
            | inr stale ↦ absurd (omega (arith, s.due, stale.1))
          ]),
        )

    se : (q n : ℕ) (a : List ℕ) → q < count m → status (settle_next m p) q ≡ settled n a → SettleWay m p q → (z : State) × (kept t q ≡ Some z) × Same n a z
    se q n a lt e (itself i) =
        let is : settled (shown_number (status m p)) (shown_amounts (status m p)) ≡ settled n a = sym here ∙ ap (status (settle_next m p)) (sym i) ∙ e in
        (was.0, ap (kept t) i ∙ was.1, (was.2.0 ∙ ap shown_number is, was.2.1 ∙ ap shown_amounts is))
    se q n a lt e (opens ne s i) = absurd (cc)
    se q n a lt e (stays ne i) = ok.settled_ok q n a lt (sym i ∙ e)

pub sound_advance : (t : List (Option Update)) (m : Model) (r k : ℕ) → Sound t m r → first (advance_checks m k) ≡ accepted → Sound t (advance_next m k) (r + k)
sound_advance t m r k ok h =
    record {
      lawful = (steps_keep m ok.lawful).advance k h;
      long = ok.long;
      placed = ok.placed;
      fits = ok.fits;
      posted_ok = λ p n since a lt e. (let w = ok.posted_ok p n since a lt e in (w.0, w.1, (elim w.2 [ inl same ↦ inl same | inr stale ↦ inr (stale.0, omega (arith, stale.1)) ])));
      settled_ok = ok.settled_ok;
    }
