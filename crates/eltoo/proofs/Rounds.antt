-- A whole round: afterwards every posted place shows its newest agreed state.
use Rattle.std.proofs.Common.{◌≡◌, ℕ, zero, suc, ◌<◌, ◌≤◌, Bool, List, Some, None, Option, sym, refl, ap, subst, inl, arith}
use Rattle.state.specs.declared.state.State.{State}
use Rattle.state.specs.declared.update.Update.{Update}
use Rattle.ledger.specs.Model.{Model, place_at}
use Rattle.eltoo.specs.Stations.{count, newest_at}
use Rattle.eltoo.specs.Rounds.{Tour, tried_post, visit, visits}
use Rattle.eltoo.proofs.Moves.{alike_same, delay_same}
use Rattle.eltoo.proofs.Sound.{state_by, kept, Sound}
use Rattle.eltoo.proofs.Visiting.{FirstHalf, SecondHalf, first_half, second_half, sound₁, alike₁, Visited, one_visit, no_visit}

-- the two halves of a visit, with the ledger between them
pub record Halves (ks : List Bool) (m : Model) (p : ℕ) (x : State) (n : Model) : Type 0 where
  pub between : Model
  pub before : FirstHalf ks m p x between
  pub after : SecondHalf between p n

pub halves : (ks : List Bool) (t : List (Option Update)) (w : Tour) (r n : ℕ) (u : Update) → Sound t w.ledger r → n < count w.ledger → newest_at t n ≡ Some u → Halves ks w.ledger n u.state (visit ks (newest_at t n) n w).ledger
halves ks t w r n u ok lt e =
    let k : kept t n ≡ Some u.state = ap state_by e in
    let f = first_half ks t w r n u.state ok lt k in
    let s₁ = sound₁ ks t w.ledger (tried_post ks n u.state w).ledger r n u.state ok lt k f in
    let a₁ = alike₁ ks t w.ledger (tried_post ks n u.state w).ledger r n u.state ok lt k f in
    record {
      between = (tried_post ks n u.state w).ledger;
      before = f;
      after = subst (λ (o : Option Update). SecondHalf (tried_post ks n u.state w).ledger n (visit ks o n w).ledger) (sym e) (second_half (tried_post ks n u.state w) n s₁.lawful (omega (arith, a₁.counts, lt)));
    }

-- r blocks are fewer than any delay
abbrev pub Brief : Model → ℕ → Type 0
Brief m r = (p : ℕ) → p < count m → r < (place_at m p).delay

pub all_visits : (ks : List Bool) (t : List (Option Update)) (w : Tour) (r n : ℕ) → Sound t w.ledger r → n ≤ count w.ledger → Brief w.ledger r → Visited t w.ledger (visits ks t n w).ledger r n
all_visits ks t w r zero ok le brief = record { sound = ok; alike = alike_same w.ledger; same_height = refl; clean = λ p j since a low e. absurd (omega arith) }
all_visits ks t w r (suc n) ok le brief = go (newest_at t n) refl (all_visits ks t w r n ok (omega arith) brief)
  where
    go : (o : Option Update) → newest_at t n ≡ o → Visited t w.ledger (visits ks t n w).ledger r n → Visited t w.ledger (visit ks (newest_at t n) n (visits ks t n w)).ledger r (suc n)
    go None e v =
        let lt : n < count (visits ks t n w).ledger = omega (arith, v.alike.counts, le) in
        subst (λ (o : Option Update). Visited t w.ledger (visit ks o n (visits ks t n w)).ledger r (suc n)) (sym e)
        (no_visit t w.ledger (visits ks t n w).ledger r n v lt (ap state_by e))
    go (Some u) e v =
        let lt : n < count (visits ks t n w).ledger = omega (arith, v.alike.counts, le) in
        let h = halves ks t (visits ks t n w) r n u v.sound lt e in
        one_visit ks t w.ledger (visits ks t n w).ledger h.between (visit ks (newest_at t n) n (visits ks t n w)).ledger r n u.state v lt
        (omega (arith, delay_same v.alike n, brief n le)) (ap state_by e) h.before h.after

-- after all visits nothing stale is posted, so that the count of risen blocks begins again
pub round_sound : (ks : List Bool) (t : List (Option Update)) (w : Tour) (r : ℕ) → Sound t w.ledger r → Brief w.ledger r → Sound t (visits ks t (count w.ledger) w).ledger 0
round_sound ks t w r ok brief =
    let v = all_visits ks t w r (count w.ledger) ok (omega arith) brief in
    let s = v.sound in
    record {
      lawful = s.lawful;
      long = s.long;
      placed = s.placed;
      fits = s.fits;
      posted_ok = λ p n since a lt e. (let z = v.clean p n since a (omega (arith, v.alike.counts, lt)) e in (z.0, z.1, inl z.2));
      settled_ok = s.settled_ok;
    }
