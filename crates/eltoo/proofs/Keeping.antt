-- What holds along every run that meets the premises.
use Rattle.std.proofs.Common.{◌≡◌, ℕ, zero, suc, ◌+◌, ◌<◌, ◌≤◌, Bool, true, false, ◌&&◌, ltb, ◌⊎◌, List, [], ◌∷◌, length, get_or, replicate, Some, None, Option, is_some, Ok, Err, is_ok, sym, refl, ap, ◌∙◌, subst, inl, inr, arith, rules}
use Rattle.std.proofs.lemmas.List.{length-replicate}
use Rattle.std.proofs.Math.Bool.{and-false}
use Rattle.std.proofs.lemmas.Bool.{cases_eq, true≢false, not-false, ltb-true, or_left, or_right}
use Rattle.state.specs.declared.refusal.Refusal.{Refusal}
use Rattle.state.specs.declared.state.State.{State}
use Rattle.state.specs.declared.update.Update.{Update}
use Rattle.state.specs.Refusals.{accepted, first}
use Rattle.state.proofs.Checking.{Passed, all_passed}
use Rattle.ledger.specs.declared.view.Parent.{Parent}
use Rattle.ledger.specs.Laws.{max_places, child}
use Rattle.ledger.specs.Model.{Model, place_at, shows_state}
use Rattle.ledger.specs.Steps.{post_next, settle_checks, settle_next, advance_checks, advance_next}
use Rattle.ledger.proofs.Changing.{none_some}
use Rattle.eltoo.specs.declared.answer.Outcome.TheVariants.{Done, Sealed}
use Rattle.eltoo.specs.declared.call.Call.{Call}
use Rattle.eltoo.specs.declared.call.Call.TheVariants.{Agree, Claim, Post, Settle, Advance, Round}
use Rattle.eltoo.specs.Lineage.{HangsFrom, from_parent, from_further, lineage, among}
use Rattle.eltoo.specs.Stations.{StationModel, means, count, total, newest_at, allotted, allotment_by, is_marked, outdated, agree_checks, claim_checks, sealed_post_checks, with_ledger, claim_next}
use Rattle.eltoo.specs.Rounds.{Tour, starting, whole_round}
use Rattle.eltoo.specs.Steps.{Answer, Own, Keeps, Step}
use Rattle.eltoo.specs.Runs.{Entry, Begins, Run, Agreed, newest_by, newest_agreed, Claimed, Passes, SealedEarlier, risen_by, risen, Gaps, BelowDelays, InTime}
use Rattle.eltoo.proofs.Standings.{settle_taken}
use Rattle.eltoo.proofs.Moves.{Alike, post_alike, settle_alike, advance_alike, delay_same, parent_below}
use Rattle.eltoo.proofs.Sound.{state_by, kept, NotNewer, Sound, sound_post, sound_settle, sound_advance}
use Rattle.eltoo.proofs.Agreeing.{keeping, kept_here, kept_other, sound_agree}
use Rattle.eltoo.proofs.Rounds.{Brief, all_visits, round_sound}
use Rattle.eltoo.proofs.Lineages.{Above, above_alike, above_count, above_listed, mark_each_lem, mark_length}
use Rattle.eltoo.proofs.Timely.{Timely, timely_post, timely_settle, timely_advance, timely_agree, timely_mark}
use Rattle.eltoo.proofs.TimelyRounds.{all_timely}
use Rattle.eltoo.proofs.Following.{refusing, doing, decision, refusing_it, keeping_it, agreement, step_follows, run_lawful, host_accepts}

-- p and every place that it hangs from is in time, since p was claimed at height h
pub record Timed (t : List (Option Update)) (ks : List Bool) (m : Model) (g h r p : ℕ) : Type 0 where
  pub there : p < count m
  pub all : (q : ℕ) → Above m p q → Timely t ks m g h r q

pub record Inv (g : ℕ) (es : List Entry) (s : StationModel) : Type 0 where
  pub sound : Sound s.newest s.ledger (risen es)
  pub full : length s.marks ≡ max_places
  pub newest_is : (p : ℕ) → newest_agreed es p ≡ kept s.newest p
  pub older : (x : State) → Agreed es x → NotNewer s.newest x
  pub timed : (p h : ℕ) → Claimed es p h → Timed s.newest s.marks s.ledger g h (risen es) p

abbrev entry : StationModel → Call → Answer → StationModel → Entry
entry b c a t = record { before = b; call = c; answer = a; after = t }

-- calls that can change what is agreed or marked
abbrev changes : Call → Bool
changes (Agree x) = true
changes (Claim p) = true
changes (Post x k) = false
changes (Settle p) = false
changes (Advance k) = false
changes Round = false

-- a call that agrees and claims nothing
abbrev Quiet : Call → Answer → Type 0
Quiet c a = (changes c && is_ok a) ≡ false

quiet_refused : (c : Call) (a : Answer) (e : Refusal) → a ≡ Err e → Quiet c a
quiet_refused c a e i = ap (λ (v : Answer). changes c && is_ok v) i ∙ and-false (changes c)

quiet_newest : (c : Call) (a : Answer) (p : ℕ) (o : Option State) → Quiet c a → newest_by c a p o ≡ o
quiet_newest (Agree x) a p o q = search rules
quiet_newest (Claim r) a p o q = refl
quiet_newest (Post x k) a p o q = refl
quiet_newest (Settle r) a p o q = refl
quiet_newest (Advance k) a p o q = refl
quiet_newest Round a p o q = refl

not_agreed : (c : Call) (a : Answer) (x : State) → Quiet c a → (c ≡ Agree x) × (is_ok a ≡ true) → ⊥
not_agreed c a x q e = search rules

not_claimed : (c : Call) (a : Answer) (p : ℕ) → Quiet c a → c ≡ Claim p → is_ok a ≡ true → ⊥
not_claimed c a p q e k = search rules

-- the ledger has moved, and nothing else
moved : (g : ℕ) (es : List Entry) (b : StationModel) (c : Call) (a : Answer) (m : Model) → Inv g es b → Quiet c a → Sound b.newest m (risen_by c a (risen es)) → ((p h : ℕ) → Timed b.newest b.marks b.ledger g h (risen es) p → Timed b.newest b.marks m g h (risen_by c a (risen es)) p) → Inv g (entry b c a (with_ledger b m) ∷ es) (with_ledger b m)
moved g es b c a m i q ok each =
    record {
      sound = ok;
      full = i.full;
      newest_is = λ p. quiet_newest c a p (newest_agreed es p) q ∙ i.newest_is p;
      older = λ x h. elim h [ inl e ↦ absurd (not_agreed c a x q e) | inr e ↦ i.older x e ];
      timed = λ p h k. elim k [ inl e ↦ absurd (not_claimed c a p q e.0 e.1) | inr e ↦ each p h (i.timed p h e) ];
    }

-- a step that treats each place alone
each_alone : (t : List (Option Update)) (ks : List Bool) (m n : Model) (g h r r' p : ℕ) → Alike m n → ((q : ℕ) → Timely t ks m g h r q → Timely t ks n g h r' q) → Timed t ks m g h r p → Timed t ks n g h r' p
each_alone t ks m n g h r r' p alike one w =
    record { there = omega (arith, alike.counts, w.there); all = λ q ab. one q (w.all q (above_alike alike p q ab)) }

refuses : (g : ℕ) (es : List Entry) (b : StationModel) (c : Call) (a : Answer) (t : StationModel) (e : Refusal) → Inv g es b → a ≡ Err e → t ≡ b → risen_by c (Err e) (risen es) ≡ risen es → Inv g (entry b c a t ∷ es) t
refuses g es b c a t e i ea et er =
    let r : risen_by c a (risen es) ≡ risen es = ap (λ (v : Answer). risen_by c v (risen es)) ea ∙ er in
    subst (λ (y : StationModel). Inv g (entry b c a y ∷ es) y) (sym et)
    (moved g es b c a b.ledger i (quiet_refused c a e ea) (subst (Sound b.newest b.ledger) (sym r) i.sound)
    (λ p h w. subst (λ n. Timed b.newest b.marks b.ledger g h n p) (sym r) w))

-- an accepted agree
module _ (own : Own) (g : ℕ) (es : List Entry) (b t : StationModel) (x : State) (a : Answer) (k : ℕ) (i : Inv g es b) (ea : a ≡ Ok (Sealed k)) (h : first (agree_checks b x) ≡ accepted) (keeps : Keeps own b t x k) where
  abbrev u : Update
  u = record { state = x; seal = k }

  abbrev after : StationModel
  after = means b.ledger t.seals (keeping b.newest u) b.marks

  passed : Passed (agree_checks b x)
  passed = all_passed (agree_checks b x) refl h

  within : x.place < count b.ledger
  within = search rules

  low : x.place < length b.newest
  low = search rules

  -- the number is above the last agreed
  above : (o : Option Update) → outdated o x.number.value ≡ false → (y : State) → state_by o ≡ Some y → y.number.value < x.number.value
  above None e y k = absurd (none_some k)
  above (Some v) e y k = search rules

  newest_now : (p : ℕ) → (p ≡ x.place) ⊎ (p ≡ x.place → ⊥) → newest_by (Agree x) a p (newest_agreed es p) ≡ kept (keeping b.newest u) p
  newest_now p (inl e) = search rules
  newest_now p (inr ne) = search rules

  older_now : (z : State) → ((Agree x ≡ Agree z) × (is_ok a ≡ true)) ⊎ Agreed es z → (z.place ≡ x.place) ⊎ (z.place ≡ x.place → ⊥) → NotNewer (keeping b.newest u) z
  older_now z (inl e) q =
      let same : x ≡ z = agree_same e.0 in
      (x, kept_here b.newest u low z.place (ap (λ (y : State). y.place) (sym same)), inl (sym same))
    where
      agree_same : {y v : State} → Agree y ≡ Agree v → y ≡ v
      agree_same e = cc
  older_now z (inr e) (inl q) =
      let w = i.older z e in
      let lower = above (newest_at b.newest x.place) passed.1.1.1.0 w.0 (ap (kept b.newest) (sym q) ∙ w.1) in
      (x, kept_here b.newest u low z.place q, inr (elim w.2 [ inl same ↦ (let n : z.number.value ≡ w.0.number.value = ap (λ (y : State). y.number.value) same in omega arith) | inr less ↦ omega arith ]))
  older_now z (inr e) (inr ne) = let w = i.older z e in (w.0, kept_other b.newest u z.place ne ∙ w.1, w.2)

  agrees : Inv g (entry b (Agree x) a t ∷ es) t
  agrees =
      subst (λ (y : StationModel). Inv g (entry b (Agree x) a y ∷ es) y) (sym keeps.after)
      (record {
        sound = sound_agree b (risen es) x k i.sound h;
        full = i.full;
        newest_is = λ p. newest_now p (cases_eq p x.place);
        older = λ z e. older_now z e (cases_eq z.place x.place);
        timed = λ p hh e. elim e [
          | inl c ↦ absurd (no-claim c.0)
          | inr c ↦ (let w = i.timed p hh c in record { there = w.there; all = λ q ab. timely_agree b.newest b.marks b.ledger g hh (risen es) q u low passed.1.1.0 (w.all q ab) })
        ];
      })
    where
      no-claim : {p : ℕ} → Agree x ≡ Claim p → ⊥
      no-claim e = cc

-- the parent of a place with an agreed state has one
agreed_up : (t : List (Option Update)) (m : Model) (r p q i : ℕ) (x : State) → Sound t m r → p < count m → (place_at m p).parent ≡ child q i → kept t p ≡ Some x → (z : State) × (kept t q ≡ Some z)
agreed_up t m r p q i x ok lt e k = go (newest_at t q) refl (sym (ap (λ (o : Option Parent). allotment_by t o (place_at m p).funding) e) ∙ ok.fits p x lt k)
  where
    go : (o : Option Update) → newest_at t q ≡ o → allotted (newest_at t q) i ≡ Some (total x) → (z : State) × (kept t q ≡ Some z)
    go None n f = search rules
    go (Some u) n f = (u.state, ap state_by n)

-- and so has every place that it hangs from
hanging_agreed : (t : List (Option Update)) (m : Model) (r : ℕ) → Sound t m r → {p q : ℕ} → HangsFrom m p q → p < count m → (x : State) → kept t p ≡ Some x → (z : State) × (kept t q ≡ Some z)
hanging_agreed t m r ok (from_parent {p = p} {q = q} {i = i} e) lt x k = agreed_up t m r p q i x ok lt e k
hanging_agreed t m r ok (from_further {p = p} {q = q} {i = i} e h) lt x k =
    let up = agreed_up t m r p q i x ok lt e k in
    let low = (parent_below m ok.lawful.laid p q i lt e).0 in
    hanging_agreed t m r ok h (omega arith) up.0 up.1

above_agreed : (t : List (Option Update)) (m : Model) (r p q : ℕ) (x : State) → Sound t m r → Above m p q → p < count m → kept t p ≡ Some x → (z : State) × (kept t q ≡ Some z)
above_agreed t m r p q x ok (inl e) lt k = (x, ap (kept t) e ∙ k)
above_agreed t m r p q x ok (inr h) lt k = hanging_agreed t m r ok h lt x k

agreed_there : (o : Option Update) → is_some o ≡ true → (x : State) × (state_by o ≡ Some x)
agreed_there None e = absurd (true≢false (sym e))
agreed_there (Some u) e = (u.state, refl)

-- an accepted claim
module _ (g : ℕ) (es : List Entry) (b : StationModel) (c : ℕ) (a : Answer) (i : Inv g es b) (h : first (claim_checks b c) ≡ accepted) where
  abbrev claimed : StationModel
  claimed = claim_next b c

  checks : Passed (claim_checks b c)
  checks = all_passed (claim_checks b c) refl h

  claim_within : c < count b.ledger
  claim_within = search rules

  agreed_here : (x : State) × (kept b.newest c ≡ Some x)
  agreed_here = agreed_there (newest_at b.newest c) (not-false (is_some (newest_at b.newest c)) checks.1.1.0)

  in_marks : (q : ℕ) → q < count b.ledger → q < length b.marks
  in_marks q lt = search rules

  still_marked : (q : ℕ) → q < count b.ledger → is_marked b.marks q ≡ true → is_marked claimed.marks q ≡ true
  still_marked q lt e = mark_each_lem (lineage b.ledger c) b.marks q (in_marks q lt) ∙ or_right (among (lineage b.ledger c) q) (is_marked b.marks q) e

  now_marked : (q : ℕ) → Above b.ledger c q → is_marked claimed.marks q ≡ true
  now_marked q ab =
      mark_each_lem (lineage b.ledger c) b.marks q (in_marks q (above_count b.ledger i.sound.lawful.laid c q ab claim_within))
      ∙ or_left (among (lineage b.ledger c) q) (is_marked b.marks q) (above_listed b.ledger i.sound.lawful.laid c q ab claim_within)

  claimed_now : (hh : ℕ) → b.ledger.height ≡ hh → Timed b.newest claimed.marks b.ledger g hh (risen es) c
  claimed_now hh eh =
      record {
        there = claim_within;
        all = λ q ab.
            (let z = above_agreed b.newest b.ledger (risen es) c q agreed_here.0 i.sound ab claim_within agreed_here.1 in
            record {
              there = above_count b.ledger i.sound.lawful.laid c q ab claim_within;
              marked = now_marked q ab;
              state = z.0;
              agreed = z.1;
              begun = inr (inr (omega (arith, eh)));
              ended = inr (omega (arith, eh));
            });
      }

  claims : Inv g (entry b (Claim c) a claimed ∷ es) claimed
  claims =
      record {
        sound = i.sound;
        full = mark_length (lineage b.ledger c) b.marks ∙ i.full;
        newest_is = i.newest_is;
        older = λ x e. elim e [ inl k ↦ absurd (no_agree k.0) | inr k ↦ i.older x k ];
        timed = λ p hh e. elim e [
          | inl k ↦ subst (Timed b.newest claimed.marks b.ledger g hh (risen es)) (claim-same k.0) (claimed_now hh k.2)
          | inr k ↦ (let w = i.timed p hh k in
              record { there = w.there; all = λ q ab. (let v = w.all q ab in timely_mark b.newest b.marks claimed.marks b.ledger g hh (risen es) q (still_marked q v.there v.marked) v) })
        ];
      }
    where
      no_agree : {x : State} → Claim c ≡ Agree x → ⊥
      no_agree e = cc

      claim-same : {p q : ℕ} → Claim p ≡ Claim q → p ≡ q
      claim-same e = cc

-- one call more
module _ (own : Own) (g : ℕ) (es : List Entry) (b : StationModel) (i : Inv g es b) (slow : risen es ≤ g) (low : BelowDelays g b.ledger) where
  brief : Brief b.ledger (risen es)
  brief p lt = omega (arith, low p lt, slow)

  posting : (x : State) (k : ℕ) (a : Answer) (t : StationModel) → a ≡ Ok Done → first (sealed_post_checks b x k) ≡ accepted → t ≡ with_ledger b (post_next b.ledger x) → ((y : State) (seal : ℕ) → Post x k ≡ Post y seal → Passes b y seal → Agreed es y) → Inv g (entry b (Post x k) a t ∷ es) t
  posting x k a t ea h et pass =
      let c = all_passed (sealed_post_checks b x k) refl h in
      let passes : Passes b x k = (ltb-true x.place (count b.ledger) (not-false (ltb x.place (count b.ledger)) c.0), not-false (b.seals.good x k) c.1.0) in
      let old = i.older x (pass x k refl passes) in
      let taken = host_accepts b x k h in
      subst (λ (y : StationModel). Inv g (entry b (Post x k) a y ∷ es) y) (sym et)
      (moved g es b (Post x k) a (post_next b.ledger x) i refl (sound_post b.newest b.ledger (risen es) x i.sound taken old)
      (λ p hh w. each_alone b.newest b.marks b.ledger (post_next b.ledger x) g hh (risen es) (risen es) p (post_alike b.ledger x taken)
      (λ q v. timely_post b.newest b.marks b.ledger g hh (risen es) q x i.sound.lawful slow taken old v) w))

  settling : (p : ℕ) (a : Answer) (t : StationModel) → a ≡ Ok Done → first (settle_checks b.ledger p) ≡ accepted → t ≡ with_ledger b (settle_next b.ledger p) → Inv g (entry b (Settle p) a t ∷ es) t
  settling p a t ea h et =
      subst (λ (y : StationModel). Inv g (entry b (Settle p) a y ∷ es) y) (sym et)
      (moved g es b (Settle p) a (settle_next b.ledger p) i refl (sound_settle b.newest b.ledger (risen es) p i.sound h (brief p (settle_taken b.ledger p h).within))
      (λ c hh w. each_alone b.newest b.marks b.ledger (settle_next b.ledger p) g hh (risen es) (risen es) c (settle_alike b.ledger p h)
      (λ q v. timely_settle b.newest b.marks b.ledger g hh (risen es) q p i.sound.lawful h v) w))

  advancing : (k : ℕ) (a : Answer) (t : StationModel) → a ≡ Ok Done → first (advance_checks b.ledger k) ≡ accepted → t ≡ with_ledger b (advance_next b.ledger k) → Inv g (entry b (Advance k) a t ∷ es) t
  advancing k a t ea h et =
      let r : risen_by (Advance k) a (risen es) ≡ risen es + k = ap (λ (v : Answer). risen_by (Advance k) v (risen es)) ea in
      subst (λ (y : StationModel). Inv g (entry b (Advance k) a y ∷ es) y) (sym et)
      (moved g es b (Advance k) a (advance_next b.ledger k) i refl
      (subst (Sound b.newest (advance_next b.ledger k)) (sym r) (sound_advance b.newest b.ledger (risen es) k i.sound h))
      (λ c hh w. subst (λ n. Timed b.newest b.marks (advance_next b.ledger k) g hh n c) (sym r)
      (each_alone b.newest b.marks b.ledger (advance_next b.ledger k) g hh (risen es) (risen es + k) c (advance_alike b.ledger k)
      (λ q v. timely_advance b.newest b.marks b.ledger g hh (risen es) q k v) w)))

  rounding : (a : Answer) (t : StationModel) → t ≡ with_ledger b (whole_round b).ledger → Inv g (entry b Round a t ∷ es) t
  rounding a t et =
      let w₀ : Tour = starting b.ledger in
      let v = all_visits b.marks b.newest w₀ (risen es) (count b.ledger) i.sound (omega arith) brief in
      subst (λ (y : StationModel). Inv g (entry b Round a y ∷ es) y) (sym et)
      (moved g es b Round a (whole_round b).ledger i refl (round_sound b.marks b.newest w₀ (risen es) i.sound brief)
      (λ p hh w.
      record {
        there = omega (arith, v.alike.counts, w.there);
        all = λ q ab.
            (let ab' = above_alike v.alike p q ab in
            (all_timely b.newest b.marks w₀ g hh (risen es) p (count b.ledger) i.sound brief slow w.all (omega arith) q ab').0
            (above_count b.ledger i.sound.lawful.laid p q ab' w.there));
      }))

  pub next : (c : Call) (a : Answer) (t : StationModel) → Step own b c a t → ((x : State) (seal : ℕ) → c ≡ Post x seal → Passes b x seal → Agreed es x) → Inv g (entry b c a t ∷ es) t
  next (Agree x) a t st pass = elim (agreement own a b t x st) [
    | refusing_it e ea et ↦ refuses g es b (Agree x) a t e i ea et refl
    | keeping_it k ea h keeps ↦ agrees own g es b t x a k i ea h keeps
  ]
  next (Claim p) a t st pass = elim (decision a b t _ _ st) [
    | refusing e ea et ↦ refuses g es b (Claim p) a t e i ea et refl
    | doing ea h et ↦ subst (λ (y : StationModel). Inv g (entry b (Claim p) a y ∷ es) y) (sym et) (claims g es b p a i h)
  ]
  next (Post x k) a t st pass = elim (decision a b t _ _ st) [
    | refusing e ea et ↦ refuses g es b (Post x k) a t e i ea et refl
    | doing ea h et ↦ posting x k a t ea h et pass
  ]
  next (Settle p) a t st pass = elim (decision a b t _ _ st) [
    | refusing e ea et ↦ refuses g es b (Settle p) a t e i ea et refl
    | doing ea h et ↦ settling p a t ea h et
  ]
  next (Advance k) a t st pass = elim (decision a b t _ _ st) [
    | refusing e ea et ↦ refuses g es b (Advance k) a t e i ea et refl
    | doing ea h et ↦ advancing k a t ea h et
  ]
  next Round a t st pass = rounding a t st.1

get_or_all : {X : Type 0} (n p : ℕ) (d : X) → get_or (replicate n d) p d ≡ d
get_or_all zero p d = refl
get_or_all (suc n) zero d = refl
get_or_all (suc n) (suc p) d = get_or_all n p d

-- where a run begins
begins : (g : ℕ) (s : StationModel) → Begins s → Inv g [] s
begins g s f =
    record {
      sound = record {
        lawful = f.lawful;
        long = ap (λ (y : StationModel). length y.newest) f.bare ∙ (let nothing : Option Update = None in length-replicate max_places nothing);
        placed = λ p x k. absurd (none p x k);
        fits = λ p x lt k. absurd (none p x k);
        posted_ok = λ p n since a lt e. absurd (true≢false (sym (ap shows_state e) ∙ f.untouched p lt));
        settled_ok = λ p n a lt e. absurd (true≢false (sym (ap shows_state e) ∙ f.untouched p lt));
      };
      full = ap (λ (y : StationModel). length y.marks) f.bare ∙ length-replicate max_places false;
      newest_is = λ p. sym (bare p);
      older = λ x h. absurd h;
      timed = λ p h k. absurd k;
    }
  where
    bare : (p : ℕ) → kept s.newest p ≡ None
    bare p = ap (λ (y : StationModel). kept y.newest p) f.bare ∙ ap state_by (get_or_all max_places p None)

    none : (p : ℕ) (x : State) → kept s.newest p ≡ Some x → ⊥
    none p x k = none_some (sym (bare p) ∙ k)

pub gap_here : (g : ℕ) (es : List Entry) → Gaps g es → risen es ≤ g
gap_here g [] s = omega arith
gap_here g (e ∷ es) s = s.1

pub run_keeps : (own : Own) (g : ℕ) (es : List Entry) (s : StationModel) → Run own es s → SealedEarlier es → InTime g es s → Inv g es s
run_keeps own g [] s r seals timely = begins g s r
run_keeps own g (e ∷ es) s r seals timely =
    let f = step_follows own e.before e.call e.answer e.after (run_lawful own es e.before r.0) r.1 in
    let back : Alike e.before.ledger s.ledger = subst (λ (y : StationModel). Alike e.before.ledger y.ledger) r.2 f.alike in
    let low : BelowDelays g e.before.ledger = λ p lt. omega (arith, delay_same back p, timely.1 p (omega (arith, back.counts, lt))) in
    let i = run_keeps own g es e.before r.0 seals.0 (timely.0.0, low) in
    subst (Inv g (e ∷ es)) r.2 (next own g es e.before i (gap_here g es timely.0.0) low e.call e.answer e.after r.1 seals.1)
