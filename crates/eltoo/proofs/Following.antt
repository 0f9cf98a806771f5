-- What every call keeps, whatever the premises: a lawful ledger and its layout.
use Rattle.std.proofs.Common.{◌≡◌, ℕ, zero, suc, Bool, true, false, List, [], ◌∷◌, Some, None, Option, Ok, Err, sym, refl, ap, subst, rules}
use Rattle.std.proofs.lemmas.Bool.{cond_both, true≢false}
use Rattle.state.specs.declared.refusal.Refusal.{Refusal}
use Rattle.state.specs.declared.state.State.{State}
use Rattle.state.specs.declared.update.Update.{Update}
use Rattle.state.specs.Refusals.{accepted, refused, either, first}
use Rattle.ledger.specs.Laws.{Lawful}
use Rattle.ledger.specs.Model.{Model}
use Rattle.ledger.specs.Steps.{post_checks, post_next, settle_checks, settle_next}
use Rattle.ledger.proofs.Keeping.{steps_keep}
use Rattle.eltoo.specs.declared.answer.Outcome.TheVariants.{Done, Sealed, Counted}
use Rattle.eltoo.specs.declared.answer.Counts.{Counts}
use Rattle.eltoo.specs.declared.call.Call.{Call}
use Rattle.eltoo.specs.declared.call.Call.TheVariants.{Agree, Claim, Post, Settle, Advance, Round}
use Rattle.eltoo.specs.Stations.{StationModel, count, newest_at, agree_checks, sealed_post_checks}
use Rattle.eltoo.specs.Rounds.{Tour, is_accepted, one_post, one_settlement, tried, wants_post, wants_settle, tried_post, tried_settle, visit, visits, starting}
use Rattle.eltoo.specs.Steps.{Answer, Own, Decided, Keeps, Agrees, Step}
use Rattle.eltoo.specs.Runs.{Entry, Run}
use Rattle.eltoo.proofs.Moves.{Alike, alike_same, alike_then, post_alike, settle_alike, advance_alike}

-- a decided call was refused and changed nothing, or did its work
pub data Decision (a : Answer) (s t : StationModel) (checks : List (Bool × ℕ)) (next : StationModel) : Type 0 where
  refusing : (e : Refusal) → a ≡ Err e → t ≡ s → Decision a s t checks next
  doing : a ≡ Ok Done → first checks ≡ accepted → t ≡ next → Decision a s t checks next

pub decision : (a : Answer) (s t : StationModel) (checks : List (Bool × ℕ)) (next : StationModel) → Decided a s t checks next → Decision a s t checks next
decision (Err e) s t checks next d = refusing e refl d.1
decision (Ok Done) s t checks next d = doing refl d.0 d.1
decision (Ok (Sealed k)) s t checks next d = absurd d
decision (Ok (Counted c)) s t checks next d = absurd d

pub data Agreement (own : Own) (a : Answer) (s t : StationModel) (x : State) : Type 0 where
  refusing_it : (e : Refusal) → a ≡ Err e → t ≡ s → Agreement own a s t x
  keeping_it : (k : ℕ) → a ≡ Ok (Sealed k) → first (agree_checks s x) ≡ accepted → Keeps own s t x k → Agreement own a s t x

pub agreement : (own : Own) (a : Answer) (s t : StationModel) (x : State) → Agrees own a s t x → Agreement own a s t x
agreement own (Err e) s t x d = refusing_it e refl d.1
agreement own (Ok Done) s t x d = absurd d
agreement own (Ok (Sealed k)) s t x d = keeping_it k refl d.0 d.1
agreement own (Ok (Counted c)) s t x d = absurd d

-- a ledger that some steps of a host led to
pub record Follows (m n : Model) : Type 0 where
  pub lawful : Lawful n
  pub alike : Alike m n

-- the tests of the checks tell what they answer
accepted_zero : (n : ℕ) → is_accepted (refused n) ≡ true → refused n ≡ accepted
accepted_zero zero e = refl
accepted_zero (suc n) e = absurd (true≢false (sym e))

pub accepted_first : (cs : List (Bool × ℕ)) → is_accepted (first cs) ≡ true → first cs ≡ accepted
accepted_first [] e = refl
accepted_first (c ∷ cs) e = go c.0 e (accepted_first cs)
  where
    go : (b : Bool) → is_accepted (either b (refused c.1) (first cs)) ≡ true → (is_accepted (first cs) ≡ true → first cs ≡ accepted) → either b (refused c.1) (first cs) ≡ accepted
    go true f r = accepted_zero c.1 f
    go false f r = r f

-- a call in a round is done or leaves the ledger
tried_follows : (m : Model) (checks : List (Bool × ℕ)) (next : Model) (more : Counts → Counts) (w : Tour) → Follows m w.ledger → (first checks ≡ accepted → Follows m next) → Follows m (tried checks next more w).ledger
tried_follows m checks next more w now then-so =
    cond_both (is_accepted (first checks)) _ _ (λ (v : Tour). Follows m v.ledger) (λ e. then-so (accepted_first checks e)) (λ e. now)

visit_follows : (m : Model) (ks : List Bool) (o : Option Update) (p : ℕ) (w : Tour) → Follows m w.ledger → Follows m (visit ks o p w).ledger
visit_follows m ks None p w f = f
visit_follows m ks (Some u) p w f = second (tried_post ks p u.state w) first_half
  where
    first_half : Follows m (tried_post ks p u.state w).ledger
    first_half =
        cond_both (wants_post ks w.ledger p u.state) (tried (post_checks w.ledger u.state) (post_next w.ledger u.state) one_post w) w (λ (v : Tour). Follows m v.ledger)
        (λ _. tried_follows m (post_checks w.ledger u.state) (post_next w.ledger u.state) one_post w f
        (λ h. record { lawful = (steps_keep w.ledger f.lawful).post u.state h; alike = alike_then f.alike (post_alike w.ledger u.state h) }))
        (λ _. f)

    second : (v : Tour) → Follows m v.ledger → Follows m (tried_settle p v).ledger
    second v g =
        cond_both (wants_settle v.ledger p) (tried (settle_checks v.ledger p) (settle_next v.ledger p) one_settlement v) v (λ (z : Tour). Follows m z.ledger)
        (λ _. tried_follows m (settle_checks v.ledger p) (settle_next v.ledger p) one_settlement v g
        (λ h. record { lawful = (steps_keep v.ledger g.lawful).settle p h; alike = alike_then g.alike (settle_alike v.ledger p h) }))
        (λ _. g)

pub visits_follow : (ks : List Bool) (t : List (Option Update)) (n : ℕ) (m : Model) → Lawful m → Follows m (visits ks t n (starting m)).ledger
visits_follow ks t zero m law = record { lawful = law; alike = alike_same m }
visits_follow ks t (suc n) m law = visit_follows m ks (newest_at t n) n (visits ks t n (starting m)) (visits_follow ks t n m law)

-- the checks of a sealed post end with those of the host
pub host_accepts : (s : StationModel) (x : State) (seal : ℕ) → first (sealed_post_checks s x seal) ≡ accepted → first (post_checks s.ledger x) ≡ accepted
host_accepts s x seal h = search rules

-- the same ledger, and one that is equal
unmoved : (s t : StationModel) → Lawful s.ledger → t.ledger ≡ s.ledger → Follows s.ledger t.ledger
unmoved s t law e = search rules

pub ledger_of : {s t : StationModel} → t ≡ s → t.ledger ≡ s.ledger
ledger_of e = ap (λ (y : StationModel). y.ledger) e

-- every call
pub step_follows : (own : Own) (s : StationModel) (c : Call) (a : Answer) (t : StationModel) → Lawful s.ledger → Step own s c a t → Follows s.ledger t.ledger
step_follows own s (Agree x) a t law st = elim (agreement own a s t x st) [
  | refusing_it e i same ↦ unmoved s t law (ledger_of same)
  | keeping_it k i h keeps ↦ unmoved s t law (ledger_of keeps.after)
]
step_follows own s (Claim p) a t law st = elim (decision a s t _ _ st) [
  | refusing e i same ↦ unmoved s t law (ledger_of same)
  | doing i h same ↦ unmoved s t law (ledger_of same)
]
step_follows own s (Post x k) a t law st = elim (decision a s t _ _ st) [
  | refusing e i same ↦ unmoved s t law (ledger_of same)
  | doing i h same ↦ subst (Follows s.ledger) (sym (ledger_of same)) (record { lawful = (steps_keep s.ledger law).post x (host_accepts s x k h); alike = post_alike s.ledger x (host_accepts s x k h) })
]
step_follows own s (Settle p) a t law st = elim (decision a s t _ _ st) [
  | refusing e i same ↦ unmoved s t law (ledger_of same)
  | doing i h same ↦ subst (Follows s.ledger) (sym (ledger_of same)) (record { lawful = (steps_keep s.ledger law).settle p h; alike = settle_alike s.ledger p h })
]
step_follows own s (Advance k) a t law st = elim (decision a s t _ _ st) [
  | refusing e i same ↦ unmoved s t law (ledger_of same)
  | doing i h same ↦ subst (Follows s.ledger) (sym (ledger_of same)) (record { lawful = (steps_keep s.ledger law).advance k h; alike = advance_alike s.ledger k })
]
step_follows own s Round a t law st = subst (Follows s.ledger) (sym (ledger_of st.1)) (visits_follow s.marks s.newest (count s.ledger) s.ledger law)

pub run_lawful : (own : Own) (es : List Entry) (s : StationModel) → Run own es s → Lawful s.ledger
run_lawful own [] s r = r.lawful
run_lawful own (e ∷ es) s r =
    subst (λ (y : StationModel). Lawful y.ledger) r.2 (step_follows own e.before e.call e.answer e.after (run_lawful own es e.before r.0) r.1).lawful
