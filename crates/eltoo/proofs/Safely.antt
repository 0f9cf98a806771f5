-- No run breaks the promises.
use Rattle.std.proofs.Common.{◌≡◌, ℕ, ◌<◌, ◌≤◌, Bool, true, false, cond, not, ◌&&◌, List, [], ◌∷◌, Ok, is_ok, sym, refl, ap, ◌∙◌, subst, inl, inr, arith, rules}
use Rattle.state.specs.declared.state.State.{State}
use Rattle.account.specs.Accounts.{pays, paid_at}
use Rattle.account.proofs.Conserving.{conserved}
use Rattle.account.proofs.Summing.{sum_same}
use Rattle.ledger.specs.Laws.{has_children}
use Rattle.ledger.specs.Model.{Status, shut, idle, posted, settled, status, is_settled}
use Rattle.seal.specs.Registers.{RowGives}
use Rattle.eltoo.specs.declared.answer.Outcome.TheVariants.{Sealed}
use Rattle.eltoo.specs.declared.call.Call.{Call}
use Rattle.eltoo.specs.declared.call.Call.TheVariants.{Agree, Claim, Post, Settle, Advance, Round}
use Rattle.eltoo.specs.Lineage.{lineage}
use Rattle.eltoo.specs.Stations.{StationModel, count}
use Rattle.eltoo.specs.Steps.{Answer, Own, Decided, Keeps, Step}
use Rattle.eltoo.specs.Runs.{Entry, Run, origin, Agreed, newest_agreed, SealedEarlier, risen, amount_in, SettledNewest, SettledInTime}
use Rattle.eltoo.specs.Safety.{Safe, GoesOn, NoneGood, SafeFresh, ClaimMarks}
use Rattle.eltoo.proofs.Lineages.{whole, mark_each_lem}
use Rattle.eltoo.proofs.Following.{refusing, doing, decision, refusing_it, keeping_it, agreement, run_lawful}
use Rattle.eltoo.proofs.Keeping.{Inv, gap_here, run_keeps}

-- every settled place shows its newest agreed state, and pays it
settled_newest : (g : ℕ) (es : List Entry) (s : StationModel) → Inv g es s → SettledNewest es s
settled_newest g es s i =
    record {
      shows = λ p n a lt e. (let w = i.sound.settled_ok p n a lt e in (w.0, i.newest_is p ∙ w.1, w.2.0, w.2.1));
      pays = λ j. sum_same (count s.ledger) (paid_at s.ledger j) _ (λ p lt. pay j p lt (status s.ledger p) refl (has_children p s.ledger.places));
    }
  where
    pay : (j p : ℕ) → p < count s.ledger → (st : Status) → status s.ledger p ≡ st → (factory : Bool) → pays (status s.ledger p) factory j ≡ cond (is_settled (status s.ledger p) && not factory) (amount_in (newest_agreed es p) j) 0
    pay j p lt shut e f = search rules
    pay j p lt idle e f = search rules
    pay j p lt (posted n h a) e f = search rules
    pay j p lt (settled n a) e true = search rules
    pay j p lt (settled n a) e false = search rules

-- a claimed place is settled in time
settled_in_time : (g : ℕ) (es : List Entry) (s : StationModel) → Inv g es s → risen es ≤ g → SettledInTime g es s
settled_in_time g es s i slow p h k late =
    let w = i.timed p h k in
    let me = w.all p (inl refl) in
    let sums = whole s.ledger i.sound.lawful.laid g p w.there in
    elim me.ended [ inl d ↦ d | inr low ↦ absurd (omega (arith, low, sums, late, slow)) ]

pub safe : (own : Own) → Safe own
safe own es s r =
    record {
      newest = λ g seals timely. settled_newest g es s (run_keeps own g es s r seals timely);
      in_time = λ g seals timely. settled_in_time g es s (run_keeps own g es s r seals timely) (gap_here g es timely.0);
      conserved = conserved s.ledger (run_lawful own es s r);
    }

-- a step goes on with every run that led to it
pub goes_on : (own : Own) (s : StationModel) (c : Call) (a : Answer) (t : StationModel) → Step own s c a t → GoesOn own s c a t
goes_on own s c a t st =
    record {
      run = λ es r. (r, st, refl);
      holds = λ es r. safe own (record { before = s; call = c; answer = a; after = t } ∷ es) t (r, st, refl);
    }

-- Over a register that is empty at set-up, only agreed states are good.
abbrev OnlyAgreed : List Entry → StationModel → Type 0
OnlyAgreed es s = (x : State) (k : ℕ) → s.seals.good x k ≡ true → Agreed es x

-- a call that leaves the seals makes nothing good
leaves_seals : (es : List Entry) (b u t : StationModel) (e : Entry) → OnlyAgreed es b → u.seals ≡ b.seals → t ≡ u → OnlyAgreed (e ∷ es) t
leaves_seals es b u t e only same i x k g = search rules

one_more : (es : List Entry) (b : StationModel) (c : Call) (a : Answer) (t : StationModel) → OnlyAgreed es b → Step RowGives b c a t → OnlyAgreed (record { before = b; call = c; answer = a; after = t } ∷ es) t
one_more es b c a t only st = go c st
  where
    same : (u : StationModel) (k : Call) → u.seals ≡ b.seals → t ≡ u → OnlyAgreed (record { before = b; call = k; answer = a; after = t } ∷ es) t
    same u k = search rules

    kept-so : (y : State) (j : ℕ) → a ≡ Ok (Sealed j) → Keeps RowGives b t y j → OnlyAgreed (record { before = b; call = Agree y; answer = a; after = t } ∷ es) t
    kept-so y j ea keeps x k g = elim (keeps.owns.1 x k g) [ inl old ↦ inr (only x k old) | inr new ↦ inl (ap Agree (sym new.0), ap is_ok ea) ]

    by : (k : Call) (checks : List (Bool × ℕ)) (u : StationModel) → u.seals ≡ b.seals → Decided a b t checks u → OnlyAgreed (record { before = b; call = k; answer = a; after = t } ∷ es) t
    by k checks u i d = elim (decision a b t checks u d) [ refusing e ea et ↦ same b k refl et | doing ea h et ↦ same u k i et ]

    go : (k : Call) → Step RowGives b k a t → OnlyAgreed (record { before = b; call = k; answer = a; after = t } ∷ es) t
    go (Agree y) d = elim (agreement RowGives a b t y d) [ refusing_it e ea et ↦ same b (Agree y) refl et | keeping_it j ea h keeps ↦ kept-so y j ea keeps ]
    go (Claim p) d = by (Claim p) _ _ refl d
    go (Post y j) d = by (Post y j) _ _ refl d
    go (Settle p) d = by (Settle p) _ _ refl d
    go (Advance j) d = by (Advance j) _ _ refl d
    go Round d = search rules

only_agreed : (es : List Entry) (s : StationModel) → Run RowGives es s → NoneGood (origin es s).seals → OnlyAgreed es s
only_agreed [] s r none = search rules
only_agreed (e ∷ es) s r none = subst (OnlyAgreed (e ∷ es)) r.2 (one_more es e.before e.call e.answer e.after (only_agreed es e.before r.0 none) r.1)

pub sealed_earlier : (es : List Entry) (s : StationModel) → Run RowGives es s → NoneGood (origin es s).seals → SealedEarlier es
sealed_earlier [] s r none = tt
sealed_earlier (e ∷ es) s r none = (sealed_earlier es e.before r.0 none, (λ x k c passes. only_agreed es e.before r.0 none x k passes.1))

pub safe_fresh : SafeFresh
safe_fresh es s r none =
    let h = safe RowGives es s r in
    let seals = sealed_earlier es s r none in
    record { newest = λ g timely. h.newest g seals timely; in_time = λ g timely. h.in_time g seals timely }

pub claim_marks : ClaimMarks
claim_marks s p q lt = mark_each_lem (lineage s.ledger p) s.marks q lt
