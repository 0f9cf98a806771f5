use Rattle.std.proofs.Common.{◌≡◌, ℕ, zero, suc, ◌+◌, ◌-◌, ◌^◌, ◌<◌, ◌≤◌, List, [], ◌∷◌, ◌++◌, length, get_or, take, drop, Ok, Err, Result, subst, sym, refl, ap, ◌∙◌, inl, inr, ⊎_elim, append-nil, arith}
use Rattle.std.proofs.lemmas.List.{length-take, same_from_push, drop_more, drop_all}
use Rattle.std.proofs.lemmas.List.Sums.{get_or-le-sum_by}
use Rattle.std.specs.Result.{IsErrAnd}
use Rattle.std.proofs.lemmas.Bool.{cases_lt}
use Rattle.std.proofs.lemmas.Grind.{common_steps}
use Rattle.state.specs.declared.raw.RawState.{RawState}
use Rattle.state.specs.declared.refusal.Refusal.{Refusal}
use Rattle.state.specs.declared.refusal.Refusal.TheVariants.{BadLine}
use Rattle.state.specs.declared.state.State.{State}
use Rattle.state.specs.declared.update.Update.{Update}
use Rattle.state.specs.Refusals.{first}
use Rattle.state.specs.States.{making_checks, Makes}
use Rattle.state.proofs.Same.{words_same, update_same}
use Rattle.state.proofs.Accepting.{told_not_accepted, figures_accepted}
use Rattle.update_text.specs.Line.{lines, keys, Fit, Good, FirstBad, Values}
use Rattle.update_text.specs.Text.{values_of, raw_values, text_of, Sealed, Reads, part, Writes, OneToOne}
use Rattle.update_text.proofs.Runs.{keys_length, one_run, shorter, fit_take}

-- The values of an update.

values_length : (u : Update) → length (values_of u) ≡ length keys
unfolding keys
values_length u = let l = u.state.long in grind (arith, common_steps)

values_fit : (u : Update) → Sealed u → Fit (values_of u)
values_fit u f i =
    let placed = u.state.placed in
    let high = u.state.number.high in
    let capped = u.state.capped in
    let long = u.state.long in
    let each = get_or-le-sum_by (λ x. x) u.state.amounts (i - 2) 0 in
    grind (arith, common_steps)

values_text : (bs : List ℕ) (u : Update) → Sealed u → bs ≡ text_of u → Values bs (values_of u)
unfolding text_of
values_text bs u f e = (values_length u, values_fit u f, e)

-- the values of good lines are known
values_once : (bs vs ws : List ℕ) → Values bs vs → Values bs ws → vs ≡ ws
values_once bs vs ws h g = (one_run keys vs ws [] [] h.1 g.1 (omega (arith, h.0, g.0)) (omega (arith, g.0)) (grind (arith, common_steps, h.2, g.2))).0

-- equal values are those of the same figures and seal
values_split : (p q n m j k : ℕ) (xs ys : List ℕ) → p ∷ n ∷ (xs ++ (j ∷ [])) ≡ q ∷ m ∷ (ys ++ (k ∷ [])) → (p ∷ n ∷ xs ≡ q ∷ m ∷ ys) × (j ≡ k)
values_split p q n m j k xs ys e = grind (arith, common_steps, same_from_push)

update_once : (u v : Update) → values_of u ≡ values_of v → u ≡ v
update_once u v e =
    let d = values_split _ _ _ _ _ _ _ _ e in
    update_same u v (words_same u.state v.state d.0) d.1

raw_once : (a b : RawState) (j k : ℕ) → raw_values a j ≡ raw_values b k → a ≡ b
raw_once a b j k e = grind (arith, common_steps)

-- The first bad line of a text is known, and a text of good lines has none.

good_less : (m n : ℕ) (bs : List ℕ) → m ≤ n → Good n bs → Good m bs
good_less m n bs l g =
    let gc = g.count in
    let t = length-take m g.values in
    let s = shorter keys g.values g.rest m in
    ⊎_elim
    (λ (h : m < length keys + 1). record { values = take m g.values; rest = s.0; count = omega arith; fits = fit_take g.values m g.fits; is = g.is ∙ s.1; ended = λ k. absurd (omega arith) })
    (λ (h : length keys + 1 ≤ m). record { values = g.values; rest = g.rest; count = omega arith; fits = g.fits; is = g.is; ended = λ k. g.ended (omega arith) })
    (cases_lt m (length keys + 1))

bad_once : (m n : ℕ) (bs : List ℕ) → FirstBad m bs → FirstBad n bs → m ≡ n
bad_once m n bs a b =
    let x : n < m → ⊥ = λ h. b.3 (good_less n (m - 1) bs (omega arith) a.2) in
    let y : m < n → ⊥ = λ h. a.3 (good_less m (n - 1) bs (omega arith) b.2) in
    omega arith

not_bad : (bs vs : List ℕ) (n : ℕ) → Values bs vs → FirstBad n bs → ⊥
not_bad bs vs n h b =
    let l = h.0 in
    let all : Good (length keys + 1) bs = record { values = vs; rest = []; count = omega arith; fits = h.1; is = h.2 ∙ sym (append-nil (lines keys vs)); ended = λ k. refl } in
    b.3 (good_less n (length keys + 1) bs b.1 all)

-- What reading answers.

pub answers_bad : (bs : List ℕ) (n : ℕ) → FirstBad n bs → Reads bs (Err (BadLine n))
answers_bad bs n h =
    record {
      because = inl (n, h, refl);
      line = λ m b. ap (λ k. (18, k ∷ [])) (bad_once n m bs h b);
      checks = λ raw seal v. absurd (not_bad bs (raw_values raw seal) n v h);
    }

-- the answer of a text of good lines is that of making the state
pub answers_refused : (bs : List ℕ) (raw : RawState) (seal : ℕ) (e : Refusal) → Values bs (raw_values raw seal) → Makes raw (Err e) → Reads bs (Err e)
answers_refused bs raw seal e v m =
    record {
      because = inr (raw, seal, v, m.0);
      line = λ n b. absurd (not_bad bs (raw_values raw seal) n v b);
      checks = λ other k w. m.0 ∙ ap (λ x. first (making_checks x)) (raw_once raw other seal k (values_once bs _ _ v w));
    }

pub answers_made : (bs : List ℕ) (raw : RawState) (s : State) (seal : ℕ) → seal < 2 ^ 64 → Values bs (raw_values raw seal) → Makes raw (Ok s) → Reads bs (Ok (record { state = s; seal = seal }))
unfolding text_of
answers_made bs raw s seal f v m =
    record {
      because = (f, v.2 ∙ ap (λ (ws : List ℕ). lines keys (ws ++ (seal ∷ []))) (sym m.1));
      line = λ n b. absurd (not_bad bs (raw_values raw seal) n v b);
      checks = λ other k w. m.0 ∙ ap (λ x. first (making_checks x)) (raw_once raw other seal k (values_once bs _ _ v w));
    }

-- the n elements from i on
abbrev items : ℕ → ℕ → List ℕ → List ℕ
items zero i vs = []
items (suc n) i vs = get_or vs i 0 ∷ items n (i + 1) vs

listed : (n i : ℕ) (vs : List ℕ) → length vs ≡ i + n → drop i vs ≡ items n i vs
listed zero i vs l = drop_all i vs (omega arith)
listed (suc n) i vs l = drop_more vs i 0 (omega arith) ∙ ap (λ xs. get_or vs i 0 ∷ xs) (listed n (i + 1) vs (omega arith))

-- the figures of the first ten values
abbrev pub raw_of : List ℕ → RawState
raw_of vs = record { place = get_or vs 0 0; number = get_or vs 1 0; amounts = items 8 2 vs }

values_raw : (bs vs : List ℕ) → Values bs vs → Values bs (raw_values (raw_of vs) (get_or vs 10 0))
values_raw bs vs v =
    let kl = keys_length in
    let l = v.0 in
    let e : vs ≡ raw_values (raw_of vs) (get_or vs 10 0) = listed 11 0 vs (omega arith) in
    subst (Values bs) e v

-- What the returns of `read` answer.

pub read_bad : (bs : List ℕ) (e : Refusal) (r : Result Update Refusal) → IsErrAnd r (λ x. x ≡ e) → (n : ℕ) × FirstBad n bs × (e ≡ BadLine n) → Reads bs r
read_bad bs e (Ok u) h b = absurd h
read_bad bs e (Err x) h b = subst (λ y. Reads bs (Err y)) (sym (h ∙ b.2)) (answers_bad bs b.0 b.1)

pub read_refused : (bs vs : List ℕ) (e : Refusal) (r : Result Update Refusal) → IsErrAnd r (λ x. x ≡ e) → Values bs vs → Makes (raw_of vs) (Err e) → Reads bs r
read_refused bs vs e (Ok u) h v m = absurd h
read_refused bs vs e (Err x) h v m = subst (λ y. Reads bs (Err y)) (sym h) (answers_refused bs (raw_of vs) (get_or vs 10 0) e (values_raw bs vs v) m)

pub read_made : (bs vs : List ℕ) (s : State) → Values bs vs → Makes (raw_of vs) (Ok s) → Reads bs (Ok (record { state = s; seal = get_or vs 10 0 }))
read_made bs vs s v m = answers_made bs (raw_of vs) s (get_or vs 10 0) (v.1 10) (values_raw bs vs v) m

-- Texts and updates are one to one.

-- what stands where a text was written is the text
written_text : (u : Update) (old new : List ℕ) (pos end : ℕ) → Writes u old pos (Ok end) new → part pos end new ≡ text_of u
written_text u old new pos end w =
    let a = w.answers in
    let e = w.after.0 in
    let n = w.after.1 in
    grind (arith, common_steps)

-- whatever reading the text of an update answers is that update
read_text : (bs : List ℕ) (u : Update) (q : Result Update Refusal) → Sealed u → bs ≡ text_of u → Reads bs q → q ≡ Ok u
read_text bs u (Ok v) f e r =
    let vu = values_text bs u f e in
    let vv = values_text bs v r.because.0 r.because.1 in
    ap Ok (update_once v u (values_once bs _ _ vv vu))
read_text bs u (Err x) f e r =
    let s = u.state in
    let raw : RawState = record { place = s.place; number = s.number.value; amounts = s.amounts } in
    absurd (told_not_accepted x (r.checks raw u.seal (values_text bs u f e) ∙ figures_accepted s raw refl))

pub one_to_one : OneToOne
one_to_one =
    record {
      read_back = λ u old new pos end q f w r. read_text (part pos end new) u q f (written_text u old new pos end w) r;
      written_back = λ bs u old new pos end r w. written_text u old new pos end w ∙ sym r.because.1;
      same = λ a b u v ra rb. (
        (λ e. update_once u v (values_once a _ _ (values_text a u ra.because.0 ra.because.1) (values_text a v rb.because.0 (e ∙ rb.because.1)))),
        (λ e. ra.because.1 ∙ ap text_of e ∙ sym rb.because.1),
      );
    }
