use Rattle.std.proofs.Common.{subst, Err, Bor, Option, Some, None, map, ◌≡◌, ℕ, zero, suc, ◌+◌, ◌^◌, ◌<◌, ◌≤◌, List, [], ◌∷◌, ◌++◌, length, get_or, take, set, replicate, decimal, sym, refl, ap, ◌∙◌, append_assoc, append-nil, arith}
use Rattle.std.proofs.lemmas.List.{get_or-map, take_at, length-take-le, length-take, append_cancel_left, take_more_set}
use Rattle.std.specs.Option.{ok_or}
use Rattle.std.proofs.lemmas.Fmt.{decimal_injective}
use Rattle.std.proofs.lemmas.Grind.{common_steps}
use Rattle.update_text.specs.Line.{line, Begins, lines, keys, Fit, FirstBad}
use Rattle.update_text.proofs.Decimals.{line_end, line_is}

-- a number and a newline at the front of a text can be read in one way
one_value : (v w : ℕ) (x y : List ℕ) → v < 2 ^ 64 → w < 2 ^ 64 → decimal v ++ (10 ∷ x) ≡ decimal w ++ (10 ∷ y) → v ≡ w
one_value v w x y f g e =
    let bs = decimal v ++ (10 ∷ x) in
    let a = line_end bs x v (f, refl) in
    let b = line_end bs y w (g, e) in
    let n : length (decimal w) ≡ length (decimal v) = cc in
    decimal_injective v w f g (sym (take_at (decimal v) (10 ∷ x) (length (decimal v)) refl) ∙ ap (take (length (decimal v))) e ∙ take_at (decimal w) (10 ∷ y) (length (decimal v)) n)

pub one_line : (key : List ℕ) (v w : ℕ) (x y : List ℕ) → v < 2 ^ 64 → w < 2 ^ 64 → line key v ++ x ≡ line key w ++ y → (v ≡ w) × (x ≡ y)
one_line key v w x y f g e =
    let a = append_cancel_left key _ _ (sym (line_is key x v) ∙ e ∙ line_is key y w) in
    let s = one_value v w x y f g a in
    (s, append_cancel_left (line key w) x y (ap (λ n. line key n ++ x) (sym s) ∙ e))

fit_tail : (v : ℕ) (vs : List ℕ) → Fit (v ∷ vs) → Fit vs
fit_tail v vs f i = f (suc i)

lines_none : (ks : List (List ℕ)) → lines ks [] ≡ []
lines_none [] = refl
lines_none (k ∷ ks) = refl

-- one more line at the end
pub lines_push : (ks : List (List ℕ)) (vs : List ℕ) (v : ℕ) → length vs < length ks → lines ks (vs ++ (v ∷ [])) ≡ lines ks vs ++ line (get_or ks (length vs) []) v
lines_push [] vs v l = absurd (omega arith)
lines_push (k ∷ ks) [] v l = ap (λ xs. line k v ++ xs) (lines_none ks) ∙ append-nil (line k v)
lines_push (k ∷ ks) (w ∷ vs) v l = ap (λ xs. line k w ++ xs) (lines_push ks vs v (omega arith)) ∙ sym (append_assoc (line k w) (lines ks vs) (line (get_or ks (length vs) []) v))

-- a longer run of lines goes on with the next key
pub goes_on : (ks : List (List ℕ)) (vs ws x y : List ℕ) → Fit vs → Fit ws → length vs < length ws → length ws ≤ length ks → lines ks vs ++ x ≡ lines ks ws ++ y
    → (v : ℕ) × (rest : List ℕ) × Begins (get_or ks (length vs) []) x v rest
goes_on [] vs ws x y f g l m e = absurd (omega arith)
goes_on (k ∷ ks) vs [] x y f g l m e = absurd (omega arith)
goes_on (k ∷ ks) [] (w ∷ ws) x y f g l m e = (w, lines ks ws ++ y, (g 0, e ∙ append_assoc (line k w) (lines ks ws) y))
goes_on (k ∷ ks) (v ∷ vs) (w ∷ ws) x y f g l m e =
    let s = one_line k v w (lines ks vs ++ x) (lines ks ws ++ y) (f 0) (g 0) (sym (append_assoc (line k v) (lines ks vs) x) ∙ e ∙ append_assoc (line k w) (lines ks ws) y) in
    goes_on ks vs ws x y (fit_tail v vs f) (fit_tail w ws g) (omega arith) (omega arith) s.1

-- as many lines of the same keys are the same
pub one_run : (ks : List (List ℕ)) (vs ws x y : List ℕ) → Fit vs → Fit ws → length vs ≡ length ws → length ws ≤ length ks → lines ks vs ++ x ≡ lines ks ws ++ y → (vs ≡ ws) × (x ≡ y)
one_run ks [] [] x y f g l m e = (refl, sym (ap (λ xs. xs ++ x) (lines_none ks)) ∙ e ∙ ap (λ xs. xs ++ y) (lines_none ks))
one_run ks [] (w ∷ ws) x y f g l m e = absurd (omega arith)
one_run ks (v ∷ vs) [] x y f g l m e = absurd (omega arith)
one_run [] (v ∷ vs) (w ∷ ws) x y f g l m e = absurd (omega arith)
one_run (k ∷ ks) (v ∷ vs) (w ∷ ws) x y f g l m e =
    let s = one_line k v w (lines ks vs ++ x) (lines ks ws ++ y) (f 0) (g 0) (sym (append_assoc (line k v) (lines ks vs) x) ∙ e ∙ append_assoc (line k w) (lines ks ws) y) in
    let t = one_run ks vs ws x y (fit_tail v vs f) (fit_tail w ws g) (omega arith) (omega arith) s.1 in
    (cc (s.0, t.0), t.1)

-- a run of lines begins with a shorter one
pub shorter : (ks : List (List ℕ)) (vs x : List ℕ) (n : ℕ) → (rest : List ℕ) × (lines ks vs ++ x ≡ lines ks (take n vs) ++ rest)
shorter [] vs x n = (x, refl)
shorter (k ∷ ks) [] x zero = (x, refl)
shorter (k ∷ ks) [] x (suc n) = (x, refl)
shorter (k ∷ ks) (v ∷ vs) x zero = ((line k v ++ lines ks vs) ++ x, refl)
shorter (k ∷ ks) (v ∷ vs) x (suc n) =
    let s = shorter ks vs x n in
    (s.0, append_assoc (line k v) (lines ks vs) x ∙ ap (λ xs. line k v ++ xs) s.1 ∙ sym (append_assoc (line k v) (lines ks (take n vs)) s.0))

pub keys_length : length keys ≡ 11
unfolding keys
keys_length = refl

pub fit_set : (vs : List ℕ) (i v : ℕ) → i < length vs → Fit vs → v < 2 ^ 64 → Fit (set vs i v)
fit_set vs i v l f h j = grind (arith, common_steps)

pub fit_take : (vs : List ℕ) (n : ℕ) → Fit vs → Fit (take n vs)
fit_take vs n f j = let g = f j in grind (arith, common_steps)

-- the next line is good
pub line_more : (bs vs rest after : List ℕ) (i v : ℕ) → length vs ≡ 11 → i < 11 → Fit vs → bs ≡ lines keys (take i vs) ++ rest → Begins (get_or keys i []) rest v after
    → Fit (set vs i v) × (bs ≡ lines keys (take (i + 1) (set vs i v)) ++ after)
line_more bs vs rest after i v len l fit e b =
    let kl = keys_length in
    let h = b.1 in
    (fit_set vs i v (omega arith) fit b.0, grind (arith, common_steps, take_more_set, lines_push, length-take))

-- the next line is bad
pub line_bad : (bs vs rest : List ℕ) (i : ℕ) → length vs ≡ 11 → i < 11 → Fit vs → bs ≡ lines keys (take i vs) ++ rest → ((v : ℕ) (after : List ℕ) → Begins (get_or keys i []) rest v after → ⊥) → FirstBad (i + 1) bs
line_bad bs vs rest i len l fit e none =
    let tl : length (take i vs) ≡ i = length-take-le i vs (omega arith) in
    let kl = keys_length in (
      omega arith,
      omega arith,
      record { values = take i vs; rest = rest; count = omega arith; fits = fit_take vs i fit; is = e; ended = λ h. absurd (omega arith) },
      λ g.
          let gc = g.count in
          let s = goes_on keys (take i vs) g.values rest g.rest (fit_take vs i fit) g.fits (omega arith) (omega arith) (sym e ∙ g.is) in
          none s.0 s.1 (subst (λ n. Begins (get_or keys n []) rest s.0 s.1) tl s.2),
    )

-- bytes after the last line
pub more_bytes : (bs vs rest : List ℕ) → length vs ≡ 11 → Fit vs → bs ≡ lines keys vs ++ rest → 0 < length rest → FirstBad 12 bs
more_bytes bs vs rest len fit e l =
    let kl = keys_length in (
      omega arith,
      omega arith,
      record { values = vs; rest = rest; count = omega arith; fits = fit; is = e; ended = λ h. absurd (omega arith) },
      λ g.
          let gc = g.count in
          let s = one_run keys vs g.values rest g.rest fit g.fits (omega arith) (omega arith) (sym e ∙ g.is) in
          let z = ap length (s.1 ∙ g.ended (omega arith)) in
          omega arith,
    )

pub fit_zeros : (n : ℕ) → Fit (replicate n 0)
fit_zeros zero i = omega arith
fit_zeros (suc n) zero = omega arith
fit_zeros (suc n) (suc i) = fit_zeros n i

-- nothing after the last line
pub all_lines : (bs vs rest : List ℕ) → bs ≡ lines keys vs ++ rest → length rest ≡ 0 → bs ≡ lines keys vs
all_lines bs vs [] e n = e ∙ append-nil (lines keys vs)
all_lines bs vs (x ∷ xs) e n = absurd (omega arith)

-- a key of the code, as one of the definition's
pub key_now : (K : List (Bor (List ℕ))) (i : ℕ) (d : Bor (List ℕ)) → i < length K → (get_or K i d).now ≡ get_or (map (λ k. k.now) K) i []
key_now K i d l = sym (get_or-map (λ k. k.now) K i d [] l)

pub ok_or_none : {A E : Type 0} (r : Option A) (e x : E) → Err e ≡ ok_or r x → r ≡ None → e ≡ x
ok_or_none (Some a) e x h n = absurd cc
ok_or_none None e x h n = cc
