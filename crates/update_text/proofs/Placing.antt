use Rattle.std.proofs.Common.{◌≡◌, ℕ, zero, suc, ◌+◌, ◌-◌, ◌/◌, ◌%◌, ◌*◌, ◌^◌, ◌<◌, ◌≤◌, List, [], ◌∷◌, ◌++◌, length, take, drop, set, decimal, sym, ap, ◌∙◌, append_assoc, append-nil, arith, length-append}
use Rattle.std.proofs.lemmas.List.{drop-set, drop_all, drop-drop, drop_at, take_at, take_all, length-drop}
use Rattle.std.proofs.lemmas.Grind.{common_steps}
use borrow.Rule.Slice.PartMut.{put_mid}
use Rattle.update_text.specs.Line.{line}
use Rattle.std.proofs.lemmas.Fmt.{decimal_digit, decimal_step, decimal_nonempty}

pub len_one : (n : ℕ) → n < 10 → length (decimal n) ≡ 1
len_one n h = ap length (decimal_digit n h)

pub len_step : (n : ℕ) → 10 ≤ n → n < 2 ^ 64 → length (decimal n) ≡ length (decimal (n / 10)) + 1
len_step n h f = ap length (decimal_step n h f) ∙ length-append (decimal (n / 10)) ((48 + n % 10) ∷ [])

-- the digits of a number from a power of ten on and below the next one
pub len_power : (k n : ℕ) → 10 ^ k ≤ n → n < 10 * 10 ^ k → n < 2 ^ 64 → length (decimal n) ≡ k + 1
len_power zero n l h f = len_one n (omega arith)
len_power (suc k) n l h f = omega (arith, len_step n (omega arith) f, len_power k (n / 10) (omega arith) (omega arith) (omega arith))

pub one_digit : (rest : ℕ) → rest < 2 ^ 64 → length (decimal rest) ≡ 1 → rest < 10
one_digit rest f l = grind (arith, len_step, decimal_nonempty)

-- the first digit goes in before those that stand there already
pub put_last : (n rest : ℕ) (out : List ℕ) → rest < 10 → 0 < length out → decimal rest ++ drop 1 out ≡ decimal n → set out 0 (48 + rest) ≡ decimal n
put_last n rest out s l e = drop-set out 0 (48 + rest) l ∙ ap (λ xs. xs ++ drop 1 out) (sym (decimal_digit rest s)) ∙ e

-- the last digit of `rest` goes in at `at`, before the digits that stand there already
pub put_digit : (n rest to at : ℕ) (out : List ℕ) → rest < 2 ^ 64 → to ≡ at + 1 → at < length out → length (decimal rest) ≡ to → decimal rest ++ drop to out ≡ decimal n
    → (at ≡ 0 → set out at (48 + rest % 10) ≡ decimal n) × (0 < at → length (decimal (rest / 10)) ≡ at) × (0 < at → decimal (rest / 10) ++ drop at (set out at (48 + rest % 10)) ≡ decimal n)
put_digit n rest to at out f t l len e =
    let c = 48 + rest % 10 in
    let d : drop at (set out at c) ≡ c ∷ drop to out = drop-set out at c l ∙ ap (λ k. c ∷ drop k out) (sym t) in
    let one : at ≡ 0 → set out at c ≡ decimal n = λ z.
    let h : rest < 10 = grind (arith, len_step, decimal_nonempty) in
    let r : 48 + rest ≡ c = omega arith in
    ap (λ k. drop k (set out at c)) (sym z) ∙ d ∙ ap (λ x. x ∷ drop to out) (sym r) ∙ ap (λ xs. xs ++ drop to out) (sym (decimal_digit rest h)) ∙ e in
    (one, (λ p. grind (arith, common_steps, decimal_digit, len_step)), (λ p. grind (arith, common_steps, decimal_digit, decimal_step, len_step)))

-- `xs` stands at the start of `old`, as `mid`; then the part from there on is lent, and `ys` is written at its start
pub then_more : (old mid part xs ys : List ℕ) (a b : ℕ) → a ≡ length xs → b ≡ length ys → mid ≡ xs ++ drop a old → part ≡ ys ++ drop b (take (length mid - a) (drop a mid))
    → put_mid a (length mid - a) mid part ≡ (xs ++ ys) ++ drop (a + b) old
then_more old mid part xs ys a b ea eb em ep =
    let k = length mid - a in
    let ax : length xs ≡ a = omega arith in
    let far : length (drop a mid) ≤ k = omega (arith, length-drop a mid) in
    let t : take a mid ≡ xs = ap (take a) em ∙ take_at xs (drop a old) a ax in
    let d : drop a mid ≡ drop a old = ap (drop a) em ∙ drop_at xs (drop a old) a ax in
    let w : take k (drop a mid) ≡ drop a mid = take_all k (drop a mid) far in
    let n : drop k (drop a mid) ≡ [] = drop_all k (drop a mid) far in
    let p : part ≡ ys ++ drop (a + b) old = ep ∙ ap (λ zs. ys ++ drop b zs) (w ∙ d) ∙ ap (λ zs. ys ++ zs) (drop-drop b a old) in
    let q : part ++ drop k (drop a mid) ≡ ys ++ drop (a + b) old = ap (λ zs. part ++ zs) n ∙ append-nil part ∙ p in
    ap (λ zs. zs ++ (part ++ drop k (drop a mid))) t ∙ ap (λ zs. xs ++ zs) q ∙ sym (append_assoc xs ys (drop (a + b) old))

pub line_length : (k : List ℕ) (n : ℕ) → length (line k n) ≡ length k + length (decimal n) + 1
unfolding line
line_length k n = grind (arith, common_steps)
