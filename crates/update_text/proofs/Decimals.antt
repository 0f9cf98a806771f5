use Rattle.std.proofs.Common.{◌≡◌, ℕ, suc, Bor, ◌*◌, [], subst, ◌+◌, ◌-◌, ◌^◌, ◌<◌, ◌≤◌, List, ◌∷◌, ◌++◌, length, get_or, take, drop, decimal, Option, Some, None, MatchOption, true, false, eqb, position, sym, ap, ◌∙◌, arith, rules}
use Rattle.std.specs.Int.{IsInRange}
use Rattle.std.proofs.lemmas.List.{take_at, append_cancel_left, at_drop_more, at_drop_all, get_or-take, length-take}
use Rattle.std.proofs.Math.Seq.{take-append-add}
use Rattle.std.proofs.lemmas.List.Quantifiers.{position-Some}
use Rattle.std.proofs.lemmas.List.Sums.{position_or_len_is}
use Rattle.std.proofs.lemmas.Str.Parse.{IsNumeralModel, numerals_by_fold, tells_by_index}
use Rattle.std.proofs.lemmas.Grind.{common_steps}
use Rattle.std.proofs.lemmas.Fmt.{digits_decimal, digits_value-decimal, first_decimal, decimal_digit, decimal_nonempty, decimal-digits_value, length-decimal-le}
use Rattle.update_text.specs.Line.{line, HasValue, Begins}

-- only digits
abbrev pub OwnDigits : List ℕ → Type 0
OwnDigits ds = (i : ℕ) → i < length ds → IsInRange 48 57 (get_or ds i 0)

-- the number that digits write, after the number so far
abbrev pub read_on : ℕ → List ℕ → ℕ
read_on n [] = n
read_on n (c ∷ cs) = read_on (n * 10 + (c - 48)) cs

model : IsNumeralModel OwnDigits (read_on 0)
model = numerals_by_fold OwnDigits tells_by_index read_on (search rules)

read_on_ge : (n : ℕ) (cs : List ℕ) → n ≤ read_on n cs
read_on_ge n [] = omega arith
read_on_ge n (c ∷ cs) = let h = read_on_ge (n * 10 + (c - 48)) cs in omega arith

-- one more digit
pub digit_step : (ds : List ℕ) (i v d : ℕ) → i < length ds → d ≡ get_or ds i 0 - 48 → read_on v (drop i ds) ≡ read_on (v * 10 + d) (drop (i + 1) ds)
digit_step ds i v d l e = at_drop_more (read_on v) ds i 0 l ∙ ap (λ x. read_on (v * 10 + x) (drop (i + 1) ds)) (sym e)

-- digits of which some already write 2^64 or more are those of no number
pub too_large : (ds : List ℕ) (i v d : ℕ) → i < length ds → d ≡ get_or ds i 0 - 48 → read_on v (drop i ds) ≡ read_on 0 ds → 2 ^ 64 ≤ v * 10 + d → (n : ℕ) → n < 2 ^ 64 → ds ≡ decimal n → ⊥
too_large ds i v d l e r big n f is =
    let s = digit_step ds i v d l e in
    let g = read_on_ge (v * 10 + d) (drop (i + 1) ds) in
    let w : read_on 0 ds ≡ n = ap (read_on 0) is ∙ digits_value-decimal model n f in
    omega arith

-- a byte that is no digit is in no number
pub no_digit : (ds : List ℕ) (i : ℕ) → i < length ds → (IsInRange 48 57 (get_or ds i 0) → ⊥) → (n : ℕ) → n < 2 ^ 64 → ds ≡ decimal n → ⊥
no_digit ds i l h n f is = h (subst OwnDigits (sym is) (digits_decimal model n f) i l)

pub no_digits : (ds : List ℕ) → length ds ≡ 0 → (n : ℕ) → n < 2 ^ 64 → ds ≡ decimal n → ⊥
no_digits ds z n f is = let p = decimal_nonempty n f in let e = ap length is in omega arith

-- what was read is the number
pub all_read : (ds : List ℕ) (i v : ℕ) → length ds ≤ i → 0 < length ds → ((1 < length ds) × (get_or ds 0 0 ≡ 48) → ⊥) → read_on v (drop i ds) ≡ read_on 0 ds → ((k : ℕ) → k < i → IsInRange 48 57 (get_or ds k 0)) → v < 2 ^ 64 → ds ≡ decimal v
all_read ds i v l some plain r all f =
    let dig : OwnDigits ds = λ k h. all k (omega arith) in
    let one : get_or ds 0 0 ≡ 48 → length ds ≡ 1 = λ z. let h : 1 < length ds → ⊥ = λ g. plain (g, z) in omega arith in
    let same : read_on 0 ds ≡ v = sym r ∙ at_drop_all (read_on v) ds i l in
    let d = decimal-digits_value model ds dig some one (omega arith) in
    sym d ∙ ap decimal same

-- the first digit of a number
decimal_first : (v : ℕ) → v < 2 ^ 64 → 1 < length (decimal v) → get_or (decimal v) 0 0 ≡ 48 → ⊥
decimal_first v f l e =
    let d = decimal_digit 0 (omega arith) in
    let h = first_decimal v in
    grind (arith, common_steps)

-- every byte of a number is a digit
decimal_byte : (v : ℕ) → v < 2 ^ 64 → (i : ℕ) → i < length (decimal v) → (48 ≤ get_or (decimal v) i 0) × (get_or (decimal v) i 0 ≤ 57)
decimal_byte v f i l = let d = digits_decimal model v f i l in (omega arith, omega arith)

pub zero_none : (bs : List ℕ) → 1 < length bs → get_or bs 0 0 ≡ 48 → (v : ℕ) → v < 2 ^ 64 → bs ≡ decimal v → ⊥
zero_none bs l z v f e =
    let n : length bs ≡ length (decimal v) = ap length e in
    decimal_first v f (omega arith) (ap (λ xs. get_or xs 0 0) (sym e) ∙ z)

-- the newline after a number is the first one
pub line_end : (bs rest : List ℕ) (v : ℕ) → HasValue bs v rest → position (λ b. eqb b 10) bs ≡ Some (length (decimal v))
line_end bs rest v h =
    let e = h.1 in
    let n = length (decimal v) in
    let before : (k : ℕ) → k < n → eqb (get_or bs k 0) 10 ≡ false = λ k l. let d = decimal_byte v h.0 k l in grind (arith, common_steps) in
    let p = position_or_len_is (λ b. eqb b 10) bs n 0 (grind (arith, common_steps)) before (λ l. grind (arith, common_steps)) in
    grind (arith, common_steps)

-- and among the first 21 bytes
pub number_end : (bs rest : List ℕ) (v : ℕ) → HasValue bs v rest → position (λ b. eqb b 10) (take 21 bs) ≡ Some (length (decimal v))
number_end bs rest v h =
    let m = 20 - length (decimal v) in
    let most = length-decimal-le 20 v (omega arith) (omega (arith, h.0)) h.0 in
    let split : length (decimal v) + suc m ≡ 21 = omega (arith, most) in
    let near : take 21 bs ≡ decimal v ++ (10 ∷ take m rest) = ap (take 21) h.1 ∙ ap (λ k. take k (decimal v ++ (10 ∷ rest))) (sym split) ∙ take-append-add (decimal v) (10 ∷ rest) (suc m) in
    line_end (take 21 bs) (take m rest) v (h.0, near)

pub no_line : (bs : List ℕ) → None ≡ position (λ b. eqb b 10) (take 21 bs) → (v : ℕ) (rest : List ℕ) → HasValue bs v rest → ⊥
no_line bs none v rest h = let e = number_end bs rest v h in absurd cc

pub no_number : (bs : List ℕ) (r : ℕ) → Some r ≡ position (λ b. eqb b 10) (take 21 bs) → ((v : ℕ) → v < 2 ^ 64 → take r bs ≡ decimal v → ⊥) → (v : ℕ) (rest : List ℕ) → HasValue bs v rest → ⊥
no_number bs r at none v rest h =
    let e = number_end bs rest v h in
    let n : length (decimal v) ≡ r = cc in
    none v h.0 (ap (take r) h.1 ∙ take_at (decimal v) (10 ∷ rest) r n)

-- digits up to a newline are a number's line
ended : (bs : List ℕ) (v r : ℕ) → r < length bs → eqb (get_or bs r 0) 10 ≡ true → take r bs ≡ decimal v → bs ≡ decimal v ++ (10 ∷ take (length bs - (r + 1)) (drop (r + 1) bs))
ended bs v r l n e = grind (arith, common_steps)

pub found : (bs : List ℕ) (v r : ℕ) → Some r ≡ position (λ b. eqb b 10) (take 21 bs) → take r bs ≡ decimal v → bs ≡ decimal v ++ (10 ∷ take (length bs - (r + 1)) (drop (r + 1) bs))
found bs v r at e =
    let p = position-Some (λ b. eqb b 10) (take 21 bs) r 0 (sym at) in
    let len = length-take 21 bs in
    let l : r < 21 = omega (arith, p.0, len) in
    let k : r < length bs = omega (arith, p.0, len) in
    ended bs v r k (ap (λ b. eqb b 10) (sym (get_or-take 21 bs r 0 l)) ∙ p.1) e

-- a line is its key, and then its value and a newline
pub line_is : (key rest : List ℕ) (v : ℕ) → line key v ++ rest ≡ key ++ (decimal v ++ (10 ∷ rest))
unfolding line
line_is key rest v = grind (arith, common_steps)

-- the line of a key that the text does not begin with
pub no_key : (key bs : List ℕ) → ((rest : List ℕ) → bs ≡ key ++ rest → ⊥) → (v : ℕ) (rest : List ℕ) → Begins key bs v rest → ⊥
no_key key bs none v rest h = none _ (h.1 ∙ line_is key rest v)

-- the value of the line is that of what stands after the key
pub after_key : (key bs part : List ℕ) (r : Option (ℕ × Bor (List ℕ))) → bs ≡ key ++ part
    → MatchOption r ((v : ℕ) (rest : List ℕ) → HasValue part v rest → ⊥) (λ p. HasValue part p.0 p.1.now)
    → MatchOption r ((v : ℕ) (rest : List ℕ) → Begins key bs v rest → ⊥) (λ p. Begins key bs p.0 p.1.now)
after_key key bs part (Some p) e h = (h.0, e ∙ ap (λ xs. key ++ xs) h.1 ∙ sym (line_is key p.1.now p.0))
after_key key bs part None e none = λ v rest h. none v rest (h.0, append_cancel_left key part (decimal v ++ (10 ∷ rest)) (sym e ∙ h.1 ∙ line_is key rest v))
