-- Laws of sums over the numbers below a bound.
use Rattle.std.proofs.Common.{◌≡◌, ℕ, zero, suc, ◌+◌, ◌<◌, List, [], ◌∷◌, length, get_or, sum, sym, refl, ap, ◌∙◌, ap₂, inl, inr, add-one, arith}
use Rattle.std.proofs.lemmas.Bool.{cases_eq}
use Rattle.std.proofs.lemmas.List.Sums.{sum_by-cons}
use Rattle.account.specs.Sums.{sum_to}

pub sum_more : (f : ℕ → ℕ) (n : ℕ) → sum_to (n + 1) f ≡ sum_to n f + f n
sum_more f n = ap (λ k. sum_to k f) (add-one n)

pub sum_same : (n : ℕ) (f g : ℕ → ℕ) → ((p : ℕ) → p < n → f p ≡ g p) → sum_to n f ≡ sum_to n g
sum_same zero f g h = refl
sum_same (suc n) f g h = ap₂ (λ a b. a + b) (sum_same n f g (λ p l. h p (omega arith))) (h n (omega arith))

pub sum_zero : (n : ℕ) → sum_to n (λ _. 0) ≡ 0
sum_zero zero = refl
sum_zero (suc n) = omega (arith, sum_zero n)

pub sum_none : (n : ℕ) (f : ℕ → ℕ) → ((p : ℕ) → p < n → f p ≡ 0) → sum_to n f ≡ 0
sum_none n f h = sum_same n f (λ _. 0) h ∙ sum_zero n

pub sum_add : (n : ℕ) (f g : ℕ → ℕ) → sum_to n (λ p. f p + g p) ≡ sum_to n f + sum_to n g
sum_add zero f g = refl
sum_add (suc n) f g = omega (arith, sum_add n f g)

pub sum_swap : (n m : ℕ) (f : ℕ → ℕ → ℕ) → sum_to n (λ p. sum_to m (λ j. f p j)) ≡ sum_to m (λ j. sum_to n (λ p. f p j))
sum_swap zero m f = sym (sum_zero m)
sum_swap (suc n) m f = ap (λ a. a + sum_to m (f n)) (sum_swap n m f) ∙ sym (sum_add m (λ j. sum_to n (λ p. f p j)) (f n))

-- only one number counts
pub sum_one : (n : ℕ) (f : ℕ → ℕ) (c : ℕ) → c < n → ((p : ℕ) → p < n → (p ≡ c → ⊥) → f p ≡ 0) → sum_to n f ≡ f c
sum_one zero f c l h = absurd (omega arith)
sum_one (suc n) f c l h =
    elim (cases_eq c n) [
      | inl e ↦ (let z : sum_to n f ≡ 0 = sum_none n f (λ p k. h p (omega arith) (λ e'. omega arith)) in let last : f n ≡ f c = ap f (sym e) in omega arith)
      | inr ne ↦ (let i : sum_to n f ≡ f c = sum_one n f c (omega arith) (λ p k d. h p (omega arith) d) in let z : f n ≡ 0 = h n (omega arith) (λ e'. ne (sym e')) in omega arith)
    ]

sum_front : (n : ℕ) (f : ℕ → ℕ) → sum_to (suc n) f ≡ f 0 + sum_to n (λ i. f (suc i))
sum_front zero f = omega arith
sum_front (suc n) f = omega (arith, sum_front n f)

-- the sum over a list
pub sum_list : (xs : List ℕ) → sum_to (length xs) (λ i. get_or xs i 0) ≡ sum xs
sum_list [] = refl
sum_list (x ∷ xs) = sum_front (length xs) (λ i. get_or (x ∷ xs) i 0) ∙ ap (λ a. x + a) (sum_list xs) ∙ sym (sum_by-cons (λ a. a) x xs)
