-- Lists of checks.
use Rattle.std.proofs.Common.{◌≡◌, ℕ, ◌≤◌, Bool, true, false, ◌&&◌, leb, List, [], ◌∷◌, refl, ap, arith}
use Rattle.std.proofs.lemmas.Bool.Decides.{nat_tests}
use Rattle.state.specs.Refusals.{accepted, refused, either, first}

-- no check has the number of an accepted call
abbrev pub numbered : List (Bool × ℕ) → Bool
numbered [] = true
numbered (c ∷ cs) = leb 1 c.1 && numbered cs

-- every check passes
abbrev pub Passed : List (Bool × ℕ) → Type 0
Passed [] = Unit {0}
Passed (c ∷ cs) = (c.0 ≡ false) × Passed cs

either_passed : (b : Bool) (n : ℕ) (rest : ℕ × List ℕ) → 1 ≤ n → either b (refused n) rest ≡ accepted → (b ≡ false) × (rest ≡ accepted)
either_passed true n rest h e = let z : n ≡ 0 = ap (λ (p : ℕ × List ℕ). p.0) e in absurd (omega arith)
either_passed false n rest h e = (refl, e)

-- checks are accepted only if all pass
pub all_passed : (cs : List (Bool × ℕ)) → numbered cs ≡ true → first cs ≡ accepted → Passed cs
all_passed [] n h = tt
all_passed (c ∷ cs) n h =
    let one : 1 ≤ c.1 = grind (arith, nat_tests) in
    let rest : numbered cs ≡ true = grind (arith, nat_tests) in
    let e = either_passed c.0 c.1 (first cs) one h in
    (e.0, all_passed cs rest e.1)

-- the checks after those that pass decide the answer
pub passed_over : (b : Bool) (n : ℕ) (cs : List (Bool × ℕ)) → b ≡ false → first ((b, n) ∷ cs) ≡ first cs
passed_over b n cs e = ap (λ x. either x (refused n) (first cs)) e
