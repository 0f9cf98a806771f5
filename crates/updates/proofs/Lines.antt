use Rattle.std.proofs.Common.{◌≡◌, ℕ, ◌+◌, ◌-◌, List, ◌∷◌, ◌++◌, length, take, drop, Some, eqb, position, sym, arith}
use Rattle.std.proofs.lemmas.List.Quantifiers.{position-Some}
use Rattle.std.proofs.lemmas.Grind.{common_steps}

-- an input is what stands before its first newline, the newline, and the rest
pub around : (bs : List ℕ) (end : ℕ) → Some end ≡ position (λ b. eqb b 10) bs → bs ≡ take end bs ++ (10 ∷ take (length bs - (end + 1)) (drop (end + 1) bs))
around bs end at = let p = position-Some (λ b. eqb b 10) bs end 0 (sym at) in grind (arith, common_steps)
