use Rattle.std.specs.Prelude.{◌≡◌, ℕ, ◌+◌, Bool, true, List, [], ◌∷◌, Result, ◌==◌}
use Rattle.state.specs.declared.refusal.Refusal.{Refusal}
use Rattle.state.specs.declared.state.State.{State}
use Rattle.state.specs.Refusals.{answer, first, Leaves}

-- what a scheme means: which pairs of state and seal are good, and how many seals are left
pub record Seals : Type 0 where
  pub good : State → ℕ → Bool
  pub left : ℕ

-- a seal was given for a state: the pair is good, one seal fewer is left, and every good pair stays good
pub record Gives (before : Seals) (state : State) (seal : ℕ) (after : Seals) : Type 0 where
  pub sealed : after.good state seal ≡ true
  pub fewer : before.left ≡ after.left + 1
  pub keeps : (other : State) (k : ℕ) → before.good other k ≡ true → after.good other k ≡ true

-- the one check of signing: a seal is left
abbrev pub signing_checks : Seals → List (Bool × ℕ)
signing_checks seals = ((seals.left == 0), 17) ∷ []

-- what signing answers, and what the scheme means afterwards; `own` is what this scheme says beyond what every scheme does
pub record Signs (own : Seals → State → ℕ → Seals → Type 0) (before : Seals) (state : State) (r : Result ℕ Refusal) (after : Seals) : Type 0 where
  pub answers : answer r ≡ first (signing_checks before)
  pub leaves : Leaves r before after (λ seal. Gives before state seal after × own before state seal after)
