use Rattle.std.specs.Prelude.{◌≡◌, ℕ, Bool, List, [], ◌∷◌, Result, replicate, sum, nat_lt, IfOk}
use Rattle.state.specs.declared.raw.RawState.{RawState}
use Rattle.state.specs.declared.refusal.Refusal.{Refusal}
use Rattle.state.specs.declared.state.State.{State}
use Rattle.state.specs.Limits.{max_place, min_number, max_number, max_total}
use Rattle.state.specs.Refusals.{answer, first}

-- the words of a state, in the order in which they are sealed and written
abbrev pub words : State → List ℕ
words s = s.place ∷ s.number.value ∷ s.amounts

-- the same of figures that are not checked yet
abbrev pub raw_words : RawState → List ℕ
raw_words raw = raw.place ∷ raw.number ∷ raw.amounts

-- the checks of making a state, in their order
abbrev pub making_checks : RawState → List (Bool × ℕ)
making_checks raw =
    (nat_lt max_place raw.place, 1)
    ∷ (nat_lt raw.number min_number, 2)
    ∷ (nat_lt max_number raw.number, 2)
    ∷ (nat_lt max_total (sum raw.amounts), 3)
    ∷ []

-- making a state of raw figures: refused as the checks say, and else the state of those figures
abbrev pub Makes : RawState → Result State Refusal → Type 0
Makes raw r = (answer r ≡ first (making_checks raw)) × IfOk r (λ s. words s ≡ raw_words raw)

-- the blank state: place 0, number 1 and no amounts
abbrev pub blank_words : List ℕ
blank_words = 0 ∷ 1 ∷ replicate 8 0
