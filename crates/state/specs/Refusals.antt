use Rattle.std.specs.Prelude.{◌≡◌, ℕ, Bool, true, false, List, [], ◌∷◌, Ok, Err, Result}
use Rattle.state.specs.declared.refusal.Refusal.{Refusal}
use Rattle.state.specs.declared.refusal.Refusal.TheVariants.{NoSuchPlace, BadNumber, OverLimit, Shut, Settled, WrongTotal, NotNewer, BadSeal, InContest, ParentNotAgreed, AllotmentBound, NothingAgreed, TooEarly, NothingPosted, BadStep, LastBlock, NoSealsLeft, BadLine, TooSmall, BadSetUp}

-- what a refusal tells: its number, and the values that go with it
abbrev pub told : Refusal → ℕ × List ℕ
told NoSuchPlace = (1, [])
told BadNumber = (2, [])
told OverLimit = (3, [])
told Shut = (4, [])
told Settled = (5, [])
told WrongTotal = (6, [])
told NotNewer = (7, [])
told BadSeal = (8, [])
told InContest = (9, [])
told ParentNotAgreed = (10, [])
told AllotmentBound = (11, [])
told NothingAgreed = (12, [])
told TooEarly = (13, [])
told NothingPosted = (14, [])
told BadStep = (15, [])
told LastBlock = (16, [])
told NoSealsLeft = (17, [])
told (BadLine line) = (18, line ∷ [])
told TooSmall = (19, [])
told BadSetUp = (20, [])

-- what any answer tells: a refusal as above, and 0 where the call is accepted
abbrev pub accepted : ℕ × List ℕ
accepted = (0, [])

-- a refusal that has no values
abbrev pub refused : ℕ → ℕ × List ℕ
refused n = (n, [])

abbrev pub answer : {A : Type 0} → Result A Refusal → ℕ × List ℕ
answer (Ok x) = accepted
answer (Err e) = told e

abbrev pub either : Bool → ℕ × List ℕ → ℕ × List ℕ → ℕ × List ℕ
either true x y = x
either false x y = y

-- checks in their order, each with the number of its refusal: the first that is true is told, and if none is, the call is accepted
abbrev pub first : List (Bool × ℕ) → ℕ × List ℕ
first [] = accepted
first (c ∷ cs) = either c.0 (refused c.1) (first cs)

-- a refused call leaves what it was given as it was, and an accepted one as `made` says
abbrev pub Leaves : {A S : Type 0} → Result A Refusal → S → S → (A → Type 0) → Type 0
Leaves (Ok x) before after made = made x
Leaves (Err e) before after made = after ≡ before
