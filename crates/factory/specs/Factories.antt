use Rattle.std.specs.Prelude.{ℕ, zero, suc, Bool, true, false, is_none}
use Rattle.ledger.specs.declared.host.Ledger.{Ghosts}
use Rattle.ledger.specs.Model.{Model}
use Rattle.factory.specs.declared.factory.Factory.{Factory}
use Rattle.factory.specs.Extending.{extended}

-- what a factory means, by what the host below means
abbrev pub model_of : {B : Type 0} {g : Ghosts B} → (B → Model) → Factory B g → Model
model_of model f = extended f.children (model f.below)

-- a factory that adds no place
abbrev pub is_empty : {B : Type 0} {g : Ghosts B} → Factory B g → Bool
is_empty f = is_none f.children

-- how many factories can be put on a factory: one more than on the host below while it is empty, and none after
abbrev pub rooms_by : Bool → ℕ → ℕ
rooms_by true below = suc below
rooms_by false below = zero

abbrev pub rooms_of : {B : Type 0} {g : Ghosts B} → (B → ℕ) → Factory B g → ℕ
rooms_of rooms f = rooms_by (is_empty f) (rooms f.below)
