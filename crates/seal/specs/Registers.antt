use Rattle.std.specs.Prelude.{◌≡◌, ℕ, zero, suc, ◌-◌, ◌<◌, Bool, true, false, ◌⊎◌, List, [], ◌∷◌, length, slice_index_or}
use Rattle.std.specs.Str.{bytes_eq}
use Rattle.state.specs.declared.state.State.{State}
use Rattle.state.specs.States.{words}
use Rattle.seal.specs.Seals.{Seals}

-- how many rows a register has
abbrev pub max_rows : ℕ
max_rows = 256

-- whether row k is filled with this very state
abbrev pub holds : List State → ℕ → State → Bool
holds [] k state = false
holds (row ∷ rows) zero state = bytes_eq (words row) (words state)
holds (row ∷ rows) (suc k) state = holds rows k state

-- the same in words: row k is filled, and what stands there is this state
abbrev pub FilledWith : List State → ℕ → State → Type 0
FilledWith rows k state = (k < length rows) × ((d : State) → slice_index_or rows k d ≡ state)

-- what a register means that has signed these states
abbrev pub row_seals : List State → Seals
row_seals rows = record { good = λ state k. holds rows k state; left = max_rows - length rows }

-- a register stands for the states that it has signed, in order; the row of each is its index
abbrev pub register_meaning : List State → Seals
register_meaning = row_seals

-- a register gives the number of the next row, and nothing but this pair becomes good
abbrev pub RowGives : Seals → State → ℕ → Seals → Type 0
RowGives before state seal after =
    (seal ≡ max_rows - before.left)
    × ((other : State) (k : ℕ) → after.good other k ≡ true → (before.good other k ≡ true) ⊎ ((other ≡ state) × (k ≡ seal)))
