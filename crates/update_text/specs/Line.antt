use Rattle.std.specs.Prelude.{◌≡◌, ℕ, ◌+◌, ◌-◌, ◌^◌, ◌<◌, ◌≤◌, min, List, [], ◌∷◌, ◌++◌, length, codes, decimal, slice_index}

-- the keys of an update text, in the order of its lines
abbrev pub key_list : List (List ℕ)
key_list =
    codes "place=" ∷ codes "number=" ∷ codes "a0=" ∷ codes "a1=" ∷ codes "a2=" ∷ codes "a3=" ∷ codes "a4=" ∷ codes "a5=" ∷ codes "a6=" ∷ codes "a7=" ∷ codes "seal=" ∷ []

-- the same, as one name for proofs
unfoldable pub keys : List (List ℕ)
keys = key_list

-- a line: the key with its '=', the value's decimal digits and a newline
unfoldable pub line : List ℕ → ℕ → List ℕ
line key n = (key ++ decimal n) ++ (10 ∷ [])

-- the lines of these keys and values, one after another
abbrev pub lines : List (List ℕ) → List ℕ → List ℕ
lines [] vs = []
lines (k ∷ ks) [] = []
lines (k ∷ ks) (v ∷ vs) = line k v ++ lines ks vs

-- a value fits a line if it is below 2^64
abbrev pub Fit : List ℕ → Type 0
Fit vs = (i : ℕ) → slice_index vs i < 2 ^ 64

-- `bs` is the lines of these values, one for each key
abbrev pub Values : List ℕ → List ℕ → Type 0
Values bs vs = (length vs ≡ length keys) × Fit vs × (bs ≡ lines keys vs)

-- the first n lines of `bs` are good; the line after the last is good if nothing stands there
pub record Good (n : ℕ) (bs : List ℕ) : Type 0 where
  pub values : List ℕ
  pub rest : List ℕ
  pub count : length values ≡ min n (length keys)
  pub fits : Fit values
  pub is : bs ≡ lines keys values ++ rest
  pub ended : length keys < n → rest ≡ []

-- the first n - 1 lines are good, and line n is not
abbrev pub FirstBad : ℕ → List ℕ → Type 0
FirstBad n bs = (1 ≤ n) × (n ≤ length keys + 1) × Good (n - 1) bs × (Good n bs → ⊥)

-- What the steps of reading a line speak of.

-- `bs` begins with this number and a newline, and goes on with `rest`
abbrev pub HasValue : List ℕ → ℕ → List ℕ → Type 0
HasValue bs v rest = (v < 2 ^ 64) × (bs ≡ decimal v ++ (10 ∷ rest))

-- `bs` begins with the good line of this key and value, and goes on with `rest`
abbrev pub Begins : List ℕ → List ℕ → ℕ → List ℕ → Type 0
Begins key bs v rest = (v < 2 ^ 64) × (bs ≡ line key v ++ rest)
