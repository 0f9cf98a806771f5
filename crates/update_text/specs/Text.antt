use Rattle.std.specs.Prelude.{◌≡◌, ℕ, ◌+◌, ◌-◌, ◌^◌, ◌<◌, Bool, ◌⊎◌, List, [], ◌∷◌, ◌++◌, length, take, drop, Ok, Err, Result, nat_lt}
use Rattle.state.specs.declared.raw.RawState.{RawState}
use Rattle.state.specs.declared.refusal.Refusal.{Refusal}
use Rattle.state.specs.declared.update.Update.{Update}
use Rattle.state.specs.Refusals.{told, answer, first, Leaves}
use Rattle.state.specs.States.{words, raw_words, making_checks}
use Rattle.update_text.specs.Line.{lines, keys, FirstBad, Values}

-- the values of an update, in the order of the lines: the words of its state, and its seal
abbrev pub values_of : Update → List ℕ
values_of u = words u.state ++ (u.seal ∷ [])

-- the same of figures that are not checked yet
abbrev pub raw_values : RawState → ℕ → List ℕ
raw_values raw seal = raw_words raw ++ (seal ∷ [])

-- the update text: a line for each key, with its value
unfoldable pub text_of : Update → List ℕ
text_of u = lines keys (values_of u)

-- a seal is one 64-bit number
abbrev pub Sealed : Update → Type 0
Sealed u = u.seal < 2 ^ 64

-- why a text is answered so: it is the text of the update; or it has a first bad line, which is told with 18; or all its lines are good, and a check of making a state fails
abbrev pub Because : List ℕ → Result Update Refusal → Type 0
Because bs (Ok u) = Sealed u × (bs ≡ text_of u)
Because bs (Err e) =
    ((n : ℕ) × FirstBad n bs × (told e ≡ (18, n ∷ [])))
    ⊎ ((raw : RawState) × (seal : ℕ) × Values bs (raw_values raw seal) × (told e ≡ first (making_checks raw)))

-- what reading `bs` answers, for any bytes
pub record Reads (bs : List ℕ) (r : Result Update Refusal) : Type 0 where
  pub because : Because bs r
  -- a first bad line is told whatever else the text says
  pub line : (n : ℕ) → FirstBad n bs → answer r ≡ (18, n ∷ [])
  -- where all lines are good, the answer is that of making the state
  pub checks : (raw : RawState) (seal : ℕ) → Values bs (raw_values raw seal) → answer r ≡ first (making_checks raw)

-- the buffer `old` with `t` written from `pos` on, and nothing else changed
abbrev pub written : List ℕ → ℕ → List ℕ → List ℕ
written old pos t = (take pos old ++ t) ++ drop (pos + length t) old

-- the part of a buffer from `pos` to `end`
abbrev pub part : ℕ → ℕ → List ℕ → List ℕ
part pos end buf = take (end - pos) (drop pos buf)

-- the one check of writing: the text fits from `pos` on
abbrev pub writing_checks : Update → List ℕ → ℕ → List (Bool × ℕ)
writing_checks u old pos = (nat_lt (length old) (pos + length (text_of u)), 19) ∷ []

-- what writing an update into `old` from `pos` on answers, and the buffer afterwards
pub record Writes (u : Update) (old : List ℕ) (pos : ℕ) (r : Result ℕ Refusal) (new : List ℕ) : Type 0 where
  pub answers : answer r ≡ first (writing_checks u old pos)
  pub after : Leaves r old new (λ end. (end ≡ pos + length (text_of u)) × (new ≡ written old pos (text_of u)))

-- Texts and updates are one to one, for every byte string and every buffer.
pub record OneToOne : Type 0 where
  -- what is written is read back as it was
  pub read_back : (u : Update) (old new : List ℕ) (pos end : ℕ) (q : Result Update Refusal)
      → Sealed u → Writes u old pos (Ok end) new → Reads (part pos end new) q → q ≡ Ok u
  -- what is read writes back to the same bytes
  pub written_back : (bs : List ℕ) (u : Update) (old new : List ℕ) (pos end : ℕ)
      → Reads bs (Ok u) → Writes u old pos (Ok end) new → part pos end new ≡ bs
  -- two accepted texts are equal exactly when their states and seals are
  pub same : (a b : List ℕ) (u v : Update) → Reads a (Ok u) → Reads b (Ok v) → (a ≡ b → u ≡ v) × (u ≡ v → a ≡ b)
