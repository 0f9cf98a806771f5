use Rattle.std.proofs.Common.{◌≡◌, ℕ, zero, suc, ◌<◌, ◌≤◌, true, false, ◌⊎◌, List, [], ◌∷◌, ◌++◌, length, get_or, take, Ok, Decides, sym, refl, ap, ◌∙◌, inl, inr, arith}
use Rattle.std.specs.Str.{bytes_eq}
use Rattle.std.proofs.lemmas.Slice.Eq.{bytes_eq-Decides}
use Rattle.std.proofs.lemmas.List.{length_push, length-take-le}
use Rattle.std.proofs.lemmas.Bool.Decides.{nat_tests}
use Rattle.state.specs.declared.state.State.{State}
use Rattle.state.specs.States.{words}
use Rattle.state.proofs.Same.{words_same}
use Rattle.seal.specs.Seals.{Signs}
use Rattle.seal.specs.Registers.{holds, FilledWith, row_seals, RowGives}

-- a row holds a state exactly if it is filled with it
pub holds_exact : (rows : List State) (k : ℕ) (x : State) → Decides (holds rows k x) (FilledWith rows k x)
holds_exact [] k x = (λ e. cc, λ f. let l = f.0 in absurd (omega arith))
holds_exact (row ∷ rows) zero x =
    let d = bytes_eq-Decides (words row) (words x) in
    (λ e. (omega arith, λ other. words_same row x (d.0 e)), λ f. d.1 (ap words (f.1 row)))
holds_exact (row ∷ rows) (suc k) x =
    let d = holds_exact rows k x in
    (λ e. let f = d.0 e in let l = f.0 in (omega arith, f.1), λ f. let l = f.0 in d.1 (omega arith, f.1))

pub holds_past : (rows : List State) (k : ℕ) (x : State) → length rows ≤ k → holds rows k x ≡ false
holds_past [] k x h = refl
holds_past (row ∷ rows) zero x h = absurd (omega arith)
holds_past (row ∷ rows) (suc k) x h = holds_past rows k x (omega arith)

-- of the first n rows, row k holds a state if it stands there
pub holds_among : (rows : List State) (n k : ℕ) (x d : State) → k < n → n ≤ length rows → holds (take n rows) k x ≡ bytes_eq (words (get_or rows k d)) (words x)
holds_among rows zero k x d l h = absurd (omega arith)
holds_among [] (suc n) k x d l h = absurd (omega arith)
holds_among (row ∷ rows) (suc n) zero x d l h = refl
holds_among (row ∷ rows) (suc n) (suc k) x d l h = holds_among rows n k x d (omega arith) (omega arith)

pub filled_rows : (rows : List State) (n : ℕ) → n ≤ length rows → length (take n rows) ≡ n
filled_rows rows n h = length-take-le n rows h

-- one more row is filled
holds_new : (rows : List State) (x : State) → holds (rows ++ (x ∷ [])) (length rows) x ≡ true
holds_new [] x = (bytes_eq-Decides (words x) (words x)).1 refl
holds_new (row ∷ rows) x = holds_new rows x

holds_still : (rows : List State) (x y : State) (k : ℕ) → holds rows k y ≡ true → holds (rows ++ (x ∷ [])) k y ≡ true
holds_still [] x y k h = cc
holds_still (row ∷ rows) x y zero h = h
holds_still (row ∷ rows) x y (suc k) h = holds_still rows x y k h

holds_only : (rows : List State) (x y : State) (k : ℕ) → holds (rows ++ (x ∷ [])) k y ≡ true → (holds rows k y ≡ true) ⊎ ((y ≡ x) × (k ≡ length rows))
holds_only [] x y zero h = inr (sym (words_same x y ((bytes_eq-Decides (words x) (words y)).0 h)), refl)
holds_only [] x y (suc k) h = cc
holds_only (row ∷ rows) x y zero h = inl h
holds_only (row ∷ rows) x y (suc k) h = let e = holds_only rows x y k h in grind arith

-- so signing gives the number of that row
pub row_signs : (rows after : List State) (x : State) (k : ℕ) → length rows < 256 → k ≡ length rows → after ≡ rows ++ (x ∷ []) → Signs RowGives (row_seals rows) x (Ok k) (row_seals after)
row_signs rows after x k l ek e =
    let n = ap length e ∙ length_push rows x in
    record {
      answers = grind (arith, nat_tests);
      leaves = (
        record {
          sealed = rw (e, ek) (holds_new rows x);
          fewer = omega arith;
          keeps = λ y j h. rw e (holds_still rows x y j h);
        },
        (omega arith, λ y j h. rw ek (holds_only rows x y j (rw e at h))),
      );
    }
