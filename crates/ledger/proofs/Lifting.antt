-- From the step of one place to the step of the model.
use Rattle.std.proofs.Common.{◌≡◌, ℕ, ◌<◌, ◌≤◌, Bool, true, false, not, ltb, List, ◌∷◌, length, Some, None, Ok, Err, Result, sym, refl, ap, ◌∙◌, arith}
use Rattle.std.proofs.lemmas.List.{set-get_or}
use Rattle.std.proofs.lemmas.Bool.Decides.{nat_tests}
use Rattle.state.specs.declared.refusal.Refusal.{Refusal}
use Rattle.state.specs.Refusals.{told, refused, first, Leaves}
use Rattle.state.proofs.Checking.{passed_over}
use Rattle.ledger.specs.Model.{Model, Place, Stage, place_at, value_of}
use Rattle.ledger.specs.Steps.{is_none, with_stage, place_checks, Does}

-- a place at the stage that it has
same_stage : (m : Model) (p : ℕ) (s : Stage) → s ≡ (place_at m p).stage → with_stage m p s ≡ m
same_stage m p s e =
    ap (with_stage m p) e ∙ ap (λ (ps : List Place). record { height = m.height; places = ps }) (set-get_or m.places p _)

leaves_at : {A : Type 0} (r : Result A Refusal) (m : Model) (p : ℕ) (s next : Stage) → Leaves r (place_at m p).stage s (λ _. s ≡ next) → Leaves r m (with_stage m p s) (λ _. with_stage m p s ≡ with_stage m p next)
leaves_at (Ok x) m p s next h = ap (with_stage m p) h
leaves_at (Err e) m p s next h = same_stage m p s h

-- at a place that is there and has a value
pub lifts : {A : Type 0} (r : Result A Refusal) (m : Model) (p v : ℕ) (s next : Stage) (rest : List (Bool × ℕ)) → p < length m.places → value_of m p ≡ Some v
    → Does r (place_at m p).stage s rest next → Does r m (with_stage m p s) (place_checks m p rest) (with_stage m p next)
lifts r m p v s next rest within valued d =
    let there : not (ltb p (length m.places)) ≡ false = grind (arith, nat_tests) in
    let value : is_none (value_of m p) ≡ false = ap is_none valued in
    record {
      answers = d.answers ∙ sym (passed_over (not (ltb p (length m.places))) 1 ((is_none (value_of m p), 4) ∷ rest) there ∙ passed_over (is_none (value_of m p)) 4 rest value);
      leaves = leaves_at r m p s next d.leaves;
    }

-- past the last place
pub no_place : {A : Type 0} (e : Refusal) (m : Model) (p : ℕ) (rest : List (Bool × ℕ)) (next : Model) → told e ≡ refused 1 → length m.places ≤ p → Does {A = A} (Err e) m m (place_checks m p rest) next
no_place e m p rest next is past =
    let gone : not (ltb p (length m.places)) ≡ true = grind (arith, nat_tests) in
    record { answers = is ∙ sym (ap (λ b. first ((b, 1) ∷ (is_none (value_of m p), 4) ∷ rest)) gone); leaves = refl }

-- at a place that is shut
pub shut_place : {A : Type 0} (e : Refusal) (m : Model) (p : ℕ) (rest : List (Bool × ℕ)) (next : Model) → told e ≡ refused 4 → p < length m.places → value_of m p ≡ None → Does {A = A} (Err e) m m (place_checks m p rest) next
shut_place e m p rest next is within none =
    let there : not (ltb p (length m.places)) ≡ false = grind (arith, nat_tests) in
    record {
      answers = is ∙ sym (passed_over (not (ltb p (length m.places))) 1 ((is_none (value_of m p), 4) ∷ rest) there ∙ ap (λ v. first ((is_none v, 4) ∷ rest)) none);
      leaves = refl;
    }
