use Rattle.std.proofs.Common.{◌≡◌, ℕ, ◌≤◌, List, ◌∷◌, length, sum}
use mathlib.Core.HLevel.{is_prop→PathP}
use native.Mathlib.Bridge.{le_prop}
use native.Mathlib.Nat.{ℕ_set}
use Rattle.state.specs.declared.quantity.StateNumber.{StateNumber}
use Rattle.state.specs.declared.state.State.{State}
use Rattle.state.specs.declared.update.Update.{Update}
use Rattle.state.specs.Limits.{max_place, min_number, max_number, max_total, parties}
use Rattle.state.specs.States.{words}

number_same : (m n : StateNumber) → m.value ≡ n.value → m ≡ n
number_same m n e = λ i. record {
  value = e i;
  low = is_prop→PathP (λ i. min_number ≤ e i) (λ i. le_prop) m.low n.low i;
  high = is_prop→PathP (λ i. e i ≤ max_number) (λ i. le_prop) m.high n.high i;
}

figures_same : (s t : State) → s.place ≡ t.place → s.number.value ≡ t.number.value → s.amounts ≡ t.amounts → s ≡ t
figures_same s t p n a = λ i. record {
  place = p i;
  number = number_same s.number t.number n i;
  amounts = a i;
  placed = is_prop→PathP (λ i. p i ≤ max_place) (λ i. le_prop) s.placed t.placed i;
  long = is_prop→PathP (λ i. length (a i) ≡ parties) (λ i. ℕ_set (length (a i)) parties) s.long t.long i;
  capped = is_prop→PathP (λ i. sum (a i) ≤ max_total) (λ i. le_prop) s.capped t.capped i;
}

pub cons_same : (x y : ℕ) (xs ys : List ℕ) → x ∷ xs ≡ y ∷ ys → (x ≡ y) × (xs ≡ ys)
cons_same x y xs ys e = (cc, cc)

-- states with the same words are the same
pub words_same : (s t : State) → words s ≡ words t → s ≡ t
words_same s t e =
    let p = cons_same _ _ _ _ e in
    let n = cons_same _ _ _ _ p.1 in
    figures_same s t p.0 n.0 n.1

pub update_same : (u v : Update) → u.state ≡ v.state → u.seal ≡ v.seal → u ≡ v
update_same u v s k = λ i. record { state = s i; seal = k i }
