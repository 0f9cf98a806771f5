use Rattle.std.specs.Prelude.{◌≡◌, ℕ, ◌+◌, ◌<◌, ◌≤◌, true, false, List, length, sum}
use Rattle.cases.specs.declared.Case.{Case}
use Rattle.cases.specs.declared.Case.TheVariants.{LastNumber, NumberTooHigh, NumberZero, FullTotal, TotalTooHigh}
use Rattle.state.specs.declared.raw.RawState.{RawState}
use Rattle.state.specs.declared.state.State.{State}
use Rattle.ledger.specs.Model.{Model, fresh, holds, place_at, value_of}
use Rattle.ledger.specs.SetUps.{delay_made}
use Rattle.ledger.specs.Steps.{is_none, worth, post_checks, settle_checks, advance_checks}
use Rattle.state.specs.Limits.{max_place, min_number, max_number, max_total}
use Rattle.state.specs.Refusals.{accepted, refused, first}
use Rattle.state.specs.States.{making_checks}

-- a number within its limits
pub record GoodNumber (raw : RawState) : Type 0 where
  pub low : min_number ≤ raw.number
  pub high : raw.number ≤ max_number

-- a place that is there and not shut
pub record Valued (m : Model) (p : ℕ) : Type 0 where
  pub within : p < length m.places
  pub value : is_none (value_of m p) ≡ false

-- The edge cases of the rules, each as it follows from the definitions that the contracts cite.
pub record EdgeCases : Type 0 where
  -- number 1,000,000,000 is made, 1,000,000,001 gives 2, and 0 gives 2
  pub last_number : (raw : RawState) → raw.place ≤ max_place → sum raw.amounts ≤ max_total → raw.number ≡ 1000000000 → first (making_checks raw) ≡ accepted
  pub number_too_high : (raw : RawState) → raw.place ≤ max_place → raw.number ≡ 1000000001 → first (making_checks raw) ≡ refused 2
  pub number_zero : (raw : RawState) → raw.place ≤ max_place → raw.number ≡ 0 → first (making_checks raw) ≡ refused 2
  -- a total of 2,100,000,000,000,000 is made, and one more gives 3
  pub full_total : (raw : RawState) → raw.place ≤ max_place → GoodNumber raw → sum raw.amounts ≡ 2100000000000000 → first (making_checks raw) ≡ accepted
  pub total_too_high : (raw : RawState) → raw.place ≤ max_place → GoodNumber raw → sum raw.amounts ≡ 2100000000000001 → first (making_checks raw) ≡ refused 3
  -- posted since 5 with delay 10, a settlement is too early at 14 and accepted at 15
  pub too_early : (m : Model) (p n : ℕ) (a : List ℕ) → Valued m p → (place_at m p).stage ≡ holds n 5 a → (place_at m p).delay ≡ 10 → m.height ≡ 14 → first (settle_checks m p) ≡ refused 13
  pub in_time : (m : Model) (p n : ℕ) (a : List ℕ) → Valued m p → (place_at m p).stage ≡ holds n 5 a → (place_at m p).delay ≡ 10 → m.height ≡ 15 → first (settle_checks m p) ≡ accepted
  -- with the delay that a good set-up makes of 0, a post is due 144 blocks later, and not before
  pub default_early : (m : Model) (p n since : ℕ) (a : List ℕ) → Valued m p → (place_at m p).stage ≡ holds n since a → (place_at m p).delay ≡ delay_made true 0 → m.height < since + 144 → first (settle_checks m p) ≡ refused 13
  pub default_due : (m : Model) (p n since : ℕ) (a : List ℕ) → Valued m p → (place_at m p).stage ≡ holds n since a → (place_at m p).delay ≡ delay_made true 0 → since + 144 ≤ m.height → first (settle_checks m p) ≡ accepted
  -- one advance goes from height 0 to 2,016, and not by 2,017 or 0
  pub longest_step : (m : Model) → m.height ≡ 0 → first (advance_checks m 2016) ≡ accepted
  pub step_too_long : (m : Model) → first (advance_checks m 2017) ≡ refused 15
  pub step_zero : (m : Model) → first (advance_checks m 0) ≡ refused 15
  -- the state that a place shows already is not newer
  pub posted_again : (m : Model) (x : State) (h : ℕ) → Valued m x.place → worth (value_of m x.place) ≡ sum x.amounts → (place_at m x.place).stage ≡ holds x.number.value h x.amounts → first (post_checks m x) ≡ refused 7
  -- an open place has nothing to settle
  pub nothing_posted : (m : Model) (p : ℕ) → Valued m p → (place_at m p).stage ≡ fresh → first (settle_checks m p) ≡ refused 14

-- the number that a case is answered with, 0 where it is accepted
abbrev pub expected : Case → ℕ
expected LastNumber = 0
expected NumberTooHigh = 2
expected NumberZero = 2
expected FullTotal = 0
expected TotalTooHigh = 3
