use Rattle.std.proofs.Common.{◌≡◌, ℕ, ◌≤◌, List, sum, ap, arith}
use Rattle.std.proofs.lemmas.Bool.Decides.{nat_tests}
use Rattle.state.specs.declared.raw.RawState.{RawState}
use Rattle.state.specs.declared.refusal.Refusal.{Refusal}
use Rattle.state.specs.declared.refusal.Refusal.TheVariants.{NoSuchPlace, BadNumber, OverLimit, Shut, Settled, WrongTotal, NotNewer, BadSeal, InContest, ParentNotAgreed, AllotmentBound, NothingAgreed, TooEarly, NothingPosted, BadStep, LastBlock, NoSealsLeft, BadLine, TooSmall, BadSetUp}
use Rattle.state.specs.declared.state.State.{State}
use Rattle.state.specs.Refusals.{told, accepted, first}
use Rattle.state.specs.States.{words, raw_words, making_checks}
use Rattle.state.proofs.Same.{cons_same}

-- no refusal has the number of an accepted call
told_above : (e : Refusal) → 1 ≤ (told e).0
told_above NoSuchPlace = omega arith
told_above BadNumber = omega arith
told_above OverLimit = omega arith
told_above Shut = omega arith
told_above Settled = omega arith
told_above WrongTotal = omega arith
told_above NotNewer = omega arith
told_above BadSeal = omega arith
told_above InContest = omega arith
told_above ParentNotAgreed = omega arith
told_above AllotmentBound = omega arith
told_above NothingAgreed = omega arith
told_above TooEarly = omega arith
told_above NothingPosted = omega arith
told_above BadStep = omega arith
told_above LastBlock = omega arith
told_above NoSealsLeft = omega arith
told_above (BadLine line) = omega arith
told_above TooSmall = omega arith
told_above BadSetUp = omega arith

pub told_not_accepted : (e : Refusal) → told e ≡ accepted → ⊥
told_not_accepted e h = let a = told_above e in let z : (told e).0 ≡ 0 = ap (λ (p : ℕ × List ℕ). p.0) h in omega arith

-- the figures of a state pass the checks of making it
pub figures_accepted : (s : State) (raw : RawState) → words s ≡ raw_words raw → first (making_checks raw) ≡ accepted
figures_accepted s raw e =
    let p = cons_same _ _ _ _ e in
    let n = cons_same _ _ _ _ p.1 in
    let place = s.placed in
    let low = s.number.low in
    let high = s.number.high in
    let total = s.capped in
    let a = ap sum n.1 in
    grind (arith, nat_tests)
