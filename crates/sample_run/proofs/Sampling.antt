-- The sample run.
use Rattle.std.proofs.Common.{◌≡◌, ℕ, zero, suc, ◌+◌, ◌<◌, Bool, true, false, ◌&&◌, ltb, List, [], map, reverse, length, replicate, Some, None, sym, refl, subst, inl, inr, arith, lit<}
use Rattle.std.proofs.lemmas.Bool.{cases_eq, ltb-true}
use Rattle.std.proofs.lemmas.Bool.Decides.{nat_tests}
use Rattle.ledger.specs.Laws.{Lawful, Untouched, child}
use Rattle.ledger.specs.Model.{Model, place_at, settled, status, is_settled}
use Rattle.seal.specs.Registers.{row_seals}
use Rattle.eltoo.specs.declared.call.Call.{Call}
use Rattle.eltoo.specs.Lineage.{from_parent, wait}
use Rattle.eltoo.specs.Lists.{calls_of, turn_of}
use Rattle.eltoo.specs.Runs.{Entry, origin, newest_agreed, Claimed}
use Rattle.eltoo.specs.Stations.{StationModel, set_up}
use Rattle.eltoo.proofs.Safely.{sealed_earlier}
use Rattle.sample_run.specs.Sample.{factory₂, sample_turns, sample_ledger, SampleRun}
use Rattle.sample_run.proofs.Playing.{Here, station, reached, all_taken, entries_of, played, gaps_test, gaps_hold}

abbrev start : Here
start = record { ledger = sample_ledger; rows = []; newest = replicate 64 None; marks = replicate 64 false }

abbrev calls : List Call
calls = calls_of (reverse sample_turns)

abbrev entries : List Entry
entries = entries_of start calls

abbrev last : StationModel
last = station (reached start calls)

-- a delay by a test of each place
abbrev delays_test : ℕ → Model → ℕ → Bool
delays_test g m zero = true
delays_test g m (suc n) = delays_test g m n && ltb g (place_at m n).delay

delays_hold : (g : ℕ) (m : Model) (n : ℕ) → delays_test g m n ≡ true → (p : ℕ) → p < n → g < (place_at m p).delay
delays_hold g m zero t p lt = absurd (omega arith)
delays_hold g m (suc n) t p lt =
    let before : delays_test g m n ≡ true = grind (arith, nat_tests) in
    let now : ltb g (place_at m n).delay ≡ true = grind (arith, nat_tests) in
    elim (cases_eq p n) [ inl e ↦ subst (λ k. g < (place_at m k).delay) (sym e) (ltb-true g (place_at m n).delay now) | inr ne ↦ delays_hold g m n before p (omega arith) ]

all_taken_lem : all_taken start calls ≡ true
all_taken_lem = refl

parent_is : (place_at last.ledger 8).parent ≡ child 0 0
parent_is = refl

newest_is : newest_agreed entries 0 ≡ Some factory₂
newest_is = refl

settled_so : status last.ledger 0 ≡ settled 2 factory₂.amounts
settled_so = refl

settled_too : is_settled (status last.ledger 8) ≡ true
settled_too = refl

claimed_at : Claimed entries 8 3
claimed_at = inr (inr (inr (inr (inr (inr (inr (inr (inr (inr (inr (inr (inl (refl, refl, refl)))))))))))))

gaps : gaps_test 3 entries ≡ true
gaps = refl

delays : delays_test 3 last.ledger (length last.ledger.places) ≡ true
delays = refl

turns_are : map turn_of entries ≡ reverse sample_turns
turns_are = refl

too_late : 3 + wait last.ledger 3 8 < last.ledger.height
too_late = lit< tt

begun_at : origin entries last ≡ set_up sample_ledger (row_seals [])
begun_at = refl

pub sample_run : Lawful sample_ledger → Untouched sample_ledger → SampleRun
sample_run law bare =
    let run = played start calls (record { lawful = law; untouched = bare; bare = refl }) all_taken_lem in
    record {
      entries = entries;
      last = last;
      run = run;
      begun = begun_at;
      turns = turns_are;
      sealed = sealed_earlier entries last run (λ x k. refl);
      timely = (gaps_hold 3 entries gaps, delays_hold 3 last.ledger (length last.ledger.places) delays);
      hangs = from_parent {p = 8} {q = 0} {i = 0} parent_is;
      newest = newest_is;
      answered = settled_so;
      claimed = claimed_at;
      over = too_late;
      done = settled_too;
    }
