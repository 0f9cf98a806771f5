-- Runs over a register, played from a list of calls that are all accepted.
use Rattle.std.proofs.Common.{◌≡◌, ℕ, Bool, true, ◌&&◌, ltb, leb, List, [], ◌∷◌, ◌++◌, length, set, Some, Option, Ok, refl, arith}
use Rattle.std.proofs.lemmas.Bool.{ltb-true, leb-true}
use Rattle.std.proofs.lemmas.Bool.Decides.{nat_tests}
use Rattle.state.specs.declared.state.State.{State}
use Rattle.state.specs.declared.update.Update.{Update}
use Rattle.state.specs.Refusals.{first}
use Rattle.ledger.specs.Model.{Model}
use Rattle.ledger.specs.Steps.{post_next, settle_checks, settle_next, advance_checks, advance_next}
use Rattle.seal.specs.Registers.{row_seals, RowGives}
use Rattle.seal.proofs.Filling.{row_signs}
use Rattle.eltoo.specs.declared.answer.Outcome.{Outcome}
use Rattle.eltoo.specs.declared.answer.Outcome.TheVariants.{Done, Sealed, Counted}
use Rattle.eltoo.specs.declared.call.Call.{Call}
use Rattle.eltoo.specs.declared.call.Call.TheVariants.{Agree, Claim, Post, Settle, Advance, Round}
use Rattle.eltoo.specs.Lineage.{lineage}
use Rattle.eltoo.specs.Rounds.{is_accepted, whole_round}
use Rattle.eltoo.specs.Runs.{Entry, Begins, Run, risen, Gaps}
use Rattle.eltoo.specs.Stations.{StationModel, means, agree_checks, claim_checks, sealed_post_checks, mark_each}
use Rattle.eltoo.specs.Steps.{Step}
use Rattle.eltoo.proofs.Following.{accepted_first}

-- a station over a register, by the rows that are filled
pub record Here : Type 0 where
  pub ledger : Model
  pub rows : List State
  pub newest : List (Option Update)
  pub marks : List Bool

abbrev pub station : Here → StationModel
station h = means h.ledger (row_seals h.rows) h.newest h.marks

abbrev at : Here → Model → Here
at h m = record { ledger = m; rows = h.rows; newest = h.newest; marks = h.marks }

abbrev pub next : Here → Call → Here
next h (Agree x) = record { ledger = h.ledger; rows = h.rows ++ (x ∷ []); newest = set h.newest x.place (Some (record { state = x; seal = length h.rows })); marks = h.marks }
next h (Claim p) = record { ledger = h.ledger; rows = h.rows; newest = h.newest; marks = mark_each (lineage h.ledger p) h.marks }
next h (Post x k) = at h (post_next h.ledger x)
next h (Settle p) = at h (settle_next h.ledger p)
next h (Advance k) = at h (advance_next h.ledger k)
next h Round = at h (whole_round (station h)).ledger

abbrev pub outcome_of : Here → Call → Outcome
outcome_of h (Agree x) = Sealed (length h.rows)
outcome_of h (Claim p) = Done
outcome_of h (Post x k) = Done
outcome_of h (Settle p) = Done
outcome_of h (Advance k) = Done
outcome_of h Round = Counted (whole_round (station h)).counts

abbrev pub taken : Here → Call → Bool
taken h (Agree x) = ltb (length h.rows) 256 && is_accepted (first (agree_checks (station h) x))
taken h (Claim p) = is_accepted (first (claim_checks (station h) p))
taken h (Post x k) = is_accepted (first (sealed_post_checks (station h) x k))
taken h (Settle p) = is_accepted (first (settle_checks h.ledger p))
taken h (Advance k) = is_accepted (first (advance_checks h.ledger k))
taken h Round = true

pub step : (h : Here) (c : Call) → taken h c ≡ true → Step RowGives (station h) c (Ok (outcome_of h c)) (station (next h c))
step h (Agree x) e =
    let room : ltb (length h.rows) 256 ≡ true = grind (arith, nat_tests) in
    let fits : is_accepted (first (agree_checks (station h) x)) ≡ true = grind (arith, nat_tests) in
    let signs = row_signs h.rows (h.rows ++ (x ∷ [])) x (length h.rows) (ltb-true (length h.rows) 256 room) refl refl in
    (accepted_first (agree_checks (station h) x) fits, record { gives = signs.leaves.0; owns = signs.leaves.1; after = refl })
step h (Claim p) e = (accepted_first (claim_checks (station h) p) e, refl)
step h (Post x k) e = (accepted_first (sealed_post_checks (station h) x k) e, refl)
step h (Settle p) e = (accepted_first (settle_checks h.ledger p) e, refl)
step h (Advance k) e = (accepted_first (advance_checks h.ledger k) e, refl)
step h Round e = (refl, refl)

-- the calls, the latest first
abbrev pub reached : Here → List Call → Here
reached h [] = h
reached h (c ∷ cs) = next (reached h cs) c

abbrev pub entries_of : Here → List Call → List Entry
entries_of h [] = []
entries_of h (c ∷ cs) = record { before = station (reached h cs); call = c; answer = Ok (outcome_of (reached h cs) c); after = station (next (reached h cs) c) } ∷ entries_of h cs

abbrev pub all_taken : Here → List Call → Bool
all_taken h [] = true
all_taken h (c ∷ cs) = all_taken h cs && taken (reached h cs) c

pub played : (h : Here) (cs : List Call) → Begins (station h) → all_taken h cs ≡ true → Run RowGives (entries_of h cs) (station (reached h cs))
played h [] b e = b
played h (c ∷ cs) b e =
    let before : all_taken h cs ≡ true = grind (arith, nat_tests) in
    let now : taken (reached h cs) c ≡ true = grind (arith, nat_tests) in
    (played h cs b before, step (reached h cs) c now, refl)

-- gaps by a test
abbrev pub gaps_test : ℕ → List Entry → Bool
gaps_test g [] = true
gaps_test g (e ∷ es) = gaps_test g es && leb (risen (e ∷ es)) g

pub gaps_hold : (g : ℕ) (es : List Entry) → gaps_test g es ≡ true → Gaps g es
gaps_hold g [] t = tt
gaps_hold g (e ∷ es) t =
    let before : gaps_test g es ≡ true = grind (arith, nat_tests) in
    let now : leb (risen (e ∷ es)) g ≡ true = grind (arith, nat_tests) in
    (gaps_hold g es before, leb-true (risen (e ∷ es)) g now)
