use Rattle.std.specs.Prelude.{◌≡◌, ℕ, ◌+◌, ◌<◌, true, List, [], ◌∷◌, map, reverse, replicate, Some, Ok, refl}
use Rattle.std.proofs.Common.{lit≤}
use Rattle.state.specs.declared.state.State.{State}
use Rattle.ledger.specs.declared.setup.SetUp.{SetUp}
use Rattle.ledger.specs.Model.{Model, settled, status, is_settled}
use Rattle.ledger.specs.SetUps.{started}
use Rattle.factory.specs.Extending.{founded}
use Rattle.seal.specs.Registers.{row_seals, RowGives}
use Rattle.eltoo.specs.declared.answer.Outcome.{Outcome}
use Rattle.eltoo.specs.declared.answer.Outcome.TheVariants.{Done, Sealed, Counted}
use Rattle.eltoo.specs.declared.call.Call.{Call}
use Rattle.eltoo.specs.declared.call.Call.TheVariants.{Agree, Claim, Post, Advance, Round}
use Rattle.eltoo.specs.declared.turn.Turn.{Turn}
use Rattle.eltoo.specs.Lineage.{HangsFrom, wait}
use Rattle.eltoo.specs.Lists.{turn_of}
use Rattle.eltoo.specs.Runs.{Entry, Run, origin, newest_agreed, Claimed, SealedEarlier, InTime}
use Rattle.eltoo.specs.Stations.{StationModel, set_up}

-- The states of the sample: two of the factory over place 0, and one for each of its first two channels, places 8 and 9.

abbrev pub factory₁ : State
factory₁ = record { place = 0; number = record { value = 1; low = lit≤ tt; high = lit≤ tt }; amounts = 1000 ∷ 300 ∷ 200 ∷ 0 ∷ 0 ∷ 0 ∷ 0 ∷ 0 ∷ []; placed = lit≤ tt; long = refl; capped = lit≤ tt }

abbrev pub factory₂ : State
factory₂ = record { place = 0; number = record { value = 2; low = lit≤ tt; high = lit≤ tt }; amounts = 1000 ∷ 500 ∷ 0 ∷ 0 ∷ 0 ∷ 0 ∷ 0 ∷ 0 ∷ []; placed = lit≤ tt; long = refl; capped = lit≤ tt }

abbrev pub channel₈ : State
channel₈ = record { place = 8; number = record { value = 1; low = lit≤ tt; high = lit≤ tt }; amounts = 600 ∷ 400 ∷ 0 ∷ 0 ∷ 0 ∷ 0 ∷ 0 ∷ 0 ∷ []; placed = lit≤ tt; long = refl; capped = lit≤ tt }

abbrev pub channel₉ : State
channel₉ = record { place = 9; number = record { value = 1; low = lit≤ tt; high = lit≤ tt }; amounts = 100 ∷ 400 ∷ 0 ∷ 0 ∷ 0 ∷ 0 ∷ 0 ∷ 0 ∷ []; placed = lit≤ tt; long = refl; capped = lit≤ tt }

-- the host: a base host whose first root has 1,500, every delay 4, with a factory over that root
abbrev pub sample_set_up : SetUp
sample_set_up = record { fundings = 1500 ∷ 0 ∷ 0 ∷ 0 ∷ 0 ∷ 0 ∷ 0 ∷ 0 ∷ []; delays = replicate 8 4 }

abbrev pub sample_ledger : Model
sample_ledger = founded (started sample_set_up) 0 (replicate 8 4)

-- the calls, all of them accepted, with the outcome of each
abbrev turn : Call → Outcome → Turn
turn c o = record { call = c; answer = Some (Ok o) }

abbrev counted : ℕ → ℕ → Turn
counted posts settlements = turn Round (Counted (record { posts = posts; settlements = settlements; refusals = 0 }))

abbrev rise : Turn
rise = turn (Advance 3) Done

abbrev pub sample_turns : List Turn
sample_turns =
    turn (Agree factory₁) (Sealed 0)
    ∷ turn (Agree channel₈) (Sealed 1)
    ∷ turn (Agree factory₂) (Sealed 2)
    ∷ turn (Agree channel₉) (Sealed 3)
    -- an old state is posted, and the next round answers it
    ∷ turn (Post factory₁ 0) Done
    ∷ rise
    ∷ counted 1 0
    ∷ turn (Claim 8) Done
    ∷ turn (Claim 9) Done
    ∷ rise
    ∷ counted 0 0
    ∷ rise
    ∷ counted 2 1
    ∷ rise
    ∷ counted 0 0
    ∷ rise
    ∷ counted 0 2
    ∷ rise
    ∷ counted 0 0
    ∷ rise
    ∷ []

-- There is a run that meets every premise with a gap of 3, in which an old state is posted and answered, and a child is claimed and settled.
pub record SampleRun : Type 0 where
  pub entries : List Entry
  pub last : StationModel
  pub run : Run RowGives entries last
  pub begun : origin entries last ≡ set_up sample_ledger (row_seals [])
  pub turns : map turn_of entries ≡ reverse sample_turns
  pub sealed : SealedEarlier entries
  pub timely : InTime 3 entries last
  -- place 8 hangs from place 0, and the newest state of place 0 won
  pub hangs : HangsFrom last.ledger 8 0
  pub newest : newest_agreed entries 0 ≡ Some factory₂
  pub answered : status last.ledger 0 ≡ settled 2 factory₂.amounts
  -- place 8 was claimed at height 3, its time is over, and it is settled
  pub claimed : Claimed entries 8 3
  pub over : 3 + wait last.ledger 3 8 < last.ledger.height
  pub done : is_settled (status last.ledger 8) ≡ true
