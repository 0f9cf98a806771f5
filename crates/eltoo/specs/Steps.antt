use Rattle.std.specs.Prelude.{◌≡◌, ℕ, Bool, List, Some, Ok, Err, Result, slice_set}
use Rattle.state.specs.declared.refusal.Refusal.{Refusal}
use Rattle.state.specs.declared.state.State.{State}
use Rattle.state.specs.Refusals.{told, accepted, first}
use Rattle.ledger.specs.Steps.{settle_checks, settle_next, advance_checks, advance_next, post_next}
use Rattle.seal.specs.Seals.{Seals, Gives}
use Rattle.eltoo.specs.declared.call.Call.{Call}
use Rattle.eltoo.specs.declared.call.Call.TheVariants.{Agree, Claim, Post, Settle, Advance, Round}
use Rattle.eltoo.specs.declared.answer.Outcome.{Outcome}
use Rattle.eltoo.specs.declared.answer.Outcome.TheVariants.{Done, Sealed, Counted}
use Rattle.eltoo.specs.Stations.{StationModel, means, agree_checks, claim_checks, sealed_post_checks, with_ledger, claim_next}
use Rattle.eltoo.specs.Rounds.{whole_round}

-- what a call answers
abbrev pub Answer : Type 0
Answer = Result Outcome Refusal

-- what a scheme says of a seal that it gives, beyond what every scheme does
abbrev pub Own : Type 1
Own = Seals → State → ℕ → Seals → Type 0

-- a call whose result the checks decide: the first that fails is told and nothing changes, or all pass and `next` is there afterwards
abbrev pub Decided : Answer → StationModel → StationModel → List (Bool × ℕ) → StationModel → Type 0
Decided (Err e) s t checks next = (told e ≡ first checks) × (t ≡ s)
Decided (Ok Done) s t checks next = (first checks ≡ accepted) × (t ≡ next)
Decided (Ok (Sealed k)) s t checks next = ⊥
Decided (Ok (Counted c)) s t checks next = ⊥

-- a state was signed and is kept as the newest of its place, and all else is as it was
pub record Keeps (own : Own) (s t : StationModel) (x : State) (seal : ℕ) : Type 0 where
  pub gives : Gives s.seals x seal t.seals
  pub owns : own s.seals x seal t.seals
  pub after : t ≡ means s.ledger t.seals (slice_set s.newest x.place (Some (record { state = x; seal = seal }))) s.marks

-- the scheme decides which seal is answered
abbrev pub Agrees : Own → Answer → StationModel → StationModel → State → Type 0
Agrees own (Err e) s t x = (told e ≡ first (agree_checks s x)) × (t ≡ s)
Agrees own (Ok Done) s t x = ⊥
Agrees own (Ok (Sealed k)) s t x = (first (agree_checks s x) ≡ accepted) × Keeps own s t x k
Agrees own (Ok (Counted c)) s t x = ⊥

-- Station s, called so, answers a and is t afterwards.
abbrev pub Step : Own → StationModel → Call → Answer → StationModel → Type 0
Step own s (Agree x) a t = Agrees own a s t x
Step own s (Claim p) a t = Decided a s t (claim_checks s p) (claim_next s p)
Step own s (Post x seal) a t = Decided a s t (sealed_post_checks s x seal) (with_ledger s (post_next s.ledger x))
Step own s (Settle p) a t = Decided a s t (settle_checks s.ledger p) (with_ledger s (settle_next s.ledger p))
Step own s (Advance k) a t = Decided a s t (advance_checks s.ledger k) (with_ledger s (advance_next s.ledger k))
Step own s Round a t = (a ≡ Ok (Counted (whole_round s).counts)) × (t ≡ with_ledger s (whole_round s).ledger)
