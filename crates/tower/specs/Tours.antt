use Rattle.std.specs.Prelude.{Some, None, Ok, Err, Option, Result}
use Rattle.state.specs.declared.refusal.Refusal.{Refusal}
use Rattle.ledger.specs.Model.{Model}
use Rattle.eltoo.specs.declared.answer.Counts.{Counts}
use Rattle.eltoo.specs.Rounds.{Tour, one_post, one_settlement, one_refusal}
use Rattle.tower.specs.declared.visiting.Visit.{Visit}

-- a round so far
abbrev pub toured : Model → Counts → Tour
toured m c = record { ledger = m; counts = c }

-- the counts after a call of the host, if one was made: one more of its sort, or one refusal more
abbrev pub noted : {A : Type 0} → (Counts → Counts) → Option (Result A Refusal) → Counts → Counts
noted on_more None c = c
noted on_more (Some (Ok x)) c = on_more c
noted on_more (Some (Err e)) c = one_refusal c

-- the counts after a visit
abbrev pub with_visit : Visit → Counts → Counts
with_visit v c = noted one_settlement v.settlement (noted one_post v.post c)
