use Rattle.std.specs.Prelude.{ℕ, zero, suc, ◌+◌, Bool, true, false, ◌&&◌, ◌||◌, List, Some, None, Option, nat_le, nat_lt, if◌then◌else◌}
use Rattle.state.specs.declared.state.State.{State}
use Rattle.state.specs.declared.update.Update.{Update}
use Rattle.state.specs.Refusals.{first}
use Rattle.ledger.specs.Model.{Model, place_at, Status, shut, idle, posted, settled, status}
use Rattle.ledger.specs.Steps.{due_at, post_checks, post_next, settle_checks, settle_next}
use Rattle.eltoo.specs.declared.answer.Counts.{Counts}
use Rattle.eltoo.specs.Stations.{StationModel, count, newest_at, is_marked, is_idle}

-- Rounds: the ledger so far, and what was done.

pub record Tour : Type 0 where
  pub ledger : Model
  pub counts : Counts

abbrev pub none : Counts
none = record { posts = 0; settlements = 0; refusals = 0 }

abbrev pub starting : Model → Tour
starting m = record { ledger = m; counts = none }

-- whether a step of the host is accepted
abbrev pub is_accepted : ℕ × List ℕ → Bool
is_accepted (zero, values) = true
is_accepted (suc n, values) = false

abbrev pub one_post : Counts → Counts
one_post c = record { posts = c.posts + 1; settlements = c.settlements; refusals = c.refusals }

abbrev pub one_settlement : Counts → Counts
one_settlement c = record { posts = c.posts; settlements = c.settlements + 1; refusals = c.refusals }

abbrev pub one_refusal : Counts → Counts
one_refusal c = record { posts = c.posts; settlements = c.settlements; refusals = c.refusals + 1 }

-- a call of the host in a round: the ledger that it makes and one more of its sort, or one refusal more
abbrev pub tried : List (Bool × ℕ) → Model → (Counts → Counts) → Tour → Tour
tried checks next on_more w =
    if is_accepted (first checks) then record { ledger = next; counts = on_more w.counts } else record { ledger = w.ledger; counts = one_refusal w.counts }

-- posted with a lower number
abbrev pub is_behind : Status → ℕ → Bool
is_behind shut number = false
is_behind idle number = false
is_behind (posted n h a) number = nat_lt n number
is_behind (settled n a) number = false

-- the round posts x at p: p is posted with a lower number, or open and marked
abbrev pub wants_post : List Bool → Model → ℕ → State → Bool
wants_post ks m p x = is_behind (status m p) x.number.value || (is_idle (status m p) && is_marked ks p)

-- posted and due
abbrev pub is_due : Status → ℕ → ℕ → Bool
is_due shut delay height = false
is_due idle delay height = false
is_due (posted n h a) delay height = nat_le (due_at n h delay) height
is_due (settled n a) delay height = false

abbrev pub wants_settle : Model → ℕ → Bool
wants_settle m p = is_due (status m p) (place_at m p).delay m.height

abbrev pub tried_post : List Bool → ℕ → State → Tour → Tour
tried_post ks p x w = if wants_post ks w.ledger p x then tried (post_checks w.ledger x) (post_next w.ledger x) one_post w else w

abbrev pub tried_settle : ℕ → Tour → Tour
tried_settle p w = if wants_settle w.ledger p then tried (settle_checks w.ledger p) (settle_next w.ledger p) one_settlement w else w

-- the visit of a place: first the post, then the settlement; a place with nothing agreed is skipped
abbrev pub visit : List Bool → Option Update → ℕ → Tour → Tour
visit ks None p w = w
visit ks (Some u) p w = tried_settle p (tried_post ks p u.state w)

-- the first n places visited, in rising order
abbrev pub visits : List Bool → List (Option Update) → ℕ → Tour → Tour
visits ks t zero w = w
visits ks t (suc n) w = visit ks (newest_at t n) n (visits ks t n w)

abbrev pub whole_round : StationModel → Tour
whole_round s = visits s.marks s.newest (count s.ledger) (starting s.ledger)
