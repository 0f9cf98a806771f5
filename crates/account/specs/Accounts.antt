use Rattle.std.specs.Prelude.{◌≡◌, ℕ, ◌+◌, ◌*◌, ◌^◌, ◌<◌, ◌≤◌, Bool, true, false, cond, length, Some, None, Option, slice_index}
use Rattle.state.specs.Limits.{parties}
use Rattle.ledger.specs.declared.view.Parent.{Parent}
use Rattle.ledger.specs.Laws.{has_children}
use Rattle.ledger.specs.Model.{Model, Status, shut, idle, posted, settled, place_at, value_of, status}
use Rattle.ledger.specs.Steps.{worth}
use Rattle.account.specs.declared.tally.Account.{Account}
use Rattle.account.specs.Sums.{sum_to}

abbrev pub is_root : Option Parent → Bool
is_root None = true
is_root (Some u) = false

-- what a place pays to party j: its amount, if the place is settled and a channel
abbrev pub pays : Status → Bool → ℕ → ℕ
pays shut factory j = 0
pays idle factory j = 0
pays (posted n h a) factory j = 0
pays (settled n a) factory j = cond factory 0 (slice_index a j)

abbrev pub paid_at : Model → ℕ → ℕ → ℕ
paid_at m j p = pays (status m p) (has_children p m.places) j

-- what stands in a place: its value, if it is open or posted
abbrev pub stands : Status → ℕ → ℕ
stands shut v = 0
stands idle v = v
stands (posted n h a) v = v
stands (settled n a) v = 0

abbrev pub standing_at : Model → ℕ → ℕ
standing_at m p = stands (status m p) (worth (value_of m p))

-- The account: what each party is paid, and what stands.
abbrev pub paid : Model → ℕ → ℕ
paid m j = sum_to (length m.places) (paid_at m j)

abbrev pub standing_sum : Model → ℕ
standing_sum m = sum_to (length m.places) (standing_at m)

-- the fundings of all roots
abbrev pub fundings : Model → ℕ
fundings m = sum_to (length m.places) (λ p. cond (is_root (place_at m p).parent) (place_at m p).funding 0)

-- nothing is lost and nothing is made
abbrev pub Conserved : Model → Type 0
Conserved m = sum_to parties (paid m) + standing_sum m ≡ fundings m

-- an account of the first n places
pub record Sums (a : Account) (m : Model) (n : ℕ) : Type 0 where
  pub paid : (j : ℕ) → j < parties → slice_index a.paid j ≡ sum_to n (paid_at m j)
  pub standing : a.standing ≡ sum_to n (standing_at m)

-- n places add less than this, so that no sum wraps
pub record Bounded (a : Account) (n : ℕ) : Type 0 where
  pub paid : (j : ℕ) → j < parties → slice_index a.paid j ≤ n * 2 ^ 64
  pub standing : a.standing ≤ n * 2 ^ 64
