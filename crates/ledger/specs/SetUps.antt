use Rattle.std.specs.Prelude.{◌≡◌, map, ℕ, Bool, not, ◌&&◌, ◌||◌, List, [], ◌∷◌, None, ◌==◌, nat_le, if◌then◌else◌}
use Rattle.std.specs.List.{list_all}
use Rattle.state.specs.Limits.{min_delay, max_delay, max_total}
use Rattle.state.specs.declared.quantity.Delay.{Delay}
use Rattle.ledger.specs.declared.setup.SetUp.{SetUp}
use Rattle.ledger.specs.declared.setup.Terms.{Terms}
use Rattle.ledger.specs.declared.row.Row.{Row}
use Rattle.ledger.specs.Model.{Model, Place, Stage, fresh}
use Rattle.ledger.specs.Rows.{stage_of}

-- the delay that 0 stands for in a set-up
abbrev pub default_delay : ℕ
default_delay = 144

-- a set-up takes a delay of 0, or one within the limits
abbrev pub good_delay : ℕ → Bool
good_delay d = d == 0 || (nat_le min_delay d && nat_le d max_delay)

abbrev pub good_delays : List ℕ → Bool
good_delays = list_all good_delay

abbrev pub good_funding : ℕ → Bool
good_funding f = nat_le f max_total

abbrev pub good_fundings : List ℕ → Bool
good_fundings = list_all good_funding

-- the checks of a set-up of a base host
abbrev pub set_up_checks : SetUp → List (Bool × ℕ)
set_up_checks s = (not (good_fundings s.fundings), 20) ∷ (not (good_delays s.delays), 20) ∷ []

abbrev pub is_good : SetUp → Bool
is_good s = good_fundings s.fundings && good_delays s.delays

-- the delay of a place that is made; against a bad set-up it is the longest
abbrev pub delay_made : Bool → ℕ → ℕ
delay_made good d = if (good && good_delay d) then (if (d == 0) then default_delay else d) else max_delay

-- the funding of a root that is made; against a bad set-up it is 0
abbrev pub funding_made : Bool → ℕ → ℕ
funding_made good f = if (good && good_funding f) then f else 0

-- the numbers of delays and of terms
abbrev pub blocks_of : Delay → ℕ
blocks_of d = d.blocks

abbrev pub funding_in : Terms → ℕ
funding_in t = t.funding

abbrev pub blocks_in : Terms → ℕ
blocks_in t = t.delay.blocks

-- the terms of the roots that are made of a set-up
pub record MadeOf (s : SetUp) (ts : List Terms) : Type 0 where
  pub fundings : map funding_in ts ≡ map (funding_made (is_good s)) s.fundings
  pub delays : map blocks_in ts ≡ map (delay_made (is_good s)) s.delays

-- a root that holds no state
abbrev pub open_root : ℕ → ℕ → Place
open_root funding delay = record { parent = None; delay = delay; funding = funding; stage = fresh }

abbrev pub open_roots : Bool → List ℕ → List ℕ → List Place
open_roots good [] ds = []
open_roots good (f ∷ fs) [] = []
open_roots good (f ∷ fs) (d ∷ ds) = open_root (funding_made good f) (delay_made good d) ∷ open_roots good fs ds

-- what a base host starts from: its roots at height 0
abbrev pub started_by : Bool → SetUp → Model
started_by good s = record { height = 0; places = open_roots good s.fundings s.delays }

abbrev pub started : SetUp → Model
started s = started_by (is_good s) s

-- the figures of a row: its delay and what it holds
abbrev pub figures : Row → ℕ × Stage
figures r = (r.delay.blocks, stage_of r)

-- the figures of a row that holds no state
abbrev pub open_figures : ℕ → ℕ × Stage
open_figures delay = (delay, fresh)

-- the figures of a new row
abbrev pub new_figures : Bool → ℕ → ℕ × Stage
new_figures good d = open_figures (delay_made good d)
