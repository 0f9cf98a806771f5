use Rattle.std.specs.Prelude.{ℕ, ◌+◌, Bool, true, ◌&&◌, nat_le}
use Rattle.state.specs.Limits.{max_height}
use Rattle.ledger.specs.declared.phase.Phase.{Phase}
use Rattle.ledger.specs.declared.phase.Phase.TheVariants.{Open, Posted, Settled}

-- a deadline is some height plus the delay
abbrev pub timed : Phase → ℕ → Bool
timed Open delay = true
timed (Posted n t) delay = nat_le delay t.blocks && nat_le t.blocks (delay + max_height)
timed (Settled n) delay = true
