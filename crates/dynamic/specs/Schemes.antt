use Rattle.std.specs.Prelude.{ℕ, ◌⊎◌}
use Rattle.state.specs.declared.state.State.{State}
use Rattle.seal.specs.Registers.{register_meaning, RowGives}
use Rattle.seal.specs.Seals.{Seals}
use Rattle.seal.specs.Tags.{tag_meaning, TagGives}
use Rattle.dynamic.specs.declared.scheme.AnyScheme.{AnyScheme}
use Rattle.dynamic.specs.declared.scheme.AnyScheme.TheVariants.{Register, Tag}

-- what a scheme of either kind means
abbrev pub seals_of : AnyScheme → Seals
seals_of (Register r) = register_meaning r
seals_of (Tag t) = tag_meaning t

-- it gives a seal as one of the two kinds does
abbrev pub EitherGives : Seals → State → ℕ → Seals → Type 0
EitherGives before state seal after = RowGives before state seal after ⊎ TagGives before state seal after
