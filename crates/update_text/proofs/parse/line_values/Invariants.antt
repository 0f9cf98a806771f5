use Rattle.std.proofs.Common.{◌≡◌, ◌++◌, length, take}
use Rattle.update_text.specs.Line.{lines, keys, Fit}
use Rattle.update_text.proofs.parse.line_values.Given as goal

abbrev pub invariant-loop-i : goal.invariant-loop-i
invariant-loop-i l = (length l.values ≡ 11) × Fit l.values × (l.src ≡ lines keys (take l.i l.values) ++ l.rest)
