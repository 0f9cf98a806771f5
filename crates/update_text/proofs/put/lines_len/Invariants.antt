use Rattle.std.proofs.Common.{◌≡◌, ◌*◌, ◌≤◌, length, take}
use Rattle.update_text.specs.Line.{lines, keys}
use Rattle.update_text.proofs.put.lines_len.Given as goal

abbrev pub invariant-loop-key : goal.invariant-loop-key
invariant-loop-key l = (l.len ≡ length (lines keys (take (length l.yielded) l.values))) × (l.len ≤ 28 * length l.yielded)
