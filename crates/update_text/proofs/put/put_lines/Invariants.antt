use Rattle.std.proofs.Common.{◌≡◌, ◌+◌, ◌++◌, length, take, drop}
use Rattle.update_text.specs.Line.{lines, keys}
use Rattle.update_text.proofs.put.put_lines.Given as goal

abbrev pub invariant-loop-key : goal.invariant-loop-key
invariant-loop-key l =
    (l.at ≡ l.pos + length (lines keys (take (length l.yielded) l.values)))
    × (l.buf ≡ (take l.pos l.initial.buf ++ lines keys (take (length l.yielded) l.values)) ++ drop l.at l.initial.buf)
