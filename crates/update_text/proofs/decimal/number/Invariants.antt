use Rattle.std.proofs.Common.{◌≡◌, ℕ, ◌^◌, ◌<◌, drop, get_or}
use Rattle.std.specs.Int.{IsInRange}
use Rattle.update_text.proofs.Decimals.{read_on}
use Rattle.update_text.proofs.decimal.number.Given as goal

-- what is read so far, and the rest read after it, are the number of all digits; and no other byte was seen
abbrev pub invariant-loop-byte : goal.invariant-loop-byte
invariant-loop-byte l =
    (read_on l.value (drop l.byte-index l.digits) ≡ read_on 0 l.digits)
    × ((k : ℕ) → k < l.byte-index → IsInRange 48 57 (get_or l.digits k 0))
    × (l.value < 2 ^ 64)
