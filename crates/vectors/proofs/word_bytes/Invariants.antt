use Rattle.std.proofs.Common.{◌≡◌, take}
use Rattle.siphash.specs.Sip.{word_bytes}
use Rattle.vectors.proofs.word_bytes.Given as goal

-- the bytes of the words so far
abbrev pub invariant-loop-word : goal.invariant-loop-word
invariant-loop-word l = l.bytes.items ≡ word_bytes (take l.word-index l.words)
