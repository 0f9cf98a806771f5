use Rattle.std.specs.Prelude.{ℕ, List, ◌++◌, decimal, codes}
use Rattle.state.specs.declared.refusal.Refusal.{Refusal}
use Rattle.state.specs.declared.refusal.Refusal.TheVariants.{NoSuchPlace, BadNumber, OverLimit, Shut, Settled, WrongTotal, NotNewer, BadSeal, InContest, ParentNotAgreed, AllotmentBound, NothingAgreed, TooEarly, NothingPosted, BadStep, LastBlock, NoSealsLeft, BadLine, TooSmall, BadSetUp}

-- a refusal in words, with the line of a bad line
abbrev pub named : Refusal → List ℕ
named NoSuchPlace = codes "no such place"
named BadNumber = codes "bad number"
named OverLimit = codes "over the limit"
named Shut = codes "shut"
named Settled = codes "settled"
named WrongTotal = codes "wrong total"
named NotNewer = codes "not newer"
named BadSeal = codes "bad seal"
named InContest = codes "in contest"
named ParentNotAgreed = codes "parent not agreed"
named AllotmentBound = codes "allotment bound"
named NothingAgreed = codes "nothing agreed"
named TooEarly = codes "too early"
named NothingPosted = codes "nothing posted"
named BadStep = codes "bad step"
named LastBlock = codes "last block"
named NoSealsLeft = codes "no seals left"
named (BadLine line) = codes "bad line, line " ++ decimal line
named TooSmall = codes "too small"
named BadSetUp = codes "bad set-up"
