use Rattle.std.specs.Prelude.{ℕ}

-- The limits of the quantities.

-- the last block height
abbrev pub max_height : ℕ
max_height = 10000000

-- delays, in blocks
abbrev pub min_delay : ℕ
min_delay = 2

abbrev pub max_delay : ℕ
max_delay = 2016

-- state numbers
abbrev pub min_number : ℕ
min_number = 1

abbrev pub max_number : ℕ
max_number = 1000000000

-- the last place, counted from 0
abbrev pub max_place : ℕ
max_place = 63

-- the largest total of a state, and the largest funding of a root
abbrev pub max_total : ℕ
max_total = 2100000000000000

-- how many amounts a state has
abbrev pub parties : ℕ
parties = 8
