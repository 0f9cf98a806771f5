use Rattle.std.specs.Prelude.{ℕ, ◌-◌, Bool, ◌&&◌, ◌||◌, List, ◌==◌, slice_index}

-- a newline stands at i
abbrev pub newline_at : List ℕ → ℕ → Bool
newline_at bs i = slice_index bs i == 10

-- a line starts at the front of the input, and after each newline
abbrev pub line_starts : List ℕ → ℕ → Bool
line_starts bs i = i == 0 || newline_at bs (i - 1)

-- an empty line: a newline where a line starts
abbrev pub empty_line : List ℕ → ℕ → Bool
empty_line bs i = line_starts bs i && newline_at bs i
