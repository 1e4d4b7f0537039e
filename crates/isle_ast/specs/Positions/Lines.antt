-- Where the lines of a text start, and on which line and in which column an offset stands.
use Rattle.std.specs.Prelude.{ℕ, ◌+◌, ◌-◌, Bool, List, ◌∷◌, ◌==◌, nat_le, map, filter, count_by, take, slice_index}
use Rattle.std.specs.List.{enumerate_from}

-- a newline byte
abbrev pub is_newline : ℕ → Bool
is_newline b = b == 10

-- the offset after each newline byte
abbrev pub line_starts : List ℕ → List ℕ
line_starts text = map (λ at. at.0 + 1) (filter (λ at. is_newline at.1) (enumerate_from 0 text))

-- how many of the starts are at most the offset
abbrev pub starts_up_to : List ℕ → ℕ → ℕ
starts_up_to starts offset = count_by (λ start. nat_le start offset) starts

-- how many newline bytes occur below the offset
abbrev pub newlines_before : List ℕ → ℕ → ℕ
newlines_before text offset = count_by is_newline (take offset text)

-- the line that an offset is on, counted from 1
abbrev pub line_number : List ℕ → ℕ → ℕ
line_number text offset = newlines_before text offset + 1

-- where that line starts: the first one at 0, each other one after a newline
abbrev pub line_start : List ℕ → ℕ → ℕ
line_start text offset = slice_index (0 ∷ line_starts text) (newlines_before text offset)

-- the column that an offset is in, counted in bytes from 1
abbrev pub column_number : List ℕ → ℕ → ℕ
column_number text offset = offset - line_start text offset + 1
