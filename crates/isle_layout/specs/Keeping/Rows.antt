-- Which lists of pieces stay on one line.
use Rattle.std.specs.Prelude.{ℕ, ◌-◌, List, [], ◌∷◌, ◌++◌, length, take, Bool, true, false, ◌||◌, ◌&&◌, ◌==◌, not, if◌then◌else◌, Option, Some, None}
use Rattle.std.specs.List.{list_any, slice_index_or}
use Rattle.std.specs.Option.{is_some}
use Rattle.std.specs.Fmt.{char_count}
use Rattle.isle_layout.specs.Layout.{within, sum_within}
use Rattle.isle_layout.specs.declared.pieces.Kind.{Kind}
use Rattle.isle_layout.specs.declared.rows.Count.{Count}
use Rattle.isle_layout.specs.declared.rows.Row.{Row}
use Rattle.isle_layout.specs.Keeping.Pieces.{Fragment}

-- one more
abbrev pub and_one : Count → Count
and_one Count.Zero = Count.One
and_one Count.One = Count.More
and_one Count.More = Count.More

-- there are fewer than two
abbrev pub are_few : Count → Bool
are_few Count.Zero = true
are_few Count.One = true
are_few Count.More = false

-- a row of nothing
abbrev pub empty_row : Row
empty_row = record { length = Some 0; count = Count.Zero; is_broken = false }

-- a row behind an item of this length and a space
abbrev pub row_behind : ℕ → Option ℕ → Bool → Row → Row
row_behind width item breaks row = record {
  length = sum_within width (sum_within width item (within width 1)) row.length;
  count = and_one row.count;
  is_broken = breaks || row.is_broken;
}

-- a newline is among the bytes of a comment, which then keeps no list on one line
abbrev pub has_newline : List ℕ → Bool
has_newline bytes = list_any (λ b. b == 10) bytes

-- how long a comment between `(;` and `;)` is on one line; it has no length where it has more than one line
abbrev pub block_length : ℕ → List ℕ → Option ℕ
block_length width text = if has_newline text then None else within width (char_count text)

-- how long a list is on one line, by how many items it has and their length with a space behind each
abbrev pub length_of_list : ℕ → Count → Option ℕ → Option ℕ
length_of_list width Count.Zero items = within width 2
length_of_list width Count.One items = sum_within width items (within width 1)
length_of_list width Count.More items = sum_within width items (within width 1)

-- how long a list of this row is on one line
abbrev pub list_length : ℕ → Row → Option ℕ
list_length width row = length_of_list width row.count row.length

-- a list of this row stays on one line: it has at most `width` characters there, or fewer than two items, and nothing in it breaks it
abbrev pub stays : ℕ → Row → Bool
stays width row = not row.is_broken && (is_some (list_length width row) || are_few row.count)

-- what stands from a piece on, up to the end of the list that is open there; the same of those that are open around it, the
-- innermost last; and for each list that begins there, the first one last, whether it stays on one line
pub record Rows : Type 0 where
  pub here : Row
  pub outer : List Row
  pub fits : List Bool

-- the last of some rows, or an empty one
abbrev pub last_row : List Row → Row
last_row rows = slice_index_or rows (length rows - 1) empty_row

-- rows with one piece more before them
abbrev pub rows_with : ℕ → Kind → List ℕ → Rows → Rows
rows_with width Kind.Closing text rows = record { here = empty_row; outer = rows.outer ++ rows.here ∷ []; fits = rows.fits }
rows_with width Kind.Opening text rows = record {
  here = row_behind width (list_length width rows.here) rows.here.is_broken (last_row rows.outer);
  outer = take (length rows.outer - 1) rows.outer;
  fits = rows.fits ++ stays width rows.here ∷ [];
}
rows_with width Kind.AtSign text rows = record rows { here = row_behind width (within width (char_count text)) false rows.here }
rows_with width Kind.Atom text rows = record rows { here = row_behind width (within width (char_count text)) false rows.here }
rows_with width Kind.Line text rows = record rows { here = row_behind width None true rows.here }
rows_with width Kind.Block text rows = record rows { here = row_behind width (block_length width text) (has_newline text) rows.here }

-- the rows of pieces
abbrev pub rows_of : ℕ → List Fragment → Rows
rows_of width [] = record { here = empty_row; outer = []; fits = [] }
rows_of width (piece ∷ pieces) = rows_with width piece.kind piece.text (rows_of width pieces)
