-- The white space between pieces, and the text that pieces are laid out as.
use Rattle.std.specs.Prelude.{ℕ, zero, suc, ◌+◌, ◌-◌, List, [], ◌∷◌, ◌++◌, map, Bool, ◌||◌, nat_lt, if◌then◌else◌, Option, Some, None, codes}
use Rattle.isle_layout.specs.declared.pieces.Kind.{Kind}
use Rattle.isle_layout.specs.declared.pieces.Break.{Break}
use Rattle.isle_layout.specs.declared.layout.Habit.{Habit}
use Rattle.isle_layout.specs.declared.layout.Gap.{Gap}
use Rattle.isle_layout.specs.declared.layout.Spot.{Spot}
use Rattle.isle_layout.specs.Keeping.Pieces.{Fragment, pieces_of}
use Rattle.isle_layout.specs.Keeping.Rows.{rows_of, stays}

-- directly behind `(` the first, else the second
abbrev pub if_first : Kind → Habit → Habit → Habit
if_first Kind.Opening first other = first
if_first Kind.Closing first other = other
if_first Kind.AtSign first other = other
if_first Kind.Atom first other = other
if_first Kind.Line first other = other
if_first Kind.Block first other = other

-- how a piece stands in a list on one line, behind this one: a comment up to the line's end is never close to a `(`
abbrev pub flat_habit : Kind → Kind → Habit
flat_habit prev Kind.Closing = Habit.Close
flat_habit prev Kind.Line = Habit.Apart
flat_habit prev Kind.Opening = if_first prev Habit.Close Habit.Apart
flat_habit prev Kind.AtSign = if_first prev Habit.Close Habit.Apart
flat_habit prev Kind.Atom = if_first prev Habit.Close Habit.Apart
flat_habit prev Kind.Block = if_first prev Habit.Close Habit.Apart

-- how an `@` stands behind a piece
abbrev pub at_sign_habit : Kind → Habit
at_sign_habit Kind.Opening = Habit.Close
at_sign_habit Kind.Closing = Habit.Apart
at_sign_habit Kind.AtSign = Habit.Apart
at_sign_habit Kind.Atom = Habit.Apart
at_sign_habit Kind.Line = Habit.Item
at_sign_habit Kind.Block = Habit.Item

-- how an item stands behind a piece
abbrev pub item_habit : Kind → Habit
item_habit Kind.Opening = Habit.Close
item_habit Kind.Closing = Habit.Item
item_habit Kind.AtSign = Habit.Apart
item_habit Kind.Atom = Habit.Item
item_habit Kind.Line = Habit.Item
item_habit Kind.Block = Habit.Item

-- how a piece stands in a broken list or in no list, behind this one
abbrev pub broken_habit : Kind → Kind → Habit
broken_habit prev Kind.Closing = Habit.Under
broken_habit prev Kind.Line = if_first prev Habit.FirstLine Habit.Behind
broken_habit prev Kind.Block = if_first prev Habit.FirstBlock Habit.Behind
broken_habit prev Kind.AtSign = at_sign_habit prev
broken_habit prev Kind.Opening = item_habit prev
broken_habit prev Kind.Atom = item_habit prev

-- how a piece stands behind a comment up to the line's end: on a new line
abbrev pub habit_behind_line : Kind → Habit
habit_behind_line Kind.Closing = Habit.Under
habit_behind_line Kind.Opening = Habit.Item
habit_behind_line Kind.AtSign = Habit.Item
habit_behind_line Kind.Atom = Habit.Item
habit_behind_line Kind.Line = Habit.Item
habit_behind_line Kind.Block = Habit.Item

-- how a piece stands behind this one, in a list on one line or elsewhere
abbrev pub habit_behind : Bool → Kind → Kind → Habit
habit_behind flat Kind.Line kind = habit_behind_line kind
habit_behind flat Kind.Opening kind = if flat then flat_habit Kind.Opening kind else broken_habit Kind.Opening kind
habit_behind flat Kind.Closing kind = if flat then flat_habit Kind.Closing kind else broken_habit Kind.Closing kind
habit_behind flat Kind.AtSign kind = if flat then flat_habit Kind.AtSign kind else broken_habit Kind.AtSign kind
habit_behind flat Kind.Atom kind = if flat then flat_habit Kind.Atom kind else broken_habit Kind.Atom kind
habit_behind flat Kind.Block kind = if flat then flat_habit Kind.Block kind else broken_habit Kind.Block kind

-- how a piece stands, first in the text or behind this one
abbrev pub habit_of : Bool → Option Kind → Kind → Habit
habit_of flat None kind = Habit.Close
habit_of flat (Some prev) kind = habit_behind flat prev kind

-- on the same line at the start, else on a new line with no blank one before it
abbrev pub first_gap : Gap → Break → Gap
first_gap same Break.Same = same
first_gap same Break.Line = Gap.Line
first_gap same Break.Blank = Gap.Line

-- on the same line at the start, else on a new line, with a blank one before it where one was
abbrev pub item_gap : Gap → Break → Gap
item_gap same Break.Same = same
item_gap same Break.Line = Gap.Line
item_gap same Break.Blank = Gap.Blank

-- the gap before a piece, by how it stands and by the newlines that were before it
abbrev pub gap_by : Habit → Break → Gap
gap_by Habit.Close before = Gap.Nothing
gap_by Habit.Apart before = Gap.Space
gap_by Habit.Under before = Gap.Line
gap_by Habit.Item before = item_gap Gap.Line before
gap_by Habit.Behind before = item_gap Gap.Space before
gap_by Habit.FirstLine before = first_gap Gap.Space before
gap_by Habit.FirstBlock before = first_gap Gap.Nothing before

-- the newlines of a gap
abbrev pub break_of : Gap → Break
break_of Gap.Nothing = Break.Same
break_of Gap.Space = Break.Same
break_of Gap.Line = Break.Line
break_of Gap.Blank = Break.Blank

-- four spaces for each level
abbrev pub margin : ℕ → List ℕ
margin zero = []
margin (suc n) = codes "    " ++ margin n

-- a gap's text, at so many levels
abbrev pub gap_text : Gap → ℕ → List ℕ
gap_text Gap.Nothing levels = []
gap_text Gap.Space levels = 32 ∷ []
gap_text Gap.Line levels = 10 ∷ margin levels
gap_text Gap.Blank levels = 10 ∷ 10 ∷ margin levels

-- whether a list on one line is open
abbrev pub is_flat : Spot → Bool
is_flat spot = nat_lt 0 spot.flat

-- the gap before a piece of this kind
abbrev pub gap_at : Spot → Kind → Break → Gap
gap_at spot kind before = gap_by (habit_of (is_flat spot) spot.prev kind) before

-- the levels at which a piece of this kind begins a line: a closing parenthesis one less than its list's items
abbrev pub levels_at : Spot → Kind → ℕ
levels_at spot Kind.Closing = if is_flat spot then spot.broken else spot.broken - 1
levels_at spot Kind.Opening = spot.broken
levels_at spot Kind.AtSign = spot.broken
levels_at spot Kind.Atom = spot.broken
levels_at spot Kind.Line = spot.broken
levels_at spot Kind.Block = spot.broken

-- the text before a piece of this kind
abbrev pub text_before : Spot → Kind → Break → List ℕ
text_before spot kind before = gap_text (gap_at spot kind before) (levels_at spot kind)

-- the spot behind a piece of this kind; the list that a `(` opens is on one line where it stays there, or where one around it is
abbrev pub spot_behind : Spot → Kind → Bool → Spot
spot_behind spot Kind.Opening stays =
    if is_flat spot || stays then record { broken = spot.broken; flat = spot.flat + 1; prev = Some Kind.Opening }
    else record { broken = spot.broken + 1; flat = spot.flat; prev = Some Kind.Opening }
spot_behind spot Kind.Closing stays =
    if is_flat spot then record { broken = spot.broken; flat = spot.flat - 1; prev = Some Kind.Closing }
    else record { broken = spot.broken - 1; flat = spot.flat; prev = Some Kind.Closing }
spot_behind spot Kind.AtSign stays = record spot { prev = Some Kind.AtSign }
spot_behind spot Kind.Atom stays = record spot { prev = Some Kind.Atom }
spot_behind spot Kind.Line stays = record spot { prev = Some Kind.Line }
spot_behind spot Kind.Block stays = record spot { prev = Some Kind.Block }

-- the spot behind a piece, which others follow
abbrev pub next_spot : ℕ → Spot → Fragment → List Fragment → Spot
next_spot width spot piece pieces = spot_behind spot piece.kind (stays width (rows_of width pieces).here)

-- the text's end: one newline where a piece is before it
abbrev pub ending : Option Kind → List ℕ
ending None = []
ending (Some prev) = 10 ∷ []

-- pieces as they are laid out at a width from a spot on
abbrev pub written : ℕ → Spot → List Fragment → List ℕ
written width spot [] = ending spot.prev
written width spot (piece ∷ pieces) =
    (text_before spot piece.kind piece.before ++ piece.text) ++ written width (next_spot width spot piece pieces) pieces

-- the start of a text
abbrev pub start : Spot
start = record { broken = 0; flat = 0; prev = None }

-- a text as it is laid out at a width
abbrev pub laid_out : ℕ → List ℕ → List ℕ
laid_out width text = written width start (pieces_of text)

-- a piece's text, whatever stands before it
abbrev pub text_of : Fragment → List ℕ
text_of piece = piece.text

-- the texts of a text's tokens and comments, in order
abbrev pub texts_of : List ℕ → List (List ℕ)
texts_of text = map text_of (pieces_of text)
