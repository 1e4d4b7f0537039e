-- The hunks of a unified diff.
use Rattle.std.specs.Prelude.{ℕ, ◌+◌, ◌-◌, List, [], ◌∷◌, ◌++◌, Bool, ◌||◌, ◌&&◌, ◌==◌, not, nat_lt, if◌then◌else◌}
use Rattle.std.specs.Prelude.{codes, length, take}
use Rattle.std.specs.Fmt.{decimal}
use Rattle.std.specs.List.{list_any, slice_index}
use Rattle.isle_layout.specs.declared.changes.script.Mark.{Mark}
use Rattle.isle_layout.specs.declared.changes.script.Mark.TheVariants.{Kept, Removed, Added}
use Rattle.isle_layout.specs.declared.changes.hunks.Place.{Place}
use Rattle.isle_layout.specs.Changes.Scripts.{Edit, is_old, is_new}

-- whether a line is removed or added
abbrev pub is_change : Edit → Bool
is_change e = not (is_old e.mark && is_new e.mark)

-- the byte before a line: a space, `-` or `+`
abbrev pub mark_byte : Mark → ℕ
mark_byte Kept = 32
mark_byte Removed = 45
mark_byte Added = 43

-- what stands behind a line: nothing where its newline ends it
abbrev pub line_ending : List ℕ → List ℕ
line_ending line = if slice_index line (length line - 1) == 10 then [] else codes "\n\\ No newline at end of file\n"

-- the text of a line that is shown
abbrev pub line_text : Edit → List ℕ
line_text e = mark_byte e.mark ∷ (e.line ++ line_ending e.line)

-- the start of a script
abbrev pub start : Place
start = record { old = 0; new = 0; left = 0 }

-- the place behind a line; behind a changed one three more are shown
abbrev pub behind : Place → Mark → Place
behind place Kept = record { old = place.old + 1; new = place.new + 1; left = place.left - 1 }
behind place Removed = record { old = place.old + 1; new = place.new; left = 3 }
behind place Added = record { old = place.old; new = place.new + 1; left = 3 }

-- the place behind the lines of a script, the last of which is the first here
abbrev pub place_after : (before : List Edit) → Place
place_after [] = start
place_after (e ∷ before) = behind (place_after before) e.mark

-- the line at a place is shown: one of the three before it, it or one of the three behind it is changed
abbrev pub is_shown : Place → List Edit → Bool
is_shown place script = nat_lt 0 place.left || list_any is_change (take 4 script)

-- the place where the hunk ends that begins at a place: before the first line that isn't shown
abbrev pub hunk_end : Place → List Edit → Place
hunk_end place [] = place
hunk_end place (e ∷ es) = if is_shown place (e ∷ es) then hunk_end (behind place e.mark) es else place

-- the numbers of a side's lines that a hunk has, where `from` stand before it and `to` before its end: the first one's, and how many they are
abbrev pub range_text : (from to : ℕ) → List ℕ
range_text from to =
    if to - from == 0 then decimal from ++ codes ",0"
    else (if to - from == 1 then decimal (from + 1) else decimal (from + 1) ++ (codes "," ++ decimal (to - from)))

-- the header of the hunk that begins at a place
abbrev pub hunk_header : Place → List Edit → List ℕ
hunk_header place script =
    let end = hunk_end place script in
    codes "@@ -" ++ (range_text place.old end.old ++ (codes " +" ++ (range_text place.new end.new ++ codes " @@\n")))

-- the hunks from a place on: the lines that are shown, and a header before the first of each run of them; `was_shown` says whether the line
-- before the place is shown
abbrev pub hunks : Bool → Place → List Edit → List ℕ
hunks was_shown place [] = []
hunks was_shown place (e ∷ es) =
    (if is_shown place (e ∷ es) then (if was_shown then [] else hunk_header place (e ∷ es)) ++ line_text e else [])
    ++ hunks (is_shown place (e ∷ es)) (behind place e.mark) es

-- the two lines that name the file
abbrev pub file_header : (name : List ℕ) → List ℕ
file_header name = codes "--- " ++ (name ++ (codes "\n+++ " ++ (name ++ codes "\n")))
