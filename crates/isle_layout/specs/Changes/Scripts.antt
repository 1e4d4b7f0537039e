-- Which lines of two texts stay, are removed or are added.
use Rattle.std.specs.Prelude.{◌≡◌, ℕ, List, [], ◌∷◌, Bool, true, false, ◌&&◌, not, filter, map}
use Rattle.isle_layout.specs.declared.changes.script.Mark.{Mark}
use Rattle.isle_layout.specs.declared.changes.script.Mark.TheVariants.{Kept, Removed, Added}
use Rattle.isle_layout.specs.Changes.Lines.{lines_of}

-- a line with its newline, and what becomes of it
pub record Edit : Type 0 where
  pub mark : Mark
  pub line : List ℕ

-- a line of the old text: it stays or is removed
abbrev pub is_old : Mark → Bool
is_old Kept = true
is_old Removed = true
is_old Added = false

-- a line of the new text: it stays or is added
abbrev pub is_new : Mark → Bool
is_new Kept = true
is_new Removed = false
is_new Added = true

-- the lines of the old text
abbrev pub olds : List Edit → List (List ℕ)
olds script = map (λ (e : Edit). e.line) (filter (λ (e : Edit). is_old e.mark) script)

-- the lines of the new text
abbrev pub news : List Edit → List (List ℕ)
news script = map (λ (e : Edit). e.line) (filter (λ (e : Edit). is_new e.mark) script)

-- a line that isn't of the new text is the first
abbrev pub begins_removed : List Edit → Bool
begins_removed [] = false
begins_removed (e ∷ es) = not (is_new e.mark)

-- no line that is added stands directly before one that is removed
abbrev pub is_ordered : List Edit → Bool
is_ordered [] = true
is_ordered (e ∷ es) = not (not (is_old e.mark) && begins_removed es) && is_ordered es

-- a script leads from lines to others, and within its blocks of changes those that are removed come first
pub record Leads (old new : List (List ℕ)) (script : List Edit) : Type 0 where
  pub from : olds script ≡ old
  pub to : news script ≡ new
  pub ordered : is_ordered script ≡ true

-- a script leads from a text's lines to another's
abbrev pub IsScript : (old new : List ℕ) → List Edit → Type 0
IsScript old new script = Leads (lines_of old) (lines_of new) script
