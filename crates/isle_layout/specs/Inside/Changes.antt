-- Lines and scripts of a unified diff as the program has them.
use Rattle.std.specs.Prelude.{◌≡◌, ℕ, suc, List, [], ◌∷◌, ◌==◌, if◌then◌else◌}
use Rattle.isle_layout.specs.declared.changes.lines.Line.{Line}
use Rattle.isle_layout.specs.declared.changes.script.Mark.{Mark}
use Rattle.isle_layout.specs.declared.changes.script.Step.{Step}
use Rattle.isle_layout.specs.Changes.Scripts.{Edit}

-- how long a text's first line is, with its newline
abbrev pub line_length : List ℕ → ℕ
line_length [] = 0
line_length (b ∷ bs) = if b == 10 then 1 else suc (line_length bs)

-- a line of the program as it is written
abbrev pub text_of : Line → List ℕ
text_of line = line.text.now

-- a line of which this becomes
abbrev pub edit_by : Mark → List ℕ → Edit
edit_by mark line = record { mark = mark; line = line }

-- a step of the program
abbrev pub edit_of : Step → Edit
edit_of step = record { mark = step.mark; line = step.line.now }

-- lines and others begin with the same one, or neither has any
abbrev pub BeginAlike : (old new : List (List ℕ)) → Type 0
BeginAlike [] [] = Unit {0}
BeginAlike [] (m ∷ ms) = ⊥
BeginAlike (l ∷ ls) [] = ⊥
BeginAlike (l ∷ ls) (m ∷ ms) = l ≡ m
