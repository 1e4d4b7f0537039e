use Rattle.std.proofs.Common.{◌≡◌, ◌++◌, length, string_bytes}
use denote.Text.{Utf8}
use denote.Shadow.{shadow}
use Rattle.isle_layout.specs.Keeping.Pieces.{trimmed_lines}
use Rattle.isle_layout.proofs.layout.write_lines.Given as goal

-- what was written, and the lines that are left behind it, are the lines of the text
abbrev pub invariant-lines : goal.invariant-lines
invariant-lines l =
    shadow (Utf8 l.left) × (string_bytes l.out ++ trimmed_lines l.left ≡ string_bytes l.initial.out ++ trimmed_lines l.text)

abbrev pub decreases-lines : goal.decreases-lines
decreases-lines l = length l.left
