use Rattle.std.proofs.Common.{◌≡◌, ◌++◌, ℕ, List, length}
use denote.Text.{Utf8}
use denote.Shadow.{shadow}
use Rattle.std.specs.Fmt.{HasWritten, IsPlainFormatter}
use Rattle.isle_syntax.specs.Errors.{indented_lines}
use Rattle.isle_syntax.proofs.error.print.write_lines.Given as goal

-- what was written, and the lines that are left behind it, are the lines of the text
abbrev pub invariant-lines : goal.invariant-lines
invariant-lines g l = shadow (Utf8 l.left) × ((done : List ℕ) × (done ++ indented_lines l.left ≡ indented_lines l.text)
    × (IsPlainFormatter l.initial.f → HasWritten g.W.Write.write_str_gives l.initial.f done l.f))

abbrev pub decreases-lines : goal.decreases-lines
decreases-lines g l = length l.left
