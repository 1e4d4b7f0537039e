use Rattle.std.proofs.Common.{◌≡◌, ◌+◌, drop}
use Rattle.isle_layout.specs.Inside.Changes.{line_length}
use Rattle.isle_layout.proofs.changes.lines.line_length.Given as goal

abbrev pub invariant-loop-i : goal.invariant-loop-i
invariant-loop-i l = line_length l.text ≡ l.i + line_length (drop l.i l.text)
