use Rattle.std.proofs.Common.{◌≡◌, ◌++◌, length, map}
use Rattle.std.specs.Str.{IsUtf8}
use Rattle.isle_layout.specs.Changes.Lines.{lines_of}
use Rattle.isle_layout.specs.Inside.Changes.{text_of}
use Rattle.isle_layout.proofs.changes.lines.lines.Given as goal

abbrev pub invariant-loop-rest : goal.invariant-loop-rest
invariant-loop-rest l = record {
  text : IsUtf8 l.rest;
  so_far : map text_of l.lines.items ++ lines_of l.rest ≡ lines_of l.fn.text;
}

abbrev pub decreases-loop-rest : goal.decreases-loop-rest
decreases-loop-rest l = length l.rest
