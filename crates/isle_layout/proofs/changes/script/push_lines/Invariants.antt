use Rattle.std.proofs.Common.{◌≡◌, ◌++◌, map, take}
use Rattle.isle_layout.specs.Inside.Changes.{edit_by, edit_of, text_of}
use Rattle.isle_layout.proofs.changes.script.push_lines.Given as goal

abbrev pub invariant-loop-line : goal.invariant-loop-line
invariant-loop-line l =
    map edit_of l.steps.items ≡ map edit_of l.initial.steps.items ++ map (edit_by l.mark) (map text_of (take l.line-index l.lines))
