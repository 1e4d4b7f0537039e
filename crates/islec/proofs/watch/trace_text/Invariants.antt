-- The lines of the choices so far.
use Rattle.std.proofs.Common.{◌≡◌, take, string_bytes}
use Rattle.std.specs.List.{flat_map}
use Rattle.islec.specs.Replies.{choice_line}
use Rattle.islec.proofs.watch.trace_text.Given as goal

abbrev pub invariant-loop-choice : goal.invariant-loop-choice
invariant-loop-choice l = string_bytes l.lines ≡ flat_map (choice_line l.program l.files l.manner.depth) (take l.choice-index l.choices)
