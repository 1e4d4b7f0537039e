-- The lines of the effects so far.
use Rattle.std.proofs.Common.{◌≡◌, take, string_bytes}
use Rattle.std.specs.List.{flat_map}
use Rattle.isle_callers.specs.Lines.{effect_line}
use Rattle.isle_callers.proofs.example.lines.lines_of_call.Given as goal

abbrev pub invariant-loop-effect : goal.invariant-loop-effect
invariant-loop-effect l = string_bytes l.lines ≡ flat_map effect_line (take l.effect-index l.effects)
