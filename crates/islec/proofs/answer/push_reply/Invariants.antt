-- The lines of the effects so far.
use Rattle.std.proofs.Common.{◌≡◌, ◌++◌, take, string_bytes}
use Rattle.std.specs.List.{flat_map}
use Rattle.islec.specs.Replies.{effect_line}
use Rattle.islec.proofs.answer.push_reply.Given as goal

abbrev pub invariant-loop-effect : goal.invariant-loop-effect
invariant-loop-effect l = string_bytes l.lines ≡ string_bytes l.fn.lines ++ flat_map effect_line (take l.effect-index l.effects)
