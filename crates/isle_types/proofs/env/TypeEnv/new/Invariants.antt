use Rattle.isle_types.proofs.BuiltinTurns.{BuiltinSoFar}
use Rattle.isle_types.proofs.env.TypeEnv.new.Given as goal

abbrev pub invariant-loop-builtin : goal.invariant-loop-builtin
invariant-loop-builtin l = BuiltinSoFar l.builtin-items l.builtin-index l.env
