use Rattle.isle_types.proofs.ConstantTurns.{KeptSoFar}
use Rattle.isle_types.proofs.env.TypeEnv.collect_constants.Given as goal

abbrev pub invariant-loop-def : goal.invariant-loop-def
invariant-loop-def l = KeptSoFar l.defs l.def-index l.initial.self l.self
