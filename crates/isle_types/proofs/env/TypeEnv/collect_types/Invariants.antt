use Rattle.isle_types.proofs.MakingTurns.{MadeSoFar}
use Rattle.isle_types.proofs.env.TypeEnv.collect_types.Given as goal

abbrev pub invariant-loop-def : goal.invariant-loop-def
invariant-loop-def l = MadeSoFar l.defs l.def-index l.initial.self l.self
