use Rattle.isle_types.proofs.NamingTurns.{NamedSoFar}
use Rattle.isle_types.proofs.env.TypeEnv.collect_names.Given as goal

abbrev pub invariant-loop-def : goal.invariant-loop-def
invariant-loop-def l = NamedSoFar l.defs l.def-index l.initial.self l.self l.next
