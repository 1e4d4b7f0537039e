use Rattle.std.proofs.Common.{take}
use Rattle.isle_blocks.specs.declared.faults.Fault.TheVariants.{Overlap, Shadow}
use Rattle.isle_blocks.specs.Inside.RivalLists.{ListsFaults}
use Rattle.isle_rules.specs.Shown.TermTables.{is_multi_in}
use Rattle.isle_blocks.proofs.checking.faults_in.Given as goal

abbrev pub invariant-loop-set : goal.invariant-loop-set
invariant-loop-set l =
    ListsFaults (is_multi_in l.termenv) Overlap (take l.set-index l.sets) l.found.overlaps.items
    × ListsFaults (is_multi_in l.termenv) Shadow (take l.set-index l.sets) l.found.shadows.items
