use Rattle.std.proofs.Common.{◌++◌, IsPermutation}
use Rattle.isle_containers.proofs.disjointsets.copy_of.Given as goal

abbrev pub invariant-loop-member : goal.invariant-loop-member
invariant-loop-member g l = IsPermutation (l.copy.entries ++ l.member-iterator) l.table.entries
