use Rattle.std.proofs.Common.{◌≡◌, ◌++◌}
use Rattle.isle_containers.specs.JoinedTables.{members_at}
use Rattle.isle_containers.proofs.disjointsets.gather.Given as goal

abbrev pub invariant-loop-member : goal.invariant-loop-member
invariant-loop-member g l =
    l.found.items ++ members_at g.T.PartialEq.eq l.member-iterator l.root ≡ members_at g.T.PartialEq.eq l.table.entries l.root
