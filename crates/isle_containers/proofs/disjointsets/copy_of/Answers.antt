use Rattle.std.proofs.Common.{append-nil}
use Rattle.std.proofs.lemmas.List.Sorted.{IsPermutation-sym}
use Rattle.isle_containers.proofs.CopiedTables.{copied_more}
use Rattle.isle_containers.proofs.disjointsets.copy_of.Goals as goal

pub loop-member-preserved : goal.loop-member-preserved
loop-member-preserved g c =
    let item = c.in-Some in
    let put = c.in_ok-insert.ensures in
    let left = rw item.ensures.steps at c.loop-member.invariant in
    let unique = c.into_iter-member-iterator.ensures.into_iter_gives.4 in
    copied_more g.met.T.Eq.laws c.args.table.now.entries c.loop-member.copy.entries c.next.new.self c.insert.new.self.entries item.member.now
    item.value.now c.in_ok-insert.field-0 unique left put.old put.entries

pub returns : goal.returns
returns g c =
    let all = rw (c.in-None.ensures.steps.0, append-nil) at c.loop-member.invariant in
    IsPermutation-sym _ _ all
