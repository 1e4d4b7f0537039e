use Rattle.isle_containers.proofs.TableMembers.{length_members, sets_disjoint}
use Rattle.isle_containers.proofs.disjointsets.DisjointSets.len.Goals as goal

pub returns-clause-count : goal.returns-clause-count
returns-clause-count g c =
    let is = length_members g.met.T.Eq.laws c.self.inside.table.entries c.self.invariant.is_rooted in
    rw (← c.self.view_is, is) c.len.ensures.len

pub returns-clause-disjoint : goal.returns-clause-disjoint
returns-clause-disjoint g c =
    rw (← c.self.view_is) (sets_disjoint g.met.T.Eq.laws c.self.inside.table.entries c.self.invariant)
