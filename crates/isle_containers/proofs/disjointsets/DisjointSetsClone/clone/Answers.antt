use Rattle.isle_containers.proofs.CopiedTables.{copied_table, copied_sets}
use Rattle.isle_containers.proofs.disjointsets.DisjointSetsClone.clone.Goals as goal

pub invariant_of-result : goal.invariant_of-result
invariant_of-result g c = copied_table g.met.T.Eq.laws _ _ c.self.invariant c.in_ok-table.ensures

pub returns : goal.returns
returns g c =
    let same = copied_sets g.met.T.Eq.laws _ _ c.self.invariant c.in_ok-table.ensures in
    record { cases = rw (← c.self.view_is) same }
