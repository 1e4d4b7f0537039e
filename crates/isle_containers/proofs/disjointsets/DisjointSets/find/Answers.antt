use Rattle.std.proofs.Common.{◌∙◌}
use Rattle.isle_containers.proofs.RootedTables.{representative_is}
use Rattle.isle_containers.proofs.disjointsets.DisjointSets.find.Goals as goal

pub returns : goal.returns
returns g c =
    let is = representative_is g.met.T.Eq.laws c.self.inside.table.entries c.self.invariant.is_rooted c.args.x in
    rw (← c.self.view_is, is) (c.copied.ensures ∙ c.get.ensures.value)
