use Rattle.std.proofs.Common.{sym}
use Rattle.isle_containers.proofs.RootedTables.{joined_found, joined_left, joined_right}
use Rattle.isle_containers.proofs.disjointsets.DisjointSets.in_same_set.Goals as goal

pub returns-in-Some-Some : goal.returns-in-Some-Some
returns-in-Some-Some g c =
    let h = c.in-Some-Some in
    let is = joined_found g.met.T.Eq.laws c.self.inside.table.entries c.self.invariant.is_rooted c.args.x c.args.y h.x.now h.y.now
    (sym h.ensures.value) (sym h.ensures'.value) in
    rw (← c.self.view_is, is) c.eq.ensures

pub returns-in_default : goal.returns-in_default
returns-in_default g c =
    let h = c.in_default in
    let is = joined_right g.met.T.Eq.laws c.self.inside.table.entries c.self.invariant.is_rooted c.args.x c.args.y _ (sym h.ensures.value)
    (sym h.ensures'.value) in
    rw (← c.self.view_is, is)

pub returns-in_default-2 : goal.returns-in_default-2
returns-in_default-2 g c =
    let h = c.in_default in
    let is = joined_left g.met.T.Eq.laws c.self.inside.table.entries c.self.invariant.is_rooted c.args.x c.args.y (sym h.ensures.value) in
    rw (← c.self.view_is, is)
