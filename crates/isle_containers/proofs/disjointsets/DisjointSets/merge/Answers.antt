use Rattle.isle_containers.proofs.MergedTables.{merged_table, merged_are_joined, merged_represented, merged_members}
use Rattle.isle_containers.proofs.disjointsets.DisjointSets.merge.Goals as goal

pub invariant_of-self-2 : goal.invariant_of-self-2
invariant_of-self-2 g c =
    let r = c.reserve.ensures.entries in
    let h = c.enter-kept.ensures in
    let k = c.enter-merged.ensures in
    let s = c.relabel.ensures in
    merged_table g.met.T.Eq.laws _ _ _ _ _ c.args.x c.args.y c.self.invariant c.requires
    (record { moved = r.0; same = r.2 }) h.entries k.entries _ _ h.root k.root s.entries s.unique

pub returns-clause-joined : goal.returns-clause-joined
returns-clause-joined g c a b =
    let r = c.reserve.ensures.entries in
    let h = c.enter-kept.ensures in
    let k = c.enter-merged.ensures in
    let s = c.relabel.ensures in
    rw (← c.self.view_is) (merged_are_joined g.met.T.Eq.laws _ _ _ _ _ c.args.x c.args.y c.self.invariant c.requires
    (record { moved = r.0; same = r.2 }) h.entries k.entries _ _ h.root k.root s.entries s.unique a b)

pub returns-clause-represented : goal.returns-clause-represented
returns-clause-represented g c a =
    let r = c.reserve.ensures.entries in
    let h = c.enter-kept.ensures in
    let k = c.enter-merged.ensures in
    let s = c.relabel.ensures in
    rw (← c.self.view_is) (merged_represented g.met.T.Eq.laws _ _ _ _ _ c.args.x c.args.y c.self.invariant c.requires
    (record { moved = r.0; same = r.2 }) h.entries k.entries _ _ h.root k.root s.entries s.unique a)

pub returns-clause-gained : goal.returns-clause-gained
returns-clause-gained g c =
    let r = c.reserve.ensures.entries in
    let h = c.enter-kept.ensures in
    let k = c.enter-merged.ensures in
    let s = c.relabel.ensures in
    rw (← c.self.view_is) (merged_members g.met.T.Eq.laws _ _ _ _ _ c.args.x c.args.y c.self.invariant c.requires
    (record { moved = r.0; same = r.2 }) h.entries k.entries _ _ h.root k.root s.entries s.unique)
