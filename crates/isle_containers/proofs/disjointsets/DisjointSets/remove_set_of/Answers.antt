use Rattle.std.proofs.Common.{sym}
use Rattle.std.proofs.lemmas.List.Sorted.{IsPermutation-refl, IsPermutation-trans, IsPermutation-append_left}
use Rattle.isle_containers.proofs.RemovedTables.{absent_members, absent_joined, absent_represented, removed_table, removed_are_joined}
use Rattle.isle_containers.proofs.RemovedTables.{removed_represented, found_members, parted_members}
use Rattle.isle_containers.proofs.disjointsets.DisjointSets.remove_set_of.Goals as goal

pub returns-in_default-clause-members : goal.returns-in_default-clause-members
returns-in_default-clause-members g c =
    let es = c.self.inside.table.entries in
    let laws = g.met.T.Eq.laws in
    let i = c.self.invariant.is_rooted in
    let none = sym c.in_default.ensures.value in
    rw (← c.self.view_is, c.new.ensures.items) (absent_members laws es i c.args.x none)

pub returns-in_default-clause-joined : goal.returns-in_default-clause-joined
returns-in_default-clause-joined g c a b =
    let es = c.self.inside.table.entries in
    let laws = g.met.T.Eq.laws in
    let i = c.self.invariant.is_rooted in
    let none = sym c.in_default.ensures.value in
    rw (← c.self.view_is) (absent_joined laws es i c.args.x none a b)

pub returns-in_default-clause-represented : goal.returns-in_default-clause-represented
returns-in_default-clause-represented g c a =
    let es = c.self.inside.table.entries in
    let laws = g.met.T.Eq.laws in
    let i = c.self.invariant.is_rooted in
    let none = sym c.in_default.ensures.value in
    rw (← c.self.view_is) (absent_represented laws es i c.args.x none a)

pub invariant_of-self : goal.invariant_of-self
invariant_of-self g c =
    let es = c.self.inside.table.entries in
    let laws = g.met.T.Eq.laws in
    let j = c.self.invariant in
    let v = c.in-Some.field-0.now in
    let found = sym c.in-Some.ensures.value in
    rw c.remove_values.ensures (removed_table laws es j c.args.x v found)

pub returns-clause-members : goal.returns-clause-members
returns-clause-members g c =
    let es = c.self.inside.table.entries in
    let laws = g.met.T.Eq.laws in
    let j = c.self.invariant in
    let v = c.in-Some.field-0.now in
    let found = sym c.in-Some.ensures.value in
    rw (← c.self.view_is) (IsPermutation-trans _ _ _ (found_members laws es j c.args.x v found)
    (rw c.in_ok-set.ensures at c.sort_unstable.ensures.permutation))

pub returns-clause-joined : goal.returns-clause-joined
returns-clause-joined g c a b =
    let es = c.self.inside.table.entries in
    let laws = g.met.T.Eq.laws in
    let j = c.self.invariant in
    let v = c.in-Some.field-0.now in
    let found = sym c.in-Some.ensures.value in
    rw (← c.self.view_is, c.remove_values.ensures) (removed_are_joined laws es j c.args.x v found a b)

pub returns-clause-represented : goal.returns-clause-represented
returns-clause-represented g c a =
    let es = c.self.inside.table.entries in
    let laws = g.met.T.Eq.laws in
    let j = c.self.invariant in
    let v = c.in-Some.field-0.now in
    let found = sym c.in-Some.ensures.value in
    rw (← c.self.view_is, c.remove_values.ensures) (removed_represented laws es j c.args.x v found a)

pub returns-in_default-clause-parted : goal.returns-in_default-clause-parted
returns-in_default-clause-parted g c = rw c.new.ensures.items (IsPermutation-refl _)

pub returns-clause-parted : goal.returns-clause-parted
returns-clause-parted g c =
    let es = c.self.inside.table.entries in
    let laws = g.met.T.Eq.laws in
    let j = c.self.invariant in
    let v = c.in-Some.field-0.now in
    let found = sym c.in-Some.ensures.value in
    let sorted = rw c.in_ok-set.ensures at c.sort_unstable.ensures.permutation in
    rw (← c.self.view_is, c.remove_values.ensures)
    (IsPermutation-trans _ _ _ (parted_members laws es j c.args.x v found) (IsPermutation-append_left _ _ _ sorted))
