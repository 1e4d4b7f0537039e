use Rattle.std.proofs.Common.{rules, refl, ◌<◌, length}
use Rattle.isle_containers.proofs.OrderedMembers.{between_start, between_below, between_above, middle_found, middle_within}
use Rattle.isle_containers.proofs.Searches.{middle_of}
use Rattle.isle_containers.proofs.sorted_set.search.Goals as goal

pub loop-low-init : goal.loop-low-init
loop-low-init g c = between_start g.met.K.Ord.total c.requires _

pub offset_bounds-order-middle : goal.offset_bounds-order-middle
offset_bounds-order-middle g c =
    let below : middle_of c.loop-low.low c.loop-low.high < length c.args.order.now = middle_within g.met.K.Ord.total c.requires _
    c.loop-low.invariant c.loop-low-test.true in
    search rules

pub bounds-order-middle : goal.bounds-order-middle
bounds-order-middle g c = middle_within g.met.K.Ord.total c.requires _ c.loop-low.invariant c.loop-low-test.true

pub loop-low-preserved-in-Less : goal.loop-low-preserved-in-Less
loop-low-preserved-in-Less g c = between_below g.met.K.Ord.total c.requires _ c.loop-low.invariant c.loop-low-test.true _
    c.index-members-order.is _ c.in-Less.ensures refl

pub returns-in-Equal : goal.returns-in-Equal
returns-in-Equal g c = middle_found g.met.K.Ord.total c.requires _ c.loop-low.invariant c.loop-low-test.true _
    c.index-members-order.is _ c.in-Equal.ensures refl

pub loop-low-preserved : goal.loop-low-preserved
loop-low-preserved g c = between_above g.met.K.Ord.total c.requires _ c.loop-low.invariant c.loop-low-test.true _
    c.index-members-order.is _ c.in-Greater.ensures refl
