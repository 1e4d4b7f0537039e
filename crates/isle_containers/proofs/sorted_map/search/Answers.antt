use Rattle.std.proofs.Common.{rules, ◌+◌, ◌^◌, ◌<◌, ◌≤◌, length}
use Rattle.isle_containers.specs.SortedMaps.{binary_digits}
use Rattle.isle_containers.proofs.BinaryDigits.{binary_digits-least}
use Rattle.isle_containers.proofs.Searches.{middle_of, narrowed_start, narrowed_below, narrowed_above, found_in_middle, bounded, bounded_more}
use Rattle.isle_containers.proofs.Searches.{middle_in_range}
use Rattle.isle_containers.proofs.sorted_map.search.Goals as goal

pub loop-low-init : goal.loop-low-init
loop-low-init g c = narrowed_start g.met.K.Ord.total _ c.requires

pub overflow_add-comparisons : goal.overflow_add-comparisons
overflow_add-comparisons g c =
    let fits : c.loop-low.comparisons + 1 ≤ binary_digits
    (length c.args.places.now) = bounded_more g.met.K.Ord.total _ c.requires c.loop-low.invariant c.loop-low-test.true in
    let small : length c.args.places.now < 2 ^ 64 = search rules in
    let digits : binary_digits (length c.args.places.now) ≤ 64 = binary_digits-least _ 64 small in
    search rules

pub offset_bounds-places-middle : goal.offset_bounds-places-middle
offset_bounds-places-middle g c =
    let below : middle_of c.loop-low.low c.loop-low.high < length c.args.places.now = middle_in_range g.met.K.Ord.total _ c.requires
    c.loop-low.invariant c.loop-low-test.true in
    search rules

pub bounds-places-middle : goal.bounds-places-middle
bounds-places-middle g c = middle_in_range g.met.K.Ord.total _ c.requires c.loop-low.invariant c.loop-low-test.true

pub loop-low-preserved-in-Less : goal.loop-low-preserved-in-Less
loop-low-preserved-in-Less g c = narrowed_below g.met.K.Ord.total _ c.requires c.loop-low.invariant c.loop-low-test.true _ c.in-Less.ensures

pub returns-in-Equal-clause-found : goal.returns-in-Equal-clause-found
returns-in-Equal-clause-found g c = found_in_middle g.met.K.Ord.total _ c.requires c.loop-low.invariant c.loop-low-test.true _ c.in-Equal.ensures

pub returns-in-Equal-clause-comparisons : goal.returns-in-Equal-clause-comparisons
returns-in-Equal-clause-comparisons g c = bounded_more g.met.K.Ord.total _ c.requires c.loop-low.invariant c.loop-low-test.true

pub loop-low-preserved : goal.loop-low-preserved
loop-low-preserved g c = narrowed_above g.met.K.Ord.total _ c.requires c.loop-low.invariant c.loop-low-test.true _ c.in-Greater.ensures

pub returns-clause-comparisons : goal.returns-clause-comparisons
returns-clause-comparisons g c = bounded g.met.K.Ord.total _ c.requires c.loop-low.invariant
