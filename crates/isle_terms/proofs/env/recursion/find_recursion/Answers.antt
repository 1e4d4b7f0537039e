use Rattle.std.proofs.Common.{map}
use Rattle.isle_terms.proofs.Collections.ExtractorGraphs.{lent, graph_within, acyclic_kept, cycle_broken, cycle_within}
use Rattle.isle_terms.proofs.env.recursion.find_recursion.Goals as goal

pub find_cycle-requires : goal.find_cycle-requires
find_cycle-requires c =
    graph_within (map lent c.args.extractors.now) c.in_ok-places.places c.in_ok-graph.graph c.in_ok-places.ensures c.in_ok-graph.ensures

pub returns-in_default : goal.returns-in_default
returns-in_default c = acyclic_kept (map lent c.args.extractors.now) c.in_ok-places.places c.in_ok-graph.graph c.in_ok-places.ensures
    c.in_ok-graph.ensures (rw c.in_default.is at c.in_ok-place.ensures)

pub pos_at-requires : goal.pos_at-requires
pos_at-requires c = cycle_within c.args.extractors.now c.in_ok-places.places c.in_ok-graph.graph c.in_ok-places.ensures c.in_ok-graph.ensures
    c.in-Some.place (rw c.in-Some.is at c.in_ok-place.ensures)

pub returns : goal.returns
returns c = cycle_broken (map lent c.args.extractors.now) c.in_ok-places.places c.in_ok-graph.graph c.in_ok-places.ensures c.in_ok-graph.ensures
    c.in-Some.place (rw c.in-Some.is at c.in_ok-place.ensures) c.pos_at.result c.pos_at.ensures
