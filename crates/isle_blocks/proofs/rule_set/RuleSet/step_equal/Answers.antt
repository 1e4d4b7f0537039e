use Rattle.std.proofs.Common.{◌≡◌, ap, length, arith, inl, inr}
use Rattle.isle_trees.specs.Scopes.{on_equal}
use Rattle.isle_trees.specs.Search.{IsSamePath}
use Rattle.isle_blocks.specs.Rows.{numbers_of}
use Rattle.isle_blocks.specs.Inside.Trees.Builder.{rules_in, scope_of}
use Rattle.isle_trees.proofs.Building.Enter.{path_bound}
use Rattle.isle_trees.proofs.Building.Sorting.{rest_marked}
use Rattle.isle_blocks.proofs.Trees.Marking.Spreading.{marked_joined}
use Rattle.isle_blocks.proofs.Trees.Marking.Ready.{ready_joined, ready_path}
use Rattle.isle_blocks.proofs.Trees.Moving.{moved_equal}
use Rattle.isle_blocks.proofs.Trees.Stepping.{chosen_left, chosen_ordered, chosen_rules, rest_left, rest_ordered, rest_rules, test_within}
use Rattle.isle_blocks.proofs.rule_set.RuleSet.step_equal.Goals as goal

pub emit_each-requires-clause-below : goal.emit_each-requires-clause-below
emit_each-requires-clause-below c =
    let t = on_equal c.args.a.0 c.args.b.0 in
    let w = test_within c.args.self.now c.args.place t c.args.chosen.items c.args.rest.items c.requires.split c.requires.set in
    let p = w.0 in
    let q = w.1 in
    λ x m. elim m [ inl e ↦ omega (arith, e) | inr o ↦ elim o [ inl e ↦ omega (arith, e) | inr z ↦ absurd z ] ]

pub push_rest-requires-clause-order : goal.push_rest-requires-clause-order
push_rest-requires-clause-order c =
    rest_ordered c.args.self.now c.args.place (on_equal c.args.a.0 c.args.b.0) c.args.chosen.items c.args.rest.items c.requires.split

pub push_rest-requires-clause-rules : goal.push_rest-requires-clause-rules
push_rest-requires-clause-rules c =
    rest_rules c.args.self.now c.args.place (on_equal c.args.a.0 c.args.b.0) c.args.chosen.items c.args.rest.items c.requires.split

pub push_rest-requires-clause-marked : goal.push_rest-requires-clause-marked
push_rest-requires-clause-marked c =
    let sc = scope_of c.args.self.now c.args.place.known in
    let mid = scope_of c.args.self.now c.emit_each.new.known in
    let emits = c.in_ok-emit_each.ensures.emits in
    let path : IsSamePath sc mid = path_bound sc mid emits.all emits.ending in
    rest_marked (rules_in c.args.self.now) c.args.place.left.items c.args.rest.items sc mid (on_equal c.args.a.0 c.args.b.0) c.args.place.marks path
    c.requires.split.rest_is c.requires.split.open_is.marked

pub push_rest-requires-clause-ready : goal.push_rest-requires-clause-ready
push_rest-requires-clause-ready c =
    let set = c.args.self.now in
    let sc = scope_of set c.args.place.known in
    let mid = scope_of set c.emit_each.new.known in
    let emits = c.in_ok-emit_each.ensures.emits in
    let path : IsSamePath sc mid = path_bound sc mid emits.all emits.ending in
    ready_path (rules_in set) c.args.place.left.items c.args.rest.items sc mid c.args.place.marks (numbers_of c.args.place.ready.items) path.passed
    (rest_left set c.args.place (on_equal c.args.a.0 c.args.b.0) c.args.chosen.items c.args.rest.items c.requires.split)
    c.requires.split.open_is.ready

pub join-requires-clause-a : goal.join-requires-clause-a
join-requires-clause-a c =
    let t = on_equal c.args.a.0 c.args.b.0 in
    let w = test_within c.args.self.now c.args.place t c.args.chosen.items c.args.rest.items c.requires.split c.requires.set in
    let p = w.0 in
    let f = c.requires.split.open_is.fit.labels in
    let e : length c.emit_each.new.known.labels ≡ length c.args.place.known.labels = ap length c.in_ok-emit_each.ensures.known.labels in
    omega (arith, p, f, e)

pub join-requires-clause-b : goal.join-requires-clause-b
join-requires-clause-b c =
    let t = on_equal c.args.a.0 c.args.b.0 in
    let w = test_within c.args.self.now c.args.place t c.args.chosen.items c.args.rest.items c.requires.split c.requires.set in
    let p = w.1 in
    let f = c.requires.split.open_is.fit.labels in
    let e : length c.emit_each.new.known.labels ≡ length c.args.place.known.labels = ap length c.in_ok-emit_each.ensures.known.labels in
    omega (arith, p, f, e)

pub push_body-requires-clause-marked : goal.push_body-requires-clause-marked
push_body-requires-clause-marked c =
    let set = c.args.self.now in
    let sc = scope_of set c.args.place.known in
    let mid = scope_of set c.emit_each.new.known in
    let emits = c.in_ok-emit_each.ensures.emits in
    let path : IsSamePath sc mid = path_bound sc mid emits.all emits.ending in
    marked_joined (rules_in set) c.args.place.left.items c.args.chosen.items sc mid (scope_of set c.join.new.self) c.args.a.0 c.args.b.0
    c.args.place.marks path (c.in_ok-join.ensures.scope set)
    (chosen_left set c.args.place (on_equal c.args.a.0 c.args.b.0) c.args.chosen.items c.args.rest.items c.requires.split)
    c.requires.split.open_is.marked

pub push_body-requires-clause-ready : goal.push_body-requires-clause-ready
push_body-requires-clause-ready c =
    let set = c.args.self.now in
    let sc = scope_of set c.args.place.known in
    let mid = scope_of set c.emit_each.new.known in
    let emits = c.in_ok-emit_each.ensures.emits in
    let path : IsSamePath sc mid = path_bound sc mid emits.all emits.ending in
    ready_joined (rules_in set) c.args.place.left.items c.args.chosen.items sc mid (scope_of set c.join.new.self) c.args.a.0 c.args.b.0
    c.args.place.marks (numbers_of c.args.place.ready.items) path (c.in_ok-join.ensures.scope set)
    (chosen_left set c.args.place (on_equal c.args.a.0 c.args.b.0) c.args.chosen.items c.args.rest.items c.requires.split)
    c.requires.split.open_is.ready

pub push_body-requires-clause-order : goal.push_body-requires-clause-order
push_body-requires-clause-order c =
    chosen_ordered c.args.self.now c.args.place (on_equal c.args.a.0 c.args.b.0) c.args.chosen.items c.args.rest.items c.requires.split

pub push_body-requires-clause-rules : goal.push_body-requires-clause-rules
push_body-requires-clause-rules c =
    chosen_rules c.args.self.now c.args.place (on_equal c.args.a.0 c.args.b.0) c.args.chosen.items c.args.rest.items c.requires.split

pub returns : goal.returns
returns c =
    let set = c.args.self.now in
    moved_equal set c.args.place c.args.chosen.items c.args.rest.items c.args.a c.args.b (scope_of set c.emit_each.new.known)
    (scope_of set c.join.new.self)
    (numbers_of c.new-order.result.items) c.emit_each.new.order.items c.equal_node.result c.args.work.now.items c.push_rest.new.work.items
    c.push_body.new.work.items c.args.nodes.now.items c.push.new.self.items c.requires.set c.requires.split c.in_ok-emit_each.ensures.emits
    (ap numbers_of c.new-order.ensures.items) c.equal_node.ensures c.in_ok-push.ensures.items c.in_ok-push_rest.ensures
    (c.in_ok-join.ensures.scope set)
    c.in_ok-push_body.ensures
