use Rattle.std.proofs.Common.{ℕ, ◌++◌, ◌∷◌, [], ap, ◌∙◌, refl, length}
use Rattle.isle_trees.specs.Rules.{Elem}
use Rattle.isle_trees.specs.Scopes.{on_match}
use Rattle.isle_trees.specs.Search.{IsSamePath}
use Rattle.isle_trees.proofs.Building.Enter.{marked_path, path_bound}
use Rattle.isle_trees.proofs.Building.Reorder.{same_each}
use Rattle.isle_trees.proofs.Building.Runs.{same_want}
use Rattle.isle_trees.proofs.Building.Sorting.{chosen_want, rest_marked, still_untested}
use Rattle.isle_blocks.specs.declared.serializer.work.Open.{Open}
use Rattle.isle_blocks.specs.declared.serializer.work.Task.{Task}
use Rattle.isle_blocks.specs.Rows.{numbers_of}
use Rattle.isle_blocks.specs.Inside.Trees.Builder.{rules_in, scope_of}
use Rattle.isle_blocks.proofs.Trees.Known.{fit_same}
use Rattle.isle_blocks.proofs.Trees.Marking.Ready.{ready_path}
use Rattle.isle_blocks.proofs.Trees.Moving.{moved_match}
use Rattle.isle_blocks.proofs.Trees.Stepping.{chosen_left, chosen_ordered, chosen_rules, rest_left, rest_ordered, rest_rules, test_within}
use Rattle.isle_blocks.proofs.rule_set.RuleSet.step_match.Goals as goal

pub emit-requires-clause-site : goal.emit-requires-clause-site
emit-requires-clause-site c =
    test_within c.args.self.now c.args.place (on_match c.args.site.0) c.args.chosen.items c.args.rest.items c.requires.split c.requires.set

pub push_rest-requires-clause-order : goal.push_rest-requires-clause-order
push_rest-requires-clause-order c =
    rest_ordered c.args.self.now c.args.place (on_match c.args.site.0) c.args.chosen.items c.args.rest.items c.requires.split

pub push_rest-requires-clause-rules : goal.push_rest-requires-clause-rules
push_rest-requires-clause-rules c =
    rest_rules c.args.self.now c.args.place (on_match c.args.site.0) c.args.chosen.items c.args.rest.items c.requires.split

pub push_rest-requires-clause-marked : goal.push_rest-requires-clause-marked
push_rest-requires-clause-marked c =
    let sc = scope_of c.args.self.now c.args.place.known in
    let mid = scope_of c.args.self.now c.emit.new.known in
    let emits = c.in_ok-emit.ensures.emits in
    let path : IsSamePath sc mid = path_bound sc mid emits.all emits.ending in
    rest_marked (rules_in c.args.self.now) c.args.place.left.items c.args.rest.items sc mid (on_match c.args.site.0) c.args.place.marks path
    c.requires.split.rest_is c.requires.split.open_is.marked

pub push_rest-requires-clause-ready : goal.push_rest-requires-clause-ready
push_rest-requires-clause-ready c =
    let set = c.args.self.now in
    let sc = scope_of set c.args.place.known in
    let mid = scope_of set c.emit.new.known in
    let emits = c.in_ok-emit.ensures.emits in
    let path : IsSamePath sc mid = path_bound sc mid emits.all emits.ending in
    ready_path (rules_in set) c.args.place.left.items c.args.rest.items sc mid c.args.place.marks (numbers_of c.args.place.ready.items) path.passed
    (rest_left set c.args.place (on_match c.args.site.0) c.args.chosen.items c.args.rest.items c.requires.split) c.requires.split.open_is.ready

pub by_test-requires-clause-order : goal.by_test-requires-clause-order
by_test-requires-clause-order c =
    chosen_ordered c.args.self.now c.args.place (on_match c.args.site.0) c.args.chosen.items c.args.rest.items c.requires.split

pub returns : goal.returns
returns c =
    let set = c.args.self.now in
    let R = rules_in set in
    let o = c.args.place in
    let t = on_match c.args.site.0 in
    let sc = scope_of set o.known in
    let mid = scope_of set c.emit.new.known in
    let split = c.requires.split in
    let emits = c.in_ok-emit.ensures.emits in
    let path : IsSamePath sc mid = path_bound sc mid emits.all emits.ending in
    let arms : Open = record { left = c.in_ok-group.group; known = c.emit.new.known; marks = o.marks; ready = o.ready } in
    moved_match set o arms c.args.chosen.items c.args.rest.items c.args.site mid (numbers_of c.new-order.result.items) c.emit.new.order.items
    c.match_node.result c.args.work.now.items c.push_rest.new.work.items c.push-2.new.self.items c.args.nodes.now.items c.push.new.self.items
    split emits (ap numbers_of c.new-order.ensures.items) c.match_node.ensures c.in_ok-push.ensures.items c.in_ok-push_rest.ensures
    (record {
      fit = fit_same set (length set.sites) o.known c.emit.new.known split.open_is.fit c.in_ok-emit.ensures.known;
      size = split.open_is.size;
      marked = marked_path R o.left.items c.in_ok-group.group.items sc mid o.marks path
          (same_each (λ (i : ℕ). Elem i o.left.items) c.args.chosen.items c.in_ok-group.group.items c.in_ok-group.ensures.same
          (chosen_left set o t c.args.chosen.items c.args.rest.items split)) split.open_is.marked;
      ready = ready_path R o.left.items c.in_ok-group.group.items sc mid o.marks (numbers_of o.ready.items) path.passed
          (same_each (λ (i : ℕ). Elem i o.left.items) c.args.chosen.items c.in_ok-group.group.items c.in_ok-group.ensures.same
          (chosen_left set o t c.args.chosen.items c.args.rest.items split)) split.open_is.ready;
      site = test_within set o t c.args.chosen.items c.args.rest.items split c.requires.set;
      untested = still_untested sc mid emits.all c.args.site.0 emits.ending split.best.ready.1;
      grouped = c.in_ok-group.ensures.grouped;
      rules = same_each _ c.args.chosen.items c.in_ok-group.group.items c.in_ok-group.ensures.same
          (chosen_rules set o t c.args.chosen.items c.args.rest.items split);
      want = same_want R c.args.site.0 c.args.chosen.items c.in_ok-group.group.items c.in_ok-group.ensures.same
          (chosen_want R o.left.items c.args.chosen.items c.args.site.0 split.chosen_is);
    })
    refl c.in_ok-group.ensures.same (c.in_ok-push-2.ensures.items ∙ ap (λ (t : Task). c.push_rest.new.work.items ++ t ∷ []) c.arms_task.ensures)
