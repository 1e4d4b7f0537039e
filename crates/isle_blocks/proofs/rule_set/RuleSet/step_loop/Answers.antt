use Rattle.std.proofs.Common.{◌≡◌, ◌<◌, ℕ, Some, ap, refl, sym, subst, ◌∙◌, length, arith, get_or, rules}
use Rattle.isle_trees.specs.Rules.{one_value}
use Rattle.isle_trees.specs.Scopes.{Scope, on_loop}
use Rattle.isle_trees.specs.Search.{AreSound, IsSamePath}
use Rattle.isle_blocks.specs.declared.constraint.Constraint.{Constraint}
use Rattle.isle_blocks.specs.Rows.{numbers_of}
use Rattle.isle_blocks.specs.Inside.Trees.Builder.{rules_in, scope_of, users_at}
use Rattle.isle_trees.proofs.Building.Enter.{path_freed, path_released, sound_inside, sound_path}
use Rattle.isle_trees.proofs.Building.Lists.{get_any}
use Rattle.isle_trees.proofs.Building.Sorting.{loop_untested, loop_value, rest_marked}
use Rattle.isle_trees.specs.Rules.{below}
use Rattle.isle_blocks.proofs.Trees.Known.{copy_scope}
use Rattle.isle_blocks.proofs.Trees.Marking.Spreading.{marked_inside}
use Rattle.isle_blocks.specs.Inside.Trees.Marking.{is_testable}
use Rattle.isle_blocks.proofs.Trees.Marking.Ready.{ready_inside, ready_path, testable_from}
use Rattle.isle_blocks.proofs.Trees.Moving.{moved_loop}
use Rattle.isle_blocks.proofs.Trees.Stepping.{chosen_left, chosen_ordered, chosen_rules, first_chosen, loop_wants, released_copy, rest_left, rest_ordered, rest_rules, test_within}
use Rattle.isle_blocks.proofs.rule_set.RuleSet.step_loop.Goals as goal

pub release-requires : goal.release-requires
release-requires c =
    let l = test_within c.args.self.now c.args.place (on_loop c.args.site.0) c.args.chosen.items c.args.rest.items c.requires.split c.requires.set in
    let f = c.requires.split.open_is.fit.emitted in
    omega (arith, l, f)

pub emit-requires-clause-site : goal.emit-requires-clause-site
emit-requires-clause-site c =
    test_within c.args.self.now c.args.place (on_loop c.args.site.0) c.args.chosen.items c.args.rest.items c.requires.split c.requires.set

pub value-requires : goal.value-requires
value-requires c = record {
  made =
      let set = c.args.self.now in
      loop_value (rules_in set) (length set.sites) (below (length set.rules)) c.args.place.left.items (scope_of set c.args.place.known) c.args.site.0
      c.requires.set c.requires.split.best;
}

pub release-requires-2 : goal.release-requires-2
release-requires-2 c =
    let l = test_within c.args.self.now c.args.place (on_loop c.args.site.0) c.args.chosen.items c.args.rest.items c.requires.split c.requires.set in
    let f = c.requires.split.open_is.fit.emitted in
    let g = c.in_ok-release.ensures.size in
    let h = c.in_ok-emit.ensures.known.emitted in
    let e : length c.in_ok-last.last.emitted ≡ length c.emit.new.known.emitted = ap length c.in_ok-last.ensures.emitted in
    omega (arith, l, f, g, h, e)

pub push_rest-requires-clause-order : goal.push_rest-requires-clause-order
push_rest-requires-clause-order c =
    rest_ordered c.args.self.now c.args.place (on_loop c.args.site.0) c.args.chosen.items c.args.rest.items c.requires.split

pub push_rest-requires-clause-rules : goal.push_rest-requires-clause-rules
push_rest-requires-clause-rules c =
    rest_rules c.args.self.now c.args.place (on_loop c.args.site.0) c.args.chosen.items c.args.rest.items c.requires.split

pub push_rest-requires-clause-marked : goal.push_rest-requires-clause-marked
push_rest-requires-clause-marked c =
    let set = c.args.self.now in
    let sc = scope_of set c.args.place.known in
    let freed = scope_of set c.release.new.self in
    let mid = scope_of set c.emit.new.known in
    let last = scope_of set c.release-2.new.self in
    let copy = copy_scope set c.in_ok-last.last c.emit.new.known c.in_ok-last.ensures in
    let end = released_copy (scope_of set c.in_ok-last.last) mid last c.args.site.0 copy (c.in_ok-release-2.ensures.scope set) in
    let emits = c.in_ok-emit.ensures.emits in
    let path : IsSamePath sc last = path_released sc freed mid last c.args.site.0 emits.all (c.in_ok-release.ensures.scope set) emits.ending end in
    rest_marked (rules_in set) c.args.place.left.items c.args.rest.items sc last (on_loop c.args.site.0) c.args.place.marks path
    c.requires.split.rest_is c.requires.split.open_is.marked

pub push_rest-requires-clause-ready : goal.push_rest-requires-clause-ready
push_rest-requires-clause-ready c =
    let set = c.args.self.now in
    let sc = scope_of set c.args.place.known in
    let freed = scope_of set c.release.new.self in
    let mid = scope_of set c.emit.new.known in
    let last = scope_of set c.release-2.new.self in
    let copy = copy_scope set c.in_ok-last.last c.emit.new.known c.in_ok-last.ensures in
    let end = released_copy (scope_of set c.in_ok-last.last) mid last c.args.site.0 copy (c.in_ok-release-2.ensures.scope set) in
    let emits = c.in_ok-emit.ensures.emits in
    let path : IsSamePath sc last = path_released sc freed mid last c.args.site.0 emits.all (c.in_ok-release.ensures.scope set) emits.ending end in
    ready_path (rules_in set) c.args.place.left.items c.args.rest.items sc last c.args.place.marks (numbers_of c.args.place.ready.items) path.passed
    (rest_left set c.args.place (on_loop c.args.site.0) c.args.chosen.items c.args.rest.items c.requires.split) c.requires.split.open_is.ready

pub enter-requires-clause-site : goal.enter-requires-clause-site
enter-requires-clause-site c =
    test_within c.args.self.now c.args.place (on_loop c.args.site.0) c.args.chosen.items c.args.rest.items c.requires.split c.requires.set

pub enter-requires-clause-wants : goal.enter-requires-clause-wants
enter-requires-clause-wants c =
    let set = c.args.self.now in
    let first = first_chosen set c.args.place (on_loop c.args.site.0) c.args.chosen.items c.args.rest.items c.requires.split in
    let some : 0 < length c.args.chosen.items = search rules in
    let at : c.index.result.now ≡ get_or c.args.chosen.items 0 0 = c.index.ensures ∙ get_any c.args.chosen.items 0 c.index.result.now 0 some in
    let want = loop_wants set c.args.place c.args.site.0 c.args.chosen.items c.args.rest.items c.requires.split
    (get_or c.args.chosen.items 0 0) first in
    (one_value, subst (λ (i : ℕ). (rules_in set).at i c.args.site.0 ≡ Some one_value) (sym at) want)

pub spread-requires-clause-sound : goal.spread-requires-clause-sound
spread-requires-clause-sound c =
    let set = c.args.self.now in
    let R = rules_in set in
    let sc = scope_of set c.args.place.known in
    let freed = scope_of set c.release.new.self in
    let mid = scope_of set c.emit.new.known in
    let emits = c.in_ok-emit.ensures.emits in
    let path : IsSamePath sc mid = path_freed sc freed mid c.args.site.0 emits.all (c.in_ok-release.ensures.scope set) emits.ending in
    let untested = loop_untested sc freed mid c.args.site.0 emits.all (c.in_ok-release.ensures.scope set)
    emits.ending c.requires.split.best.ready.1 in
    let S : Scope Constraint → Type 0 = λ x. AreSound R x c.args.place.marks in
    let first = first_chosen set c.args.place (on_loop c.args.site.0) c.args.chosen.items c.args.rest.items c.requires.split in
    let some : 0 < length c.args.chosen.items = search rules in
    let at : c.index.result.now ≡ get_or c.args.chosen.items 0 0 = c.index.ensures ∙ get_any c.args.chosen.items 0 c.index.result.now 0 some in
    let want = loop_wants set c.args.place c.args.site.0 c.args.chosen.items c.args.rest.items c.requires.split
    (get_or c.args.chosen.items 0 0) first in
    let inner = c.in_ok-enter.ensures.scope one_value (subst (λ (i : ℕ). (rules_in set).at i c.args.site.0 ≡ Some one_value) (sym at) want) in
    subst S (sym inner)
    (sound_inside R mid c.args.site.0 one_value c.args.place.marks untested
    (sound_path R sc mid c.args.place.marks path c.requires.split.open_is.marked.sound))

pub push_body-requires-clause-marked : goal.push_body-requires-clause-marked
push_body-requires-clause-marked c =
    let set = c.args.self.now in
    let sc = scope_of set c.args.place.known in
    let freed = scope_of set c.release.new.self in
    let mid = scope_of set c.emit.new.known in
    let emits = c.in_ok-emit.ensures.emits in
    let path : IsSamePath sc mid = path_freed sc freed mid c.args.site.0 emits.all (c.in_ok-release.ensures.scope set) emits.ending in
    let first = first_chosen set c.args.place (on_loop c.args.site.0) c.args.chosen.items c.args.rest.items c.requires.split in
    let some : 0 < length c.args.chosen.items = search rules in
    let at : c.index.result.now ≡ get_or c.args.chosen.items 0 0 = c.index.ensures ∙ get_any c.args.chosen.items 0 c.index.result.now 0 some in
    let want = loop_wants set c.args.place c.args.site.0 c.args.chosen.items c.args.rest.items c.requires.split
    (get_or c.args.chosen.items 0 0) first in
    let inner = c.in_ok-enter.ensures.scope one_value (subst (λ (i : ℕ). (rules_in set).at i c.args.site.0 ≡ Some one_value) (sym at) want) in
    let spread = c.in_ok-more.ensures in
    marked_inside (rules_in set) c.args.place.left.items c.args.chosen.items sc mid (scope_of set c.enter.new.known) c.args.site.0 one_value
    c.args.place.marks c.spread.new.marks _ path inner
    (chosen_left set c.args.place (on_loop c.args.site.0) c.args.chosen.items c.args.rest.items c.requires.split)
    c.requires.split.open_is.marked spread

pub push_body-requires-clause-ready : goal.push_body-requires-clause-ready
push_body-requires-clause-ready c =
    let set = c.args.self.now in
    let sc = scope_of set c.args.place.known in
    let freed = scope_of set c.release.new.self in
    let mid = scope_of set c.emit.new.known in
    let emits = c.in_ok-emit.ensures.emits in
    let path : IsSamePath sc mid = path_freed sc freed mid c.args.site.0 emits.all (c.in_ok-release.ensures.scope set) emits.ending in
    let first = first_chosen set c.args.place (on_loop c.args.site.0) c.args.chosen.items c.args.rest.items c.requires.split in
    let some : 0 < length c.args.chosen.items = search rules in
    let at : c.index.result.now ≡ get_or c.args.chosen.items 0 0 = c.index.ensures ∙ get_any c.args.chosen.items 0 c.index.result.now 0 some in
    let want = loop_wants set c.args.place c.args.site.0 c.args.chosen.items c.args.rest.items c.requires.split
    (get_or c.args.chosen.items 0 0) first in
    let inner = c.in_ok-enter.ensures.scope one_value (subst (λ (i : ℕ). (rules_in set).at i c.args.site.0 ≡ Some one_value) (sym at) want) in
    let users = users_at c.args.index.now in
    let after = scope_of set c.enter.new.known in
    ready_inside (rules_in set) users c.args.place.left.items c.args.chosen.items sc mid after
    c.args.site.0 one_value c.args.place.marks c.spread.new.marks (numbers_of c.in_ok-more.more.items)
    (numbers_of c.args.place.ready.items) (numbers_of c.in_ok-ready.ready.items) c.requires.index.is.used path inner
    (chosen_left set c.args.place (on_loop c.args.site.0) c.args.chosen.items c.args.rest.items c.requires.split) c.requires.split.open_is.ready
    c.in_ok-more.ensures
    (testable_from (is_testable users after) (numbers_of c.in_ok-ready.ready.items) c.spread.new.marks c.spread.new.marks c.deref.result.now
    c.args.place.ready.items c.deref-2.result.now c.in_ok-more.more.items refl c.deref.ensures.value c.deref-2.ensures.value c.in_ok-ready.ensures)

pub push_body-requires-clause-order : goal.push_body-requires-clause-order
push_body-requires-clause-order c =
    chosen_ordered c.args.self.now c.args.place (on_loop c.args.site.0) c.args.chosen.items c.args.rest.items c.requires.split

pub push_body-requires-clause-rules : goal.push_body-requires-clause-rules
push_body-requires-clause-rules c =
    chosen_rules c.args.self.now c.args.place (on_loop c.args.site.0) c.args.chosen.items c.args.rest.items c.requires.split

pub returns : goal.returns
returns c =
    let set = c.args.self.now in
    let mid = scope_of set c.emit.new.known in
    let last = scope_of set c.release-2.new.self in
    let copy = copy_scope set c.in_ok-last.last c.emit.new.known c.in_ok-last.ensures in
    let end = released_copy (scope_of set c.in_ok-last.last) mid last c.args.site.0 copy (c.in_ok-release-2.ensures.scope set) in
    let first = first_chosen set c.args.place (on_loop c.args.site.0) c.args.chosen.items c.args.rest.items c.requires.split in
    let some : 0 < length c.args.chosen.items = search rules in
    let at : c.index.result.now ≡ get_or c.args.chosen.items 0 0 = c.index.ensures ∙ get_any c.args.chosen.items 0 c.index.result.now 0 some in
    let want = loop_wants set c.args.place c.args.site.0 c.args.chosen.items c.args.rest.items c.requires.split
    (get_or c.args.chosen.items 0 0) first in
    let inner = c.in_ok-enter.ensures.scope one_value (subst (λ (i : ℕ). (rules_in set).at i c.args.site.0 ≡ Some one_value) (sym at) want) in
    moved_loop set c.args.place c.args.chosen.items c.args.rest.items c.args.site c.value.result (scope_of set c.release.new.self) mid
    (scope_of set c.enter.new.known) last (numbers_of c.new-order.result.items) c.emit.new.order.items c.loop_node.result c.args.work.now.items
    c.push_rest.new.work.items c.push_body.new.work.items c.args.nodes.now.items c.push.new.self.items c.requires.set c.requires.split
    (c.in_ok-release.ensures.scope set) c.in_ok-emit.ensures.emits (ap numbers_of c.new-order.ensures.items) c.value.ensures c.loop_node.ensures
    c.in_ok-push.ensures.items end c.in_ok-push_rest.ensures inner c.in_ok-push_body.ensures
