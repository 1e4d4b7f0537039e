use Rattle.std.proofs.Common.{◌≡◌, ℕ, List, Some, sym, subst, ◌∙◌, refl, get_or}
use Rattle.std.specs.Option.{IsSome}
use Rattle.isle_trees.specs.Rules.{has}
use Rattle.isle_trees.specs.Scopes.{Scope}
use Rattle.isle_trees.specs.Search.{AreSound, IsRun}
use Rattle.isle_trees.proofs.Building.Enter.{same_path_self, sound_inside}
use Rattle.isle_trees.proofs.Building.Lists.{elem_at, get_any}
use Rattle.isle_blocks.specs.declared.constraint.Constraint.{Constraint}
use Rattle.isle_blocks.specs.Rows.{numbers_of}
use Rattle.isle_blocks.specs.Inside.Trees.Builder.{rules_in, scope_of, users_at}
use Rattle.isle_blocks.proofs.Trees.Marking.Spreading.{marked_inside}
use Rattle.isle_blocks.specs.Inside.Trees.Marking.{is_testable}
use Rattle.isle_blocks.proofs.Trees.Marking.Ready.{ready_inside, testable_from}
use Rattle.isle_blocks.proofs.Trees.Moving.{moved_arm}
use Rattle.isle_blocks.proofs.Trees.Stepping.{run_left, run_rules, test_wanted, wanted_test}
use Rattle.isle_blocks.proofs.rule_set.RuleSet.advance_arms.Goals as goal

pub unwrap-test-requires : goal.unwrap-test-requires
unwrap-test-requires c =
    let set = c.args.self.now in
    let group = c.args.place.left.items in
    let fan = c.requires.fan in
    let at : c.index-rule.result.now ≡ get_or group c.args.start 0 = c.index-rule.ensures ∙ get_any group
    c.args.start c.index-rule.result.now 0 fan.more in
    let want = fan.arms.want (get_or group c.args.start 0) (elem_at group c.args.start 0 fan.more) in
    let wanted : (rules_in set).at c.index-rule.result.now c.args.site.0 ≡ Some (has want.0) =
    subst (λ (i : ℕ). (rules_in set).at i c.args.site.0 ≡ Some (has want.0)) (sym at) want.1 in
    subst IsSome (sym (c.test_at.ensures ∙ test_wanted set c.index-rule.result.now c.args.site.0 want.0 wanted)) refl

pub enter-requires-clause-wants : goal.enter-requires-clause-wants
enter-requires-clause-wants c =
    let set = c.args.self.now in
    let group = c.args.place.left.items in
    let fan = c.requires.fan in
    let at : c.index-rule.result.now ≡ get_or group c.args.start 0 = c.index-rule.ensures ∙ get_any group
    c.args.start c.index-rule.result.now 0 fan.more in
    let want = fan.arms.want (get_or group c.args.start 0) (elem_at group c.args.start 0 fan.more) in
    let wanted : (rules_in set).at c.index-rule.result.now c.args.site.0 ≡ Some (has want.0) =
    subst (λ (i : ℕ). (rules_in set).at i c.args.site.0 ≡ Some (has want.0)) (sym at) want.1 in
    (has want.0, wanted)

pub spread-requires-clause-sound : goal.spread-requires-clause-sound
spread-requires-clause-sound c =
    let set = c.args.self.now in
    let group = c.args.place.left.items in
    let fan = c.requires.fan in
    let test : (rules_in set).at c.index-rule.result.now c.args.site.0 ≡ Some (has c.unwrap-test.result) =
    wanted_test set c.index-rule.result.now c.args.site.0 c.unwrap-test.result (sym c.test_at.ensures ∙ c.unwrap-test.ensures) in
    let inner = c.in_ok-enter.ensures.scope (has c.unwrap-test.result) test in
    let R = rules_in set in
    let sc = scope_of set c.args.place.known in
    let S : Scope Constraint → Type 0 = λ x. AreSound R x c.args.place.marks in
    subst S (sym inner)
    (sound_inside R sc c.args.site.0 (has c.unwrap-test.result) c.args.place.marks fan.arms.untested fan.arms.marked.sound)

pub push_body-requires-clause-marked : goal.push_body-requires-clause-marked
push_body-requires-clause-marked c =
    let set = c.args.self.now in
    let R = rules_in set in
    let sc = scope_of set c.args.place.known in
    let test : (rules_in set).at c.index-rule.result.now c.args.site.0 ≡ Some (has c.unwrap-test.result) =
    wanted_test set c.index-rule.result.now c.args.site.0 c.unwrap-test.result (sym c.test_at.ensures ∙ c.unwrap-test.ensures) in
    let inner = c.in_ok-enter.ensures.scope (has c.unwrap-test.result) test in
    let P : List ℕ → Type 0 = λ l. IsRun R c.args.site.0 c.args.start l c.unwrap-test.result c.in_ok-one.one.rules.items c.in_ok-one.one.end in
    let one = subst P c.deref.ensures.value c.in_ok-one.ensures in
    let spread = c.in_ok-more.ensures in
    marked_inside R c.args.place.left.items c.in_ok-one.one.rules.items sc sc (scope_of set c.enter.new.known) c.args.site.0
    (has c.unwrap-test.result)
    c.args.place.marks c.spread.new.marks _ (same_path_self sc) inner
    (run_left set c.args.site.0 c.args.start c.unwrap-test.result c.args.place.left.items c.in_ok-one.one.rules.items one.run)
    c.requires.fan.arms.marked spread

pub push_body-requires-clause-ready : goal.push_body-requires-clause-ready
push_body-requires-clause-ready c =
    let set = c.args.self.now in
    let R = rules_in set in
    let sc = scope_of set c.args.place.known in
    let test : (rules_in set).at c.index-rule.result.now c.args.site.0 ≡ Some (has c.unwrap-test.result) =
    wanted_test set c.index-rule.result.now c.args.site.0 c.unwrap-test.result (sym c.test_at.ensures ∙ c.unwrap-test.ensures) in
    let inner = c.in_ok-enter.ensures.scope (has c.unwrap-test.result) test in
    let P : List ℕ → Type 0 = λ l. IsRun R c.args.site.0 c.args.start l c.unwrap-test.result c.in_ok-one.one.rules.items c.in_ok-one.one.end in
    let one = subst P c.deref.ensures.value c.in_ok-one.ensures in
    let users = users_at c.args.index.now in
    let after = scope_of set c.enter.new.known in
    ready_inside R users c.args.place.left.items c.in_ok-one.one.rules.items sc sc after
    c.args.site.0 (has c.unwrap-test.result) c.args.place.marks c.spread.new.marks (numbers_of c.in_ok-more.more.items)
    (numbers_of c.args.place.ready.items) (numbers_of c.in_ok-ready.ready.items) c.requires.index.is.used (same_path_self sc) inner
    (run_left set c.args.site.0 c.args.start c.unwrap-test.result c.args.place.left.items c.in_ok-one.one.rules.items one.run)
    c.requires.fan.arms.ready
    c.in_ok-more.ensures
    (testable_from (is_testable users after) (numbers_of c.in_ok-ready.ready.items) c.spread.new.marks c.spread.new.marks c.deref-2.result.now
    c.args.place.ready.items c.deref-3.result.now c.in_ok-more.more.items refl c.deref-2.ensures.value c.deref-3.ensures.value c.in_ok-ready.ensures)

pub push_body-requires-clause-rules : goal.push_body-requires-clause-rules
push_body-requires-clause-rules c =
    let set = c.args.self.now in
    let R = rules_in set in
    let P : List ℕ → Type 0 = λ l. IsRun R c.args.site.0 c.args.start l c.unwrap-test.result c.in_ok-one.one.rules.items c.in_ok-one.one.end in
    let one = subst P c.deref.ensures.value c.in_ok-one.ensures in
    run_rules set c.args.site.0 c.args.start c.unwrap-test.result c.args.place.left.items c.in_ok-one.one.rules.items
    one.run c.requires.fan.arms.rules

pub returns : goal.returns
returns c =
    let set = c.args.self.now in
    let group = c.args.place.left.items in
    let fan = c.requires.fan in
    let test : (rules_in set).at c.index-rule.result.now c.args.site.0 ≡ Some (has c.unwrap-test.result) =
    wanted_test set c.index-rule.result.now c.args.site.0 c.unwrap-test.result (sym c.test_at.ensures ∙ c.unwrap-test.ensures) in
    let inner = c.in_ok-enter.ensures.scope (has c.unwrap-test.result) test in
    let R = rules_in set in
    let P : List ℕ → Type 0 = λ l. IsRun R c.args.site.0 c.args.start l c.unwrap-test.result c.in_ok-one.one.rules.items c.in_ok-one.one.end in
    moved_arm set c.args.place c.args.site c.args.start c.unwrap-test.result c.in_ok-one.one.rules.items c.in_ok-one.one.end
    (scope_of set c.enter.new.known)
    c.in_ok-bindings.bindings.items c.arm_node.result c.args.work.now.items c.push_more.new.work.items c.push_body.new.work.items
    c.args.nodes.now.items
    c.push.new.self.items c.requires.set fan (subst P c.deref.ensures.value c.in_ok-one.ensures) c.in_ok-bindings.ensures c.arm_node.ensures
    c.in_ok-push.ensures.items c.in_ok-push_more.ensures inner c.in_ok-push_body.ensures
