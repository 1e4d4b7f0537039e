use Rattle.std.proofs.Common.{◌≡◌, ◌<◌, ◌≤◌, ℕ, List, Some, ap, sym, subst, ◌∙◌, refl, length, get_or, slice_get, arith, rules}
use Rattle.std.proofs.lemmas.Option.{slice_get-get_or}
use Rattle.isle_trees.specs.Builds.{BindsEach}
use Rattle.isle_trees.specs.Rules.{Elem, rights}
use Rattle.isle_trees.proofs.Building.Lists.{elem_at, elem_below}
use Rattle.isle_blocks.specs.declared.rule.Rule.{Rule}
use Rattle.isle_blocks.specs.declared.serializer.node.Node.{Node}
use Rattle.isle_blocks.specs.Rows.{numbers_of}
use Rattle.isle_blocks.specs.Trees.Nodes.{given, put}
use Rattle.isle_blocks.specs.Inside.Trees.Builder.{rules_in, scope_of}
use Rattle.isle_blocks.specs.Inside.Trees.Work.{IsOfRule}
use Rattle.isle_blocks.proofs.Trees.Binding.{rights_are}
use Rattle.isle_blocks.proofs.Trees.Working.{given_all, given_more}
use Rattle.isle_blocks.proofs.rule_set.RuleSet.returns.Goals as goal

pub bounds-rules-number : goal.bounds-rules-number
bounds-rules-number c =
    let l : get_or c.args.left.now c.loop-number.number-index 0 < length c.args.self.now.rules =
    c.requires.rules _ (elem_at c.args.left.now c.loop-number.number-index 0 c.loop-number-test.true) in
    let e : length c.rules.result.now ≡ length c.args.self.now.rules = ap length c.rules.ensures in
    omega (arith, l, e)

pub offset_bounds-rules-number : goal.offset_bounds-rules-number
offset_bounds-rules-number c =
    let l : get_or c.args.left.now c.loop-number.number-index 0 < length c.args.self.now.rules =
    c.requires.rules _ (elem_at c.args.left.now c.loop-number.number-index 0 c.loop-number-test.true) in
    let e : length c.rules.result.now ≡ length c.args.self.now.rules = ap length c.rules.ensures in
    let t = c.rules.type_inv in
    omega (arith, l, e, t)

pub return_order-requires-clause-below : goal.return_order-requires-clause-below
return_order-requires-clause-below c x m =
    let set = c.args.self.now in
    let l : get_or c.args.left.now c.loop-number.number-index 0 < length c.args.self.now.rules =
    c.requires.rules _ (elem_at c.args.left.now c.loop-number.number-index 0 c.loop-number-test.true) in
    let i = get_or c.args.left.now c.loop-number.number-index 0 in
    let rule = c.index-rules-number.result in
    let is : slice_get set.rules i ≡ Some rule =
    subst (λ (y : List Rule). slice_get y i ≡ Some rule) c.rules.ensures
    (slice_get-get_or c.rules.result.now i rule (subst (λ (n : ℕ). i < n) (sym (ap length c.rules.ensures)) l) ∙ ap Some
    (sym c.index-rules-number.is)) in
    c.requires.set.rights i x (elem_below i (length set.rules) l) (subst (λ (y : List ℕ). Elem x y) (sym (rights_are set i rule is)) m)

pub loop-number-preserved : goal.loop-number-preserved
loop-number-preserved c =
    let set = c.args.self.now in
    let R = rules_in set in
    let l : get_or c.args.left.now c.loop-number.number-index 0 < length c.args.self.now.rules =
    c.requires.rules _ (elem_at c.args.left.now c.loop-number.number-index 0 c.loop-number-test.true) in
    let i = get_or c.args.left.now c.loop-number.number-index 0 in
    let rule = c.index-rules-number.result in
    let is : slice_get set.rules i ≡ Some rule =
    subst (λ (y : List Rule). slice_get y i ≡ Some rule) c.rules.ensures
    (slice_get-get_or c.rules.result.now i rule (subst (λ (n : ℕ). i < n) (sym (ap length c.rules.ensures)) l) ∙ ap Some
    (sym c.index-rules-number.is)) in
    let now = scope_of set c.loop-number.known in
    let after = scope_of set c.return_order.new.known in
    let binds : BindsEach R now (rights R i) (numbers_of c.in_ok-order.order.items) after =
    subst (λ (y : List ℕ). BindsEach R now y (numbers_of c.in_ok-order.order.items) after) (sym (rights_are set i rule is))
    c.in_ok-order.ensures.each in
    record {
      size = c.in_ok-order.ensures.known.emitted ∙ c.loop-number.invariant.size;
      given = given_more set c.args.left.now c.loop-number.number-index (scope_of set c.args.known.now) now after
          (numbers_of c.in_ok-order.order.items)
          c.return_node.result c.args.nodes.now.items c.loop-number.nodes.items c.push.new.self.items c.requires.order c.loop-number-test.true binds
          (λ pieces. subst (λ (n : Node). put n pieces ≡ given (numbers_of c.in_ok-order.order.items) i pieces) (sym c.return_node.ensures) refl)
          (subst (IsOfRule set) (sym c.return_node.ensures) (rule, is, refl, refl)) c.in_ok-push.ensures.items c.loop-number.invariant.given;
    }

pub returns : goal.returns
returns c =
    let set = c.args.self.now in
    let l : length c.args.left.now ≤ c.loop-number.number-index = search rules in
    given_all set c.args.left.now c.loop-number.number-index (scope_of set c.args.known.now) (scope_of set c.loop-number.known) c.args.nodes.now.items
    c.loop-number.nodes.items c.push-2.new.self.items l c.in_ok-push-2.ensures.items c.loop-number.invariant.given
