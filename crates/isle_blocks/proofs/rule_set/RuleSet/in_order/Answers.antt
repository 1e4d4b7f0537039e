use Rattle.std.proofs.Common.{rules, sym}
use Rattle.std.proofs.lemmas.Fn.{always_returns_same}
use Rattle.std.proofs.lemmas.List.Sorted.{sum_by-IsPermutation}
use Rattle.isle_trees.specs.Search.{precedes}
use Rattle.isle_trees.proofs.Building.Ordered.{precedes_orders, sorted_in_order}
use Rattle.isle_blocks.specs.Inside.Trees.Builder.{rules_in}
use Rattle.isle_blocks.proofs.rule_set.RuleSet.in_order.Goals as goal

pub returns-clause-same : goal.returns-clause-same
returns-clause-same c f = sym (sum_by-IsPermutation f c.args.left.items c.sort_by.new.self.items c.sort_by.ensures.permutation)

pub returns-clause-order : goal.returns-clause-order
returns-clause-order c =
    let R = rules_in c.args.self.now in
    sorted_in_order R c.args.left.items c.sort_by.new.self.items c.requires
    (λ f. sym (sum_by-IsPermutation f c.args.left.items c.sort_by.new.self.items c.sort_by.ensures.permutation))
    (c.in_ok-sort_by.ensures.sorted (precedes R) (precedes_orders R) (always_returns_same _ _ _ (λ a r g called. search rules)))
