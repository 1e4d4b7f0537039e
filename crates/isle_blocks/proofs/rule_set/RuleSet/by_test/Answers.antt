use Rattle.std.proofs.Common.{length, rules, sym}
use Rattle.std.proofs.lemmas.Fn.{always_returns_same}
use Rattle.std.proofs.lemmas.List.Sorted.{sum_by-IsPermutation}
use Rattle.isle_trees.specs.Search.{comes_first}
use Rattle.isle_trees.specs.Rules.{below}
use Rattle.isle_trees.proofs.Building.Runs.{first_orders, ordered_grouped, ordered_tests}
use Rattle.isle_blocks.specs.Inside.Trees.Builder.{rules_in}
use Rattle.isle_blocks.proofs.rule_set.RuleSet.by_test.Goals as goal

pub returns-clause-same : goal.returns-clause-same
returns-clause-same c f = sym (sum_by-IsPermutation f c.args.rules.items c.sort_by.new.self.items c.sort_by.ensures.permutation)

pub returns-clause-grouped : goal.returns-clause-grouped
returns-clause-grouped c =
    let set = c.args.self.now in
    let R = rules_in set in
    let k = ordered_tests R (length set.sites) (below (length set.rules)) c.requires.set in
    ordered_grouped R c.args.site.0 c.args.rules.items c.sort_by.new.self.items k c.requires.order
    (λ f. sym (sum_by-IsPermutation f c.args.rules.items c.sort_by.new.self.items c.sort_by.ensures.permutation))
    (c.in_ok-sort_by.ensures.sorted (comes_first R c.args.site.0) (first_orders R c.args.site.0 k)
    (always_returns_same _ _ _ (λ a r g called. search rules)))
