use Rattle.std.proofs.Common.{◌≡◌}
use Rattle.std.specs.List.{filter}
use Rattle.isle_trees.specs.Rules.{below}
use Rattle.isle_blocks.specs.Rows.{numbers_of}
use Rattle.isle_blocks.specs.Inside.Trees.Builder.{scope_of, users_at}
use Rattle.isle_blocks.specs.Inside.Trees.Marking.{is_testable}
use Rattle.isle_blocks.proofs.rule_set.RuleSet.all_ready.Given as goal

abbrev pub invariant-loop-site : goal.invariant-loop-site
invariant-loop-site l =
    numbers_of l.ready.items ≡ filter (is_testable (users_at l.index) (scope_of l.self l.known) l.marks) (below l.site)
