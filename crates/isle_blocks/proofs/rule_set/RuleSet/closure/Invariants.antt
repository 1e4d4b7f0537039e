use Rattle.std.proofs.Common.{length, ◌-◌, ◌≤◌}
use Rattle.isle_trees.proofs.Building.Gathering.{IsClosing}
use Rattle.isle_blocks.specs.Rows.{numbers_of}
use Rattle.isle_blocks.specs.Inside.Trees.Builder.{rules_in}
use Rattle.isle_blocks.proofs.rule_set.RuleSet.closure.Given as goal

abbrev pub invariant-parts : goal.invariant-parts
invariant-parts l = record {
  closing : IsClosing (rules_in l.self) (numbers_of l.sites) l.fn.marks l.marks (numbers_of l.list.items) l.at;
  ends : l.at ≤ length l.list.items;
}

abbrev pub decreases-parts : goal.decreases-parts
decreases-parts l = length l.fn.marks - l.at
