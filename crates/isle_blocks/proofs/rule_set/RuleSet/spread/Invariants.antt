use Rattle.std.proofs.Common.{length, ◌-◌, ◌≤◌}
use Rattle.isle_blocks.specs.Rows.{numbers_of}
use Rattle.isle_blocks.specs.Inside.Trees.Builder.{rules_in, scope_of}
use Rattle.isle_blocks.proofs.Trees.Marking.Spreading.{IsSpreading}
use Rattle.isle_blocks.proofs.rule_set.RuleSet.spread.Given as goal

abbrev pub invariant-spreading : goal.invariant-spreading
invariant-spreading l = record {
  spreading : IsSpreading (rules_in l.self) (scope_of l.self l.known) l.fn.site.0 l.fn.marks l.marks (numbers_of l.list.items) l.at;
  ends : l.at ≤ length l.list.items;
}

abbrev pub decreases-spreading : goal.decreases-spreading
decreases-spreading l = length l.fn.marks - l.at
