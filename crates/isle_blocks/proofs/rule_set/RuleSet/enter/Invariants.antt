use Rattle.std.proofs.Common.{◌≡◌, Some, take}
use Rattle.isle_trees.specs.Rules.{Want}
use Rattle.isle_trees.proofs.Building.Enter.{Entering}
use Rattle.isle_blocks.specs.declared.constraint.Constraint.{Constraint}
use Rattle.isle_blocks.specs.Rows.{numbers_of}
use Rattle.isle_blocks.specs.Inside.Trees.Builder.{rules_in, scope_of}
use Rattle.isle_blocks.specs.Inside.Trees.Work.{IsSameKnown}
use Rattle.isle_blocks.proofs.rule_set.RuleSet.enter.Given as goal

abbrev pub invariant-loop-made : goal.invariant-loop-made
invariant-loop-made l = record {
  entering : (w : Want Constraint) → (rules_in l.self).at l.rule l.site.0 ≡ Some w
      → Entering (rules_in l.self) l.site.0 w (take l.made-index (numbers_of l.made-items)) (scope_of l.self l.initial.known)
      (scope_of l.self l.known);
  same : IsSameKnown l.initial.known l.known;
}
