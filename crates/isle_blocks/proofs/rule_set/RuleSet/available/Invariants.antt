use Rattle.std.proofs.Common.{take, length}
use Rattle.isle_trees.proofs.Building.Marks.{Group}
use Rattle.isle_blocks.specs.Inside.Trees.Builder.{rules_in, scope_of}
use Rattle.isle_blocks.proofs.rule_set.RuleSet.available.Given as goal

abbrev pub invariant-loop-rule : goal.invariant-loop-rule
invariant-loop-rule l = Group (rules_in l.self) (scope_of l.self l.known) (take l.rule-index l.left) (length l.self.sites) l.marks
