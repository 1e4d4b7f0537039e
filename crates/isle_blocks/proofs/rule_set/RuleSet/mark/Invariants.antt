use Rattle.std.proofs.Common.{take}
use Rattle.isle_blocks.specs.Rows.{numbers_of}
use Rattle.isle_trees.proofs.Building.Marks.{Marking}
use Rattle.isle_blocks.specs.Inside.Trees.Builder.{rules_in, scope_of}
use Rattle.isle_blocks.proofs.rule_set.RuleSet.mark.Given as goal

abbrev pub invariant-loop-site : goal.invariant-loop-site
invariant-loop-site l = Marking (rules_in l.self) (scope_of l.self l.known) (take l.site-index (numbers_of l.sites)) l.initial.marks l.marks
