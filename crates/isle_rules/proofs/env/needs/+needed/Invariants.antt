use Rattle.std.proofs.Common.{◌≡◌, max, drop}
use Rattle.isle_ast.specs.Trees.PatternShape.{patterns_of}
use Rattle.isle_rules.specs.Readings.Needs.{all_needed}
use Rattle.isle_rules.proofs.env.needs.+needed.Given as goal

abbrev pub invariant-needed_by_all-loop-template : goal.invariant-needed_by_all-loop-template
invariant-needed_by_all-loop-template l =
    max l.most (all_needed (patterns_of (drop l.template-index l.templates))) ≡ all_needed (patterns_of l.templates)
