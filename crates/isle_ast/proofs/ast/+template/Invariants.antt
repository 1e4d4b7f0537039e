use Rattle.std.proofs.Common.{◌≡◌, ◌+◌, ◌*◌, ◌≤◌, false, map, drop}
use Rattle.isle_ast.specs.declared.ast.BoxedPattern.TheDeep.{size-Pattern}
use Rattle.isle_ast.specs.Trees.Chain.{bound}
use Rattle.isle_ast.specs.Trees.PatternShape.{pattern_of, patterns_of}
use Rattle.isle_ast.specs.Trees.TreeCalls.{has_macro_arg, has_macro_args}
use Rattle.isle_ast.specs.Trees.Templates.{template_tree, template_trees}
use Rattle.isle_ast.proofs.Trees.Templates.{before}
use Rattle.isle_ast.proofs.ast.+template.Given as goal

abbrev pub decreases-Pattern::make_macro_template : goal.decreases-Pattern::make_macro_template
decreases-Pattern::make_macro_template l = 3 * goal.size-Pattern::make_macro_template l + 1

abbrev pub decreases-Pattern::make_innermost_template : goal.decreases-Pattern::make_innermost_template
decreases-Pattern::make_innermost_template l = 3 * goal.size-Pattern::make_innermost_template l

abbrev pub decreases-macros::make_macro_templates : goal.decreases-macros::make_macro_templates
decreases-macros::make_macro_templates l = 3 * goal.size-macros::make_macro_templates l + 2

abbrev pub invariant-Pattern::make_macro_template-loop-at :
    goal.invariant-Pattern::make_macro_template-loop-at
invariant-Pattern::make_macro_template-loop-at l = record {
  made : bound l.names.items (template_tree l.macro_args (pattern_of l.at)) ≡ template_tree l.macro_args (pattern_of l.self);
  free : has_macro_arg (pattern_of l.at) ≡ false;
  no_larger : size-Pattern l.at ≤ size-Pattern l.self;
}

abbrev pub invariant-macros::make_macro_templates-loop-pattern :
    goal.invariant-macros::make_macro_templates-loop-pattern
invariant-macros::make_macro_templates-loop-pattern l = record {
  free : has_macro_args (patterns_of (drop l.pattern-index l.patterns)) ≡ false;
  made : template_trees l.macro_args (patterns_of l.patterns)
      ≡ before (map pattern_of l.all.items) (template_trees l.macro_args (patterns_of (drop l.pattern-index l.patterns)));
}
