use Rattle.std.proofs.Common.{◌≡◌, ◌+◌, ◌*◌, map, drop}
use Rattle.std.specs.Option.{option_map}
use Rattle.isle_ast.specs.Trees.PatternShape.{pattern_of, patterns_of}
use Rattle.isle_ast.specs.Trees.Templates.{all_filled}
use Rattle.isle_ast.proofs.Trees.Templates.{before}
use Rattle.isle_ast.proofs.ast.+substitution.Given as goal

abbrev pub decreases-Pattern::subst_macro_args : goal.decreases-Pattern::subst_macro_args
decreases-Pattern::subst_macro_args l = 3 * goal.size-Pattern::subst_macro_args l + 1

abbrev pub decreases-Pattern::subst_innermost : goal.decreases-Pattern::subst_innermost
decreases-Pattern::subst_innermost l = 3 * goal.size-Pattern::subst_innermost l

abbrev pub decreases-macros::subst_all : goal.decreases-macros::subst_all
decreases-macros::subst_all l = 3 * goal.size-macros::subst_all l + 2

abbrev pub invariant-macros::subst_all-loop-pattern : goal.invariant-macros::subst_all-loop-pattern
invariant-macros::subst_all-loop-pattern l =
    all_filled (map pattern_of l.macro_args) (patterns_of l.patterns)
    ≡ option_map (before (map pattern_of l.all.items)) (all_filled (map pattern_of l.macro_args) (patterns_of (drop l.pattern-index l.patterns)))
