use Rattle.std.proofs.Common.{◌≡◌, drop}
use Rattle.isle_ast.specs.Trees.PatternShape.{patterns_of}
use Rattle.isle_ast.specs.Trees.TreeCalls.{has_macro_args}
use Rattle.isle_ast.proofs.ast.+has_macro_arg.Given as goal

abbrev pub invariant-has_macro_args-loop-pattern : goal.invariant-has_macro_args-loop-pattern
invariant-has_macro_args-loop-pattern l =
    has_macro_args (patterns_of (drop l.pattern-index l.patterns)) ≡ has_macro_args (patterns_of l.patterns)
