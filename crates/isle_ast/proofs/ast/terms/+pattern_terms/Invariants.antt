use Rattle.std.proofs.Common.{take}
use Rattle.std.specs.List.{FoldsTo}
use Rattle.isle_ast.specs.Trees.PatternShape.{patterns_of}
use Rattle.isle_ast.specs.Trees.Terms.{patterns_terms, CalledAtTerm}
use Rattle.isle_ast.proofs.ast.terms.+pattern_terms.Given as goal

abbrev pub invariant-hand_patterns-loop-pattern : goal.invariant-hand_patterns-loop-pattern
invariant-hand_patterns-loop-pattern g l = record {
  callable : goal.F-IsAlwaysCallable g l.f;
  called : FoldsTo (CalledAtTerm g.F.FnMut) l.initial.f (patterns_terms (patterns_of (take l.pattern-index l.patterns))) l.f;
}
