use Rattle.std.proofs.Common.{◌≤◌, List}
use Rattle.std.specs.List.{All}
use Rattle.isle_ast.specs.Positions.Files.{SourceFile}
use Rattle.isle_ast.specs.Positions.Printable.{IsPrintablePos}
use Rattle.isle_ast.specs.Positions.DefPositions.{PatternAt}
use Rattle.isle_ast.specs.Trees.PatternTree.{pattern_height}
use Rattle.isle_ast.specs.Trees.PatternShape.{pattern_of}
use Rattle.isle_tell.specs.Inside.Warnings.{NameAt}
use Rattle.isle_tell.proofs.warnings.binders.+push_names.Given as goal

abbrev pub invariant-push_names-loop-at : goal.invariant-push_names-loop-at
invariant-push_names-loop-at l = record {
  below : pattern_height (pattern_of l.at) ≤ pattern_height (pattern_of l.pattern);
  placed : (files : List SourceFile) → PatternAt (IsPrintablePos files) l.pattern → All (NameAt (IsPrintablePos files)) l.initial.names.items
      → PatternAt (IsPrintablePos files) l.at × All (NameAt (IsPrintablePos files)) l.names.items;
}

abbrev pub invariant-push_all-loop-pattern : goal.invariant-push_all-loop-pattern
invariant-push_all-loop-pattern l =
    (files : List SourceFile) → All (PatternAt (IsPrintablePos files)) l.patterns → All (NameAt (IsPrintablePos files)) l.initial.names.items
    → All (NameAt (IsPrintablePos files)) l.names.items
