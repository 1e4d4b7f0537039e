use Rattle.std.proofs.Common.{List}
use Rattle.std.specs.List.{All}
use Rattle.isle_ast.specs.Positions.Files.{SourceFile}
use Rattle.isle_ast.specs.Positions.Printable.{IsPrintablePos}
use Rattle.isle_ast.specs.Positions.DefPositions.{IdentAt}
use Rattle.isle_tell.specs.Inside.Warnings.{WarningAt}
use Rattle.isle_tell.proofs.warnings.extractors.warn_of_args.Given as goal

abbrev pub invariant-loop-arg : goal.invariant-loop-arg
invariant-loop-arg l = (files : List SourceFile) → All (IdentAt (IsPrintablePos files)) l.args
    → All (WarningAt (IsPrintablePos files)) l.initial.found.items → All (WarningAt (IsPrintablePos files)) l.found.items
