use Rattle.std.proofs.Common.{List}
use Rattle.std.specs.List.{All}
use Rattle.isle_ast.specs.Positions.Files.{SourceFile}
use Rattle.isle_ast.specs.Positions.Printable.{IsPrintablePos}
use Rattle.isle_ast.specs.Positions.DefPositions.{IfLetAt}
use Rattle.isle_tell.specs.Inside.Warnings.{WarningAt}
use Rattle.isle_tell.proofs.warnings.conditions.warn_of_conditions.Given as goal

abbrev pub invariant-loop-i : goal.invariant-loop-i
invariant-loop-i l = (files : List SourceFile) → All (IfLetAt (IsPrintablePos files)) l.iflets
    → All (WarningAt (IsPrintablePos files)) l.initial.found.items → All (WarningAt (IsPrintablePos files)) l.found.items
