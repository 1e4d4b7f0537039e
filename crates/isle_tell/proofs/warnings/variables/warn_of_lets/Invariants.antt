use Rattle.std.proofs.Common.{List}
use Rattle.std.specs.List.{All}
use Rattle.isle_ast.specs.Positions.Files.{SourceFile}
use Rattle.isle_ast.specs.Positions.Printable.{IsPrintablePos}
use Rattle.isle_ast.specs.Positions.DefPositions.{IdentAt}
use Rattle.isle_tell.specs.Inside.Warnings.{WarningAt}
use Rattle.isle_tell.proofs.warnings.variables.warn_of_lets.Given as goal

abbrev pub invariant-loop-i : goal.invariant-loop-i
invariant-loop-i l = (files : List SourceFile) → All (λ name. IdentAt (IsPrintablePos files) name.now) l.lets
    → All (WarningAt (IsPrintablePos files)) l.initial.found.items → All (WarningAt (IsPrintablePos files)) l.found.items
