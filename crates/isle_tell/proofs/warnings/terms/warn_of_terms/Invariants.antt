use Rattle.std.proofs.Common.{List}
use Rattle.std.specs.List.{All}
use Rattle.isle_ast.specs.Positions.Files.{SourceFile}
use Rattle.isle_ast.specs.Positions.Printable.{IsPrintablePos}
use Rattle.isle_ast.specs.Positions.DefPositions.{DefAt}
use Rattle.isle_tell.specs.Inside.Warnings.{WarningAt}
use Rattle.isle_tell.proofs.warnings.terms.warn_of_terms.Given as goal

abbrev pub invariant-loop-def : goal.invariant-loop-def
invariant-loop-def l = (files : List SourceFile) → All (DefAt (IsPrintablePos files)) l.defs
    → All (WarningAt (IsPrintablePos files)) l.initial.found.items → All (WarningAt (IsPrintablePos files)) l.found.items
