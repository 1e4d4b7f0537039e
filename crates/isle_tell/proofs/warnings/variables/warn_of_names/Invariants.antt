use Rattle.std.proofs.Common.{List}
use Rattle.std.specs.List.{All}
use Rattle.isle_ast.specs.Positions.Files.{SourceFile}
use Rattle.isle_ast.specs.Positions.Printable.{IsPrintablePos}
use Rattle.isle_tell.specs.Inside.Warnings.{NameAt, WarningAt}
use Rattle.isle_tell.proofs.warnings.variables.warn_of_names.Given as goal

abbrev pub invariant-loop-name : goal.invariant-loop-name
invariant-loop-name l = (files : List SourceFile) → All (NameAt (IsPrintablePos files)) l.names
    → All (WarningAt (IsPrintablePos files)) l.initial.found.items → All (WarningAt (IsPrintablePos files)) l.found.items
