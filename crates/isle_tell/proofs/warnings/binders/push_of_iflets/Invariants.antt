use Rattle.std.proofs.Common.{List}
use Rattle.std.specs.List.{All}
use Rattle.isle_ast.specs.Positions.Files.{SourceFile}
use Rattle.isle_ast.specs.Positions.Printable.{IsPrintablePos}
use Rattle.isle_ast.specs.Positions.DefPositions.{IfLetAt}
use Rattle.isle_tell.specs.Inside.Warnings.{NameAt}
use Rattle.isle_tell.proofs.warnings.binders.push_of_iflets.Given as goal

abbrev pub invariant-loop-iflet : goal.invariant-loop-iflet
invariant-loop-iflet l =
    (files : List SourceFile) → All (IfLetAt (IsPrintablePos files)) l.iflets → All (NameAt (IsPrintablePos files)) l.initial.names.items
    → All (NameAt (IsPrintablePos files)) l.names.items
