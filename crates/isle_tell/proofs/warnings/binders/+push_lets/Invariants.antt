use Rattle.std.proofs.Common.{List}
use Rattle.std.specs.List.{All}
use Rattle.isle_ast.specs.Positions.Files.{SourceFile}
use Rattle.isle_ast.specs.Positions.Printable.{IsPrintablePos}
use Rattle.isle_ast.specs.Positions.DefPositions.{IdentAt, ExprAt, LetDefAt}
use Rattle.isle_tell.proofs.warnings.binders.+push_lets.Given as goal

abbrev pub invariant-push_lets_of_all-loop-expr : goal.invariant-push_lets_of_all-loop-expr
invariant-push_lets_of_all-loop-expr l =
    (files : List SourceFile) → All (ExprAt (IsPrintablePos files)) l.exprs
    → All (λ name. IdentAt (IsPrintablePos files) name.now) l.initial.lets.items
    → All (λ name. IdentAt (IsPrintablePos files) name.now) l.lets.items

abbrev pub invariant-push_variables-loop-def : goal.invariant-push_variables-loop-def
invariant-push_variables-loop-def l =
    (files : List SourceFile) → All (LetDefAt (IsPrintablePos files)) l.defs
    → All (λ name. IdentAt (IsPrintablePos files) name.now) l.initial.lets.items
    → All (λ name. IdentAt (IsPrintablePos files) name.now) l.lets.items
