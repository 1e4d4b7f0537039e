use Rattle.std.proofs.Common.{List}
use Rattle.std.specs.List.{All}
use Rattle.isle_ast.specs.Positions.Files.{SourceFile}
use Rattle.isle_ast.specs.Positions.Printable.{IsPrintablePos}
use Rattle.isle_ast.specs.Positions.DefPositions.{DefAt, RuleAt}
use Rattle.isle_tell.proofs.warnings.variables.rules_in.Given as goal

abbrev pub invariant-loop-def : goal.invariant-loop-def
invariant-loop-def l = (files : List SourceFile) → All (DefAt (IsPrintablePos files)) l.defs
    → All (λ rule. RuleAt (IsPrintablePos files) rule.now) l.rules.items
