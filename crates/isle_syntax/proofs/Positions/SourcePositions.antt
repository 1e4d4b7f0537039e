-- Positions of a known file's text can be printed.
use Rattle.std.proofs.Common.{◌^◌, ◌<◌, List, length, arith}
use Rattle.std.specs.List.{All}
use Rattle.isle_ast.specs.Positions.Files.{SourceFile}
use Rattle.isle_ast.specs.Positions.Printable.{IsPrintablePos}
use Rattle.isle_ast.specs.Positions.DefPositions.{DefAt}
use Rattle.isle_ast.specs.Errors.{RefusalAt}
use Rattle.isle_ast.specs.declared.pos.Pos.{Pos}
use Rattle.isle_ast.specs.declared.error.Error.{Error}
use Rattle.isle_ast.specs.declared.refusal.Refusal.{Refusal}
use Rattle.isle_ast.specs.declared.ast.Def.{Def}
use Rattle.isle_ast.proofs.Positions.TreePositions.{defs_at_weaker, refusal_at_weaker}
use Rattle.isle_syntax.specs.Tokens.RemainingTokens.{Source, IsIn}

-- a position of a known file whose text isn't too long can be printed
pub place_from_source : (files : List SourceFile) (source : Source) → source.file < length files → source.size < 2 ^ 63 → (pos : Pos)
    → IsIn source pos → IsPrintablePos files pos
place_from_source files source known small pos h =
    record { known = omega arith; not_greatest = omega arith }

-- what was parsed of such a file's text
pub places_from_source : (files : List SourceFile) (source : Source) (defs : List Def) → source.file < length files → source.size < 2 ^ 63
    → All (DefAt (IsIn source)) defs → All (DefAt (IsPrintablePos files)) defs
places_from_source files source defs known small h =
    defs_at_weaker (IsIn source) (IsPrintablePos files) (place_from_source files source known small) defs h
