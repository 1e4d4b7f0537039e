-- Where a position lies.
use Rattle.std.specs.Prelude.{◌-◌, ◌^◌, ◌<◌, List, length}
use Rattle.isle_ast.specs.Positions.Files.{SourceFile}
use Rattle.isle_ast.specs.declared.pos.Pos.{Pos}

-- a position can be printed: its file is known, and it isn't the greatest number
pub record IsPrintablePos (files : List SourceFile) (pos : Pos) : Type 0 where
  pub known : pos.file < length files
  pub not_greatest : pos.offset < 2 ^ 64 - 1
