-- Source files as contracts see them.
use Rattle.std.specs.Prelude.{ℕ, List, ◌++◌, String, string_bytes, codes}
use Rattle.std.specs.Fmt.{decimal}
use Rattle.std.specs.Global.{Global}
use Rattle.isle_ast.specs.Positions.Lines.{line_number, column_number}

-- the bytes of a file's name and of its text
pub record SourceFile : Type 0 where
  pub name : List ℕ
  pub text : List ℕ

-- the file of a name and a text
abbrev pub source_file : String Global × String Global → SourceFile
source_file pair = record { name = string_bytes pair.0; text = string_bytes pair.1 }

-- `NAME line N` for an offset of a file
abbrev pub named_line : SourceFile → ℕ → List ℕ
named_line file offset = file.name ++ (codes " line " ++ decimal (line_number file.text offset))

-- `NAME:LINE:COLUMN` for an offset of a file
abbrev pub named_place : SourceFile → ℕ → List ℕ
named_place file offset = file.name ++ (codes ":" ++ (decimal (line_number file.text offset)
    ++ (codes ":" ++ decimal (column_number file.text offset))))
