-- What is printed of a world that is refused.
use Rattle.std.specs.Prelude.{ℕ, List, [], ◌++◌, Option, Some, None, String, codes}
use Rattle.std.specs.Global.{Global}
use Rattle.isle_ast.specs.Positions.Files.{SourceFile, source_file, named_place}
use Rattle.isle_program.specs.declared.program.Program.{Program}
use Rattle.isle_values.specs.declared.worlds.reading.WorldFault.{WorldFault}
use Rattle.isle_values.specs.declared.worlds.reading.WorldFault.TheVariants.{X1, X2, X3, X4, X5, X6, Memory}
use Rattle.isle_program.specs.Programs.{term_name}

-- the name and the text of a world's file; where none is given an empty text named `world`
abbrev pub world_file : Option (String Global × String Global) → SourceFile
world_file None = record { name = codes "world"; text = [] }
world_file (Some pair) = source_file pair

-- `NAME:LINE:COLUMN: KIND` and a newline
abbrev pub placed_line : SourceFile → ℕ → List ℕ → List ℕ
placed_line file offset kind = named_place file offset ++ (codes ": " ++ (kind ++ codes "\n"))

-- the line that tells why a world is refused; `NAME: X6 TERM` for a term that lacks an `else`
abbrev pub world_fault_line : Program → SourceFile → WorldFault → List ℕ
world_fault_line program file (X1 offset) = placed_line file offset (codes "X1")
world_fault_line program file (X2 offset) = placed_line file offset (codes "X2")
world_fault_line program file (X3 offset) = placed_line file offset (codes "X3")
world_fault_line program file (X4 offset) = placed_line file offset (codes "X4")
world_fault_line program file (X5 offset) = placed_line file offset (codes "X5")
world_fault_line program file (X6 term) = file.name ++ (codes ": X6 " ++ (term_name program term ++ codes "\n"))
world_fault_line program file (Memory e) = []
