-- The order of a program's rules.
use Rattle.std.specs.Prelude.{ℕ, List, map, Option}
use Rattle.isle_ast.specs.Positions.Files.{SourceFile}
use Rattle.isle_ast.specs.Trees.WithoutPos.{def_without_pos}
use Rattle.isle_meaning.specs.Values.{Value, Values}
use Rattle.isle_meaning.specs.Worlds.{Answers, Event}
use Rattle.isle_meaning.specs.Calls.{Means}
use Rattle.isle_program.specs.declared.program.Program.{Program}
use Rattle.isle_program.specs.Compiled.{IsProgramOf}
use Rattle.isle_program.specs.Meanings.{checked}
use Rattle.isle_meaning.specs.Laws.Order.{AreReordered}

-- Of texts whose definitions differ in the order of their rules alone, and in positions, the programs give a call the same meaning.
abbrev pub OrderOfTextsMeansNothing : Type 0
OrderOfTextsMeansNothing = (files others : List SourceFile) (program other : Program) (is : IsProgramOf files program)
    (also : IsProgramOf others other) → AreReordered (map def_without_pos is.defs) (map def_without_pos also.defs)
    → (w : Answers) (n t : ℕ) (args : Values) (trace : List Event) (answer : Option Value)
    → Means (checked program) w n t args trace answer → Means (checked other) w n t args trace answer
