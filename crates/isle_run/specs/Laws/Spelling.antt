-- How definitions are spelt and split into files.
use Rattle.std.specs.Prelude.{List}
use Rattle.isle_ast.specs.declared.ast.Def.{Def}
use Rattle.isle_ast.specs.Positions.Files.{SourceFile}
use Rattle.isle_program.specs.declared.program.Program.{Program}
use Rattle.isle_program.specs.Compiled.{AreSpelt, AreAccepted, IsProgramOf}
use Rattle.isle_program.specs.Meanings.{checked}
use Rattle.isle_meaning.specs.Laws.Spelling.{AreAlike, AreAlikePrograms}

-- Of texts whose definitions differ in positions alone the ones are accepted where the others are.
abbrev pub AlikeTextsAreAcceptedAlike : Type 0
AlikeTextsAreAcceptedAlike = (files others : List SourceFile) (defs those : List Def) → AreSpelt 0 files defs → AreSpelt 0 others those
    → AreAlike defs those → AreAccepted files → AreAccepted others

-- Their programs differ in the positions of their rules alone.
abbrev pub AlikeTextsMakeAlikePrograms : Type 0
AlikeTextsMakeAlikePrograms = (files others : List SourceFile) (program other : Program) (is : IsProgramOf files program)
    (also : IsProgramOf others other) → AreAlike is.defs also.defs → AreAlikePrograms (checked program) (checked other)
