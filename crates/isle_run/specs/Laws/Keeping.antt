-- Files that are laid out with their comments.
use Rattle.std.specs.Prelude.{ℕ, suc, List, [], ◌∷◌, Option}
use Rattle.isle_ast.specs.declared.ast.Def.{Def}
use Rattle.isle_ast.specs.Positions.Files.{SourceFile}
use Rattle.isle_layout.specs.Keeping.Keeps.{Keeps}
use Rattle.isle_meaning.specs.Calls.{Means}
use Rattle.isle_meaning.specs.Values.{Value, Values}
use Rattle.isle_meaning.specs.Worlds.{Answers, CheckedProgram, Event}
use Rattle.isle_meaning.specs.Laws.Spelling.{AreAlike}
use Rattle.isle_program.specs.Compiled.{AreSpelt, AreAccepted, IsProgramOf}
use Rattle.isle_program.specs.Meanings.{checked}
use Rattle.isle_program.specs.declared.program.Program.{Program}

-- the texts of these files, which are numbered from `first`, are kept at this width as those of the others
abbrev pub AreKept : (first width : ℕ) → List SourceFile → List SourceFile → Type 0
AreKept first width [] [] = Unit {0}
AreKept first width [] (kept ∷ others) = ⊥
AreKept first width (file ∷ files) [] = ⊥
AreKept first width (file ∷ files) (kept ∷ others) = Keeps first width file.text kept.text × AreKept (suc first) width files others

-- a call means the same in two programs
abbrev pub MeanTheSame : CheckedProgram → CheckedProgram → Type 0
MeanTheSame one other = (w : Answers) (n t : ℕ) (args : Values) (trace : List Event) (answer : Option Value)
    → (Means one w n t args trace answer → Means other w n t args trace answer)
    × (Means other w n t args trace answer → Means one w n t args trace answer)

-- Kept texts spell definitions that differ in positions alone.
abbrev pub KeptTextsAreAlike : Type 0
KeptTextsAreAlike = (width : ℕ) (files others : List SourceFile) → AreKept 0 width files others
    → (defs those : List Def) × AreSpelt 0 files defs × AreSpelt 0 others those × AreAlike defs those

-- They are accepted exactly where the texts are.
abbrev pub KeptTextsAreAcceptedAlike : Type 0
KeptTextsAreAcceptedAlike = (width : ℕ) (files others : List SourceFile) → AreKept 0 width files others
    → (AreAccepted files → AreAccepted others) × (AreAccepted others → AreAccepted files)

-- A call means the same in the programs of both.
abbrev pub KeptProgramsMeanTheSame : Type 0
KeptProgramsMeanTheSame = (width : ℕ) (files others : List SourceFile) (program other : Program) → AreKept 0 width files others
    → IsProgramOf files program → IsProgramOf others other → MeanTheSame (checked program) (checked other)
