-- What a compiled program's tables say is what its definitions say, and its rules are sound.
use Rattle.std.specs.Prelude.{◌≡◌, ℕ, List}
use Rattle.isle_ast.specs.Positions.Files.{SourceFile}
use Rattle.isle_program.specs.declared.program.Program.{Program}
use Rattle.isle_program.specs.Programs.{types_of, terms_of}
use Rattle.isle_program.specs.Facts.Reach.{IsRunnable}
use Rattle.isle_program.specs.Meanings.{checked}
use Rattle.isle_program.specs.Compiled.{IsProgramOf}
use Rattle.isle_meaning.specs.DefinedPrograms.{defined_program}
use Rattle.isle_meaning.specs.SoundPrograms.{IsSound}
use Rattle.isle_program.specs.Programs.{HasNamedData}

-- a term of a program can be run
abbrev pub RunsIn : Program → ℕ → Type 0
RunsIn program t = IsRunnable (types_of program) (terms_of program) t

-- A compiled program says what its definitions say, its rules of terms that can be run are sound, and its data is named by its type.
abbrev pub CompiledProgramsAreSound : Type 0
CompiledProgramsAreSound = (files : List SourceFile) (program : Program) → (is : IsProgramOf files program)
    → (checked program ≡ defined_program is.types is.terms.environment) × HasNamedData program × IsSound (checked program) (RunsIn program)
