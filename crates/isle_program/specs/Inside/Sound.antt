-- What typing gives of a program: its rules and data are sound, and its data is named by its type.
use Rattle.isle_meaning.specs.SoundPrograms.{HasSoundData, IsSound}
use Rattle.isle_program.specs.declared.program.Program.{Program}
use Rattle.isle_program.specs.Meanings.{checked, may_run}
use Rattle.isle_program.specs.Programs.{HasNamedData}

-- what is said of data by name is what is said of it by number, and its names are those that are printed
pub record HasKnownData (program : Program) : Type 0 where
  pub sound : HasSoundData (checked program)
  pub printed : HasNamedData program

-- a program's rules and data are sound, for the terms that can be run
pub record IsSoundProgram (program : Program) : Type 0 where
  pub sound : IsSound (checked program) (may_run program)
  pub known : HasKnownData program
