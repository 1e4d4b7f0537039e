-- Compiled programs are sound.
use Rattle.std.proofs.Common.{List}
use Rattle.isle_ast.specs.Positions.Files.{SourceFile}
use Rattle.isle_program.specs.declared.program.Program.{Program}
use Rattle.isle_program.specs.Programs.{types_of, terms_of}
use Rattle.isle_program.specs.Compiled.{IsProgramOf}
use Rattle.isle_program.specs.ShownFiles.{ShowFiles}
use Rattle.isle_program.proofs.SoundPrograms.Defined.{program_agrees}
use Rattle.isle_program.proofs.SoundPrograms.Whole.{tables_are_sound}
use Rattle.isle_run.specs.Laws.Sound.{CompiledProgramsAreSound}

-- the tables of a program of files show what their definitions make
shown_by : (files : List SourceFile) (program : Program) → IsProgramOf files program → ShowFiles files (types_of program) (terms_of program)
shown_by files program is = record {
  defs = is.defs;
  types = is.types;
  spelt = is.spelt;
  made = is.made;
  within = is.within;
  once = is.once;
  terms = is.terms;
  expands = is.expands;
}

pub compiled_programs_are_sound : CompiledProgramsAreSound
compiled_programs_are_sound files program is =
    let told = tables_are_sound files (types_of program) (terms_of program) (shown_by files program is) in
    (program_agrees files program is, told.named, told.sound)
