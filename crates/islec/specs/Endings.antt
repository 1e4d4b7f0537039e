-- How a whole command ends, by its words.
use Rattle.std.specs.Prelude.{◌≡◌, ◌⊎◌, ℕ, Bool, true, false, List, [], Option, Some, None, String, Result, Ok, map, codes, string_bytes, ⊤}
use Rattle.std.specs.Global.{Global}
use Rattle.std.specs.List.{Contains}
use Rattle.std.specs.declared.io.ErrorKind.{ErrorKind}
use Rattle.clap.specs.Words.{IsAmong, Text, fault_of, kind_of}
use Rattle.isle_ast.specs.Positions.Files.{SourceFile, source_file}
use Rattle.isle_program.specs.Compiled.{AreAccepted}
use Rattle.islec.specs.declared.answer.Manner.{Manner}
use Rattle.islec.specs.Beginnings.{IsCauseOf, TellsUnbegun}
use Rattle.islec.specs.Causes.{cause_text}
use Rattle.islec.specs.Commands.{islec}
use Rattle.islec.specs.Drawing.{WritesTrees, WritesUnknown, CutsTrees}
use Rattle.islec.specs.Formatting.{EndsFmt}
use Rattle.islec.specs.Inputs.{Readings, GivesFile, ReadsFiles, is_input}
use Rattle.islec.specs.Jobs.{reads_input}
use Rattle.islec.specs.Lines.{Misuses, ReadsLine, names_of}
use Rattle.islec.specs.Running.{WritesFaults, WritesAccepted, WritesAnswers, WritesRefusal, CutsCheck, CutsRun, RunsOut}
use Rattle.islec.specs.Statuses.{code_of}
use Rattle.islec.specs.Worlds.{world_file}
use Rattle.islec.specs.Writing.{AppendsBeginning}
use Rattle.islec.specs.declared.cause.Cause.{Cause}
use Rattle.islec.specs.declared.line.Job.{Job}
use Rattle.islec.specs.declared.line.Job.TheVariants.{Run, Check, Blocks, Fmt}
use Rattle.islec.specs.declared.line.Line.{Line}
use Rattle.islec.specs.declared.program.Begun.{Begun}
use Rattle.islec.specs.declared.program.Unbegun.{Unbegun}
use Rattle.islec.specs.declared.program.Unbegun.TheVariants as unbegun
use Rattle.islec.specs.declared.status.Status.{Status}
use Rattle.islec.specs.declared.terms.Telling.{Telling}
use Rattle.islec.specs.declared.status.Status.TheVariants.{AllWell, TextsRefused, Usage, SomeRefused, InputOutput, OutOfMemory}

-- what is written of files that are run, by the status
abbrev pub EndsRun : (manner : Manner) → List SourceFile → (world : SourceFile) → (input left old new : Option (List ℕ)) → Status → Type 0
EndsRun manner files world input left old new AllWell = AreAccepted files × WritesAnswers files world manner input false old new
EndsRun manner files world input left old new TextsRefused = WritesRefusal files world manner old new
EndsRun manner files world input left old new Usage = ⊥
EndsRun manner files world input left old new SomeRefused = AreAccepted files × WritesAnswers files world manner input true old new
EndsRun manner files world input left old new InputOutput = CutsRun files world manner input old new
EndsRun manner files world input left old new OutOfMemory = RunsOut files world manner input left old new

-- what is written of files that are checked
abbrev pub EndsCheck : Telling → List SourceFile → (old new : Option (List ℕ)) → Status → Type 0
EndsCheck telling files old new AllWell = WritesAccepted files telling old new
EndsCheck telling files old new TextsRefused = WritesFaults telling.explain files old new
EndsCheck telling files old new Usage = ⊥
EndsCheck telling files old new SomeRefused = ⊥
EndsCheck telling files old new InputOutput = CutsCheck files telling old new
EndsCheck telling files old new OutOfMemory = AppendsBeginning old new (codes "out of memory\n")

-- what is written of files whose trees are printed, of the terms of these names or of all, as one graph where that is asked for
abbrev pub EndsBlocks : List (List ℕ) → (dot : Bool) → List SourceFile → (old new : Option (List ℕ)) → Status → Type 0
EndsBlocks names dot files old new AllWell = WritesTrees files names dot old new
EndsBlocks names dot files old new TextsRefused = WritesFaults false files old new
EndsBlocks names dot files old new Usage = WritesUnknown files names old new
EndsBlocks names dot files old new SomeRefused = ⊥
EndsBlocks names dot files old new InputOutput = CutsTrees files names dot old new
EndsBlocks names dot files old new OutOfMemory = AppendsBeginning old new (codes "out of memory\n")

-- what is written of a job on files, in the world of a file, by the status with which it ends; only a run reads the input, and only a layout
-- may put files in their place
abbrev pub EndsJob : Job → List SourceFile → (world : SourceFile) → (input left old new : Option (List ℕ))
    → (before after : Option (List SourceFile)) → Status → Type 0
EndsJob (Run manner) files world input left old new before after status = EndsRun manner files world input left old new status × (after ≡ before)
EndsJob (Check telling) files world input left old new before after status =
    EndsCheck telling files old new status × (left ≡ input) × (after ≡ before)
EndsJob (Blocks terms dot) files world input left old new before after status =
    EndsBlocks (names_of terms) dot files old new status × (left ≡ input) × (after ≡ before)
EndsJob (Fmt printing) files world input left old new before after status = EndsFmt printing files old new before after status × (left ≡ input)

-- the file has the name that a line gives its world, and a text that reading it gives; where the line gives none it is empty and named `world`
abbrev pub IsWorld : Readings → Option (String Global) → SourceFile → Type 0
IsWorld gives None file = file ≡ record { name = codes "world"; text = [] }
IsWorld gives (Some name) file = (file.name ≡ string_bytes name) × gives file.name (Ok file.text)

-- the words tell why a file isn't read, of which reading may give so
abbrev pub TellsCause : (Gives : Result (List ℕ) ErrorKind → Type 0) → String Global → Type 0
TellsCause Gives told = (cause : Cause) × IsCauseOf Gives cause × (string_bytes told ≡ cause_text cause)

-- the words tell why one of the line's files isn't read, or its world
abbrev pub TellsUnread : Readings → (input : Option (List ℕ)) → Line → (name told : String Global) → Type 0
TellsUnread gives input line name told = (Contains line.files.items name
    × TellsCause (GivesFile (is_input (reads_input line.job) (string_bytes name)) (gives (string_bytes name)) input) told)
    ⊎ ((line.world ≡ Some name) × TellsCause (gives (string_bytes name)) told)

-- why a command of these words may not begin: they have that fault, or a file that they name can't be read, for a cause that is told, or
-- memory ran out
abbrev pub HoldsBack : Readings → List Text → (input : Option (List ℕ)) → Unbegun → Type 0
HoldsBack gives words input (unbegun.Usage error) = IsAmong (kind_of error) (fault_of islec words)
HoldsBack gives words input (unbegun.Misused misuse) = Misuses words misuse
HoldsBack gives words input unbegun.NotText = ⊥
HoldsBack gives words input (unbegun.CannotRead name told) = (line : Line) × ReadsLine words line × TellsUnread gives input line name told
HoldsBack gives words input unbegun.Memory = ⊤

-- How a command of these words ends, where reading files gives so, and what it writes: what the job of their line does on the files of the
-- names that they have, in order, of which those that are standard input are read from it; or what is told of why it may not begin.
pub data EndsCommand (gives : Readings) (words : List Text) (input left old new : Option (List ℕ)) (before after : Option (List SourceFile))
    (code : ℕ) : Type 0 where
  done : (line : Line) → ReadsLine words line → (files : List SourceFile) → map (λ file. file.name) files ≡ names_of line.files
      → (world : SourceFile) → IsWorld gives line.world world → (middle : Option (List ℕ))
      → ReadsFiles gives (reads_input line.job) files input middle
      → (status : Status) → code ≡ code_of status → EndsJob line.job files world middle left old new before after status
      → EndsCommand gives words input left old new before after code
  told : (why : Unbegun) → HoldsBack gives words input why → (status : Status) → code ≡ code_of status → TellsUnbegun why status old new
      → after ≡ before → EndsCommand gives words input left old new before after code

-- a command begins as its words say: with their job, and with a text under each name that they have, in order, for which it has read what is
-- no longer left of the input
pub record Begins (gives : Readings) (words : List Text) (input left : Option (List ℕ)) (begun : Begun) : Type 0 where
  pub line : Line
  pub reads : ReadsLine words line
  pub job : begun.job ≡ line.job
  pub texts : map (λ text. text.0) begun.texts.items ≡ line.files.items
  pub world : IsWorld gives line.world (world_file begun.world)
  pub inputs : ReadsFiles gives (reads_input line.job) (map source_file begun.texts.items) input left
