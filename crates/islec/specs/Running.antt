-- What a run or a check writes of files that are accepted or refused.
use Rattle.std.specs.Prelude.{◌≡◌, ◌⊎◌, ◌++◌, ℕ, Bool, false, List, [], Option, codes}
use Rattle.std.specs.Io.KnownBytes.{Appends, Keeps}
use Rattle.isle_ast.specs.Positions.Files.{SourceFile}
use Rattle.isle_ast.specs.declared.error.Error.{Error}
use Rattle.isle_rules.specs.Values.{ValueTree, ValueTrees}
use Rattle.isle_program.specs.Compiled.{AreAccepted, AreFaults, IsProgramOf}
use Rattle.isle_program.specs.declared.program.Program.{Program}
use Rattle.isle_values.specs.declared.worlds.reading.WorldFault.{WorldFault}
use Rattle.isle_values.specs.Worlds.Entries.{EntryTree}
use Rattle.isle_values.specs.Worlds.Tables.{HasEntries, constructed, extracted}
use Rattle.isle_values.specs.Worlds.Texts.{SpellsWorld, RefusesWorld}
use Rattle.islec.specs.declared.answer.Manner.{Manner}
use Rattle.islec.specs.Replies.{Setting, setting_in}
use Rattle.islec.specs.Reasons.{ReportsFaults, TellsFault}
use Rattle.islec.specs.Terms.{TellsProgram}
use Rattle.islec.specs.declared.terms.Telling.{Telling}
use Rattle.islec.specs.Serving.{AnswersAndTells, AnswersOrTellsCut, AnswersUntilMemory}
use Rattle.islec.specs.Writing.{AppendsBeginning}

-- the files aren't accepted, and a writer that held `old` holds these bytes and behind them what is printed of their faults
pub record WritesFaults (asked : Bool) (files : List SourceFile) (old new : Option (List ℕ)) : Type 0 where
  pub errors : List Error
  pub refused : ¬ AreAccepted files
  pub faults : AreFaults files errors
  pub text : List ℕ
  pub told : ReportsFaults asked (record { errors = errors; files = files }) text
  pub written : Appends old new text

-- the files aren't accepted, and a writer that held `old` holds these bytes and behind them a beginning of what is printed of their faults
pub record CutsFaults (asked : Bool) (files : List SourceFile) (old new : Option (List ℕ)) : Type 0 where
  pub errors : List Error
  pub refused : ¬ AreAccepted files
  pub faults : AreFaults files errors
  pub text : List ℕ
  pub told : ReportsFaults asked (record { errors = errors; files = files }) text
  pub written : AppendsBeginning old new text

-- what a check tells of a program: what is told of it, and behind that lines of warnings where these are asked for
abbrev pub TellsChecked : List SourceFile → Program → Telling → List ℕ → Type 0
TellsChecked files program telling text =
    (told lines : List ℕ) × TellsProgram files program telling told × (telling.warn ≡ false → lines ≡ []) × (text ≡ told ++ lines)

-- the files are accepted, and a writer that held `old` holds these bytes and behind them what a check tells of their program
pub record WritesAccepted (files : List SourceFile) (telling : Telling) (old new : Option (List ℕ)) : Type 0 where
  pub accepted : AreAccepted files
  pub program : Program
  pub is : IsProgramOf files program
  pub text : List ℕ
  pub told : TellsChecked files program telling text
  pub written : Appends old new text

-- a beginning of what a check tells of the files' program is written, or one of what is printed of faults
abbrev pub CutsCheck : List SourceFile → Telling → (old new : Option (List ℕ)) → Type 0
CutsCheck files telling old new = ((program : Program) × IsProgramOf files program
    × ((text : List ℕ) × TellsChecked files program telling text × AppendsBeginning old new text))
    ⊎ CutsFaults telling.explain files old new

-- a table answers an effect as it answers pure terms, and stays as it is
abbrev pub leaves : List EntryTree → List ℕ → ValueTrees → Option ValueTree → List EntryTree → Type 0
leaves table name args answer next = (answer ≡ constructed table name args) × (next ≡ table)

-- the program of files in the world of entries, asked in this manner
abbrev pub in_entries : Program → List SourceFile → List EntryTree → Manner → Setting (List EntryTree)
in_entries program files entries manner = setting_in leaves program files (constructed entries) (extracted entries) manner

-- a table has exactly the entries that a world's file spells
abbrev pub IsTableOf : Program → (world : SourceFile) → (table : List EntryTree) → Type 0
IsTableOf program world table = (entries : List EntryTree) × SpellsWorld program world.text entries × HasEntries table entries

-- a program's replies to each line of an input are written, in the world of a file, and behind them what is told behind all
abbrev pub AnswersIn : Program → List SourceFile → (world : SourceFile) → (manner : Manner) → (input : Option (List ℕ)) → Bool
    → (old new : Option (List ℕ)) → Type 0
AnswersIn program files world manner input refused old new = (table after : List EntryTree) × IsTableOf program world table
    × AnswersAndTells (in_entries program files table manner) table input refused old new after

-- what tells why a world is refused is written
pub record TellsWorld (asked : Bool) (program : Program) (world : SourceFile) (old new : Option (List ℕ)) : Type 0 where
  pub fault : WorldFault
  pub refused : RefusesWorld program world.text fault
  pub line : List ℕ
  pub told : TellsFault asked program world fault line
  pub written : Appends old new line

-- a beginning of it is written
pub record CutsWorld (asked : Bool) (program : Program) (world : SourceFile) (old new : Option (List ℕ)) : Type 0 where
  pub fault : WorldFault
  pub refused : RefusesWorld program world.text fault
  pub line : List ℕ
  pub told : TellsFault asked program world fault line
  pub written : AppendsBeginning old new line

-- a beginning of a program's replies to first lines of an input is written, or of what is told behind all, or one of what tells why a world is
-- refused
abbrev pub CutsIn : Program → List SourceFile → (world : SourceFile) → (manner : Manner) → (input old new : Option (List ℕ)) → Type 0
CutsIn program files world manner input old new = ((table after : List EntryTree) × IsTableOf program world table
    × AnswersOrTellsCut (in_entries program files table manner) table input old new after) ⊎ CutsWorld manner.explain program world old new

-- nothing is read and nothing is written
abbrev pub IsUntouched : (input left old new : Option (List ℕ)) → Type 0
IsUntouched input left old new = (left ≡ input) × Keeps old new

-- replies of a program to first lines of an input are written, or nothing is read and written
abbrev pub StopsIn : Program → List SourceFile → (world : SourceFile) → (manner : Manner) → (input left old new : Option (List ℕ)) → Type 0
StopsIn program files world manner input left old new = IsUntouched input left old new
    ⊎ ((table after : List EntryTree) × IsTableOf program world table
    × AnswersUntilMemory (in_entries program files table manner) table input left old new after)

-- the replies of the files' program to each line of an input are written, in the world of a file
abbrev pub WritesAnswers : List SourceFile → (world : SourceFile) → (manner : Manner) → (input : Option (List ℕ))
    → Bool → (old new : Option (List ℕ)) → Type 0
WritesAnswers files world manner input refused old new =
    (program : Program) × IsProgramOf files program × AnswersIn program files world manner input refused old new

-- what is printed of the files' faults is written, or, of accepted files, what tells why their world is refused
abbrev pub WritesRefusal : List SourceFile → (world : SourceFile) → (manner : Manner) → (old new : Option (List ℕ)) → Type 0
WritesRefusal files world manner old new =
    WritesFaults manner.explain files old new ⊎ ((program : Program) × IsProgramOf files program × TellsWorld manner.explain program world old new)

-- a beginning of the replies, of what is printed of faults or of what tells why the world is refused is written
abbrev pub CutsRun : List SourceFile → (world : SourceFile) → (manner : Manner) → (input old new : Option (List ℕ)) → Type 0
CutsRun files world manner input old new =
    ((program : Program) × IsProgramOf files program × CutsIn program files world manner input old new) ⊎ CutsFaults manner.explain files old new

-- replies of the files' program to first lines of an input are written, or nothing is read and written
abbrev pub AnswersSome : List SourceFile → (world : SourceFile) → (manner : Manner) → (input left old new : Option (List ℕ)) → Type 0
AnswersSome files world manner input left old new =
    IsUntouched input left old new ⊎ ((program : Program) × IsProgramOf files program × StopsIn program files world manner input left old new)

-- the same, and behind it a beginning of the line `out of memory`
abbrev pub RunsOut : List SourceFile → (world : SourceFile) → (manner : Manner) → (input left old new : Option (List ℕ)) → Type 0
RunsOut files world manner input left old new =
    (held : Option (List ℕ)) × AnswersSome files world manner input left old held × AppendsBeginning held new (codes "out of memory\n")
