-- What becomes of files that are laid out.
use Rattle.std.specs.Prelude.{◌≡◌, ◌≢◌, ◌⊎◌, ℕ, suc, Bool, true, false, List, [], ◌∷◌, ◌++◌, Option, Result, Ok, Err, if◌then◌else◌, codes}
use Rattle.std.specs.Str.{bytes_eq}
use Rattle.std.specs.Io.KnownBytes.{Appends, Keeps}
use Rattle.std.specs.declared.io.ErrorKind.{ErrorKind}
use Rattle.isle_syntax.specs.Errors.{report_text}
use Rattle.isle_ast.specs.Positions.Files.{SourceFile}
use Rattle.isle_ast.specs.declared.error.Error.{Error}
use Rattle.isle_layout.specs.Changes.Diffs.{IsDiff}
use Rattle.isle_layout.specs.Formats.{Formats}
use Rattle.isle_layout.specs.Keeping.Keeps.{Keeps as IsKeptAs}
use Rattle.isle_program.specs.Compiled.{IsFirstFault}
use Rattle.islec.specs.Causes.{unwritten_lines}
use Rattle.islec.specs.Outputs.{Puts, PutsFirst, PutsUpTo, changed_of}
use Rattle.islec.specs.Writing.{AppendsBeginning}
use Rattle.islec.specs.declared.format.Output.{Output}
use Rattle.islec.specs.declared.format.Output.TheVariants.{Prints, Names, Changes, Places}
use Rattle.islec.specs.declared.format.Printing.{Printing}
use Rattle.islec.specs.declared.serve.ServeFault.{ServeFault}
use Rattle.islec.specs.declared.serve.ServeFault.TheVariants.{Read, Write, Memory}
use Rattle.islec.specs.declared.status.Status.{Status}
use Rattle.islec.specs.declared.status.Status.TheVariants.{AllWell, TextsRefused, Usage, SomeRefused, InputOutput, OutOfMemory}

-- a text, as the file of this number, is laid out at a width as a print: with its comments, or its definitions alone
abbrev pub IsPrint : (keep : Bool) → (width file : ℕ) → (text print : List ℕ) → Type 0
IsPrint false width file text print = Formats file width text print
IsPrint true width file text print = IsKeptAs file width text print

-- the prints of files one after another, which are numbered from `first`
abbrev pub ArePrints : (keep : Bool) → (width first : ℕ) → List SourceFile → (prints : List (List ℕ)) → Type 0
ArePrints keep width first [] prints = prints ≡ []
ArePrints keep width first (file ∷ others) prints = (print : List ℕ) × (rest : List (List ℕ)) × (prints ≡ print ∷ rest)
    × IsPrint keep width first file.text print × ArePrints keep width (suc first) others rest

-- the prints of files that are laid out so
abbrev pub HavePrints : Printing → List SourceFile → (prints : List (List ℕ)) → Type 0
HavePrints printing files prints = ArePrints printing.keep printing.width 0 files prints

-- what is told of a file that has this print: the print, or its name if it isn't its print, or what changes then
abbrev pub Tells : Output → SourceFile → (print told : List ℕ) → Type 0
Tells Prints file print told = told ≡ print
Tells Names file print told = told ≡ (if bytes_eq print file.text then [] else file.name ++ codes "\n")
Tells Changes file print told = IsDiff file.name file.text print told
Tells Places file print told = told ≡ []

-- what is told of files one after another
abbrev pub TellsEach : Output → List SourceFile → (prints : List (List ℕ)) → (told : List ℕ) → Type 0
TellsEach output [] prints told = told ≡ []
TellsEach output (file ∷ others) [] told = ⊥
TellsEach output (file ∷ others) (print ∷ prints) told =
    (own rest : List ℕ) × Tells output file print own × TellsEach output others prints rest × (told ≡ own ++ rest)

-- whether files are refused where something is told of them: not where their prints are
abbrev pub refuses : Output → Bool
refuses Prints = false
refuses Names = true
refuses Changes = true
refuses Places = false

-- the status behind what is told of files
abbrev pub status_behind : Output → (told : List ℕ) → Status
status_behind output [] = AllWell
status_behind output (byte ∷ told) = if refuses output then TextsRefused else AllWell

-- where files aren't to be put in place: a writer that held `old` holds these bytes and behind them what is told of the files with this status
abbrev pub WritesTold : Printing → List SourceFile → (old new : Option (List ℕ)) → Status → Type 0
WritesTold printing files old new status = (printing.output ≢ Places) × (prints : List (List ℕ)) × HavePrints printing files prints
    × (told : List ℕ) × TellsEach printing.output files prints told × (status_behind printing.output told ≡ status) × Appends old new told

-- or a beginning of that
abbrev pub CutsTold : Printing → List SourceFile → (old new : Option (List ℕ)) → Type 0
CutsTold printing files old new = (printing.output ≢ Places) × (prints : List (List ℕ)) × HavePrints printing files prints
    × (told : List ℕ) × TellsEach printing.output files prints told × AppendsBeginning old new told

-- a writer that held `old` holds these bytes and behind them the report of one error, the fault of the first text that isn't spelt
abbrev pub WritesFault : List SourceFile → (old new : Option (List ℕ)) → Type 0
WritesFault files old new = (error : Error) × IsFirstFault files error
    × Appends old new (report_text (record { errors = error ∷ []; files = files }))

-- or a beginning of that
abbrev pub CutsFault : List SourceFile → (old new : Option (List ℕ)) → Type 0
CutsFault files old new = (error : Error) × IsFirstFault files error
    × AppendsBeginning old new (report_text (record { errors = error ∷ []; files = files }))

-- some of the files that aren't their prints, the first ones, have these put in their place
abbrev pub PlacesSome : List SourceFile → (prints : List (List ℕ)) → (before after : Option (List SourceFile)) → Type 0
PlacesSome files prints before after = PutsFirst before after (changed_of files prints)

-- some have, and of the next one a beginning of what tells that it can't be written, and why, is written
abbrev pub PlacesUpTo : List SourceFile → (prints : List (List ℕ)) → (old new : Option (List ℕ)) → (before after : Option (List SourceFile)) → Type 0
PlacesUpTo files prints old new before after = PutsUpTo before after (changed_of files prints)
    (λ next. (kind : ErrorKind) × AppendsBeginning old new (unwritten_lines next.name kind))

-- all have, and nothing is told
abbrev pub PlacesAll : Printing → List SourceFile → (old new : Option (List ℕ)) → (before after : Option (List SourceFile)) → Type 0
PlacesAll printing files old new before after = (printing.output ≡ Places) × (prints : List (List ℕ)) × HavePrints printing files prints
    × Puts before after (changed_of files prints) × (new ≡ old)

-- some have, where that is asked for, and the next one can't be written
abbrev pub CutsPlaces : Printing → List SourceFile → (old new : Option (List ℕ)) → (before after : Option (List SourceFile)) → Type 0
CutsPlaces printing files old new before after = (printing.output ≡ Places) × (prints : List (List ℕ)) × HavePrints printing files prints
    × PlacesUpTo files prints old new before after

-- nothing is put in place, or where that is asked for some first files are
abbrev pub StopsPlaces : Printing → List SourceFile → (before after : Option (List SourceFile)) → Type 0
StopsPlaces printing files before after = (after ≡ before)
    ⊎ ((printing.output ≡ Places) × (prints : List (List ℕ)) × HavePrints printing files prints × PlacesSome files prints before after)

-- what is told of files that are laid out, and which are put in place, by the status
abbrev pub EndsFmt : Printing → List SourceFile → (old new : Option (List ℕ)) → (before after : Option (List SourceFile)) → Status → Type 0
EndsFmt printing files old new before after AllWell =
    (WritesTold printing files old new AllWell × (after ≡ before)) ⊎ PlacesAll printing files old new before after
EndsFmt printing files old new before after TextsRefused =
    (WritesFault files old new ⊎ WritesTold printing files old new TextsRefused) × (after ≡ before)
EndsFmt printing files old new before after Usage = ⊥
EndsFmt printing files old new before after SomeRefused = ⊥
EndsFmt printing files old new before after InputOutput =
    ((CutsFault files old new ⊎ CutsTold printing files old new) × (after ≡ before)) ⊎ CutsPlaces printing files old new before after
EndsFmt printing files old new before after OutOfMemory =
    AppendsBeginning old new (codes "out of memory\n") × StopsPlaces printing files before after

-- the same of a status, or of a fault behind which want of memory is still to be told
abbrev pub IsFormatted : Printing → List SourceFile → (old new : Option (List ℕ)) → (before after : Option (List SourceFile))
    → Result Status ServeFault → Type 0
IsFormatted printing files old new before after (Ok status) = EndsFmt printing files old new before after status
IsFormatted printing files old new before after (Err Read) = EndsFmt printing files old new before after InputOutput
IsFormatted printing files old new before after (Err Write) = EndsFmt printing files old new before after InputOutput
IsFormatted printing files old new before after (Err Memory) = Keeps old new × StopsPlaces printing files before after
