-- Why a command was not begun, and what is told of it.
use Rattle.std.specs.Prelude.{◌≡◌, ◌⊎◌, ℕ, Bool, List, Option, Some, String, Result, Ok, Err, codes, string_bytes}
use Rattle.std.specs.Global.{Global}
use Rattle.std.specs.List.{Contains}
use Rattle.std.specs.Io.KnownBytes.{Appends}
use Rattle.clap.specs.Words.{kind_of}
use Rattle.clap.specs.declared.error.Error.{Error}
use Rattle.clap.specs.declared.error.kind.ErrorKind.TheVariants.{DisplayHelp, DisplayVersion}
use Rattle.std.specs.Str.{IsUtf8}
use Rattle.std.specs.Str.Lossy.{utf8_valid_len}
use Rattle.std.specs.declared.io.ErrorKind.{ErrorKind}
use Rattle.islec.specs.Causes.{cause_text, unread_lines}
use Rattle.islec.specs.Inputs.{Readings, GivesFile, is_input}
use Rattle.islec.specs.declared.cause.Cause.{Cause}
use Rattle.islec.specs.declared.cause.Cause.TheVariants.{NotUtf8, Fails}
use Rattle.islec.specs.declared.line.LineFault.{LineFault}
use Rattle.islec.specs.declared.line.LineFault.TheVariants as line_fault
use Rattle.islec.specs.declared.line.Misuse.{Misuse}
use Rattle.islec.specs.declared.line.Misuse.TheVariants.{Loses, WritesAndTells, WritesInput, JudgesNothing}
use Rattle.islec.specs.declared.program.Unbegun.{Unbegun}
use Rattle.islec.specs.declared.program.Unbegun.TheVariants.{Usage, Misused, NotText, CannotRead, Memory}
use Rattle.islec.specs.declared.status.Status.{Status}
use Rattle.islec.specs.declared.status.Status.TheVariants as status
use Rattle.islec.specs.Writing.{AppendsBeginning}

-- what a fault of a command line becomes: the same
abbrev pub BecomesUnbegun : LineFault → Unbegun → Type 0
BecomesUnbegun (line_fault.Usage error) unbegun = unbegun ≡ Usage error
BecomesUnbegun (line_fault.Misuse misuse) unbegun = unbegun ≡ Misused misuse
BecomesUnbegun (line_fault.Memory error) unbegun = unbegun ≡ Memory

-- memory ran out, or the file of this name can't be read, for this cause
abbrev pub IsUnreadFor : String Global → Cause → Unbegun → Type 0
IsUnreadFor name cause unbegun =
    (unbegun ≡ Memory) ⊎ ((words : String Global) × (string_bytes words ≡ cause_text cause) × (unbegun ≡ CannotRead name words))

-- why a file isn't read, of which reading may give so: bytes that aren't UTF-8 from one on, or an error of the kind
abbrev pub IsCauseOf : (Gives : Result (List ℕ) ErrorKind → Type 0) → Cause → Type 0
IsCauseOf Gives (NotUtf8 at) = (bytes : List ℕ) × Gives (Ok bytes) × (¬ IsUtf8 bytes) × (at ≡ utf8_valid_len bytes)
IsCauseOf Gives (Fails kind) = Gives (Err kind)

-- memory ran out, or the file of this name can't be read, for such a cause
abbrev pub IsUnreadFile : (Gives : Result (List ℕ) ErrorKind → Type 0) → String Global → Unbegun → Type 0
IsUnreadFile Gives name unbegun = (unbegun ≡ Memory) ⊎ ((cause : Cause) × IsCauseOf Gives cause × IsUnreadFor name cause unbegun)

-- memory ran out, or the file of this name has these bytes, which aren't UTF-8 from some byte on
abbrev pub IsNoText : String Global → List ℕ → Unbegun → Type 0
IsNoText name bytes unbegun = (¬ IsUtf8 bytes) × IsUnreadFor name (NotUtf8 (utf8_valid_len bytes)) unbegun

-- memory ran out, or a file of these names, of which those named `-` may be standard input, can't be read
abbrev pub IsUnread : Readings → (reads : Bool) → (input : Option (List ℕ)) → List (String Global) → Unbegun → Type 0
IsUnread gives reads input names unbegun = (unbegun ≡ Memory) ⊎ ((name : String Global) × Contains names name
    × IsUnreadFile (GivesFile (is_input reads (string_bytes name)) (gives (string_bytes name)) input) name unbegun)

-- memory ran out, or the file of that name can't be read, where one is named
abbrev pub IsUnreadWorld : Readings → Option (String Global) → Unbegun → Type 0
IsUnreadWorld gives name unbegun =
    (unbegun ≡ Memory) ⊎ ((own : String Global) × (name ≡ Some own) × IsUnreadFile (gives (string_bytes own)) own unbegun)

-- help or the version is asked for
abbrev pub AsksForHelp : Error → Type 0
AsksForHelp error = (kind_of error ≡ DisplayHelp) ⊎ (kind_of error ≡ DisplayVersion)

-- the line that tells why options don't go together
abbrev pub misuse_text : Misuse → List ℕ
misuse_text Loses = codes "error: --diff and --write need --keep, so that nothing is lost\n"
misuse_text WritesAndTells = codes "error: --write can't be used with --check or --diff\n"
misuse_text WritesInput = codes "error: standard input can't be written in place\n"
misuse_text JudgesNothing = codes "error: --partial and --steps-at-most need --missing\n"

-- the status of a command that was not begun, and what is written of it where no write fails: all is well where help was asked for, else
-- the words are refused, or a file can't be read, or memory ran out; a write that fails has a status of its own
abbrev pub TellsUnbegun : Unbegun → Status → (old new : Option (List ℕ)) → Type 0
TellsUnbegun (Usage error) ended old new = (ended ≡ status.InputOutput)
    ⊎ ((AsksForHelp error × (ended ≡ status.AllWell)) ⊎ ((¬ AsksForHelp error) × (ended ≡ status.Usage)))
TellsUnbegun (Misused misuse) ended old new = (ended ≡ status.InputOutput) ⊎ ((ended ≡ status.Usage) × Appends old new (misuse_text misuse))
TellsUnbegun NotText ended old new = (ended ≡ status.InputOutput)
    ⊎ ((ended ≡ status.Usage) × Appends old new (codes "error: a word of the command line isn't UTF-8\n"))
TellsUnbegun (CannotRead name cause) ended old new =
    (ended ≡ status.InputOutput) × AppendsBeginning old new (unread_lines (string_bytes name) (string_bytes cause))
TellsUnbegun Memory ended old new = (ended ≡ status.OutOfMemory) × AppendsBeginning old new (codes "out of memory\n")
