-- What the words of a command line say.
use Rattle.std.specs.Prelude.{◌≡◌, ◌⊎◌, ◌||◌, if◌then◌else◌, ℕ, Bool, true, List, [], Option, Some, None, Vec, String, map, codes, false, option_map, string_bytes, vec_items, unwrap_or, ⊤}
use Rattle.std.specs.Prelude.{Result, Ok, Err, is_some}
use Rattle.std.specs.Global.{Global}
use Rattle.std.specs.List.{list_any}
use Rattle.std.specs.Option.{option_map_or}
use Rattle.std.specs.Str.{bytes_eq}
use Rattle.std.specs.Str.Parse.{digits_value, without_leading_plus}
use Rattle.clap.specs.Words.{IsAmong, Row, Text, all_of, fault_of, first_of, kind_of, one_of, subcommand_of}
use Rattle.islec.specs.Commands.{islec}
use Rattle.islec.specs.declared.line.Job.{Job}
use Rattle.islec.specs.declared.line.Job.TheVariants.{Run, Check, Blocks, Fmt}
use Rattle.islec.specs.declared.line.Line.{Line}
use Rattle.islec.specs.declared.line.LineFault.{LineFault}
use Rattle.islec.specs.declared.line.LineFault.TheVariants.{Usage, Memory}
use Rattle.islec.specs.declared.line.LineFault.TheVariants as line_fault
use Rattle.islec.specs.declared.line.Misuse.{Misuse}
use Rattle.islec.specs.declared.line.Misuse.TheVariants.{Loses, WritesAndTells, WritesInput, JudgesNothing}
use Rattle.islec.specs.declared.missing.Judging.{Judging}
use Rattle.islec.specs.declared.format.Output.{Output}
use Rattle.islec.specs.declared.format.Output.TheVariants.{Prints, Names, Changes, Places}

-- the number that is an option's value
abbrev pub number_of : Text → List Row → Option ℕ
number_of id rows = option_map (λ t. digits_value 10 (without_leading_plus t)) (one_of id rows)

-- whether a flag was given
abbrev pub flag_of : Text → List Row → Bool
flag_of id rows = option_map_or (λ t. bytes_eq t (codes "true")) (one_of id rows) false

-- texts of strings
abbrev pub names_of : Vec (String Global) Global → List Text
names_of names = map string_bytes (vec_items names)

-- the values of an option that may be given any number of times
abbrev pub each_of : Text → List Row → List Text
each_of id rows = unwrap_or (all_of id rows) []

-- what becomes of files that are laid out, where `--check`, `--diff` and `--write` are given or not
abbrev pub output_of : (check diff write : Bool) → Output
output_of check diff true = Places
output_of check true false = Changes
output_of true false false = Names
output_of false false false = Prints

-- why options of `fmt` don't go together, where standard input is among the files or not: what changes or shows files needs `--keep`, what
-- is written isn't told too, and standard input isn't written
abbrev pub misuse_of : (keep check diff write input : Bool) → Option Misuse
misuse_of false check diff write input = if diff || write then Some Loses else None
misuse_of true check diff false input = None
misuse_of true check diff true input = if check || diff then Some WritesAndTells else (if input then Some WritesInput else None)

-- standard input is among files of these names
abbrev pub has_input : List Text → Bool
has_input names = list_any (λ name. bytes_eq name (codes "-")) names

-- why the options of `fmt` that rows hold don't go together
abbrev pub misuse_in : List Row → Option Misuse
misuse_in rows = misuse_of (flag_of (codes "keep") rows) (flag_of (codes "check") rows) (flag_of (codes "diff") rows) (flag_of (codes "write") rows)
    (has_input (each_of (codes "file") rows))

-- how many looks at a rule one term may take where no number is given
abbrev pub usual_steps : ℕ
usual_steps = 10000000

-- how calls are judged where `--missing`, `--partial` and a number of steps are given or not, or why these don't go together: the others need
-- `--missing`
abbrev pub judging_of : (missing partial : Bool) → (steps : Option ℕ) → Result (Option Judging) Misuse
judging_of false partial steps = if partial || is_some steps then Err JudgesNothing else Ok None
judging_of true partial steps = Ok (Some (record { partial = partial; steps = unwrap_or steps usual_steps }))

-- how calls are judged by the options of `check` that rows hold
abbrev pub judging_in : List Row → Result (Option Judging) Misuse
judging_in rows =
    judging_of (flag_of (codes "missing") rows) (flag_of (codes "partial") rows) (number_of (codes "steps-at-most") rows)

-- why the options of the command of a name don't go together
abbrev pub IsMisuseOf : Text → List Row → Misuse → Type 0
IsMisuseOf name rows misuse =
    ((name ≡ codes "fmt") × (misuse_in rows ≡ Some misuse)) ⊎ ((name ≡ codes "check") × (judging_in rows ≡ Err misuse))

-- the job is the command of this name, with the numbers and flags that its rows hold
abbrev pub SaysJob : Text → List Row → Job → Type 0
SaysJob name rows (Run manner) =
    (name ≡ codes "run") × (number_of (codes "depth") rows ≡ Some manner.depth) × (flag_of (codes "plain") rows ≡ manner.plain)
    × (flag_of (codes "steps") rows ≡ manner.steps) × (flag_of (codes "trace") rows ≡ manner.trace)
    × (flag_of (codes "coverage") rows ≡ manner.coverage) × (flag_of (codes "unanswered") rows ≡ manner.unanswered)
    × (flag_of (codes "explain") rows ≡ manner.explain)
SaysJob name rows (Check telling) =
    (name ≡ codes "check") × (flag_of (codes "terms") rows ≡ telling.terms) × (flag_of (codes "warn") rows ≡ telling.warn)
    × (flag_of (codes "explain") rows ≡ telling.explain) × (judging_in rows ≡ Ok telling.missing)
SaysJob name rows (Blocks terms dot) =
    (name ≡ codes "blocks") × (each_of (codes "term") rows ≡ names_of terms) × (flag_of (codes "dot") rows ≡ dot)
SaysJob name rows (Fmt printing) =
    (name ≡ codes "fmt") × (number_of (codes "width") rows ≡ Some printing.width) × (flag_of (codes "keep") rows ≡ printing.keep)
    × (output_of (flag_of (codes "check") rows) (flag_of (codes "diff") rows) (flag_of (codes "write") rows) ≡ printing.output)
    × (misuse_in rows ≡ None)

-- the name of a world's file, which only `run` takes
abbrev pub world_of : Job → List Row → Option Text
world_of (Run manner) rows = first_of (codes "world") rows
world_of _ rows = None

-- the line is what a command and its rows say
pub record SaysLine (name : Text) (rows : List Row) (line : Line) : Type 0 where
  pub job : SaysJob name rows line.job
  pub files : all_of (codes "file") rows ≡ Some (names_of line.files)
  pub world : option_map string_bytes line.world ≡ world_of line.job rows

-- the line is what the words say, in which `islec` finds no fault
pub record ReadsLine (words : List Text) (line : Line) : Type 0 where
  pub taken : fault_of islec words ≡ []
  pub name : Text
  pub rows : List Row
  pub met : subcommand_of islec words ≡ Some (name, rows)
  pub says : SaysLine name rows line

-- the words are a command with options that don't go together, for this reason
pub record Misuses (words : List Text) (misuse : Misuse) : Type 0 where
  pub taken : fault_of islec words ≡ []
  pub name : Text
  pub rows : List Row
  pub met : subcommand_of islec words ≡ Some (name, rows)
  pub misused : IsMisuseOf name rows misuse

-- a fault of usage is one that `islec` finds in the words, among them that they ask for help
abbrev pub RefusesLine : List Text → LineFault → Type 0
RefusesLine words (Usage error) = IsAmong (kind_of error) (fault_of islec words)
RefusesLine words (line_fault.Misuse misuse) = Misuses words misuse
RefusesLine words (Memory error) = ⊤

-- rows of the command of a name are refused only for options that don't go together, or for want of memory
abbrev pub IsMisused : Text → List Row → LineFault → Type 0
IsMisused name rows (Usage error) = ⊥
IsMisused name rows (line_fault.Misuse misuse) = IsMisuseOf name rows misuse
IsMisused name rows (Memory error) = ⊤
