-- What is told below what is refused or spent, where reasons are asked for.
use Rattle.std.specs.Prelude.{◌≡◌, ◌≢◌, ◌<◌, ◌++◌, ◌⊎◌, ℕ, Bool, true, false, List, [], ◌∷◌, if◌then◌else◌, codes, decimal, length, get_or}
use Rattle.isle_syntax.specs.Errors.{Report, error_text, report_text}
use Rattle.isle_ast.specs.Positions.Files.{SourceFile}
use Rattle.isle_ast.specs.declared.error.Error.{Error}
use Rattle.isle_calls.specs.declared.answer.Answer.{Answer}
use Rattle.isle_calls.specs.declared.answer.Answer.TheVariants.{Value, None as NoAnswer, Stuck, Spent, IllTyped}
use Rattle.isle_program.specs.declared.program.Program.{Program}
use Rattle.isle_values.specs.declared.worlds.reading.WorldFault.{WorldFault}
use Rattle.islec.specs.Worlds.{world_fault_line}
use Rattle.islec.specs.declared.answer.Manner.{Manner}

-- bytes without a newline
abbrev pub AreOnOneLine : List ℕ → Type 0
AreOnOneLine bytes = (i : ℕ) → i < length bytes → get_or bytes i 0 ≢ 10

-- a reason: nothing, or where reasons are asked for also words on a line behind two spaces
abbrev pub IsReason : (asked : Bool) → List ℕ → Type 0
IsReason asked told = (told ≡ []) ⊎ ((asked ≡ true) × ((words : List ℕ) × AreOnOneLine words × (told ≡ codes "  " ++ (words ++ codes "\n"))))

-- below an answer that is spent, where reasons are asked for, how many calls may be open at once
abbrev pub depth_line : Manner → Answer → List ℕ
depth_line manner (Value v) = []
depth_line manner NoAnswer = []
depth_line manner (Stuck term args) = []
depth_line manner Spent =
    if manner.explain then codes "  --depth is " ++ (decimal manner.depth ++ codes ": so many calls may be open at once\n") else []
depth_line manner (IllTyped term args) = []

-- what is told of a fault: its report, and its reason below it
pub record ExplainsFault (files : List SourceFile) (fault : Error) (line : List ℕ) : Type 0 where
  pub told : List ℕ
  pub reason : IsReason true told
  pub is : line ≡ error_text files fault ++ told

-- faults one behind the other, each with its reason below it
pub data ExplainEach (files : List SourceFile) : List Error → List ℕ → Type 0 where
  no_faults : ExplainEach files [] []
  more_faults : {fault : Error} {faults : List Error} {line lines : List ℕ} → ExplainsFault files fault line → ExplainEach files faults lines
      → ExplainEach files (fault ∷ faults) (line ++ lines)

-- what is printed of faults: their report, and where reasons are asked for each fault with its reason
abbrev pub ReportsFaults : (asked : Bool) → Report → List ℕ → Type 0
ReportsFaults true report text = ExplainEach report.files report.errors text
ReportsFaults false report text = text ≡ report_text report

-- the line that tells why a world is refused, and its reason below it
abbrev pub TellsFault : (asked : Bool) → Program → SourceFile → WorldFault → List ℕ → Type 0
TellsFault asked program file fault line = (told : List ℕ) × IsReason asked told × (line ≡ world_fault_line program file fault ++ told)
