-- What is written of files that are refused.
use Rattle.std.proofs.Common.{◌≡◌, ℕ, Bool, List, Option, subst}
use Rattle.std.specs.Io.KnownBytes.{Appends}
use Rattle.isle_syntax.specs.Errors.{Report}
use Rattle.isle_ast.specs.Positions.Files.{SourceFile}
use Rattle.isle_program.specs.declared.compiler.Refused.{Refused}
use Rattle.isle_program.specs.declared.compiler.Refused.TheVariants.{Faults}
use Rattle.isle_program.specs.Compiled.{AreAccepted, AreFaults, IfFaults}
use Rattle.islec.specs.Reasons.{ReportsFaults}
use Rattle.islec.specs.Running.{WritesFaults, CutsFaults}
use Rattle.islec.specs.Writing.{AppendsBeginning}

-- what is printed of the faults of these files
pub writes_faults : (asked : Bool) (text : List ℕ) (files all : List SourceFile) (refused : Refused) (report : Report) (old new : Option (List ℕ))
    → refused ≡ Faults report
    → files ≡ all → IfFaults refused (λ r. ¬ AreAccepted files) → IfFaults refused (λ r. AreFaults files r.errors)
    → IfFaults refused (λ r. r.files ≡ files) → ReportsFaults asked report text
    → Appends old new text → WritesFaults asked all old new
writes_faults asked text files all refused report old new is same not_accepted faults of_files told wrote =
    let own : report.files ≡ files = subst (λ (r : Refused). IfFaults r (λ told. told.files ≡ files)) is of_files in
    subst (λ (f : List SourceFile). WritesFaults asked f old new) same
    (record {
      errors = report.errors;
      refused = subst (λ (r : Refused). IfFaults r (λ told. ¬ AreAccepted files)) is not_accepted;
      faults = subst (λ (r : Refused). IfFaults r (λ told. AreFaults files told.errors)) is faults;
      text = text;
      told = subst (λ (f : List SourceFile). ReportsFaults asked (record { errors = report.errors; files = f }) text) own told;
      written = wrote;
    })

-- a beginning of it
pub cuts_faults : (asked : Bool) (text : List ℕ) (files all : List SourceFile) (refused : Refused) (report : Report) (old new : Option (List ℕ))
    → refused ≡ Faults report
    → files ≡ all → IfFaults refused (λ r. ¬ AreAccepted files) → IfFaults refused (λ r. AreFaults files r.errors)
    → IfFaults refused (λ r. r.files ≡ files) → ReportsFaults asked report text
    → AppendsBeginning old new text → CutsFaults asked all old new
cuts_faults asked text files all refused report old new is same not_accepted faults of_files told wrote =
    let own : report.files ≡ files = subst (λ (r : Refused). IfFaults r (λ told. told.files ≡ files)) is of_files in
    subst (λ (f : List SourceFile). CutsFaults asked f old new) same
    (record {
      errors = report.errors;
      refused = subst (λ (r : Refused). IfFaults r (λ told. ¬ AreAccepted files)) is not_accepted;
      faults = subst (λ (r : Refused). IfFaults r (λ told. AreFaults files told.errors)) is faults;
      text = text;
      told = subst (λ (f : List SourceFile). ReportsFaults asked (record { errors = report.errors; files = f }) text) own told;
      written = wrote;
    })
