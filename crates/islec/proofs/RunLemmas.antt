-- What a run of texts writes, by what its parts write.
use Rattle.std.proofs.Common.{◌≡◌, ◌≢◌, inl, inr, ℕ, Bool, List, Option, Result, Ok, Err, IfOk, IfErr, OnOk, subst}
use Rattle.std.specs.Io.KnownBytes.{Appends, Keeps}
use Rattle.isle_syntax.specs.Errors.{Report}
use Rattle.isle_ast.specs.Positions.Files.{SourceFile}
use Rattle.isle_program.specs.declared.compiler.Refused.{Refused}
use Rattle.isle_program.specs.declared.compiler.Refused.TheVariants.{Faults}
use Rattle.isle_program.specs.declared.program.Program.{Program}
use Rattle.isle_program.specs.Compiled.{AreAccepted, AreFaults, IsProgramOf, IfFaults}
use Rattle.islec.specs.declared.answer.Manner.{Manner}
use Rattle.islec.specs.declared.serve.ServeFault.{ServeFault}
use Rattle.islec.specs.declared.serve.ServeFault.TheVariants.{Memory}
use Rattle.islec.specs.declared.status.Status.{Status}
use Rattle.islec.specs.declared.status.Status.TheVariants.{AllWell, TextsRefused}
use Rattle.islec.specs.Reasons.{ReportsFaults}
use Rattle.islec.specs.Running.{TellsChecked, WritesFaults, WritesAnswers, WritesAccepted, WritesRefusal, CutsCheck, CutsRun, AnswersSome, AnswersIn, TellsWorld, CutsIn, StopsIn}
use Rattle.islec.specs.Writing.{AppendsBeginning}
use Rattle.islec.specs.declared.terms.Telling.{Telling}
use Rattle.islec.proofs.RefusedFiles.{writes_faults, cuts_faults}

module _ (files all : List SourceFile) (same : files ≡ all) (program : Program) (is : IsProgramOf files program)
    (world : SourceFile) (manner : Manner) (input left old new : Option (List ℕ)) where
  pub answers_by : (refused : Bool) (status : Status) (r : Result Status ServeFault)
      → IfOk r (λ s. s ≡ status → AnswersIn program files world manner input refused old new)
      → IfOk r (λ s. s ≡ status → WritesAnswers all world manner input refused old new)
  answers_by refused status (Err f) told = tt
  answers_by refused status (Ok s) told = λ e.
      (program, subst (λ l. IsProgramOf l program) same is, subst (λ l. AnswersIn program l world manner input refused old new) same (told e))

  pub tells_by : (r : Result Status ServeFault) → IfOk r (λ s. s ≡ TextsRefused → TellsWorld manner.explain program world old new)
      → IfOk r (λ s. s ≡ TextsRefused → WritesRefusal all world manner old new)
  tells_by (Err f) told = tt
  tells_by (Ok s) told = λ e. inr (program, subst (λ l. IsProgramOf l program) same is, told e)

  pub cuts_by : (r : Result Status ServeFault) → IfErr r (λ f. f ≢ Memory → CutsIn program files world manner input old new)
      → IfErr r (λ f. f ≢ Memory → CutsRun all world manner input old new)
  cuts_by (Ok s) told = tt
  cuts_by (Err f) told = λ e.
      inl (program, subst (λ l. IsProgramOf l program) same is, subst (λ l. CutsIn program l world manner input old new) same (told e))

  pub stops_by : (r : Result Status ServeFault) → IfErr r (λ f. f ≡ Memory → StopsIn program files world manner input left old new)
      → IfErr r (λ f. f ≡ Memory → AnswersSome all world manner input left old new)
  stops_by (Ok s) told = tt
  stops_by (Err f) told = λ e.
      inr (program, subst (λ l. IsProgramOf l program) same is, subst (λ l. StopsIn program l world manner input left old new) same (told e))

module _ (files all : List SourceFile) (refused : Refused) (report : Report) (old new : Option (List ℕ)) (is : refused ≡ Faults report)
    (same : files ≡ all)
    (not_accepted : IfFaults refused (λ r. ¬ AreAccepted files)) (faults : IfFaults refused (λ r. AreFaults files r.errors))
    (of_files : IfFaults refused (λ r. r.files ≡ files)) where
  pub faults_by : (asked : Bool) (r : Result Status ServeFault) → OnOk r ((text : List ℕ) × ReportsFaults asked report text × Appends old new text)
      → IfOk r (λ s. s ≡ TextsRefused → WritesFaults asked all old new)
  faults_by asked (Err f) wrote = tt
  faults_by asked (Ok s) (text, told, wrote) = λ _. writes_faults asked text files all refused report old
      new is same not_accepted faults of_files told wrote

  pub refuses_by : (world : SourceFile) (manner : Manner) (r : Result Status ServeFault)
      → OnOk r ((text : List ℕ) × ReportsFaults manner.explain report text × Appends old new text)
      → IfOk r (λ s. s ≡ TextsRefused → WritesRefusal all world manner old new)
  refuses_by world manner (Err f) wrote = tt
  refuses_by world manner (Ok s) (text, told, wrote) =
      λ _. inl (writes_faults manner.explain text files all refused report old new is same not_accepted faults of_files told wrote)

  pub refusal_cut : (world : SourceFile) (manner : Manner) (input : Option (List ℕ)) (r : Result Status ServeFault)
      → IfErr r (λ f. f ≢ Memory → (text : List ℕ) × ReportsFaults manner.explain report text × AppendsBeginning old new text)
      → IfErr r (λ f. f ≢ Memory → CutsRun all world manner input old new)
  refusal_cut world manner input (Ok s) wrote = tt
  refusal_cut world manner input (Err f) wrote = λ e. let (text, told, cut) = wrote e in
      inr (cuts_faults manner.explain text files all refused report old new is same not_accepted faults of_files told cut)

  pub refusal_uncheckable : (telling : Telling) (r : Result Status ServeFault)
      → IfErr r (λ f. f ≢ Memory → (text : List ℕ) × ReportsFaults telling.explain report text × AppendsBeginning old new text)
      → IfErr r (λ f. f ≢ Memory → CutsCheck all telling old new)
  refusal_uncheckable telling (Ok s) wrote = tt
  refusal_uncheckable telling (Err f) wrote = λ e. let (text, told, cut) = wrote e in
      inr (cuts_faults telling.explain text files all refused report old new is same not_accepted faults of_files told cut)

module _ (files all : List SourceFile) (same : files ≡ all) (program : Program) (is : IsProgramOf files program)
    (accepted : AreAccepted files) (telling : Telling)
    (old new : Option (List ℕ)) where
  pub accepts_by : (r : Result Status ServeFault) → OnOk r ((text : List ℕ) × TellsChecked files program telling text × Appends old new text)
      → IfOk r (λ s. s ≡ AllWell → WritesAccepted all telling old new)
  accepts_by (Err f) told = tt
  accepts_by (Ok s) told = λ _. record {
    accepted = subst AreAccepted same accepted;
    program = program;
    is = subst (λ l. IsProgramOf l program) same is;
    text = told.0;
    told = subst (λ l. TellsChecked l program telling told.0) same told.1;
    written = told.2;
  }

  pub tells_cut : (r : Result Status ServeFault) → IfErr r (λ f. f ≢ Memory → (text : List ℕ) × TellsChecked files program telling text
      × AppendsBeginning old new text)
      → IfErr r (λ f. f ≢ Memory → CutsCheck all telling old new)
  tells_cut (Ok s) told = tt
  tells_cut (Err f) told = λ e. let (text, tells, cut) = told e in
      inl (program, subst (λ l. IsProgramOf l program) same is, (text, subst (λ l. TellsChecked l program telling text) same tells, cut))

-- nothing is written
pub nothing_by : (files : List SourceFile) (world : SourceFile) (manner : Manner) (input left old new : Option (List ℕ))
    (r : Result Status ServeFault) → left ≡ input
    → IfErr r (λ f. f ≡ Memory → Keeps old new) → IfErr r (λ f. f ≡ Memory → AnswersSome files world manner input left old new)
nothing_by files world manner input left old new (Ok s) same kept = tt
nothing_by files world manner input left old new (Err f) same kept = λ e. inl (same, kept e)
