-- What is written of a world that is refused.
use Rattle.std.proofs.Common.{◌≡◌, ◌≢◌, inl, inr, ℕ, Bool, List, Option, Result, Ok, Err, IfOk, IfErr, OnOk, subst, sym, ◌∙◌}
use Rattle.std.specs.Io.KnownBytes.{Appends, Keeps}
use Rattle.isle_ast.specs.Positions.Files.{SourceFile}
use Rattle.isle_program.specs.declared.program.Program.{Program}
use Rattle.isle_values.specs.declared.worlds.reading.WorldFault.{WorldFault}
use Rattle.isle_values.specs.Worlds.Entries.{EntryTree}
use Rattle.isle_values.specs.Worlds.Texts.{RefusesWorld}
use Rattle.islec.specs.declared.answer.Manner.{Manner}
use Rattle.islec.specs.declared.serve.ServeFault.{ServeFault}
use Rattle.islec.specs.declared.serve.ServeFault.TheVariants.{Memory}
use Rattle.islec.specs.declared.status.Status.{Status}
use Rattle.islec.specs.declared.status.Status.TheVariants.{TextsRefused}
use Rattle.islec.specs.Statuses.{IsEnd}
use Rattle.islec.specs.Running.{AnswersIn, TellsWorld, CutsIn, StopsIn, IsTableOf, in_entries}
use Rattle.islec.specs.Serving.{AnswersAndTells, AnswersOrTellsCut, AnswersUntilMemory}
use Rattle.islec.specs.Reasons.{TellsFault}
use Rattle.islec.specs.Writing.{AppendsBeginning}

module _ (program : Program) (files : List SourceFile) (world file : SourceFile) (manner : Manner) (same : file ≡ world) (fault : WorldFault)
    (refuses : RefusesWorld program file.text fault) (input left old new : Option (List ℕ)) where
  refused_in : RefusesWorld program world.text fault
  refused_in = subst (λ (f : SourceFile). RefusesWorld program f.text fault) same refuses

  pub never_answers : (refused : Bool) (want : Status) (r : Result Status ServeFault) → IfOk r (λ s. s ≡ TextsRefused) → (want ≡ TextsRefused → ⊥)
      → IfOk r (λ s. s ≡ want → AnswersIn program files world manner input refused old new)
  never_answers refused want (Err f) status other = tt
  never_answers refused want (Ok s) status other = λ e. absurd (other (sym e ∙ status))

  -- what is told of the file is told of the world
  told_in : (line : List ℕ) → TellsFault manner.explain program file fault line → TellsFault manner.explain program world fault line
  told_in line told = subst (λ (f : SourceFile). TellsFault manner.explain program f fault line) same told

  pub tells : (r : Result Status ServeFault) → OnOk r ((line : List ℕ) × TellsFault manner.explain program file fault line × Appends old new line)
      → IfOk r (λ s. s ≡ TextsRefused → TellsWorld manner.explain program world old new)
  tells (Err f) wrote = tt
  tells (Ok s) (line, told, wrote) = λ _. record { fault = fault; refused = refused_in; line = line; told = told_in line told; written = wrote }

  pub ends : (r : Result Status ServeFault) → IfOk r (λ s. s ≡ TextsRefused) → IfOk r IsEnd
  ends (Err f) status = tt
  ends (Ok s) status = subst IsEnd (sym status) tt

  pub cuts : (r : Result Status ServeFault)
      → IfErr r (λ f. f ≢ Memory → (line : List ℕ) × TellsFault manner.explain program file fault line × AppendsBeginning old new line)
      → IfErr r (λ f. f ≢ Memory → CutsIn program files world manner input old new)
  cuts (Ok s) wrote = tt
  cuts (Err f) wrote = λ e. let (line, told, some) = wrote e in
      inr (record { fault = fault; refused = refused_in; line = line; told = told_in line told; written = some })

  pub stops : (r : Result Status ServeFault) → left ≡ input → IfErr r (λ f. f ≡ Memory → Keeps old new)
      → IfErr r (λ f. f ≡ Memory → StopsIn program files world manner input left old new)
  stops (Ok s) still kept = tt
  stops (Err f) still kept = λ e. inl (still, kept e)

module _ (program : Program) (files : List SourceFile) (world : SourceFile) (manner : Manner) (entries after : List EntryTree)
    (spells : IsTableOf program world entries)
    (input left old new : Option (List ℕ)) where
  pub answers_in_world : (refused : Bool) (want : Status) (r : Result Status ServeFault)
      → IfOk r (λ s. s ≡ want → AnswersAndTells (in_entries program files entries manner) entries input refused old new after)
      → IfOk r (λ s. s ≡ want → AnswersIn program files world manner input refused old new)
  answers_in_world refused want (Err f) told = tt
  answers_in_world refused want (Ok s) told = λ e. (entries, after, spells, told e)

  pub cuts_in_world : (r : Result Status ServeFault) → IfErr r
      (λ f. f ≢ Memory → AnswersOrTellsCut (in_entries program files entries manner) entries input old new after)
      → IfErr r (λ f. f ≢ Memory → CutsIn program files world manner input old new)
  cuts_in_world (Ok s) told = tt
  cuts_in_world (Err f) told = λ e. inl (entries, after, spells, told e)

  pub stops_in_world : (r : Result Status ServeFault) → IfErr r
      (λ f. f ≡ Memory → AnswersUntilMemory (in_entries program files entries manner) entries input left old new after)
      → IfErr r (λ f. f ≡ Memory → StopsIn program files world manner input left old new)
  stops_in_world (Ok s) told = tt
  stops_in_world (Err f) told = λ e. inr (entries, after, spells, told e)
