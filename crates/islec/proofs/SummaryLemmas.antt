-- What is written of all replies and of what is told behind them, by what each writes.
use Rattle.std.proofs.Common.{◌≡◌, ◌≢◌, ◌∙◌, inr, ℕ, Bool, List, Option, Result, Ok, Err, IfOk, IfErr, OnOk, sym}
use Rattle.std.specs.Io.KnownBytes.{Appends, Keeps}
use Rattle.islec.specs.Replies.{Setting}
use Rattle.islec.specs.Serving.{AnswersAll, AnswersAndTells, AnswersOrTellsCut, AnswersUntilMemory, IsSummary}
use Rattle.islec.specs.Writing.{AppendsBeginning}
use Rattle.islec.specs.declared.serve.ServeFault.{ServeFault}
use Rattle.islec.specs.declared.serve.ServeFault.TheVariants.{Memory}
use Rattle.islec.specs.declared.status.Status.{Status}

module _ {V : Type 0} (setting : Setting V) (before after : V) (input left old middle new : Option (List ℕ)) where
  pub summed : (refused : Bool) (status want : Status) (r : Result Status ServeFault) → IfOk r (λ s. s ≡ status)
      → OnOk r ((lines : List ℕ) × IsSummary setting.manner lines × Appends middle new lines)
      → (status ≡ want → AnswersAll setting before input refused old middle after)
      → IfOk r (λ s. s ≡ want → AnswersAndTells setting before input refused old new after)
  summed refused status want (Ok s) same wrote told = λ e. (middle, wrote.0, told (sym same ∙ e), wrote.1, wrote.2)
  summed refused status want (Err f) same wrote told = tt

  pub summed_cut : (refused : Bool) (r : Result Status ServeFault) → AnswersAll setting before input refused old middle after
      → IfErr r (λ f. f ≢ Memory → (lines : List ℕ) × IsSummary setting.manner lines × AppendsBeginning middle new lines)
      → IfErr r (λ f. f ≢ Memory → AnswersOrTellsCut setting before input old new after)
  summed_cut refused (Ok s) all wrote = tt
  summed_cut refused (Err f) all wrote = λ no. let (lines, is, some) = wrote no in inr (refused, middle, lines, all, is, some)

  pub summed_memory : (refused : Bool) (r : Result Status ServeFault) → AnswersAll setting before input refused old middle after
      → IfErr r (λ f. f ≡ Memory → Keeps middle new) → IfErr r (λ f. f ≡ Memory → AnswersUntilMemory setting before input left old new after)
  summed_memory refused (Ok s) all kept = tt
  summed_memory refused (Err f) all kept = λ is. inr (refused, middle, all, kept is)
