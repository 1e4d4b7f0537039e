-- How jobs end, by what their parts promise.
use Rattle.std.proofs.Common.{◌≡◌, ◌≢◌, ◌⊎◌, ◌∙◌, ℕ, Bool, true, false, List, Option, Result, Ok, Err, IfOk, IfErr, inl, inr, refl, sym, subst}
use Rattle.std.specs.Prelude.{codes}
use Rattle.std.specs.Io.KnownBytes.{Keeps}
use Rattle.isle_ast.specs.Positions.Files.{SourceFile}
use Rattle.isle_program.specs.Compiled.{AreAccepted}
use Rattle.islec.specs.declared.answer.Manner.{Manner}
use Rattle.islec.specs.Drawing.{WritesTrees, WritesUnknown, CutsTrees}
use Rattle.islec.specs.Endings.{EndsRun, EndsCheck, EndsBlocks}
use Rattle.islec.specs.Formatting.{EndsFmt, IsFormatted}
use Rattle.islec.specs.Running.{WritesFaults, WritesAccepted, WritesAnswers, WritesRefusal, CutsCheck, CutsRun, AnswersSome}
use Rattle.islec.specs.Statuses.{IsEnd, EndsAs}
use Rattle.islec.specs.declared.format.Printing.{Printing}
use Rattle.islec.specs.declared.serve.ServeFault.{ServeFault}
use Rattle.islec.specs.declared.serve.ServeFault.TheVariants.{Read, Write, Memory}
use Rattle.islec.specs.declared.status.Status.{Status}
use Rattle.islec.specs.declared.terms.Telling.{Telling}
use Rattle.islec.specs.declared.status.Status.TheVariants.{AllWell, TextsRefused, Usage, SomeRefused, InputOutput, OutOfMemory}
use Rattle.islec.proofs.WritingLemmas.{line_behind}

-- what is said of a status and of what is written is said of the same
moved : (P : Option (List ℕ) → Status → Type 0) (own status : Status) (mid new : Option (List ℕ)) → status ≡ own
    → new ≡ mid → P mid own → P new status
moved P own status mid new is same p = subst (P new) (sym is) (subst (λ n. P n own) (sym same) p)

module _ (manner : Manner) (files : List SourceFile) (world : SourceFile) (input left old mid : Option (List ℕ)) where
  pub run_ends : (done : Result Status ServeFault) (status : Status) (new : Option (List ℕ)) → EndsAs done status mid new
      → IfOk done (λ s. (s ≡ AllWell) ⊎ (s ≡ SomeRefused) → AreAccepted files)
      → IfOk done (λ s. s ≡ AllWell → WritesAnswers files world manner input false old mid)
      → IfOk done (λ s. s ≡ SomeRefused → WritesAnswers files world manner input true old mid)
      → IfOk done (λ s. s ≡ TextsRefused → WritesRefusal files world manner old mid)
      → IfOk done IsEnd
      → IfErr done (λ f. f ≢ Memory → CutsRun files world manner input old mid)
      → IfErr done (λ f. f ≡ Memory → AnswersSome files world manner input left old mid)
      → EndsRun manner files world input left old new status
  run_ends (Ok AllWell) status new (is, same) accepted well some refused other cut memory =
      moved (λ n s. EndsRun manner files world input left old n s) AllWell status mid new is same (accepted (inl refl), well refl)
  run_ends (Ok TextsRefused) status new (is, same) accepted well some refused other cut memory =
      moved (λ n s. EndsRun manner files world input left old n s) TextsRefused status mid new is same (refused refl)
  run_ends (Ok Usage) status new (is, same) accepted well some refused other cut memory = absurd other
  run_ends (Ok SomeRefused) status new (is, same) accepted well some refused other cut memory =
      moved (λ n s. EndsRun manner files world input left old n s) SomeRefused status mid new is same (accepted (inr refl), some refl)
  run_ends (Ok InputOutput) status new (is, same) accepted well some refused other cut memory = absurd other
  run_ends (Ok OutOfMemory) status new (is, same) accepted well some refused other cut memory = absurd other
  run_ends (Err Read) status new (is, same) accepted well some refused other cut memory =
      moved (λ n s. EndsRun manner files world input left old n s) InputOutput status mid new is same (cut (λ no. absurd cc))
  run_ends (Err Write) status new (is, same) accepted well some refused other cut memory =
      moved (λ n s. EndsRun manner files world input left old n s) InputOutput status mid new is same (cut (λ no. absurd cc))
  run_ends (Err Memory) status new (is, wrote) accepted well some refused other cut memory =
      subst (λ s. EndsRun manner files world input left old new s) (sym is) (mid, memory refl, wrote)

module _ (telling : Telling) (files : List SourceFile) (old mid : Option (List ℕ)) where
  pub check_ends : (done : Result Status ServeFault) (status : Status) (new : Option (List ℕ)) → EndsAs done status mid new
      → IfOk done (λ s. s ≡ AllWell → WritesAccepted files telling old mid)
      → IfOk done (λ s. s ≡ TextsRefused → WritesFaults telling.explain files old mid)
      → IfOk done (λ s. (s ≡ AllWell) ⊎ (s ≡ TextsRefused))
      → IfErr done (λ f. f ≢ Memory → CutsCheck files telling old mid)
      → IfErr done (λ f. f ≡ Memory → Keeps old mid)
      → EndsCheck telling files old new status
  check_ends (Ok own) status new (is, same) accepted refused (inl e) cut memory =
      moved (λ n s. EndsCheck telling files old n s) AllWell status mid new (is ∙ e) same (accepted e)
  check_ends (Ok own) status new (is, same) accepted refused (inr e) cut memory =
      moved (λ n s. EndsCheck telling files old n s) TextsRefused status mid new (is ∙ e) same (refused e)
  check_ends (Err Read) status new (is, same) accepted refused other cut memory =
      moved (λ n s. EndsCheck telling files old n s) InputOutput status mid new is same (cut (λ no. absurd cc))
  check_ends (Err Write) status new (is, same) accepted refused other cut memory =
      moved (λ n s. EndsCheck telling files old n s) InputOutput status mid new is same (cut (λ no. absurd cc))
  check_ends (Err Memory) status new (is, wrote) accepted refused other cut memory =
      subst (λ s. EndsCheck telling files old new s) (sym is) (line_behind old new (codes "out of memory\n") (mid, memory refl, wrote))

module _ (names : List (List ℕ)) (dot : Bool) (files : List SourceFile) (old mid : Option (List ℕ)) where
  pub blocks_ends : (done : Result Status ServeFault) (status : Status) (new : Option (List ℕ)) → EndsAs done status mid new
      → IfOk done (λ s. s ≡ AllWell → WritesTrees files names dot old mid)
      → IfOk done (λ s. s ≡ Usage → WritesUnknown files names old mid)
      → IfOk done (λ s. s ≡ TextsRefused → WritesFaults false files old mid)
      → IfOk done (λ s. (s ≡ AllWell) ⊎ ((s ≡ Usage) ⊎ (s ≡ TextsRefused)))
      → IfErr done (λ f. f ≢ Memory → CutsTrees files names dot old mid)
      → IfErr done (λ f. f ≡ Memory → Keeps old mid)
      → EndsBlocks names dot files old new status
  blocks_ends (Ok own) status new (is, same) drawn unknown refused (inl e) cut memory =
      moved (λ n s. EndsBlocks names dot files old n s) AllWell status mid new (is ∙ e) same (drawn e)
  blocks_ends (Ok own) status new (is, same) drawn unknown refused (inr (inl e)) cut memory =
      moved (λ n s. EndsBlocks names dot files old n s) Usage status mid new (is ∙ e) same (unknown e)
  blocks_ends (Ok own) status new (is, same) drawn unknown refused (inr (inr e)) cut memory =
      moved (λ n s. EndsBlocks names dot files old n s) TextsRefused status mid new (is ∙ e) same (refused e)
  blocks_ends (Err Read) status new (is, same) drawn unknown refused other cut memory =
      moved (λ n s. EndsBlocks names dot files old n s) InputOutput status mid new is same (cut (λ no. absurd cc))
  blocks_ends (Err Write) status new (is, same) drawn unknown refused other cut memory =
      moved (λ n s. EndsBlocks names dot files old n s) InputOutput status mid new is same (cut (λ no. absurd cc))
  blocks_ends (Err Memory) status new (is, wrote) drawn unknown refused other cut memory =
      subst (λ s. EndsBlocks names dot files old new s) (sym is) (line_behind old new (codes "out of memory\n") (mid, memory refl, wrote))

module _ (printing : Printing) (files : List SourceFile) (old mid : Option (List ℕ)) (before after : Option (List SourceFile)) where
  pub fmt_ends : (done : Result Status ServeFault) (status : Status) (new : Option (List ℕ)) → EndsAs done status mid new
      → IsFormatted printing files old mid before after done → EndsFmt printing files old new before after status
  fmt_ends (Ok own) status new (is, same) ends = moved (λ n s. EndsFmt printing files old n before after s) own status mid new is same ends
  fmt_ends (Err Read) status new (is, same) ends = moved (λ n s. EndsFmt printing files old n before after s) InputOutput status mid new is same ends
  fmt_ends (Err Write) status new (is, same) ends = moved (λ n s. EndsFmt printing files old n before after s) InputOutput status mid new is same ends
  fmt_ends (Err Memory) status new (is, wrote) (kept, stops) =
      subst (λ s. EndsFmt printing files old new before after s) (sym is)
      (line_behind old new (codes "out of memory\n") (mid, kept, wrote), stops)
