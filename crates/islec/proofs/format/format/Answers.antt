use Rattle.std.proofs.Common.{◌≡◌, ◌∷◌, ◌∙◌, [], List, Option, ℕ, ap, map, refl, rules, subst}
use Rattle.std.proofs.lemmas.Result.{err_from_is_err_and}
use Rattle.isle_syntax.specs.Errors.{Report, report_text}
use Rattle.isle_ast.specs.declared.error.Error.{Error}
use Rattle.isle_ast.specs.Positions.Files.{SourceFile, source_file}
use Rattle.isle_program.specs.Compiled.{IsFirstFault}
use Rattle.islec.specs.Writing.{AppendsBeginning}
use Rattle.islec.proofs.PrintsLemmas.{fault_stops}
use Rattle.islec.proofs.format.format.Goals as goal

-- a beginning of a report of one error of these files
report_of : (files all : List SourceFile) (error : Error) (report : Report) (old new : Option (List ℕ)) → files ≡ all
    → report ≡ record { errors = error ∷ []; files = files } → AppendsBeginning old new (report_text report)
    → AppendsBeginning old new (report_text (record { errors = error ∷ []; files = all }))
report_of files all error report old new same is wrote =
    let text = subst (λ (r : Report). AppendsBeginning old new (report_text r)) is wrote in
    subst (λ (l : List SourceFile). AppendsBeginning old new (report_text (record { errors = error ∷ []; files = l }))) same text

pub returns-in_err-write_faults-in-Err-Fault : goal.returns-in_err-write_faults-in-Err-Fault
returns-in_err-write_faults-in-Err-Fault g c =
    let files = c.in_ok-files.files.value in
    let error = c.in-Err-Fault.error in
    let same : files ≡ map source_file c.args.texts.items = c.in_ok-files.ensures.ok ∙ c.in_ok-from_names_and_contents.ensures in
    let here : IsFirstFault files error = search rules in
    let first = subst (λ (l : List SourceFile). IsFirstFault l error) same here in
    let pushed = rw c.new-errors.ensures.items at c.in_ok-push-in-Err-Fault.ensures.items in
    let alone : c.push.new.self.items ≡ c.in-Err-Fault.error ∷ [] = pushed ∙ ap (λ (e : Error). e ∷ []) c.in-Err-Fault.error-is in
    let is : c.new-in-Err-Fault.result ≡ record { errors = error ∷ []; files = files } =
    c.new-in-Err-Fault.ensures ∙ ap (λ (l : List Error). let r : Report = record { errors = l; files = files } in r) alone in
    let p = err_from_is_err_and c.from_residual-in_err-write_faults-in-Err-Fault.result c.from_residual-in_err-write_faults-in-Err-Fault.ensures.1 in
    record {
      ends = rw (p.1, p.2) (fault_stops c.args.printing (map source_file c.args.texts.items) (g.W.Write.contents c.args.writer.now)
          (g.W.Write.contents c.write_faults-in-Err-Fault.new.writer) _ _ c.in_err-write_faults-in-Err-Fault.field-0.0 error first refl
          (λ other. report_of files (map source_file c.args.texts.items) error c.new-in-Err-Fault.result _ _ same is
          (c.in_err-write_faults-in-Err-Fault.ensures.cut other))
          c.in_err-write_faults-in-Err-Fault.ensures.memory);
    }
