use Rattle.std.proofs.Common.{◌≡◌, ◌∙◌, inl, map, subst, sym}
use Rattle.std.proofs.lemmas.Result.{IfOk-weaker}
use Rattle.isle_ast.specs.Positions.Files.{source_file}
use Rattle.isle_program.specs.Compiled.{AreAccepted, IsProgramOf}
use Rattle.islec.specs.declared.status.Status.TheVariants.{AllWell, TextsRefused}
use Rattle.islec.proofs.RunLemmas.{faults_by, refusal_uncheckable, accepts_by, tells_cut}
use Rattle.islec.proofs.perform.check.Goals as goal

well_is_other : AllWell ≡ TextsRefused → ⊥
well_is_other e = cc

pub returns-in-Ok-clause-refused : goal.returns-in-Ok-clause-refused
returns-in-Ok-clause-refused g c =
    IfOk-weaker c.tell-ended.result _ _ (λ status well. λ e. absurd (well_is_other (sym well ∙ e))) c.tell-ended.ensures.status

pub returns-in-Ok-clause-other : goal.returns-in-Ok-clause-other
returns-in-Ok-clause-other g c = IfOk-weaker c.tell-ended.result _ _ (λ status well. inl well) c.tell-ended.ensures.status

pub returns-in-Err-Faults-clause-refused : goal.returns-in-Err-Faults-clause-refused
returns-in-Err-Faults-clause-refused g c =
    let same : c.in_ok-clone.field-0.value ≡ map source_file c.args.texts.items =
    c.in_ok-clone.ensures.cases ∙ c.in_ok-files.ensures.ok ∙ c.in_ok-from_names_and_contents.ensures in
    let told = c.in-Err-Faults.ensures in
    faults_by c.in_ok-clone.field-0.value (map source_file c.args.texts.items) c.in-Err-Faults.field-0 c.in-Err-Faults.errors
    (g.W.Write.contents c.args.writer.now) (g.W.Write.contents c.refuse.new.writer) c.in-Err-Faults.field-0-is same
    told.refused told.faults told.of_files c.args.telling.explain c.refuse.result c.refuse.ensures.written

pub returns-in-Err-Faults-clause-cut : goal.returns-in-Err-Faults-clause-cut
returns-in-Err-Faults-clause-cut g c =
    let same : c.in_ok-clone.field-0.value ≡ map source_file c.args.texts.items =
    c.in_ok-clone.ensures.cases ∙ c.in_ok-files.ensures.ok ∙ c.in_ok-from_names_and_contents.ensures in
    let told = c.in-Err-Faults.ensures in
    refusal_uncheckable c.in_ok-clone.field-0.value (map source_file c.args.texts.items) c.in-Err-Faults.field-0 c.in-Err-Faults.errors
    (g.W.Write.contents c.args.writer.now) (g.W.Write.contents c.refuse.new.writer) c.in-Err-Faults.field-0-is same
    told.refused told.faults told.of_files c.args.telling c.refuse.result c.refuse.ensures.cut

pub returns-in-Ok-clause-accepted : goal.returns-in-Ok-clause-accepted
returns-in-Ok-clause-accepted g c =
    let same : c.deref.result.now ≡ map source_file c.args.texts.items =
    c.deref.ensures ∙ c.in_ok-files.ensures.ok ∙ c.in_ok-from_names_and_contents.ensures in
    let alike = c.in_ok-clone.ensures.cases ∙ sym c.deref.ensures in
    accepts_by c.deref.result.now (map source_file c.args.texts.items) same c.in-Ok.program
    (subst (λ l. IsProgramOf l c.in-Ok.program) alike c.in-Ok.ensures.compiled) (subst AreAccepted alike c.in-Ok.ensures.accepted) c.args.telling
    (g.W.Write.contents c.args.writer.now) (g.W.Write.contents c.tell-ended.new.writer) c.tell-ended.result c.tell-ended.ensures.written

pub returns-in-Ok-clause-cut : goal.returns-in-Ok-clause-cut
returns-in-Ok-clause-cut g c =
    let same : c.deref.result.now ≡ map source_file c.args.texts.items =
    c.deref.ensures ∙ c.in_ok-files.ensures.ok ∙ c.in_ok-from_names_and_contents.ensures in
    let alike = c.in_ok-clone.ensures.cases ∙ sym c.deref.ensures in
    tells_cut c.deref.result.now (map source_file c.args.texts.items) same c.in-Ok.program
    (subst (λ l. IsProgramOf l c.in-Ok.program) alike c.in-Ok.ensures.compiled) (subst AreAccepted alike c.in-Ok.ensures.accepted) c.args.telling
    (g.W.Write.contents c.args.writer.now) (g.W.Write.contents c.tell-ended.new.writer) c.tell-ended.result c.tell-ended.ensures.cut

pub tell-ended-requires : goal.tell-ended-requires
tell-ended-requires g c = record { files = _; is = c.in-Ok.ensures.compiled }
