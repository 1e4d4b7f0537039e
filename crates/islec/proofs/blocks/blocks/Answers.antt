use Rattle.std.proofs.Common.{◌≡◌, ◌∙◌, List, false, map, subst, sym}
use Rattle.std.specs.Prelude.{string_bytes}
use Rattle.isle_ast.specs.Positions.Files.{SourceFile, source_file}
use Rattle.isle_program.specs.Compiled.{AreAccepted, IsProgramOf}
use Rattle.islec.proofs.DrawingLemmas.{draw_cut, draws_by, refusal_undrawn, unknown_by}
use Rattle.islec.proofs.RunLemmas.{faults_by}
use Rattle.islec.proofs.StatusLemmas.{drawn_ends, drawn_not_refused}
use Rattle.islec.proofs.blocks.blocks.Goals as goal

pub returns-in-Err-Faults-clause-refused : goal.returns-in-Err-Faults-clause-refused
returns-in-Err-Faults-clause-refused g c =
    let same : c.in_ok-clone.field-0.value ≡ map source_file c.args.texts.items =
    c.in_ok-clone.ensures.cases ∙ c.in_ok-files.ensures.ok ∙ c.in_ok-from_names_and_contents.ensures in
    let told = c.in-Err-Faults.ensures in
    faults_by c.in_ok-clone.field-0.value (map source_file c.args.texts.items) c.in-Err-Faults.field-0 c.in-Err-Faults.errors
    (g.W.Write.contents c.args.writer.now) (g.W.Write.contents c.refuse.new.writer) c.in-Err-Faults.field-0-is same
    told.refused told.faults told.of_files false c.refuse.result c.refuse.ensures.written

pub returns-in-Err-Faults-clause-cut : goal.returns-in-Err-Faults-clause-cut
returns-in-Err-Faults-clause-cut g c =
    let same : c.in_ok-clone.field-0.value ≡ map source_file c.args.texts.items =
    c.in_ok-clone.ensures.cases ∙ c.in_ok-files.ensures.ok ∙ c.in_ok-from_names_and_contents.ensures in
    let told = c.in-Err-Faults.ensures in
    refusal_undrawn c.in_ok-clone.field-0.value (map source_file c.args.texts.items) c.in-Err-Faults.field-0 c.in-Err-Faults.errors
    (g.W.Write.contents c.args.writer.now) (g.W.Write.contents c.refuse.new.writer) c.in-Err-Faults.field-0-is same
    told.refused told.faults told.of_files (map string_bytes c.args.names.now) c.args.dot c.refuse.result c.refuse.ensures.cut

pub returns-in-Ok-clause-drawn : goal.returns-in-Ok-clause-drawn
returns-in-Ok-clause-drawn g c =
    let copy : c.in_ok-clone.field-0.value ≡ c.deref.result.now = c.in_ok-clone.ensures.cases ∙ sym c.deref.ensures in
    let same : c.deref.result.now ≡ map source_file c.args.texts.items =
    c.deref.ensures ∙ c.in_ok-files.ensures.ok ∙ c.in_ok-from_names_and_contents.ensures in
    draws_by c.deref.result.now (map source_file c.args.texts.items) same c.in-Ok.program
    (subst (λ (l : List SourceFile). IsProgramOf l c.in-Ok.program) copy c.in-Ok.ensures.compiled) (subst AreAccepted copy c.in-Ok.ensures.accepted)
    (map string_bytes c.args.names.now) c.args.dot (g.W.Write.contents c.args.writer.now) (g.W.Write.contents c.draw-ended.new.writer)
    c.draw-ended.result c.draw-ended.ensures.drawn

pub returns-in-Ok-clause-unknown : goal.returns-in-Ok-clause-unknown
returns-in-Ok-clause-unknown g c =
    let copy : c.in_ok-clone.field-0.value ≡ c.deref.result.now = c.in_ok-clone.ensures.cases ∙ sym c.deref.ensures in
    let same : c.deref.result.now ≡ map source_file c.args.texts.items =
    c.deref.ensures ∙ c.in_ok-files.ensures.ok ∙ c.in_ok-from_names_and_contents.ensures in
    unknown_by c.deref.result.now (map source_file c.args.texts.items) same c.in-Ok.program
    (subst (λ (l : List SourceFile). IsProgramOf l c.in-Ok.program) copy c.in-Ok.ensures.compiled) (subst AreAccepted copy c.in-Ok.ensures.accepted)
    (map string_bytes c.args.names.now) c.args.dot (g.W.Write.contents c.args.writer.now) (g.W.Write.contents c.draw-ended.new.writer)
    c.draw-ended.result c.draw-ended.ensures.unknown

pub returns-in-Ok-clause-cut : goal.returns-in-Ok-clause-cut
returns-in-Ok-clause-cut g c =
    let copy : c.in_ok-clone.field-0.value ≡ c.deref.result.now = c.in_ok-clone.ensures.cases ∙ sym c.deref.ensures in
    let same : c.deref.result.now ≡ map source_file c.args.texts.items =
    c.deref.ensures ∙ c.in_ok-files.ensures.ok ∙ c.in_ok-from_names_and_contents.ensures in
    draw_cut c.deref.result.now (map source_file c.args.texts.items) same c.in-Ok.program
    (subst (λ (l : List SourceFile). IsProgramOf l c.in-Ok.program) copy c.in-Ok.ensures.compiled) (subst AreAccepted copy c.in-Ok.ensures.accepted)
    (map string_bytes c.args.names.now) c.args.dot (g.W.Write.contents c.args.writer.now) (g.W.Write.contents c.draw-ended.new.writer)
    c.draw-ended.result c.draw-ended.ensures.cut

pub returns-in-Ok-clause-refused : goal.returns-in-Ok-clause-refused
returns-in-Ok-clause-refused g c = drawn_not_refused _ c.draw-ended.result c.draw-ended.ensures.other

pub returns-in-Ok-clause-other : goal.returns-in-Ok-clause-other
returns-in-Ok-clause-other g c = drawn_ends c.draw-ended.result c.draw-ended.ensures.other
