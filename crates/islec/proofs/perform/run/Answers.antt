use Rattle.std.proofs.Common.{refl, ◌≡◌, ◌∙◌, map, subst, sym, true, false}
use Rattle.isle_ast.specs.Positions.Files.{source_file}
use Rattle.isle_program.specs.Compiled.{IsProgramOf}
use Rattle.islec.specs.Worlds.{world_file}
use Rattle.islec.specs.declared.status.Status.TheVariants.{AllWell, SomeRefused}
use Rattle.islec.proofs.RunLemmas.{answers_by, tells_by, cuts_by, stops_by, refuses_by, refusal_cut, nothing_by}
use Rattle.islec.proofs.perform.run.Goals as goal

pub returns-in-Ok-clause-all_well : goal.returns-in-Ok-clause-all_well
returns-in-Ok-clause-all_well g c =
    let same : c.deref.result.now ≡ map source_file c.args.texts.items =
    c.deref.ensures ∙ c.in_ok-files.ensures.ok ∙ c.in_ok-from_names_and_contents.ensures in
    let is = subst (λ l. IsProgramOf l c.in-Ok.program) (c.in_ok-clone.ensures.cases ∙ sym c.deref.ensures) c.in-Ok.ensures.compiled in
    answers_by _ _ same c.in-Ok.program is (world_file c.args.world) c.args.manner (g.R.Read.remaining c.args.reader.now)
    (g.R.Read.remaining c.run_program-ended.new.reader) (g.W.Write.contents c.args.writer.now)
    (g.W.Write.contents c.run_program-ended.new.writer) false AllWell c.run_program-ended.result c.run_program-ended.ensures.all_well

pub returns-in-Ok-clause-some_refused : goal.returns-in-Ok-clause-some_refused
returns-in-Ok-clause-some_refused g c =
    let same : c.deref.result.now ≡ map source_file c.args.texts.items =
    c.deref.ensures ∙ c.in_ok-files.ensures.ok ∙ c.in_ok-from_names_and_contents.ensures in
    let is = subst (λ l. IsProgramOf l c.in-Ok.program) (c.in_ok-clone.ensures.cases ∙ sym c.deref.ensures) c.in-Ok.ensures.compiled in
    answers_by _ _ same c.in-Ok.program is (world_file c.args.world) c.args.manner (g.R.Read.remaining c.args.reader.now)
    (g.R.Read.remaining c.run_program-ended.new.reader) (g.W.Write.contents c.args.writer.now)
    (g.W.Write.contents c.run_program-ended.new.writer) true SomeRefused c.run_program-ended.result c.run_program-ended.ensures.some_refused

pub returns-in-Ok-clause-refused : goal.returns-in-Ok-clause-refused
returns-in-Ok-clause-refused g c =
    let same : c.deref.result.now ≡ map source_file c.args.texts.items =
    c.deref.ensures ∙ c.in_ok-files.ensures.ok ∙ c.in_ok-from_names_and_contents.ensures in
    let is = subst (λ l. IsProgramOf l c.in-Ok.program) (c.in_ok-clone.ensures.cases ∙ sym c.deref.ensures) c.in-Ok.ensures.compiled in
    tells_by _ _ same c.in-Ok.program is (world_file c.args.world) c.args.manner (g.R.Read.remaining c.args.reader.now)
    (g.R.Read.remaining c.run_program-ended.new.reader) (g.W.Write.contents c.args.writer.now)
    (g.W.Write.contents c.run_program-ended.new.writer) c.run_program-ended.result c.run_program-ended.ensures.refused

pub returns-in-Ok-clause-cut : goal.returns-in-Ok-clause-cut
returns-in-Ok-clause-cut g c =
    let same : c.deref.result.now ≡ map source_file c.args.texts.items =
    c.deref.ensures ∙ c.in_ok-files.ensures.ok ∙ c.in_ok-from_names_and_contents.ensures in
    let is = subst (λ l. IsProgramOf l c.in-Ok.program) (c.in_ok-clone.ensures.cases ∙ sym c.deref.ensures) c.in-Ok.ensures.compiled in
    cuts_by _ _ same c.in-Ok.program is (world_file c.args.world) c.args.manner (g.R.Read.remaining c.args.reader.now)
    (g.R.Read.remaining c.run_program-ended.new.reader) (g.W.Write.contents c.args.writer.now)
    (g.W.Write.contents c.run_program-ended.new.writer) c.run_program-ended.result c.run_program-ended.ensures.cut

pub returns-in-Ok-clause-memory : goal.returns-in-Ok-clause-memory
returns-in-Ok-clause-memory g c =
    let same : c.deref.result.now ≡ map source_file c.args.texts.items =
    c.deref.ensures ∙ c.in_ok-files.ensures.ok ∙ c.in_ok-from_names_and_contents.ensures in
    let is = subst (λ l. IsProgramOf l c.in-Ok.program) (c.in_ok-clone.ensures.cases ∙ sym c.deref.ensures) c.in-Ok.ensures.compiled in
    stops_by _ _ same c.in-Ok.program is (world_file c.args.world) c.args.manner (g.R.Read.remaining c.args.reader.now)
    (g.R.Read.remaining c.run_program-ended.new.reader) (g.W.Write.contents c.args.writer.now)
    (g.W.Write.contents c.run_program-ended.new.writer) c.run_program-ended.result c.run_program-ended.ensures.memory

pub returns-in-Err-Faults-clause-refused : goal.returns-in-Err-Faults-clause-refused
returns-in-Err-Faults-clause-refused g c =
    let same : c.in_ok-clone.field-0.value ≡ map source_file c.args.texts.items =
    c.in_ok-clone.ensures.cases ∙ c.in_ok-files.ensures.ok ∙ c.in_ok-from_names_and_contents.ensures in
    let told = c.in-Err-Faults.ensures in
    refuses_by c.in_ok-clone.field-0.value (map source_file c.args.texts.items) c.in-Err-Faults.field-0 c.in-Err-Faults.errors
    (g.W.Write.contents c.args.writer.now) (g.W.Write.contents c.refuse.new.writer) c.in-Err-Faults.field-0-is same
    told.refused told.faults told.of_files (world_file c.args.world) c.args.manner c.refuse.result c.refuse.ensures.written

pub returns-in-Err-Faults-clause-cut : goal.returns-in-Err-Faults-clause-cut
returns-in-Err-Faults-clause-cut g c =
    let same : c.in_ok-clone.field-0.value ≡ map source_file c.args.texts.items =
    c.in_ok-clone.ensures.cases ∙ c.in_ok-files.ensures.ok ∙ c.in_ok-from_names_and_contents.ensures in
    let told = c.in-Err-Faults.ensures in
    refusal_cut c.in_ok-clone.field-0.value (map source_file c.args.texts.items) c.in-Err-Faults.field-0 c.in-Err-Faults.errors
    (g.W.Write.contents c.args.writer.now) (g.W.Write.contents c.refuse.new.writer) c.in-Err-Faults.field-0-is same
    told.refused told.faults told.of_files (world_file c.args.world) c.args.manner (g.R.Read.remaining c.args.reader.now)
    c.refuse.result c.refuse.ensures.cut

pub returns-in-Err-Faults-clause-memory : goal.returns-in-Err-Faults-clause-memory
returns-in-Err-Faults-clause-memory g c =
    nothing_by (map source_file c.args.texts.items) (world_file c.args.world) c.args.manner (g.R.Read.remaining c.args.reader.now)
    (g.R.Read.remaining c.args.reader.now) (g.W.Write.contents c.args.writer.now)
    (g.W.Write.contents c.refuse.new.writer) c.refuse.result refl c.refuse.ensures.memory

pub run_program-ended-requires : goal.run_program-ended-requires
run_program-ended-requires g c = record { files = _; is = c.in-Ok.ensures.compiled }
