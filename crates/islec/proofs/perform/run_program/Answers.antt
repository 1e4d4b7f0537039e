use Rattle.std.proofs.Common.{refl, ◌≡◌, ℕ, List, true, false, sym, ◌∙◌, subst}
use Rattle.std.specs.Prelude.{string_bytes}
use Rattle.isle_ast.specs.Positions.Files.{SourceFile, source_file}
use Rattle.isle_values.specs.Worlds.Texts.{RefusesWorld, SpellsWorld}
use Rattle.islec.specs.Running.{IsTableOf}
use Rattle.islec.specs.Worlds.{world_file}
use Rattle.islec.specs.declared.status.Status.TheVariants.{AllWell, TextsRefused, SomeRefused}
use Rattle.islec.proofs.WorldLemmas.{never_answers, tells, ends, cuts, stops, answers_in_world, cuts_in_world, stops_in_world}
use Rattle.islec.proofs.perform.run_program.Goals as goal

all_well_is_other : AllWell ≡ TextsRefused → ⊥
all_well_is_other e = cc

some_refused_is_other : SomeRefused ≡ TextsRefused → ⊥
some_refused_is_other e = cc

pub returns : goal.returns
returns g c =
    let program = c.args.program.now in let world = world_file c.args.world in let fault = c.in-Err.fault in
    let file : SourceFile = record { name = c.as_str-in-Err.result.now; text = c.as_str-in-Err-2.result.now } in
    let named : c.as_str-in-Err.result.now ≡ string_bytes c.in_ok-name.name = c.as_str-in-Err.ensures.value in
    let told : c.as_str-in-Err-2.result.now ≡ string_bytes c.in_ok-name.text = c.as_str-in-Err-2.ensures.value in
    let parts : source_file (c.in_ok-name.name, c.in_ok-name.text) ≡ file = λ i. record { name = sym named i; text = sym told i } in
    let same : file ≡ world = sym parts ∙ c.in_ok-name.ensures in
    let refuses : RefusesWorld program file.text fault = subst (λ (t : List ℕ). RefusesWorld program t fault)
    (c.as_str.ensures.value ∙ sym told) c.in-Err.ensures.refused in
    let input = g.R.Read.remaining c.args.reader.now in let old = g.W.Write.contents c.args.writer.now in
    let new = g.W.Write.contents c.refuse_world.new.writer in
    let r = c.refuse_world.result in record {
      all_well = never_answers program c.args.files.now world file c.args.manner same fault refuses input input old new false
          AllWell r c.refuse_world.ensures.status all_well_is_other;
      some_refused = never_answers program c.args.files.now world file c.args.manner same fault refuses input input old new
          true SomeRefused r c.refuse_world.ensures.status some_refused_is_other;
      refused = tells program c.args.files.now world file c.args.manner same fault refuses input input old new r c.refuse_world.ensures.written;
      other = ends program c.args.files.now world file c.args.manner same fault refuses input input old new r c.refuse_world.ensures.status;
      cut = cuts program c.args.files.now world file c.args.manner same fault refuses input input old new r c.refuse_world.ensures.cut;
      memory = stops program c.args.files.now world file c.args.manner same fault refuses input input old new r refl c.refuse_world.ensures.memory;
    }

pub returns-in-Ok-clause-all_well : goal.returns-in-Ok-clause-all_well
returns-in-Ok-clause-all_well g c =
    let (entries, spelt, has) = c.in-Ok.ensures.spelt in
    let spells : IsTableOf c.args.program.now (world_file c.args.world) c.in-Ok.table = (
      entries,
      subst (λ (f : SourceFile). SpellsWorld c.args.program.now f.text entries) c.in_ok-name.ensures
          (subst (λ (t : List ℕ). SpellsWorld c.args.program.now t entries) c.as_str.ensures.value spelt),
      has,
    ) in
    answers_in_world c.args.program.now c.args.files.now (world_file c.args.world) c.args.manner c.in-Ok.table c.answer_all.new.world spells
    (g.R.Read.remaining c.args.reader.now) (g.R.Read.remaining c.answer_all.new.reader)
    (g.W.Write.contents c.args.writer.now) (g.W.Write.contents c.answer_all.new.writer) false AllWell c.answer_all.result
    (rw c.new-world.ensures at c.answer_all.ensures.all_well)

pub returns-in-Ok-clause-some_refused : goal.returns-in-Ok-clause-some_refused
returns-in-Ok-clause-some_refused g c =
    let (entries, spelt, has) = c.in-Ok.ensures.spelt in
    let spells : IsTableOf c.args.program.now (world_file c.args.world) c.in-Ok.table = (
      entries,
      subst (λ (f : SourceFile). SpellsWorld c.args.program.now f.text entries) c.in_ok-name.ensures
          (subst (λ (t : List ℕ). SpellsWorld c.args.program.now t entries) c.as_str.ensures.value spelt),
      has,
    ) in
    answers_in_world c.args.program.now c.args.files.now (world_file c.args.world) c.args.manner c.in-Ok.table c.answer_all.new.world spells
    (g.R.Read.remaining c.args.reader.now) (g.R.Read.remaining c.answer_all.new.reader)
    (g.W.Write.contents c.args.writer.now) (g.W.Write.contents c.answer_all.new.writer) true SomeRefused c.answer_all.result
    (rw c.new-world.ensures at c.answer_all.ensures.some_refused)

pub returns-in-Ok-clause-cut : goal.returns-in-Ok-clause-cut
returns-in-Ok-clause-cut g c =
    let (entries, spelt, has) = c.in-Ok.ensures.spelt in
    let spells : IsTableOf c.args.program.now (world_file c.args.world) c.in-Ok.table = (
      entries,
      subst (λ (f : SourceFile). SpellsWorld c.args.program.now f.text entries) c.in_ok-name.ensures
          (subst (λ (t : List ℕ). SpellsWorld c.args.program.now t entries) c.as_str.ensures.value spelt),
      has,
    ) in
    cuts_in_world c.args.program.now c.args.files.now (world_file c.args.world) c.args.manner c.in-Ok.table c.answer_all.new.world spells
    (g.R.Read.remaining c.args.reader.now) (g.R.Read.remaining c.answer_all.new.reader)
    (g.W.Write.contents c.args.writer.now) (g.W.Write.contents c.answer_all.new.writer) c.answer_all.result
    (rw c.new-world.ensures at c.answer_all.ensures.cut)

pub returns-in-Ok-clause-memory : goal.returns-in-Ok-clause-memory
returns-in-Ok-clause-memory g c =
    let (entries, spelt, has) = c.in-Ok.ensures.spelt in
    let spells : IsTableOf c.args.program.now (world_file c.args.world) c.in-Ok.table = (
      entries,
      subst (λ (f : SourceFile). SpellsWorld c.args.program.now f.text entries) c.in_ok-name.ensures
          (subst (λ (t : List ℕ). SpellsWorld c.args.program.now t entries) c.as_str.ensures.value spelt),
      has,
    ) in
    stops_in_world c.args.program.now c.args.files.now (world_file c.args.world) c.args.manner c.in-Ok.table c.answer_all.new.world spells
    (g.R.Read.remaining c.args.reader.now) (g.R.Read.remaining c.answer_all.new.reader)
    (g.W.Write.contents c.args.writer.now) (g.W.Write.contents c.answer_all.new.writer) c.answer_all.result
    (rw c.new-world.ensures at c.answer_all.ensures.memory)
