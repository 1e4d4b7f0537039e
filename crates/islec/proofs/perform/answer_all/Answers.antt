use Rattle.std.proofs.Common.{List, inl, inr, true, false, subst}
use Rattle.isle_ast.specs.Positions.Files.{SourceFile}
use Rattle.islec.specs.Running.{in_entries}
use Rattle.islec.specs.Serving.{AnswersCut, AnswersFirst}
use Rattle.islec.specs.declared.serve.ServeFault.{ServeFault}
use Rattle.islec.specs.declared.status.Status.TheVariants.{AllWell, SomeRefused}
use Rattle.islec.proofs.SummaryLemmas.{summed, summed_cut, summed_memory}
use Rattle.islec.proofs.perform.answer_all.Goals as goal

pub returns-in-Ok-clause-all_well : goal.returns-in-Ok-clause-all_well
returns-in-Ok-clause-all_well g c =
    summed (in_entries c.args.program.now c.args.files.now c.args.world.now c.args.manner) c.args.world.now c.answer.new.world
    (g.R.Read.remaining c.args.reader.now)
    (g.R.Read.remaining c.answer.new.reader) (g.W.Write.contents c.args.writer.now) (g.W.Write.contents c.answer.new.writer)
    (g.W.Write.contents c.tell_summary.new.writer)
    false c.in-Ok.status AllWell c.tell_summary.result c.tell_summary.ensures.status c.tell_summary.ensures.written
    (rw c.new-watch.ensures at c.in-Ok.ensures.all_well)

pub returns-in-Ok-clause-some_refused : goal.returns-in-Ok-clause-some_refused
returns-in-Ok-clause-some_refused g c =
    summed (in_entries c.args.program.now c.args.files.now c.args.world.now c.args.manner) c.args.world.now c.answer.new.world
    (g.R.Read.remaining c.args.reader.now)
    (g.R.Read.remaining c.answer.new.reader) (g.W.Write.contents c.args.writer.now) (g.W.Write.contents c.answer.new.writer)
    (g.W.Write.contents c.tell_summary.new.writer)
    true c.in-Ok.status SomeRefused c.tell_summary.result c.tell_summary.ensures.status c.tell_summary.ensures.written
    (rw c.new-watch.ensures at c.in-Ok.ensures.some_refused)

pub returns-in-Ok-clause-cut : goal.returns-in-Ok-clause-cut
returns-in-Ok-clause-cut g c = elim c.in-Ok.ensures.other [
  | inl e ↦
      summed_cut (in_entries c.args.program.now c.args.files.now c.args.world.now c.args.manner) c.args.world.now c.answer.new.world
      (g.R.Read.remaining c.args.reader.now)
      (g.R.Read.remaining c.answer.new.reader) (g.W.Write.contents c.args.writer.now) (g.W.Write.contents c.answer.new.writer)
      (g.W.Write.contents c.tell_summary.new.writer)
      false c.tell_summary.result ((rw c.new-watch.ensures at c.in-Ok.ensures.all_well) e) c.tell_summary.ensures.cut
  | inr e ↦
      summed_cut (in_entries c.args.program.now c.args.files.now c.args.world.now c.args.manner) c.args.world.now c.answer.new.world
      (g.R.Read.remaining c.args.reader.now)
      (g.R.Read.remaining c.answer.new.reader) (g.W.Write.contents c.args.writer.now) (g.W.Write.contents c.answer.new.writer)
      (g.W.Write.contents c.tell_summary.new.writer)
      true c.tell_summary.result ((rw c.new-watch.ensures at c.in-Ok.ensures.some_refused) e) c.tell_summary.ensures.cut
]

pub returns-in-Ok-clause-memory : goal.returns-in-Ok-clause-memory
returns-in-Ok-clause-memory g c = elim c.in-Ok.ensures.other [
  | inl e ↦
      summed_memory (in_entries c.args.program.now c.args.files.now c.args.world.now c.args.manner) c.args.world.now c.answer.new.world
      (g.R.Read.remaining c.args.reader.now)
      (g.R.Read.remaining c.answer.new.reader) (g.W.Write.contents c.args.writer.now) (g.W.Write.contents c.answer.new.writer)
      (g.W.Write.contents c.tell_summary.new.writer)
      false c.tell_summary.result ((rw c.new-watch.ensures at c.in-Ok.ensures.all_well) e) c.tell_summary.ensures.memory
  | inr e ↦
      summed_memory (in_entries c.args.program.now c.args.files.now c.args.world.now c.args.manner) c.args.world.now c.answer.new.world
      (g.R.Read.remaining c.args.reader.now)
      (g.R.Read.remaining c.answer.new.reader) (g.W.Write.contents c.args.writer.now) (g.W.Write.contents c.answer.new.writer)
      (g.W.Write.contents c.tell_summary.new.writer)
      true c.tell_summary.result ((rw c.new-watch.ensures at c.in-Ok.ensures.some_refused) e) c.tell_summary.ensures.memory
]

pub returns-clause-cut : goal.returns-clause-cut
returns-clause-cut g c = λ other. inl (subst (λ (files : List SourceFile).
    AnswersCut (in_entries c.args.program.now files c.args.world.now c.args.manner) c.args.world.now (g.R.Read.remaining c.args.reader.now)
    (g.W.Write.contents c.args.writer.now) (g.W.Write.contents c.answer.new.writer) c.answer.new.world)
    c.new-watch.ensures (c.in-Err.ensures.cut other))

pub returns-clause-memory : goal.returns-clause-memory
returns-clause-memory g c = λ is. inl (subst (λ (fault : ServeFault).
    AnswersFirst (in_entries c.args.program.now c.args.files.now c.args.world.now c.args.manner) fault c.args.world.now
    (g.R.Read.remaining c.args.reader.now) (g.R.Read.remaining c.answer.new.reader) (g.W.Write.contents c.args.writer.now)
    (g.W.Write.contents c.answer.new.writer) c.answer.new.world) is
    (subst (λ (files : List SourceFile). AnswersFirst (in_entries c.args.program.now files c.args.world.now c.args.manner) c.in-Err.fault
    c.args.world.now (g.R.Read.remaining c.args.reader.now) (g.R.Read.remaining c.answer.new.reader) (g.W.Write.contents c.args.writer.now)
    (g.W.Write.contents c.answer.new.writer) c.answer.new.world) c.new-watch.ensures (c.in-Err.ensures.memory is)))
