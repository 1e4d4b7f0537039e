use Rattle.std.proofs.Common.{◌≡◌, refl, subst, string_bytes}
use Rattle.std.specs.Io.KnownBytes.{Appends}
use Rattle.std.proofs.KnownBytes.{Appends-kept}
use Rattle.islec.specs.declared.serve.ServeFault.TheVariants.{Write}
use Rattle.islec.specs.Replies.{setting_in}
use Rattle.islec.specs.Serving.{AnswersCut}
use Rattle.islec.specs.Writing.{AppendsBeginning}
use Rattle.islec.proofs.WritingLemmas.{whole_begins}
use Rattle.islec.proofs.ServingLemmas.{holds, writes_first, cuts_first, writes_last, cut_continues, at_fault}
use Rattle.islec.proofs.serve.serve.Goals as goal

pub returns-then-is_unwritable-clause-continues : goal.returns-then-is_unwritable-clause-continues
returns-then-is_unwritable-clause-continues g c =
    let failed = c.is_unwritable.ensures.0 c.if-is_unwritable.true in
    cut_continues (setting_in g.V.World.step c.args.program.now c.args.watch.now.files.now (g.V.World.constructs c.args.world.now)
    (g.V.World.extracts c.args.world.now) c.args.manner) c.args.world.now c.serve_lines-outcome.new.world
    (g.R.Read.remaining c.args.reader.now) _ _ ((rw failed at c.serve_lines-outcome.ensures.cut) refl)

pub returns-then-is_unwritable-clause-cut : goal.returns-then-is_unwritable-clause-cut
returns-then-is_unwritable-clause-cut g c = λ _.
    let failed = c.is_unwritable.ensures.0 c.if-is_unwritable.true in
    (rw failed at c.serve_lines-outcome.ensures.cut) refl

pub returns-in_err-write_text-clause-continues : goal.returns-in_err-write_text-clause-continues
returns-in_err-write_text-clause-continues g c =
    let held = holds (setting_in g.V.World.step c.args.program.now c.args.watch.now.files.now (g.V.World.constructs c.args.world.now)
    (g.V.World.extracts c.args.world.now) c.args.manner) c.args.world.now c.serve_lines-outcome.new.world
    (g.R.Read.remaining c.args.reader.now) (g.R.Read.remaining c.serve_lines-outcome.new.input)
    (g.W.Write.contents c.args.writer.now)
    (g.W.Write.contents c.serve_lines-outcome.new.writer) (string_bytes c.serve_lines-outcome.new.unwritten) c.serve_lines-outcome.result
    (λ is. let yes = c.is_unwritable.ensures.1 is in let not = c.if-is_unwritable.false in absurd cc)
    c.serve_lines-outcome.ensures.answered c.serve_lines-outcome.ensures.stopped in
    let wrote = subst (AppendsBeginning (g.W.Write.contents c.serve_lines-outcome.new.writer) (g.W.Write.contents c.write_text.new.writer))
    c.as_str.ensures.value
    c.in_err-write_text.ensures.err in
    cut_continues (setting_in g.V.World.step c.args.program.now c.args.watch.now.files.now (g.V.World.constructs c.args.world.now)
    (g.V.World.extracts c.args.world.now) c.args.manner) c.args.world.now c.serve_lines-outcome.new.world
    (g.R.Read.remaining c.args.reader.now) _ _ (cuts_first _ _ _ _ _ _ _ _ held wrote)

pub returns-in_err-write_text-clause-cut : goal.returns-in_err-write_text-clause-cut
returns-in_err-write_text-clause-cut g c =
    let held = holds (setting_in g.V.World.step c.args.program.now c.args.watch.now.files.now (g.V.World.constructs c.args.world.now)
    (g.V.World.extracts c.args.world.now) c.args.manner) c.args.world.now c.serve_lines-outcome.new.world
    (g.R.Read.remaining c.args.reader.now) (g.R.Read.remaining c.serve_lines-outcome.new.input)
    (g.W.Write.contents c.args.writer.now)
    (g.W.Write.contents c.serve_lines-outcome.new.writer) (string_bytes c.serve_lines-outcome.new.unwritten) c.serve_lines-outcome.result
    (λ is. let yes = c.is_unwritable.ensures.1 is in let not = c.if-is_unwritable.false in absurd cc)
    c.serve_lines-outcome.ensures.answered c.serve_lines-outcome.ensures.stopped in
    let wrote = subst (AppendsBeginning (g.W.Write.contents c.serve_lines-outcome.new.writer) (g.W.Write.contents c.write_text.new.writer))
    c.as_str.ensures.value
    c.in_err-write_text.ensures.err in
    at_fault c.from_residual.result (λ fault. fault ≡ Write)
    (AnswersCut (setting_in g.V.World.step c.args.program.now c.args.watch.now.files.now (g.V.World.constructs c.args.world.now)
    (g.V.World.extracts c.args.world.now) c.args.manner) c.args.world.now (g.R.Read.remaining c.args.reader.now)
    (g.W.Write.contents c.args.writer.now) (g.W.Write.contents c.write_text.new.writer) c.serve_lines-outcome.new.world)
    (cuts_first _ _ _ _ _ _ _ _ held wrote)

pub returns-in_err-flush-clause-continues : goal.returns-in_err-flush-clause-continues
returns-in_err-flush-clause-continues g c =
    let held = holds (setting_in g.V.World.step c.args.program.now c.args.watch.now.files.now (g.V.World.constructs c.args.world.now)
    (g.V.World.extracts c.args.world.now) c.args.manner) c.args.world.now c.serve_lines-outcome.new.world
    (g.R.Read.remaining c.args.reader.now) (g.R.Read.remaining c.serve_lines-outcome.new.input)
    (g.W.Write.contents c.args.writer.now)
    (g.W.Write.contents c.serve_lines-outcome.new.writer) (string_bytes c.serve_lines-outcome.new.unwritten) c.serve_lines-outcome.result
    (λ is. let yes = c.is_unwritable.ensures.1 is in let not = c.if-is_unwritable.false in absurd cc)
    c.serve_lines-outcome.ensures.answered c.serve_lines-outcome.ensures.stopped in
    let wrote = Appends-kept (g.W.Write.contents c.serve_lines-outcome.new.writer) (g.W.Write.contents c.write_text.new.writer)
    (g.W.Write.contents c.flush.new.writer) (string_bytes c.serve_lines-outcome.new.unwritten)
    (subst (Appends (g.W.Write.contents c.serve_lines-outcome.new.writer) (g.W.Write.contents c.write_text.new.writer)) c.as_str.ensures.value
    c.in_ok-write_text.ensures.ok) c.flush.ensures.kept in
    cut_continues (setting_in g.V.World.step c.args.program.now c.args.watch.now.files.now (g.V.World.constructs c.args.world.now)
    (g.V.World.extracts c.args.world.now) c.args.manner) c.args.world.now c.serve_lines-outcome.new.world
    (g.R.Read.remaining c.args.reader.now) _ _ (cuts_first _ _ _ _ _ _ _ _ held (whole_begins _ _ _ wrote))

pub returns-in_err-flush-clause-cut : goal.returns-in_err-flush-clause-cut
returns-in_err-flush-clause-cut g c =
    let held = holds (setting_in g.V.World.step c.args.program.now c.args.watch.now.files.now (g.V.World.constructs c.args.world.now)
    (g.V.World.extracts c.args.world.now) c.args.manner) c.args.world.now c.serve_lines-outcome.new.world
    (g.R.Read.remaining c.args.reader.now) (g.R.Read.remaining c.serve_lines-outcome.new.input)
    (g.W.Write.contents c.args.writer.now)
    (g.W.Write.contents c.serve_lines-outcome.new.writer) (string_bytes c.serve_lines-outcome.new.unwritten) c.serve_lines-outcome.result
    (λ is. let yes = c.is_unwritable.ensures.1 is in let not = c.if-is_unwritable.false in absurd cc)
    c.serve_lines-outcome.ensures.answered c.serve_lines-outcome.ensures.stopped in
    let wrote = Appends-kept (g.W.Write.contents c.serve_lines-outcome.new.writer) (g.W.Write.contents c.write_text.new.writer)
    (g.W.Write.contents c.flush.new.writer) (string_bytes c.serve_lines-outcome.new.unwritten)
    (subst (Appends (g.W.Write.contents c.serve_lines-outcome.new.writer) (g.W.Write.contents c.write_text.new.writer)) c.as_str.ensures.value
    c.in_ok-write_text.ensures.ok) c.flush.ensures.kept in
    at_fault c.from_residual-in_err-flush.result (λ fault. fault ≡ Write)
    (AnswersCut (setting_in g.V.World.step c.args.program.now c.args.watch.now.files.now (g.V.World.constructs c.args.world.now)
    (g.V.World.extracts c.args.world.now) c.args.manner) c.args.world.now (g.R.Read.remaining c.args.reader.now)
    (g.W.Write.contents c.args.writer.now) (g.W.Write.contents c.flush.new.writer) c.serve_lines-outcome.new.world)
    (cuts_first _ _ _ _ _ _ _ _ held (whole_begins _ _ _ wrote))

pub returns : goal.returns
returns g c =
    let held = holds (setting_in g.V.World.step c.args.program.now c.args.watch.now.files.now (g.V.World.constructs c.args.world.now)
    (g.V.World.extracts c.args.world.now) c.args.manner) c.args.world.now c.serve_lines-outcome.new.world
    (g.R.Read.remaining c.args.reader.now) (g.R.Read.remaining c.serve_lines-outcome.new.input)
    (g.W.Write.contents c.args.writer.now)
    (g.W.Write.contents c.serve_lines-outcome.new.writer) (string_bytes c.serve_lines-outcome.new.unwritten) c.serve_lines-outcome.result
    (λ is. let yes = c.is_unwritable.ensures.1 is in let not = c.if-is_unwritable.false in absurd cc)
    c.serve_lines-outcome.ensures.answered c.serve_lines-outcome.ensures.stopped in
    let wrote = Appends-kept (g.W.Write.contents c.serve_lines-outcome.new.writer) (g.W.Write.contents c.write_text.new.writer)
    (g.W.Write.contents c.flush.new.writer) (string_bytes c.serve_lines-outcome.new.unwritten)
    (subst (Appends (g.W.Write.contents c.serve_lines-outcome.new.writer) (g.W.Write.contents c.write_text.new.writer)) c.as_str.ensures.value
    c.in_ok-write_text.ensures.ok) c.flush.ensures.kept in
    record {
      continues = cut_continues (setting_in g.V.World.step c.args.program.now c.args.watch.now.files.now (g.V.World.constructs c.args.world.now)
          (g.V.World.extracts c.args.world.now) c.args.manner) c.args.world.now c.serve_lines-outcome.new.world
          (g.R.Read.remaining c.args.reader.now) _ _ (cuts_first _ _ _ _ _ _ _ _ held (whole_begins _ _ _ wrote));
      answered = writes_last _ _ _ _ _ _ _ _ c.serve_lines-outcome.result wrote c.serve_lines-outcome.ensures.answered;
      stopped = writes_first _ _ _ _ _ _ _ _ _ c.serve_lines-outcome.result wrote c.serve_lines-outcome.ensures.stopped;
      cut = at_fault c.serve_lines-outcome.result (λ fault. fault ≡ Write)
          (AnswersCut (setting_in g.V.World.step c.args.program.now c.args.watch.now.files.now (g.V.World.constructs c.args.world.now)
          (g.V.World.extracts c.args.world.now) c.args.manner) c.args.world.now (g.R.Read.remaining c.args.reader.now)
          (g.W.Write.contents c.args.writer.now) (g.W.Write.contents c.flush.new.writer) c.serve_lines-outcome.new.world)
          (cuts_first _ _ _ _ _ _ _ _ held (whole_begins _ _ _ wrote));
    }
