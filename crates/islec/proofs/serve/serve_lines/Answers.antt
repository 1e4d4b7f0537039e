use Rattle.islec.specs.declared.serve.ServeFault.TheVariants.{Read, Write}
use Rattle.islec.proofs.LineLemmas.{consumes_none, gives_all}
use Rattle.std.proofs.Common.{◌≡◌, ◌≢◌, ◌∙◌, ℕ, Bool, List, Option, [], string_bytes, refl, subst, sym}
use Rattle.std.specs.Io.KnownBytes.{IsAtEnd}
use Rattle.islec.specs.Replies.{Setting, setting_in, IsReply}
use Rattle.islec.specs.Serving.{some_refused, AnswersCut, AreLinesOf, BreaksOff, KeepsBack}
use Rattle.islec.proofs.ServingLemmas.{begins, awaits, ends_there, breaks_at_once, breaks_idle, answers_more, writes_more, cuts, at_fault, same_setting, err_and, stops, breaks_in, IsServing}
use Rattle.islec.proofs.serve.serve_lines.Goals as goal

pub returns-in_err-lines-clause-stopped : goal.returns-in_err-lines-clause-stopped
returns-in_err-lines-clause-stopped g c = err_and c.from_residual.result _ _ c.from_residual.ensures.1 (λ fault same other.
    let wrote = c.in_err-lines.ensures.unread (λ is. other (same ∙ is)) in
    let setting = (setting_in g.V.World.step c.args.program.now c.args.watch.now.files.now (g.V.World.constructs c.args.world.now)
    (g.V.World.extracts c.args.world.now) c.args.manner) in
    let waited = awaits setting c.args.world.now c.loop.world (g.B.Read.remaining c.args.input.now) (g.B.Read.remaining c.loop.input)
    (g.B.Read.remaining c.await_lines.new.input)
    (g.W.Write.contents c.args.writer.now) (g.W.Write.contents c.loop.writer) (g.W.Write.contents c.await_lines.new.writer)
    (string_bytes c.loop.unwritten)
    (string_bytes c.await_lines.new.unwritten) (some_refused c.loop.served) c.loop.invariant.3 c.in_err-lines.ensures.kept wrote in
    stops setting fault c.args.world.now c.loop.world c.loop.world (g.B.Read.remaining c.args.input.now) (g.B.Read.remaining c.await_lines.new.input)
    (g.B.Read.remaining c.await_lines.new.input) (g.W.Write.contents c.args.writer.now) (g.W.Write.contents c.await_lines.new.writer)
    (string_bytes c.await_lines.new.unwritten) [] (some_refused c.loop.served) waited (consumes_none (g.B.Read.remaining c.await_lines.new.input))
    (breaks_idle setting (g.B.Read.remaining c.await_lines.new.input) (g.B.Read.remaining c.await_lines.new.input) c.loop.world fault other))

pub returns-in_err-lines-clause-cut : goal.returns-in_err-lines-clause-cut
returns-in_err-lines-clause-cut g c = err_and c.from_residual.result _ _ c.from_residual.ensures.1 (λ fault same failed.
    cuts (setting_in g.V.World.step c.args.program.now c.args.watch.now.files.now (g.V.World.constructs c.args.world.now)
    (g.V.World.extracts c.args.world.now) c.args.manner)
    c.args.world.now c.loop.world (g.B.Read.remaining c.args.input.now) (g.B.Read.remaining c.loop.input) (g.W.Write.contents c.args.writer.now)
    (g.W.Write.contents c.loop.writer) (g.W.Write.contents c.await_lines.new.writer) (string_bytes c.loop.unwritten) (some_refused c.loop.served)
    c.loop.invariant.3 (c.in_err-lines.ensures.cut (sym same ∙ failed)))

pub returns-in_default-clause-answered : goal.returns-in_default-clause-answered
returns-in_default-clause-answered g c =
    ends_there (setting_in g.V.World.step c.args.program.now c.args.watch.now.files.now (g.V.World.constructs c.args.world.now)
    (g.V.World.extracts c.args.world.now) c.args.manner)
    c.args.world.now c.loop.world (g.B.Read.remaining c.args.input.now) (g.B.Read.remaining c.loop.input) (g.B.Read.remaining c.await_lines.new.input)
    (g.W.Write.contents c.args.writer.now) (g.W.Write.contents c.loop.writer) (g.W.Write.contents c.await_lines.new.writer)
    (string_bytes c.loop.unwritten)
    (string_bytes c.await_lines.new.unwritten) (some_refused c.loop.served) c.loop.invariant.3 (rw c.in_default.is at c.in_ok-lines.ensures.end)
    c.in_ok-lines.ensures.written

-- where a reader has come to its end, all its lines are answered
ends_idle : {V : Type 0} (setting : Setting V) (before reached after : V) (input left old new : Option (List ℕ)) (kept own : List ℕ) (refused : Bool)
    → IsServing setting before input left old new kept refused reached → IsAtEnd left → own ≡ kept → after ≡ reached
    → (lines : List (List ℕ)) × AreLinesOf input lines × KeepsBack setting before lines refused old new own after
ends_idle {V} setting before reached after input left old new kept own refused serving end text same = (
  serving.lines,
  gives_all input left serving.lines serving.gives end,
  subst (λ (k : List ℕ). KeepsBack setting before serving.lines refused old new k after) (sym text)
      (subst (λ (w : V). KeepsBack setting before serving.lines refused old new kept w) (sym same) serving.keeps),
)

pub returns-in_default-2-clause-answered : goal.returns-in_default-2-clause-answered
returns-in_default-2-clause-answered g c =
    let waited = awaits (setting_in g.V.World.step c.args.program.now c.args.watch.now.files.now (g.V.World.constructs c.args.world.now)
    (g.V.World.extracts c.args.world.now) c.args.manner) c.args.world.now c.loop.world (g.B.Read.remaining c.args.input.now)
    (g.B.Read.remaining c.loop.input) (g.B.Read.remaining c.await_lines.new.input)
    (g.W.Write.contents c.args.writer.now) (g.W.Write.contents c.loop.writer) (g.W.Write.contents c.await_lines.new.writer)
    (string_bytes c.loop.unwritten)
    (string_bytes c.await_lines.new.unwritten) (some_refused c.loop.served) c.loop.invariant.3 c.in_ok-lines.ensures.kept
    c.in_ok-lines.ensures.written in
    let (text, same) = rw c.in_default-2.is at c.in_ok-refused.ensures.none in
    ends_idle (setting_in g.V.World.step c.args.program.now c.args.watch.now.files.now (g.V.World.constructs c.args.world.now)
    (g.V.World.extracts c.args.world.now) c.args.manner) c.args.world.now c.loop.world c.answer_next.new.world
    (g.B.Read.remaining c.args.input.now) (g.B.Read.remaining c.await_lines.new.input)
    (g.W.Write.contents c.args.writer.now) (g.W.Write.contents c.await_lines.new.writer) (string_bytes c.await_lines.new.unwritten)
    (string_bytes c.answer_next.new.unwritten) (some_refused c.loop.served) waited (rw c.in_default-2.is at c.in_ok-refused.ensures.end) text same

pub returns-in_err-write_full-clause-cut : goal.returns-in_err-write_full-clause-cut
returns-in_err-write_full-clause-cut g c =
    let waited = awaits _ c.args.world.now c.loop.world (g.B.Read.remaining c.args.input.now) (g.B.Read.remaining c.loop.input)
    (g.B.Read.remaining c.await_lines.new.input)
    (g.W.Write.contents c.args.writer.now) (g.W.Write.contents c.loop.writer) (g.W.Write.contents c.await_lines.new.writer)
    (string_bytes c.loop.unwritten)
    (string_bytes c.await_lines.new.unwritten) (some_refused c.loop.served) c.loop.invariant.3 c.in_ok-lines.ensures.kept
    c.in_ok-lines.ensures.written in
    let (line, one, reply, text, gives, took) = rw c.in-Some-2.is at c.in_ok-refused.ensures.answered in
    let serving = answers_more _ c.args.world.now c.loop.world c.answer_next.new.world (g.B.Read.remaining c.args.input.now)
    (g.B.Read.remaining c.await_lines.new.input) (g.B.Read.remaining c.answer_next.new.input)
    (g.W.Write.contents c.args.writer.now) (g.W.Write.contents c.await_lines.new.writer) (string_bytes c.await_lines.new.unwritten) line one
    (string_bytes c.answer_next.new.unwritten)
    (some_refused c.loop.served) c.in-Some-2.refused waited
    (same_setting g.V.World.step _ _ _ _ _ _ _ _ (λ s. IsReply s c.loop.world line one c.in-Some-2.refused c.answer_next.new.world)
    c.loop.invariant.2 c.loop.invariant.0 c.loop.invariant.1 reply) text gives took in
    at_fault c.from_residual-in_err-write_full.result (λ fault. fault ≡ Write)
    (AnswersCut (setting_in g.V.World.step c.args.program.now c.args.watch.now.files.now (g.V.World.constructs c.args.world.now)
    (g.V.World.extracts c.args.world.now) c.args.manner) c.args.world.now (g.B.Read.remaining c.args.input.now)
    (g.W.Write.contents c.args.writer.now) (g.W.Write.contents c.write_full.new.writer) c.answer_next.new.world)
    (cuts _ _ _ _ _ _ _ _ _ _ serving c.in_err-write_full.ensures.err)

pub loop-preserved : goal.loop-preserved
loop-preserved g c =
    let waited = awaits _ c.args.world.now c.loop.world (g.B.Read.remaining c.args.input.now) (g.B.Read.remaining c.loop.input)
    (g.B.Read.remaining c.await_lines.new.input)
    (g.W.Write.contents c.args.writer.now) (g.W.Write.contents c.loop.writer) (g.W.Write.contents c.await_lines.new.writer)
    (string_bytes c.loop.unwritten)
    (string_bytes c.await_lines.new.unwritten) (some_refused c.loop.served) c.loop.invariant.3 c.in_ok-lines.ensures.kept
    c.in_ok-lines.ensures.written in
    let (line, one, reply, text, gives, took) = rw c.in-Some-2.is at c.in_ok-refused.ensures.answered in
    let serving = answers_more _ c.args.world.now c.loop.world c.answer_next.new.world (g.B.Read.remaining c.args.input.now)
    (g.B.Read.remaining c.await_lines.new.input) (g.B.Read.remaining c.answer_next.new.input)
    (g.W.Write.contents c.args.writer.now) (g.W.Write.contents c.await_lines.new.writer) (string_bytes c.await_lines.new.unwritten) line one
    (string_bytes c.answer_next.new.unwritten)
    (some_refused c.loop.served) c.in-Some-2.refused waited
    (same_setting g.V.World.step _ _ _ _ _ _ _ _ (λ s. IsReply s c.loop.world line one c.in-Some-2.refused c.answer_next.new.world)
    c.loop.invariant.2 c.loop.invariant.0 c.loop.invariant.1 reply) text gives took in
    let (some, wrote, is) = c.in_ok-write_full.ensures.ok in
    rw c.after-served.ensures (
      c.answer_next.ensures.same.0 ∙ c.loop.invariant.0,
      c.answer_next.ensures.same.1 ∙ c.loop.invariant.1,
      c.answer_next.ensures.files ∙ c.loop.invariant.2,
      writes_more _ _ _ _ _ _ _ _ (string_bytes c.answer_next.new.unwritten) some (string_bytes c.write_full.new.unwritten) _ serving wrote is,
    )

pub returns-in_err-refused-clause-stopped : goal.returns-in_err-refused-clause-stopped
returns-in_err-refused-clause-stopped g c = err_and c.from_residual-in_err-refused.result _ _ c.from_residual-in_err-refused.ensures.1
    (λ fault same other.
    let (part, took, breaks) = c.in_err-refused.ensures.lost in
    let waited = awaits _ c.args.world.now c.loop.world (g.B.Read.remaining c.args.input.now) (g.B.Read.remaining c.loop.input)
    (g.B.Read.remaining c.await_lines.new.input)
    (g.W.Write.contents c.args.writer.now) (g.W.Write.contents c.loop.writer) (g.W.Write.contents c.await_lines.new.writer)
    (string_bytes c.loop.unwritten)
    (string_bytes c.await_lines.new.unwritten) (some_refused c.loop.served) c.loop.invariant.3 c.in_ok-lines.ensures.kept
    c.in_ok-lines.ensures.written in
    stops (setting_in g.V.World.step c.args.program.now c.args.watch.now.files.now (g.V.World.constructs c.args.world.now)
    (g.V.World.extracts c.args.world.now) c.args.manner)
    fault c.args.world.now c.loop.world c.answer_next.new.world (g.B.Read.remaining c.args.input.now) (g.B.Read.remaining c.await_lines.new.input)
    (g.B.Read.remaining c.answer_next.new.input) (g.W.Write.contents c.args.writer.now) (g.W.Write.contents c.await_lines.new.writer)
    (string_bytes c.answer_next.new.unwritten) part (some_refused c.loop.served)
    (subst (λ kept. IsServing (setting_in g.V.World.step c.args.program.now c.args.watch.now.files.now (g.V.World.constructs c.args.world.now)
    (g.V.World.extracts c.args.world.now) c.args.manner)
    c.args.world.now (g.B.Read.remaining c.args.input.now) (g.B.Read.remaining c.await_lines.new.input) (g.W.Write.contents c.args.writer.now)
    (g.W.Write.contents c.await_lines.new.writer)
    kept (some_refused c.loop.served) c.loop.world) (sym c.in_err-refused.ensures.err) waited) took
    (breaks_in g.V.World.step c.args.program.now _ _ _ _ _ _ c.args.manner fault (g.B.Read.remaining c.await_lines.new.input)
    (g.B.Read.remaining c.answer_next.new.input) part c.loop.world c.answer_next.new.world
    c.loop.invariant.2 c.loop.invariant.0 c.loop.invariant.1
    (subst (λ f. BreaksOff (setting_in g.V.World.step c.args.program.now c.loop.watch.files.now (g.V.World.constructs c.loop.world)
    (g.V.World.extracts c.loop.world) c.args.manner) f (g.B.Read.remaining c.await_lines.new.input) (g.B.Read.remaining c.answer_next.new.input)
    part c.loop.world c.answer_next.new.world) (sym same) breaks)))

pub loop-init : goal.loop-init
loop-init g c = (
  refl,
  refl,
  refl,
  begins (setting_in g.V.World.step c.args.program.now c.args.watch.now.files.now (g.V.World.constructs c.args.world.now)
      (g.V.World.extracts c.args.world.now) c.args.manner)
      c.args.world.now (g.B.Read.remaining c.args.input.now) (g.W.Write.contents c.args.writer.now)
      (string_bytes c.args.unwritten.now) c.requires.empty,
)

pub returns-clause-stopped : goal.returns-clause-stopped
returns-clause-stopped g c = λ other.
    let setting = (setting_in g.V.World.step c.args.program.now c.args.watch.now.files.now (g.V.World.constructs c.args.world.now)
    (g.V.World.extracts c.args.world.now) c.args.manner) in
    stops setting Read c.args.world.now c.loop.world c.loop.world (g.B.Read.remaining c.args.input.now) (g.B.Read.remaining c.loop.input)
    (g.B.Read.remaining c.loop.input) (g.W.Write.contents c.args.writer.now) (g.W.Write.contents c.loop.writer)
    (string_bytes c.loop.unwritten) [] (some_refused c.loop.served) c.loop.invariant.3 (consumes_none (g.B.Read.remaining c.loop.input))
    (breaks_at_once setting (g.B.Read.remaining c.loop.input) (g.B.Read.remaining c.loop.input) c.loop.world)
