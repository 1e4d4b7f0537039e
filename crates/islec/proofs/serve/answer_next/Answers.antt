use Rattle.islec.specs.Replies.{setting_in}
use Rattle.std.proofs.Common.{◌≡◌, ◌++◌, sym, subst, string_bytes}
use Rattle.islec.specs.Serving.{LosesNewline, IsCutShort}
use Rattle.islec.proofs.LineLemmas.{taken}
use Rattle.islec.proofs.ReplyLemmas.{reply_lost}
use Rattle.islec.proofs.ServingLemmas.{breaks_unread, breaks_reply, err_and}
use Rattle.islec.proofs.serve.answer_next.Goals as goal

pub returns-clause-answered : goal.returns-clause-answered
returns-clause-answered g c =
    let bare = c.without_newline-bare.result.now in
    let loses = subst (λ l. LosesNewline l bare) c.as_slice.ensures.value c.without_newline-bare.ensures in (
      bare,
      string_bytes c.in_ok-reply.reply.lines,
      c.in_ok-reply.ensures.reply,
      subst (λ l. string_bytes c.push_str.new.self ≡ string_bytes c.args.unwritten.now ++ l) c.as_str.ensures.value c.in_ok-push_str.ensures.bytes,
      taken (g.B.Read.remaining c.args.input.now) (g.B.Read.remaining c.read_line.new.input) c.in-Some.line.items bare
          (rw c.in-Some.is at c.in_ok-line.ensures.line) loses,
      (c.in-Some.line.items, (rw c.in-Some.is at c.in_ok-line.ensures.took).0),
    )

pub returns-in_err-line-clause-lost : goal.returns-in_err-line-clause-lost
returns-in_err-line-clause-lost g c = err_and c.from_residual.result _ _ c.from_residual.ensures.1 (λ fault same.
    let (part, took, cut) = c.in_err-line.ensures.lost in (
      part,
      took,
      breaks_unread (setting_in g.V.World.step c.args.program.now c.args.watch.now.files.now (g.V.World.constructs c.args.world.now)
          (g.V.World.extracts c.args.world.now) c.args.manner) c.args.world.now fault (g.B.Read.remaining c.args.input.now)
          (g.B.Read.remaining c.read_line.new.input) part (subst (λ f. IsCutShort f part) (sym same) cut),
    ))

pub returns-in_err-reply-clause-lost : goal.returns-in_err-reply-clause-lost
returns-in_err-reply-clause-lost g c = err_and c.from_residual-in_err-reply.result _ _ c.from_residual-in_err-reply.ensures.1 (λ fault same.
    let bare = c.without_newline-bare.result.now in
    let loses = subst (λ l. LosesNewline l bare) c.as_slice.ensures.value c.without_newline-bare.ensures in
    let (took, stops) = rw c.in-Some.is at c.in_ok-line.ensures.took in (
      c.in-Some.line.items,
      took,
      breaks_reply (setting_in g.V.World.step c.args.program.now c.args.watch.now.files.now (g.V.World.constructs c.args.world.now)
          (g.V.World.extracts c.args.world.now) c.args.manner)
          c.args.world.now c.reply_to.new.world fault (g.B.Read.remaining c.args.input.now) (g.B.Read.remaining c.read_line.new.input)
          c.in-Some.line.items bare same stops loses
          (taken (g.B.Read.remaining c.args.input.now) (g.B.Read.remaining c.read_line.new.input) c.in-Some.line.items bare
          (rw c.in-Some.is at c.in_ok-line.ensures.line) loses) c.in_err-reply.ensures.lost,
    ))

pub returns-in_err-push_str-clause-lost : goal.returns-in_err-push_str-clause-lost
returns-in_err-push_str-clause-lost g c = err_and c.from_residual-in_err-push_str.result _ _ c.from_residual-in_err-push_str.ensures.1 (λ fault same.
    let bare = c.without_newline-bare.result.now in
    let loses = subst (λ l. LosesNewline l bare) c.as_slice.ensures.value c.without_newline-bare.ensures in
    let (took, stops) = rw c.in-Some.is at c.in_ok-line.ensures.took in (
      c.in-Some.line.items,
      took,
      breaks_reply (setting_in g.V.World.step c.args.program.now c.args.watch.now.files.now (g.V.World.constructs c.args.world.now)
          (g.V.World.extracts c.args.world.now) c.args.manner)
          c.args.world.now c.reply_to.new.world fault (g.B.Read.remaining c.args.input.now) (g.B.Read.remaining c.read_line.new.input)
          c.in-Some.line.items bare same stops loses
          (taken (g.B.Read.remaining c.args.input.now) (g.B.Read.remaining c.read_line.new.input) c.in-Some.line.items bare
          (rw c.in-Some.is at c.in_ok-line.ensures.line) loses)
          (reply_lost (setting_in g.V.World.step c.args.program.now c.args.watch.now.files.now (g.V.World.constructs c.args.world.now)
          (g.V.World.extracts c.args.world.now) c.args.manner) c.args.world.now bare _ _ c.reply_to.new.world c.in_ok-reply.ensures.reply),
    ))
