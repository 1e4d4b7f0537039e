use Rattle.isle_calls.proofs.PlainRoad.Frames.Starts.{begun_still, frame_begun}
use Rattle.std.proofs.Common.{◌++◌, [], List, Option, sym, subst}
use Rattle.std.proofs.lemmas.List.{append-nil}
use Rattle.std.proofs.lemmas.Result.{IfOk-weaker, on_err_weaker}
use Rattle.isle_meaning.specs.Worlds.{Event}
use Rattle.isle_calls.specs.declared.plain.frame.current.Current.{Current}
use Rattle.isle_calls.specs.Inside.Plain.Frames.{Goes, IsTrying, FrameEnds}
use Rattle.isle_calls.proofs.PlainRoad.Frames.Driven.{gone_stored}
use Rattle.isle_calls.proofs.PlainRoad.Frames.Ends.{frame_ends}
use Rattle.isle_calls.proofs.OpenCalls.Made.{made_none, on_err}
use Rattle.isle_calls.proofs.plain.frame.Driver.turn.Goals as goal

pub returns-in-Some-clause-ending : goal.returns-in-Some-clause-ending
returns-in-Some-clause-ending g c = IfOk-weaker c.run.result _ _ (λ ending told k since runs of.
    let frame = c.args.frame.now in
    let trying : IsTrying k c.args.self.now.store c.in-Some.current frame.others.now frame.tried since =
    subst (λ (o : Option Current). Goes k c.args.self.now.store o frame.others.now frame.tried since) c.in-Some.is of.goes in
    let (made, has, ends) = told k frame.others.now frame.tried since runs trying in
    (made, has, frame_ends c.run.ensures.goes_on.kept k frame c.run.new.current (since ++ made) ending of.for_call ends)) c.run.ensures.ending

pub returns-in-None-clause-ending : goal.returns-in-None-clause-ending
returns-in-None-clause-ending g c = IfOk-weaker c.next_rule.result _ _ (λ ending told k since runs of. (
  [],
  made_none _ _ _ _,
  subst (λ (s : List Event). FrameEnds k c.next_rule.new.self.store c.next_rule.new.frame s ending) (sym (append-nil since))
      (told k since (record { of_program = runs.of_program; in_world = runs.in_world }) of c.in-None.is),
)) c.next_rule.ensures.ending

pub returns-in-None-clause-goes_on : goal.returns-in-None-clause-goes_on
returns-in-None-clause-goes_on g c = gone_stored _ _ c.next_rule.ensures.program c.next_rule.ensures.kept

pub returns-in-Some-clause-lost : goal.returns-in-Some-clause-lost
returns-in-Some-clause-lost g c = on_err_weaker c.run.result (λ lost k since runs of.
    let frame = c.args.frame.now in
    let trying : IsTrying k c.args.self.now.store c.in-Some.current frame.others.now frame.tried since =
    subst (λ (o : Option Current). Goes k c.args.self.now.store o frame.others.now frame.tried since) c.in-Some.is of.goes in
    lost k frame.others.now frame.tried since runs trying) c.run.ensures.lost

pub returns-in-None-clause-lost : goal.returns-in-None-clause-lost
returns-in-None-clause-lost g c = on_err c.next_rule.result (λ k since runs of. (
  [],
  made_none _ _ _ _,
  begun_still k since (frame_begun k c.args.self.now.store c.args.frame.now since of),
))
