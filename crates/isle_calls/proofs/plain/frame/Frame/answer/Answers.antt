use Rattle.isle_calls.proofs.PlainRoad.Frames.Ends.{with_rule}
use Rattle.isle_calls.proofs.PlainRoad.Frames.Waiting.{frame_answered}
use Rattle.isle_calls.proofs.plain.frame.Frame.answer.Goals as goal

pub returns-in-Some : goal.returns-in-Some
returns-in-Some c = λ k stored since trace term args v w run stands. record {
  for_call = with_rule w.for_call _;
  goes = frame_answered k stored c.args.self.now since term args w trace c.in-Some.current c.in-Some.is c.answer.new.self c.args.number v
      c.answer.ensures stands run;
}
