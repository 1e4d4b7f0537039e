use Rattle.std.proofs.Common.{sym}
use Rattle.isle_calls.proofs.PlainRoad.Frames.Ends.{with_rule}
use Rattle.isle_calls.proofs.PlainRoad.Frames.Told.{at_place}
use Rattle.isle_calls.proofs.PlainRoad.Frames.Waiting.{frame_unanswered}
use Rattle.isle_calls.proofs.plain.frame.Frame.miss.Goals as goal

pub returns-in-Some : goal.returns-in-Some
returns-in-Some c = λ k stored since trace term args w run.
    let current = c.in-Some.current in let frame = c.args.self.now in
    record {
      for_call = with_rule w.for_call _;
      goes = at_place (sym c.missed-current.ensures) (frame_unanswered k stored frame since term args w trace current c.in-Some.is run);
    }
