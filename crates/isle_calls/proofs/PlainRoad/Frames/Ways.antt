-- The plain road is a way to answer calls, and what a call of it tells is meant.
use Rattle.isle_meaning.specs.PlainBeginnings.{PlainBegins}
use Rattle.std.proofs.Common.{ℕ, List, refl}
use Rattle.isle_meaning.specs.Outcomes.{Outcome, given, missing, ended, IsAskedAtEnd}
use Rattle.isle_meaning.specs.PlainRuns.{PlainRun}
use Rattle.isle_meaning.specs.Values.{Value, Values}
use Rattle.isle_meaning.specs.Worlds.{Answers, Event}
use Rattle.isle_calls.specs.declared.answer.Called.{Called}
use Rattle.isle_program.specs.declared.program.Program.{Program}
use Rattle.isle_calls.specs.Calls.Answers.{TellsOutcome}
use Rattle.isle_calls.specs.Calls.Ways.{IsWay, IsReady}
use Rattle.isle_calls.specs.Inside.Plain.Frames.{AnyProgram}
use Rattle.isle_program.specs.Meanings.{checked, may_run}
use Rattle.isle_calls.specs.Inside.Plain.Frames.{plain_way}
use Rattle.isle_calls.specs.PlainCalls.{TellsPlainly, BeginsPlainly}
use Rattle.isle_meaning.proofs.Calls.Effectless.{pure_makes_nothing}
use Rattle.isle_meaning.proofs.Calls.Beginnings.{plain_stops, plain_begins, pure_begins_empty}
use Rattle.isle_meaning.proofs.Calls.Meant.{plain_run_meant}
use Rattle.isle_meaning.proofs.Chains.Ends.{runs_end}
use Rattle.isle_calls.proofs.PlainRoad.Frames.Starts.{frame_begun, waiting_begins}
use Rattle.isle_calls.proofs.PlainRoad.Frames.Waiting.{waiting_ends, waiting_longer}
use Rattle.isle_program.proofs.SoundPrograms.Known.{sound_of}

-- what holds of it as of any way
pub plain_is_way : IsWay plain_way
plain_is_way = record {
  spent_at_once = λ program w t vs. (refl, refl, refl);
  typed = λ program w n t vs steps trace v ready run.
      (plain_run_meant (checked program) w (may_run program) (sound_of program).sound n t vs steps trace (given v) ready.may ready.typed run).1;
  ends = λ k stored frame since trace term vs e waits below. waiting_ends k stored frame since term vs waits trace e below;
  stops = λ program w n t vs. plain_stops (checked program) w n t vs;
  begins_so = λ program w n t vs steps trace r run. plain_begins (checked program) w n t vs steps trace r run;
  begun = frame_begun;
  begun_below = waiting_begins;
  longer = λ k old new frame since term vs extends waits. waiting_longer k old frame since term vs waits extends;
  deep = λ k stored frame since term vs waits. waits.for_call.depth;
  ready = λ k stored frame since term vs waits. record { holds = tt; may = waits.may_call; typed = waits.held.args_typed };
}

-- what a run comes to, and its answer tells, the call on the plain road tells
pub run_tells : (program : Program) (w : Answers) (n t : ℕ) (vs : Values) (called : Called) (made : List Event) (r : Outcome Value)
    → IsReady AnyProgram program t vs → TellsOutcome program t called.answer r → PlainRun (checked program) w n t vs called.steps made r
    → TellsPlainly program w n t vs called made
run_tells program w n t vs called made r ready told run = record {
  outcome = r;
  told = told;
  run = run;
  meant = plain_run_meant (checked program) w (may_run program) (sound_of program).sound n t vs called.steps made r ready.may ready.typed run;
  asked = asked r run;
  pure = λ pure. pure_makes_nothing (checked program) w (may_run program) (sound_of program).sound n t vs called.steps made r pure ready.may run;
}
  where
    asked : (r : Outcome Value) → PlainRun (checked program) w n t vs called.steps made r → IsAskedAtEnd (checked program) w n t vs made r
    asked (given v) run = tt
    asked missing run = tt
    asked (ended e) run = runs_end (checked program) w (may_run program) (sound_of program).sound
        (plain_run_meant (checked program) w (may_run program) (sound_of program).sound) n t vs called.steps made e ready.may ready.typed run

-- and one that stops begins with its effects
pub run_begins : (program : Program) (w : Answers) (n t : ℕ) (vs : Values) (made : List Event) → IsReady AnyProgram program t vs
    → PlainBegins (checked program) w n t vs made → BeginsPlainly program w n t vs made
run_begins program w n t vs made ready begun = record {
  begins = begun;
  pure = λ pure. pure_begins_empty (checked program) w (may_run program) (sound_of program).sound n t vs made pure ready.may begun;
}
