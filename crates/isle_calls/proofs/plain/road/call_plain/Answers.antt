use Rattle.isle_meaning.proofs.Calls.Beginnings.{plain_stops}
use Rattle.isle_calls.proofs.OpenCalls.Made.{made_none, on_err}
use Rattle.std.proofs.Common.{List, refl, subst, []}
use Rattle.std.proofs.lemmas.Result.{IfOk-weaker, on_err_weaker}
use Rattle.isle_rules.specs.Values.{ValueTree, value_list}
use Rattle.isle_meaning.specs.GroundValues.{values_of}
use Rattle.isle_calls.specs.Calls.Answers.{answers_in}
use Rattle.isle_calls.specs.Calls.Ways.{IsReady}
use Rattle.isle_program.specs.Meanings.{checked}
use Rattle.isle_calls.specs.Stores.Values.{StandEach}
use Rattle.isle_calls.specs.Inside.Plain.Frames.{AnyProgram}
use Rattle.isle_calls.proofs.PlainRoad.Frames.Ways.{run_tells, run_begins}
use Rattle.isle_calls.proofs.plain.road.call_plain.Goals as goal

pub returns-clause-ran : goal.returns-clause-ran
returns-clause-ran g c = IfOk-weaker c.answer_call.result _ _ (λ called told may typed.
    let program = c.args.program.now in
    let trees = value_list c.args.args.items in
    let vs = values_of (checked program).values trees in
    let stand = subst (λ (l : List ValueTree). StandEach c.share_all.new.self (values_of (checked program).values (value_list l))
    c.in_ok-shared.shared.items)
    c.as_slice.ensures.value c.in_ok-shared.ensures.numbers in
    let ready : IsReady AnyProgram program c.args.term.0 vs =
    record { holds = tt; may = may; typed = record { trees = trees; typed = typed; stand = refl } } in
    let (made, has, r, tells, run) = told vs stand ready in (
      made,
      has,
      run_tells program (answers_in program (g.W.World.constructs c.args.world.now) (g.W.World.extracts c.args.world.now))
          c.args.depth c.args.term.0 vs
          called made r ready tells run,
    )) c.answer_call.ensures.ran

pub returns-in_err-shared-clause-lost : goal.returns-in_err-shared-clause-lost
returns-in_err-shared-clause-lost g c = on_err c.from_residual.result (λ may typed. (
  [],
  made_none _ _ _ _,
  record { begins = plain_stops (checked c.args.program.now) _ c.args.depth c.args.term.0 _; pure = λ pure. refl },
))

pub returns-clause-lost : goal.returns-clause-lost
returns-clause-lost g c = on_err_weaker c.answer_call.result (λ lost may typed.
    let program = c.args.program.now in
    let trees = value_list c.args.args.items in
    let vs = values_of (checked program).values trees in
    let stand = subst (λ (l : List ValueTree). StandEach c.share_all.new.self (values_of (checked program).values (value_list l))
    c.in_ok-shared.shared.items)
    c.as_slice.ensures.value c.in_ok-shared.ensures.numbers in
    let ready : IsReady AnyProgram program c.args.term.0 vs =
    record { holds = tt; may = may; typed = record { trees = trees; typed = typed; stand = refl } } in
    let (made, has, begun) = lost vs stand ready in (
      made,
      has,
      run_begins program (answers_in program (g.W.World.constructs c.args.world.now) (g.W.World.extracts c.args.world.now))
          c.args.depth c.args.term.0 vs
          made ready begun,
    )) c.answer_call.ensures.lost
