use Rattle.std.proofs.Common.{List, inr, refl, sym, subst, ◌∙◌}
use Rattle.isle_rules.specs.Values.{ValueTree, value_list}
use Rattle.isle_program.specs.Meanings.{checked}
use Rattle.isle_calls.specs.Calls.Answers.{IsCalledOn}
use Rattle.isle_calls.proofs.OpenCalls.Telling.{inputs_taken, outputs_refused, none_refused}
use Rattle.isle_calls.proofs.host.judge_outputs.Goals as goal

pub returns-in_ok-vec-in-Some-clause-judged : goal.returns-in_ok-vec-in-Some-clause-judged
returns-in_ok-vec-in-Some-clause-judged c = λ q called. (
  q,
  subst (λ (l : List ValueTree). IsCalledOn (checked c.args.program.now) q c.args.term (value_list l))
      (sym c.in_ok-vec-in-Some.ensures.items) called,
  inr (
    outputs_refused c.args.program.now c.args.term c.args.answer c.in-Some.outputs c.as_slice.result.now c.arg_types.result.now
        c.have_types.result
        c.in-Some.is c.as_slice.ensures.value (c.arg_types.ensures ∙ inputs_taken c.args.program.now c.args.term) c.have_types.ensures
        c.if-have_types.false,
    refl,
  ),
)

pub returns-in_ok-vec-in-None-clause-judged : goal.returns-in_ok-vec-in-None-clause-judged
returns-in_ok-vec-in-None-clause-judged c = λ q called. (
  q,
  subst (λ (l : List ValueTree). IsCalledOn (checked c.args.program.now) q c.args.term (value_list l))
      (sym c.in_ok-vec-in-None.ensures.items) called,
  inr (
    none_refused c.args.program.now c.args.term c.args.answer c.never_fails.result c.in-None.is c.never_fails.ensures
        c.if-never_fails.true,
    refl,
  ),
)
