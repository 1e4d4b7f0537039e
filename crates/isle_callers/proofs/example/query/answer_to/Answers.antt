use Rattle.std.proofs.Common.{◌++◌, ◌∙◌, sym, ap, subst}
use Rattle.std.specs.List.{AllZip}
use Rattle.isle_meaning.specs.ValueTypes.{AreOfTypes}
use Rattle.isle_rules.specs.Values.{value_list}
use Rattle.isle_calls.specs.Calls.Answers.{IsEventOf}
use Rattle.isle_program.specs.Programs.{value_facts}
use Rattle.isle_calls.proofs.OpenCalls.Made.{on_err}
use Rattle.isle_calls.proofs.OpenCalls.Telling.{inputs_taken}
use Rattle.isle_callers.proofs.example.query.answer_to.Goals as goal

pub returns-clause-answer : goal.returns-clause-answer
returns-clause-answer g c =
    let typed = subst (λ types. AreOfTypes (value_facts c.args.program.now) (value_list c.args.args.items) types)
    (inputs_taken c.args.program.now c.args.term) c.requires.typed in
    let (made, has, told) = c.in_ok-called.ensures.ran c.requires.compiled c.requires.callable typed in
    let joined = has.joined ∙ ap (λ l. l ++ has.more) c.new-effects.ensures.items in
    record {
      made = made;
      shown = subst (λ l. AllZip (IsEventOf c.args.program.now) l made) (sym joined) has.shown;
      leads = has.steps;
      steps = c.in_ok-called.called.steps;
      told = told;
    }

pub returns-in_err-called-clause-lost : goal.returns-in_err-called-clause-lost
returns-in_err-called-clause-lost g c =
    let typed = subst (λ types. AreOfTypes (value_facts c.args.program.now) (value_list c.args.args.items) types)
    (inputs_taken c.args.program.now c.args.term) c.requires.typed in
    let (made, has, begins) = c.in_err-called.ensures.lost c.requires.compiled c.requires.callable typed in
    on_err c.from_residual.result (record { made = made; leads = has.steps; begins = begins })
