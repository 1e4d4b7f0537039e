use Rattle.isle_calls.proofs.PlainRoad.Frames.Starts.{begun_still, trying_begun}
use Rattle.std.proofs.Common.{◌≡◌, ◌++◌, List, [], refl, sym, ◌∙◌, ap, subst}
use Rattle.std.proofs.lemmas.Result.{IfOk-weaker, on_err_weaker}
use Rattle.isle_calls.specs.declared.answer.Answer.TheVariants.{IllTyped as IllTypedAnswer}
use Rattle.isle_calls.specs.declared.frames.Advanced.TheVariants.{Ends}
use Rattle.isle_calls.specs.declared.plain.frame.Ending.TheVariants.{Comes}
use Rattle.isle_program.specs.declared.laid.Part.{Part}
use Rattle.isle_program.specs.declared.laid.Laid.{Laid}
use Rattle.isle_program.specs.Plain.LaidOut.Words.{StandBehind}
use Rattle.isle_calls.specs.Inside.Plain.Frames.{RuleEnds}
use Rattle.isle_calls.proofs.OpenCalls.Made.{made_none, on_err}
use Rattle.isle_calls.proofs.PlainRoad.Frames.Driven.{gone_stored, gone_after}
use Rattle.isle_calls.proofs.PlainRoad.Frames.Told.{evaluated_in}
use Rattle.isle_calls.proofs.PlainRoad.Frames.Turns.{behind_at, misses_end, ends_none}
use Rattle.isle_calls.proofs.plain.frame.Driver.evaluate.Goals as goal

parts_there : {slice : List Part} {found there : Laid} → found ≡ there → slice ≡ found.parts.items → slice ≡ there.parts.items
parts_there same value = value ∙ ap (λ (x : Laid). x.parts.items) same

pub evaluate-requires-clause-behind : goal.evaluate-requires-clause-behind
evaluate-requires-clause-behind g c = subst StandBehind (sym (parts_there c.laid_at-laid.ensures c.as_slice.ensures.value))
    (behind_at c.args.current.now.laid.now c.args.current.now.at c.args.current.now.behind)

pub returns-in_err-evaluate-clause-goes_on : goal.returns-in_err-evaluate-clause-goes_on
returns-in_err-evaluate-clause-goes_on g c = gone_stored _ _ refl c.in_err-evaluate.ensures.kept

pub returns-in-Done-clause-ending : goal.returns-in-Done-clause-ending
returns-in-Done-clause-ending g c = IfOk-weaker c.go_on.result _ _ (λ ending ends k others tried since runs way h.
    let done = evaluated_in runs c.in_ok-evaluate.ensures.kept c.args.current.now others tried since c.evaluate.new.evaluation
    c.in_ok-evaluate.field-0 _ c.in-Done.is way h c.in_ok-evaluate.ensures.later
    c.as_slice.result.now (parts_there c.laid_at-laid.ensures c.as_slice.ensures.value) c.in_ok-evaluate.ensures.evaluated in (
      [],
      made_none _ _ _ _,
      ends_none k c.go_on.new.self.store c.go_on.new.current others tried since ending
          (ends k others tried since (record { of_program = runs.of_program; in_world = runs.in_world }) done.1 way done.0),
    ))
    c.go_on.ensures.ending

pub returns-in-Done-clause-goes_on : goal.returns-in-Done-clause-goes_on
returns-in-Done-clause-goes_on g c = gone_after _ _ _ _ c.in_ok-evaluate.ensures.kept (gone_stored _ _ c.go_on.ensures.program c.go_on.ensures.kept)

pub returns-in-Missing-clause-ending : goal.returns-in-Missing-clause-ending
returns-in-Missing-clause-ending g c = λ k others tried since runs way h.
    let misses = evaluated_in runs c.in_ok-evaluate.ensures.kept c.args.current.now others tried since c.evaluate.new.evaluation
    c.in_ok-evaluate.field-0 _ c.in-Missing.is way h c.in_ok-evaluate.ensures.later
    c.as_slice.result.now (parts_there c.laid_at-laid.ensures c.as_slice.ensures.value) c.in_ok-evaluate.ensures.evaluated in
    let current = record c.args.current.now { evaluation = c.evaluate.new.evaluation } in (
      [],
      made_none _ _ _ _,
      subst (RuleEnds k c.evaluate.new.store current others tried (since ++ [])) (sym c.without_value.ensures)
          (ends_none k c.evaluate.new.store current others tried since _
          (misses_end k c.evaluate.new.store current others tried since c.args.current.now.at misses)),
    )

pub returns-in-Missing-clause-goes_on : goal.returns-in-Missing-clause-goes_on
returns-in-Missing-clause-goes_on g c = gone_stored _ _ refl c.in_ok-evaluate.ensures.kept

pub returns-in-IllTyped-clause-ending : goal.returns-in-IllTyped-clause-ending
returns-in-IllTyped-clause-ending g c = λ k others tried since runs way h.
    let ends = evaluated_in runs c.in_ok-evaluate.ensures.kept c.args.current.now others tried since c.evaluate.new.evaluation
    c.in_ok-evaluate.field-0 _ c.in-IllTyped.is way h c.in_ok-evaluate.ensures.later
    c.as_slice.result.now (parts_there c.laid_at-laid.ensures c.as_slice.ensures.value) c.in_ok-evaluate.ensures.evaluated in
    let current = record c.args.current.now { evaluation = c.evaluate.new.evaluation } in (
      [],
      made_none _ _ _ _,
      subst (RuleEnds k c.evaluate.new.store current others tried (since ++ [])) (sym c.ill_typed.ensures)
          (ends_none k c.evaluate.new.store current others tried since (Comes (Ends (IllTypedAnswer c.in-IllTyped.term c.in-IllTyped.args))) ends),
    )

pub returns-in-IllTyped-clause-goes_on : goal.returns-in-IllTyped-clause-goes_on
returns-in-IllTyped-clause-goes_on g c = gone_stored _ _ refl c.in_ok-evaluate.ensures.kept

pub returns-in-Waits-clause-ending : goal.returns-in-Waits-clause-ending
returns-in-Waits-clause-ending g c = IfOk-weaker c.call.result _ _ (λ ending ends k others tried since runs way h.
    let waits = evaluated_in runs c.in_ok-evaluate.ensures.kept c.args.current.now others tried since c.evaluate.new.evaluation
    c.in_ok-evaluate.field-0 _ c.in-Waits.is way h c.in_ok-evaluate.ensures.later
    c.as_slice.result.now (parts_there c.laid_at-laid.ensures c.as_slice.ensures.value) c.in_ok-evaluate.ensures.evaluated in
    ends k c.args.current.now others tried since waits.0 (record { of_program = runs.of_program; in_world = runs.in_world }) waits.1)
    c.call.ensures.ending

pub returns-in-Waits-clause-goes_on : goal.returns-in-Waits-clause-goes_on
returns-in-Waits-clause-goes_on g c = gone_after _ _ _ _ c.in_ok-evaluate.ensures.kept c.call.ensures.goes_on

pub returns-in_err-evaluate-clause-lost : goal.returns-in_err-evaluate-clause-lost
returns-in_err-evaluate-clause-lost g c = on_err c.from_residual.result
    (λ k others tried since runs way h. ([], made_none _ _ _ _, begun_still k since (trying_begun h)))

pub returns-in-Done-clause-lost : goal.returns-in-Done-clause-lost
returns-in-Done-clause-lost g c = on_err c.go_on.result
    (λ k others tried since runs way h. ([], made_none _ _ _ _, begun_still k since (trying_begun h)))

pub returns-in-Waits-clause-lost : goal.returns-in-Waits-clause-lost
returns-in-Waits-clause-lost g c = on_err_weaker c.call.result (λ lost k others tried since runs way h.
    let waits = evaluated_in runs c.in_ok-evaluate.ensures.kept c.args.current.now others tried since c.evaluate.new.evaluation
    c.in_ok-evaluate.field-0 _ c.in-Waits.is way h c.in_ok-evaluate.ensures.later
    c.as_slice.result.now (parts_there c.laid_at-laid.ensures c.as_slice.ensures.value) c.in_ok-evaluate.ensures.evaluated in
    lost k c.args.current.now others tried since waits.0 (record { of_program = runs.of_program; in_world = runs.in_world }) waits.1)
    c.call.ensures.lost
