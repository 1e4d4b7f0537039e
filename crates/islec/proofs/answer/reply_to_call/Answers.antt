use Rattle.isle_calls.proofs.OpenCalls.Made.{on_err}
use Rattle.islec.proofs.ReplyLemmas.{begins_with}
use Rattle.std.proofs.Common.{◌++◌, ◌∙◌, sym, ap, string_bytes, subst}
use Rattle.std.specs.List.{flat_map, AllZip}
use Rattle.isle_meaning.specs.ValueTypes.{AreOfTypes}
use Rattle.isle_rules.specs.Values.{value_list}
use Rattle.isle_calls.specs.Calls.Answers.{IsEventOf}
use Rattle.isle_program.specs.Programs.{value_facts}
use Rattle.isle_calls.proofs.OpenCalls.Telling.{inputs_taken}
use Rattle.islec.specs.Reasons.{depth_line}
use Rattle.islec.specs.Replies.{effect_line, answer_line, steps_line, trace_lines}
use Rattle.islec.proofs.answer.reply_to_call.Goals as goal

pub answer_by-requires : goal.answer_by-requires
answer_by-requires g c = record {
  compiled = c.requires.compiled;
  callable = c.requires.callable;
  typed = subst (λ types. AreOfTypes (value_facts c.args.program.now) (value_list c.args.args.items) types)
      (inputs_taken c.args.program.now c.args.term) c.requires.typed;
}

pub returns-clause-answers : goal.returns-clause-answers
returns-clause-answers g c = record {
  effects = c.answer_by.new.effects.items;
  called = c.in_ok-told.told.0;
  outcome =
      let (made, has, tells) = c.in_ok-told.ensures.ran in
      let joined = has.joined ∙ ap (λ l. l ++ has.more) c.new-effects.ensures.items in
      (made, subst (λ l. AllZip (IsEventOf c.args.program.now) l made) (sym joined) has.shown, has.steps, tells);
  told = string_bytes c.in_ok-lines.lines;
  traced = (
    c.as_slice-choices.result.now,
    c.in_ok-lines.ensures ∙ ap (λ files. trace_lines c.args.program.now files c.args.manner c.as_slice-choices.result.now) c.keep.ensures,
  );
  written = c.in_ok-push_reply.ensures
      ∙ ap (λ l. string_bytes c.in_ok-lines.lines ++ (flat_map effect_line l ++ (answer_line c.args.program.now c.in_ok-told.told.0.answer
      ++ (depth_line c.args.manner c.in_ok-told.told.0.answer ++ steps_line c.args.manner.steps c.in_ok-told.told.0.steps))))
      c.as_slice.ensures.value;
  counted = search;
}

pub returns-in_err-told-clause-lost : goal.returns-in_err-told-clause-lost
returns-in_err-told-clause-lost g c =
    on_err c.from_residual.result (let (made, has, begun) = c.in_err-told.ensures.lost in (made, has.steps, begun))

pub returns-in_err-keep-clause-lost : goal.returns-in_err-keep-clause-lost
returns-in_err-keep-clause-lost g c =
    on_err c.from_residual-in_err-keep.result (
    let (made, has, tells) = c.in_ok-told.ensures.ran in
    (made, has.steps, begins_with c.args.manner.plain c.args.program.now _ c.args.manner.depth c.args.term.0 _ c.in_ok-told.told.0 made tells))

pub returns-in_err-lines-clause-lost : goal.returns-in_err-lines-clause-lost
returns-in_err-lines-clause-lost g c =
    on_err c.from_residual-in_err-lines.result (
    let (made, has, tells) = c.in_ok-told.ensures.ran in
    (made, has.steps, begins_with c.args.manner.plain c.args.program.now _ c.args.manner.depth c.args.term.0 _ c.in_ok-told.told.0 made tells))

pub returns-in_err-push_reply-clause-lost : goal.returns-in_err-push_reply-clause-lost
returns-in_err-push_reply-clause-lost g c =
    on_err c.from_residual-in_err-push_reply.result (
    let (made, has, tells) = c.in_ok-told.ensures.ran in
    (made, has.steps, begins_with c.args.manner.plain c.args.program.now _ c.args.manner.depth c.args.term.0 _ c.in_ok-told.told.0 made tells))
