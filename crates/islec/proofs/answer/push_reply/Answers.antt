use Rattle.std.proofs.Common.{◌++◌, ◌∙◌, ap, append_assoc, string_bytes}
use Rattle.std.proofs.lemmas.List.{take_all}
use Rattle.std.specs.List.{flat_map}
use Rattle.islec.specs.Reasons.{depth_line}
use Rattle.islec.specs.Replies.{effect_line, answer_line, steps_line}
use Rattle.islec.proofs.answer.push_reply.Goals as goal

pub returns : goal.returns
returns c =
    let before = string_bytes c.args.lines.now in
    let effects = flat_map effect_line c.args.effects.now in
    let answer = answer_line c.args.program.now c.args.called.now.answer in
    let depth = depth_line c.args.manner c.args.called.now.answer in
    let steps = steps_line c.args.manner.steps c.args.called.now.steps in
    let all = c.loop-effect.invariant ∙ ap (λ l. before ++ flat_map effect_line l)
    (take_all c.loop-effect.effect-index c.args.effects.now c.loop-effect-test.false) in
    let answered = c.in_ok-push_answer.ensures ∙ ap (λ l. l ++ answer) all in
    c.in_ok-push_steps.ensures ∙ ap (λ l. l ++ steps) (c.in_ok-push_depth.ensures ∙ ap (λ l. l ++ depth) answered)
    ∙ append_assoc ((before ++ effects) ++ answer) depth steps ∙ append_assoc (before ++ effects) answer (depth ++ steps)
    ∙ append_assoc before effects (answer ++ (depth ++ steps))
