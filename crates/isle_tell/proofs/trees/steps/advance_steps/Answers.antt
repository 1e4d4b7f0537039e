use Rattle.std.proofs.Common.{◌≡◌, ◌+◌, arith}
use Rattle.isle_tell.proofs.TreeTexts.Left.{last_printed, step_printed}
use Rattle.isle_tell.proofs.trees.steps.advance_steps.Goals as goal

pub returns-in_ok-push-2 : goal.returns-in_ok-push-2
returns-in_ok-push-2 c = λ program.
    let deeper : c.in_ok-below.below ≡ c.args.level + 2 = grind arith in
    let files = c.args.files.now in let rules = c.args.rules.now in
    step_printed program files rules c.args.level c.in_ok-below.below c.args.text.now c.push_step.new.text c.in-Some.step c.args.steps c.in-Some.rest
    c.args.parts.now.items c.push.new.self.items c.in-Some.ensures.step deeper c.in_ok-push.ensures.items c.in_ok-push_step.ensures
    c.push-in-Some-part_behind.new.self.items c.part_behind.result c.in-Some-part_behind.behind c.in-Some-part_behind.is c.in_ok-push-2.ensures.items
    (c.part_behind.ensures.text program files rules) c.part_behind.ensures.pieces

pub returns-in_default-part_behind : goal.returns-in_default-part_behind
returns-in_default-part_behind c = λ program.
    let deeper : c.in_ok-below.below ≡ c.args.level + 2 = grind arith in
    let files = c.args.files.now in let rules = c.args.rules.now in
    last_printed program files rules c.args.level c.in_ok-below.below c.args.text.now c.push_step.new.text c.in-Some.step c.args.steps c.in-Some.rest
    c.args.parts.now.items c.push.new.self.items c.in-Some.ensures.step deeper c.in_ok-push.ensures.items c.in_ok-push_step.ensures
    c.part_behind.result c.in_default-part_behind.is
    (c.part_behind.ensures.text program files rules) c.part_behind.ensures.pieces
