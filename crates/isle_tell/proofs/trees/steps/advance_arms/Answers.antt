use Rattle.std.proofs.Common.{◌≡◌, ◌+◌, ◌++◌, ◌∙◌, ap, arith}
use Rattle.std.specs.Prelude.{string_bytes}
use Rattle.isle_tell.proofs.TreeTexts.Left.{arm_printed}
use Rattle.isle_tell.proofs.trees.steps.advance_arms.Goals as goal

pub returns : goal.returns
returns c = λ files rules.
    let deeper : c.in_ok-below.below ≡ c.args.level + 1 = grind arith in
    arm_printed c.args.program.now files rules c.args.level c.in_ok-below.below c.args.text.now c.push_str.new.self
    c.in-Some.arm c.args.arms c.in-Some.rest
    c.args.parts.now.items c.push.new.self.items c.push-2.new.self.items c.in-Some.ensures.arm deeper c.in_ok-push.ensures.items
    c.in_ok-push-2.ensures.items
    (c.in_ok-push_str.ensures.bytes ∙ ap (λ l. string_bytes c.args.text.now ++ l) (c.as_str.ensures.value ∙ c.in_ok-line.ensures))
