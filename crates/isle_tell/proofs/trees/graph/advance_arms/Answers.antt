use Rattle.isle_tell.proofs.TreeTexts.DotLeft.{arm_drawn}
use Rattle.isle_tell.proofs.trees.graph.advance_arms.Goals as goal

pub returns : goal.returns
returns c = λ d text number.
    arm_drawn d c.in-Some.arm c.args.from c.args.arms c.in-Some.rest c.args.branches.now.items c.push.new.self.items
    c.push-2.new.self.items text number
    c.in-Some.ensures.arm c.in_ok-push.ensures.items c.in_ok-push-2.ensures.items
