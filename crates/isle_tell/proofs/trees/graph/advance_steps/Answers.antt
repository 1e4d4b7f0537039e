use Rattle.std.proofs.Common.{◌≡◌, ◌+◌, arith}
use Rattle.isle_tell.specs.Inside.TreeTexts.DotParts.{drawn}
use Rattle.isle_tell.proofs.TreeTexts.DotLeft.{last_drawn, step_drawn}
use Rattle.isle_tell.proofs.trees.graph.advance_steps.Goals as goal

pub returns-in_ok-push-2 : goal.returns-in_ok-push-2
returns-in_ok-push-2 c =
    let more : c.in_ok-next.next ≡ c.args.number + 1 = grind arith in
    let d = drawn c.args.files.now c.args.scene.now in
    step_drawn d c.args.way c.args.number c.in_ok-next.next c.args.text.now c.push_step.new.text c.in-Some.step c.args.steps c.in-Some.rest
    c.args.branches.now.items c.push.new.self.items c.in-Some.ensures.step more c.in_ok-push.ensures.items c.in_ok-push_step.ensures
    c.push-in-Some-branch_behind.new.self.items c.branch_behind.result c.in-Some-branch_behind.behind c.in-Some-branch_behind.is
    c.in_ok-push-2.ensures.items
    (c.branch_behind.ensures.graph d c.in_ok-next.next) c.branch_behind.ensures.nodes c.branch_behind.ensures.pieces

pub returns-in_default-branch_behind : goal.returns-in_default-branch_behind
returns-in_default-branch_behind c =
    let more : c.in_ok-next.next ≡ c.args.number + 1 = grind arith in
    let d = drawn c.args.files.now c.args.scene.now in
    last_drawn d c.args.way c.args.number c.in_ok-next.next c.args.text.now c.push_step.new.text c.in-Some.step c.args.steps c.in-Some.rest
    c.args.branches.now.items c.push.new.self.items c.in-Some.ensures.step more c.in_ok-push.ensures.items c.in_ok-push_step.ensures
    c.branch_behind.result c.in_default-branch_behind.is
    (c.branch_behind.ensures.graph d c.in_ok-next.next) c.branch_behind.ensures.nodes c.branch_behind.ensures.pieces
