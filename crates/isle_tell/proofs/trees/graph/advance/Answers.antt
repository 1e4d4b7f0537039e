use Rattle.std.proofs.Common.{subst, sym}
use Rattle.isle_tell.specs.declared.trees.graph.Branch.{Branch}
use Rattle.isle_tell.specs.Inside.TreeTexts.DotParts.{DrawsPiece, drawn}
use Rattle.isle_tell.proofs.trees.graph.advance.Goals as goal

pub returns-in_ok-advance_arms-in-Arms : goal.returns-in_ok-advance_arms-in-Arms
returns-in_ok-advance_arms-in-Arms c =
    let d = drawn c.args.files.now c.args.scene.now in
    let text = c.args.text.now in let number = c.args.number in
    subst (λ (b : Branch). DrawsPiece d b c.args.branches.now.items c.advance_arms.new.branches.items text text number number) (sym c.in-Arms.is)
    (c.in_ok-advance_arms-in-Arms.ensures d text number)
