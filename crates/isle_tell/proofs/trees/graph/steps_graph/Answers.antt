use Rattle.std.proofs.Common.{◌≡◌, ◌++◌, ◌∷◌, [], rules}
use Rattle.isle_blocks.specs.Trees.Views.{shown_steps}
use Rattle.isle_tell.specs.Inside.TreeTexts.DotParts.{drawn}
use Rattle.isle_tell.specs.TreeTexts.DotSteps.{start, steps_graph}
use Rattle.isle_tell.proofs.TreeTexts.DotLeft.{turned, turned_fewer}
use Rattle.isle_tell.proofs.trees.graph.steps_graph.Goals as goal

pub branches-smaller : goal.branches-smaller
branches-smaller c =
    let e : c.branches.branches.items ≡ c.pop.new.self.items ++ c.in-Some.branch ∷ [] = search rules in
    turned_fewer (drawn c.args.files.now c.args.scene.now) c.in-Some.branch c.branches.branches.items c.pop.new.self.items
    c.advance.new.branches.items
    c.branches.text c.advance.new.text c.branches.number c.in_ok-number.number e c.in_ok-number.ensures

pub branches-preserved : goal.branches-preserved
branches-preserved c =
    let e : c.branches.branches.items ≡ c.pop.new.self.items ++ c.in-Some.branch ∷ [] = search rules in
    let d = drawn c.args.files.now c.args.scene.now in
    turned d (steps_graph d start 1 (shown_steps c.args.steps).tree) c.in-Some.branch c.branches.branches.items c.pop.new.self.items
    c.advance.new.branches.items c.branches.text c.advance.new.text c.branches.number c.in_ok-number.number
    e c.in_ok-number.ensures c.branches.invariant
