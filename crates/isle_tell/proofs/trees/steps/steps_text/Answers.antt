use Rattle.std.proofs.Common.{◌≡◌, ◌++◌, ◌∷◌, [], rules}
use Rattle.isle_blocks.specs.Trees.Views.{shown_steps}
use Rattle.isle_tell.specs.TreeTexts.Steps.{steps_text}
use Rattle.isle_tell.proofs.TreeTexts.Left.{turned, turned_fewer}
use Rattle.isle_tell.proofs.trees.steps.steps_text.Goals as goal

pub parts-smaller : goal.parts-smaller
parts-smaller c =
    let e : c.parts.parts.items ≡ c.pop.new.self.items ++ c.in-Some.part ∷ [] = search rules in
    turned_fewer c.args.program.now c.args.files.now c.args.rules.now c.in-Some.part c.parts.parts.items c.pop.new.self.items
    c.advance.new.parts.items
    c.parts.text c.advance.new.text e c.in_ok-advance.ensures

pub parts-preserved : goal.parts-preserved
parts-preserved c =
    let e : c.parts.parts.items ≡ c.pop.new.self.items ++ c.in-Some.part ∷ [] = search rules in
    let program = c.args.program.now in let files = c.args.files.now in let all = c.args.rules.now in
    turned program files all (steps_text program files all 2 (shown_steps c.args.steps).tree) c.in-Some.part c.parts.parts.items c.pop.new.self.items
    c.advance.new.parts.items c.parts.text c.advance.new.text e c.in_ok-advance.ensures c.parts.invariant
