use Rattle.std.proofs.Common.{◌≡◌, ◌+◌, Some, slice_get, ap, ◌∙◌, arith}
use Rattle.std.proofs.lemmas.Grind.{common_steps}
use Rattle.std.proofs.lemmas.Option.{gets}
use Rattle.isle_blocks.specs.Trees.Places.{here}
use Rattle.isle_blocks.proofs.Trees.Ending.{here_end}
use Rattle.isle_blocks.proofs.Trees.Returns.{returned_by}
use Rattle.isle_blocks.proofs.serializer.block.Place.parts.Goals as goal

pub returns-clause-after : goal.returns-clause-after
returns-clause-after c =
    let place = c.args.self in
    ap (here place.nodes.now) c.end_in.ensures ∙ here_end place.nodes.now place.ends.now (place.at + 1) place.laid

pub returns-clause-returned : goal.returns-clause-returned
returns-clause-returned c =
    let place = c.args.self in
    let there : slice_get place.nodes.now place.at ≡ Some c.in_ok-node.node.now = grind (arith, common_steps, gets) in
    returned_by place.nodes.now place.at c.in_ok-node.node.now there
