use Rattle.isle_blocks.proofs.Trees.Promised.{built_ascends, built_asks, built_chooses, built_from, built_returns, built_short, checked_buildable}
use Rattle.isle_blocks.proofs.Trees.Bags.RuleBags.{built_bag}
use Rattle.isle_blocks.proofs.Trees.Promises.Reads.{built_by_tests, built_fields, built_reads}
use Rattle.isle_blocks.proofs.Trees.Promises.RightSides.{built_answers}
use Rattle.isle_blocks.proofs.Trees.Promises.TypedCalls.{calls_take_their_types}
use Rattle.isle_blocks.proofs.serializer.serialize.Goals as goal

pub nodes_of-requires : goal.nodes_of-requires
nodes_of-requires c = record { set = checked_buildable c.args.set.now c.requires.checked }

pub returns-clause-builds : goal.returns-clause-builds
returns-clause-builds c = built_from c.args.set.now c.in_ok-block.block c.in_ok-nodes.nodes.items c.in_ok-block.ensures c.in_ok-nodes.ensures.builds

pub returns-clause-returns : goal.returns-clause-returns
returns-clause-returns c =
    built_returns c.args.set.now c.in_ok-block.block c.in_ok-nodes.nodes.items c.in_ok-block.ensures c.in_ok-nodes.ensures.told

pub returns-clause-chooses : goal.returns-clause-chooses
returns-clause-chooses c =
    built_chooses c.args.set.now c.in_ok-block.block
    (built_from c.args.set.now c.in_ok-block.block c.in_ok-nodes.nodes.items c.in_ok-block.ensures c.in_ok-nodes.ensures.builds)

pub returns-clause-bag : goal.returns-clause-bag
returns-clause-bag c =
    built_bag c.args.set.now c.in_ok-block.block
    (built_from c.args.set.now c.in_ok-block.block c.in_ok-nodes.nodes.items c.in_ok-block.ensures c.in_ok-nodes.ensures.builds)

pub returns-clause-asks : goal.returns-clause-asks
returns-clause-asks c =
    built_asks c.args.set.now c.in_ok-block.block (checked_buildable c.args.set.now c.requires.checked)
    (built_from c.args.set.now c.in_ok-block.block c.in_ok-nodes.nodes.items c.in_ok-block.ensures c.in_ok-nodes.ensures.builds)

pub returns-clause-ascends : goal.returns-clause-ascends
returns-clause-ascends c =
    built_ascends c.args.set.now c.in_ok-block.block (checked_buildable c.args.set.now c.requires.checked)
    (built_from c.args.set.now c.in_ok-block.block c.in_ok-nodes.nodes.items c.in_ok-block.ensures c.in_ok-nodes.ensures.builds)

pub returns-clause-few : goal.returns-clause-few
returns-clause-few c =
    built_short c.args.set.now c.in_ok-block.block (checked_buildable c.args.set.now c.requires.checked)
    (built_from c.args.set.now c.in_ok-block.block c.in_ok-nodes.nodes.items c.in_ok-block.ensures c.in_ok-nodes.ensures.builds)

pub returns-clause-reads : goal.returns-clause-reads
returns-clause-reads c =
    built_reads c.args.set.now c.in_ok-block.block c.requires.checked
    (built_from c.args.set.now c.in_ok-block.block c.in_ok-nodes.nodes.items c.in_ok-block.ensures c.in_ok-nodes.ensures.builds)

pub returns-clause-fields : goal.returns-clause-fields
returns-clause-fields c =
    built_fields c.args.set.now c.in_ok-block.block c.requires.checked
    (built_from c.args.set.now c.in_ok-block.block c.in_ok-nodes.nodes.items c.in_ok-block.ensures c.in_ok-nodes.ensures.builds)

pub returns-clause-by_tests : goal.returns-clause-by_tests
returns-clause-by_tests c =
    built_by_tests c.args.set.now c.in_ok-block.block
    (built_from c.args.set.now c.in_ok-block.block c.in_ok-nodes.nodes.items c.in_ok-block.ensures c.in_ok-nodes.ensures.builds)

pub returns-clause-typed : goal.returns-clause-typed
returns-clause-typed c = calls_take_their_types c.args.set.now c.in_ok-block.block

pub returns-clause-answers : goal.returns-clause-answers
returns-clause-answers c =
    built_answers c.args.set.now c.in_ok-block.block
    (built_from c.args.set.now c.in_ok-block.block c.in_ok-nodes.nodes.items c.in_ok-block.ensures c.in_ok-nodes.ensures.builds)
