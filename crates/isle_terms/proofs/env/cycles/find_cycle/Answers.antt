use Rattle.std.proofs.Common.{arith}
use Rattle.std.proofs.lemmas.Grind.{elements}
use Rattle.isle_terms.proofs.Collections.Cycles.{all_acyclic}
use Rattle.isle_terms.proofs.env.cycles.find_cycle.Goals as goal

pub returns : goal.returns
returns c = all_acyclic c.args.graph.now c.loop-root.marks.items c.loop-root.invariant.searching.settled
    (λ node inside. c.loop-root.invariant.done node (omega arith))

pub loop-root-init : goal.loop-root-init
loop-root-init c = grind (arith, elements)

pub explore-requires-clause-unseen : goal.explore-requires-clause-unseen
explore-requires-clause-unseen c = grind (arith, elements)

pub loop-root-preserved : goal.loop-root-preserved
loop-root-preserved c = grind (arith, elements)
