use Rattle.isle_blocks.proofs.RuleFaults.Grouping.{head_is, some_place}
use Rattle.isle_blocks.proofs.report.head_of.Goals as goal

pub greatest-requires-clause-some : goal.greatest-requires-clause-some
greatest-requires-clause-some c = some_place c.args.rules.now c.args.pairs.now c.requires.some c.requires.pairs_in

pub returns-clause-greatest : goal.returns-clause-greatest
returns-clause-greatest c =
    (head_is c.args.fault c.args.rules.now c.args.pairs.now c.as_slice.result.now c.greatest.result c.requires.some c.requires.pairs_in
    (λ j lj. rw c.as_slice.ensures.value (c.in_ok-counts.ensures.counts j lj)) c.greatest.ensures).0

pub returns-clause-heads : goal.returns-clause-heads
returns-clause-heads c =
    (head_is c.args.fault c.args.rules.now c.args.pairs.now c.as_slice.result.now c.greatest.result c.requires.some c.requires.pairs_in
    (λ j lj. rw c.as_slice.ensures.value (c.in_ok-counts.ensures.counts j lj)) c.greatest.ensures).1
