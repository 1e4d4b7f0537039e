use Rattle.isle_trees.proofs.Whole.{whole_steps, whole_asked, whole_ascends, weighed_buildable}
use Rattle.isle_trees.proofs.built_trees_are_short_and_ascend.Goals as goal

pub returns-clause-short : goal.returns-clause-short
returns-clause-short g c = λ R n left T v k b. whole_steps R left T v (weighed_buildable R n left k) b

pub returns-clause-asks : goal.returns-clause-asks
returns-clause-asks g c = λ R n left T k b. whole_asked R left T k.both b

pub returns-clause-ascends : goal.returns-clause-ascends
returns-clause-ascends g c = λ R n left T k b. whole_ascends R left T k.same_self b
