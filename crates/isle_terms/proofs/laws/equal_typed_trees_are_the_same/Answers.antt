use Rattle.isle_terms.proofs.EqualTrees.{pattern-decides, expr-decides, bound-decides}
use Rattle.isle_terms.proofs.laws.equal_typed_trees_are_the_same.Goals as goal

pub returns-clause-patterns : goal.returns-clause-patterns
returns-clause-patterns c = pattern-decides

pub returns-clause-expressions : goal.returns-clause-expressions
returns-clause-expressions c = expr-decides

pub returns-clause-variables : goal.returns-clause-variables
returns-clause-variables c = bound-decides
