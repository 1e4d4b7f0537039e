use Rattle.isle_ast.specs.Trees.PatternCode.{pattern_tree_code, pattern_trees_code}
use Rattle.isle_ast.specs.Trees.PatternShape.{pattern_of}
use Rattle.isle_ast.specs.Trees.Equality.{same_coded-decides}
use Rattle.isle_ast.proofs.Trees.Equality.{same_pattern-decides}
use Rattle.isle_ast.proofs.laws.equal_patterns_are_the_same.Goals as goal

pub returns-clause-patterns : goal.returns-clause-patterns
returns-clause-patterns c = same_pattern-decides

pub returns-clause-trees : goal.returns-clause-trees
returns-clause-trees c = λ p q. same_coded-decides pattern_tree_code (pattern_of p) (pattern_of q)

pub returns-clause-boxed : goal.returns-clause-boxed
returns-clause-boxed c = same_coded-decides pattern_tree_code

pub returns-clause-lists : goal.returns-clause-lists
returns-clause-lists c = same_coded-decides pattern_trees_code
