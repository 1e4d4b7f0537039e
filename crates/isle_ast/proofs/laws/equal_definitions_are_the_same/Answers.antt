use Rattle.isle_ast.proofs.Trees.DefEquality.{same_def-decides}
use Rattle.isle_ast.proofs.laws.equal_definitions_are_the_same.Goals as goal

pub returns : goal.returns
returns c = same_def-decides
