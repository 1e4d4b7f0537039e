use Rattle.isle_ast.specs.Trees.ExprCode.{let_trees_code}
use Rattle.isle_ast.proofs.Trees.Equality.{answered}
use Rattle.isle_ast.proofs.ast.eq.LetDefPartialEq.eq.Goals as goal

pub returns : goal.returns
returns c = answered let_trees_code _ _ _ c.is_same_let.ensures
