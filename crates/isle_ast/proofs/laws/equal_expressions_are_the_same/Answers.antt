use Rattle.isle_ast.specs.Trees.ExprCode.{expr_tree_code, expr_trees_code, let_trees_code}
use Rattle.isle_ast.specs.Trees.ExprShape.{expr_of}
use Rattle.isle_ast.specs.Trees.Equality.{same_coded-decides}
use Rattle.isle_ast.proofs.Trees.Equality.{same_expr-decides, same_let-decides}
use Rattle.isle_ast.proofs.laws.equal_expressions_are_the_same.Goals as goal

pub returns-clause-expressions : goal.returns-clause-expressions
returns-clause-expressions c = same_expr-decides

pub returns-clause-trees : goal.returns-clause-trees
returns-clause-trees c = λ e f. same_coded-decides expr_tree_code (expr_of e) (expr_of f)

pub returns-clause-boxed : goal.returns-clause-boxed
returns-clause-boxed c = same_coded-decides expr_tree_code

pub returns-clause-lists : goal.returns-clause-lists
returns-clause-lists c = same_coded-decides expr_trees_code

pub returns-clause-lets : goal.returns-clause-lets
returns-clause-lets c = same_let-decides

pub returns-clause-let_lists : goal.returns-clause-let_lists
returns-clause-let_lists c = same_coded-decides let_trees_code
