use Rattle.std.proofs.Common.{◌≡◌, map}
use Rattle.isle_ast.specs.Trees.ExprShape.{expr_of}
use Rattle.isle_ast.specs.Trees.Equality.{let_of}
use Rattle.isle_ast.specs.Trees.WithoutPos.{expr_tree_without_pos, let_trees_without_pos}
use Rattle.isle_syntax.proofs.without_pos.+expr_positions.Given as goal

abbrev pub invariant-clear_exprs-loop-expr : goal.invariant-clear_exprs-loop-expr
invariant-clear_exprs-loop-expr l = map expr_of l.all.items ≡ map (λ x. expr_tree_without_pos (expr_of x)) l.yielded

abbrev pub invariant-clear_lets-loop-def : goal.invariant-clear_lets-loop-def
invariant-clear_lets-loop-def l = map let_of l.all.items ≡ map (λ x. let_trees_without_pos (let_of x)) l.yielded
