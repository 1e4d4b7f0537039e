use Rattle.std.proofs.Common.{◌≡◌, ◌∷◌, map, take}
use Rattle.isle_ast.specs.Trees.ExprShape.{expr_of}
use Rattle.isle_layout.specs.Spellings.{name_sexpr, expr_sexpr, let_def_sexpr}
use Rattle.isle_layout.proofs.to_sexpr.exprs.+spell_expr.Given as goal

abbrev pub invariant-spell_term-loop-arg : goal.invariant-spell_term-loop-arg
invariant-spell_term-loop-arg l =
    l.list ≡ name_sexpr l.term ∷ map (λ e. expr_sexpr (expr_of e)) (take l.arg-index l.args)

abbrev pub invariant-spell_lets-loop-def : goal.invariant-spell_lets-loop-def
invariant-spell_lets-loop-def l = l.list ≡ map let_def_sexpr (take l.def-index l.defs)
