use Rattle.std.proofs.Common.{ap, ◌∙◌, arith, [], ◌∷◌}
use Rattle.isle_ast.specs.Trees.ExprShape.{expr_of}
use Rattle.isle_layout.specs.Spellings.{listed, name_sexpr, expr_sexpr, let_def_sexpr}
use Rattle.isle_layout.proofs.Layouts.Spellings.{expr_sexprs_taken, let_sexprs_taken, mapped_more}
use Rattle.isle_layout.proofs.to_sexpr.exprs.+spell_expr.Goals as goal

pub spell_term-returns : goal.spell_term-returns
spell_term-returns t c =
    c.build.ensures ∙ ap listed (c.loop-arg.invariant
    ∙ ap (λ ts. name_sexpr c.args.term.now ∷ ts) (expr_sexprs_taken c.loop-arg.arg-index c.args.args.now (omega arith)))

pub spell_lets-returns : goal.spell_lets-returns
spell_lets-returns t c =
    c.build.ensures ∙ ap listed (c.loop-def.invariant ∙ let_sexprs_taken c.loop-def.def-index c.args.defs.now (omega arith))

pub spell_term-loop-arg-preserved : goal.spell_term-loop-arg-preserved
spell_term-loop-arg-preserved t c =
    mapped_more (name_sexpr c.args.term.now ∷ []) (λ e. expr_sexpr (expr_of e)) c.args.args.now c.loop-arg.arg-index c.arg-item.result _ _ _
    c.loop-arg-test.true c.arg-item.is c.loop-arg.invariant c.in_ok-spell_expr.ensures c.in_ok-list-2.ensures

pub spell_lets-loop-def-preserved : goal.spell_lets-loop-def-preserved
spell_lets-loop-def-preserved t c =
    mapped_more [] let_def_sexpr c.args.defs.now c.loop-def.def-index c.def-item.result _ _ _ c.loop-def-test.true c.def-item.is
    c.loop-def.invariant c.in_ok-spell_let_def.ensures c.in_ok-list.ensures
