use Rattle.std.proofs.Common.{◌≡◌, ◌+◌, ◌∷◌, ◌++◌, [], drop, drop_of_length-le, sym, ap, ◌∙◌, append_assoc, append-nil, arith}
use Rattle.std.proofs.lemmas.Result.{on_ok_weaker}
use Rattle.isle_rules.specs.declared.rules.Expr.{Expr}
use Rattle.isle_rules.specs.Shown.ShownRules.{built_shown}
use Rattle.isle_rules.proofs.Visiting.VisitRuns.{cut}
use Rattle.isle_program.specs.Facts.Reach.{terms_in}
use Rattle.isle_program.proofs.ProgramFacts.MadeTerms.{of_exprs, of_values, shown_Term, shown_Let}
use Rattle.isle_program.proofs.facts.made.+push_of_expr.Goals as goal

pub push_of_call-returns : goal.push_of_call-returns
push_of_call-returns t c = on_ok_weaker c.push_of_exprs.result
    (λ all names. all names ∙ ap (λ l. l ++ of_exprs names c.args.args.now)
    (c.in_ok-push.ensures.items ∙ ap (λ n. c.args.made.now.items ++ n ∷ []) c.index.ensures)
    ∙ append_assoc c.args.made.now.items _ _) c.push_of_exprs.ensures

pub push_of_expr-returns-in-Term : goal.push_of_expr-returns-in-Term
push_of_expr-returns-in-Term t c = on_ok_weaker c.push_of_call.result
    (λ all names. all names ∙ ap (λ l. c.args.made.now.items ++ c.in-Term.term.0 ∷ of_exprs names l) c.as_slice.ensures
    ∙ ap (λ e. c.args.made.now.items ++ terms_in e)
    (sym (ap (built_shown names) c.in-Term.is ∙ shown_Term names c.in-Term.field-0 c.in-Term.term c.in-Term.args))) c.push_of_call.ensures

pub push_of_expr-returns-in_ok-push_of_values-in-Let : goal.push_of_expr-returns-in_ok-push_of_values-in-Let
push_of_expr-returns-in_ok-push_of_values-in-Let t c = on_ok_weaker c.push_of_expr.result
    (λ all names. all names ∙ ap (λ l. l ++ terms_in (built_shown names c.get.result.now)) (c.in_ok-push_of_values-in-Let.ensures names)
    ∙ append_assoc c.args.made.now.items _ _
    ∙ ap (λ l. c.args.made.now.items ++ (of_values names l ++ terms_in (built_shown names c.get.result.now))) c.as_slice-in-Let.ensures
    ∙ ap (λ e. c.args.made.now.items ++ (of_values names c.in-Let.bindings ++ terms_in (built_shown names e))) c.get.ensures
    ∙ ap (λ e. c.args.made.now.items ++ terms_in e)
    (sym (ap (built_shown names) c.in-Let.is ∙ shown_Let names c.in-Let.ty c.in-Let.bindings c.in-Let.body))) c.push_of_expr.ensures

pub push_of_exprs-loop-expr-preserved : goal.push_of_exprs-loop-expr-preserved
push_of_exprs-loop-expr-preserved t c = λ names.
    let exprs = c.args.exprs.now in let i = c.loop-expr.expr-index in let now = c.loop-expr.made.items in
    ap (λ l. l ++ of_exprs names (drop (i + 1) exprs)) (c.in_ok-push_of_expr.ensures names)
    ∙ append_assoc now _ _
    ∙ ap (λ l. now ++ of_exprs names l) (sym (cut exprs i c.expr-item.result c.loop-expr-test.true c.expr-item.is))
    ∙ c.loop-expr.invariant names

pub push_of_exprs-returns : goal.push_of_exprs-returns
push_of_exprs-returns t c = λ names.
    let exprs = c.args.exprs.now in let i = c.loop-expr.expr-index in let now = c.loop-expr.made.items in
    let past : drop i exprs ≡ [] = drop_of_length-le exprs {i = i} (omega arith) in
    sym (append-nil now) ∙ ap (λ l. now ++ of_exprs names l) (sym past) ∙ c.loop-expr.invariant names

pub push_of_values-loop-binding-preserved : goal.push_of_values-loop-binding-preserved
push_of_values-loop-binding-preserved t c = λ names.
    let bindings = c.args.bindings.now in let i = c.loop-binding.binding-index in let now = c.loop-binding.made.items in
    ap (λ l. l ++ of_values names (drop (i + 1) bindings))
    (c.in_ok-push_of_expr.ensures names ∙ ap (λ (e : Expr). now ++ terms_in (built_shown names e)) c.get.ensures)
    ∙ append_assoc now _ _
    ∙ ap (λ l. now ++ of_values names l) (sym (cut bindings i c.binding-item.result c.loop-binding-test.true c.binding-item.is))
    ∙ c.loop-binding.invariant names

pub push_of_values-returns : goal.push_of_values-returns
push_of_values-returns t c = λ names.
    let bindings = c.args.bindings.now in let i = c.loop-binding.binding-index in let now = c.loop-binding.made.items in
    let past : drop i bindings ≡ [] = drop_of_length-le bindings {i = i} (omega arith) in
    sym (append-nil now) ∙ ap (λ l. now ++ of_values names l) (sym past) ∙ c.loop-binding.invariant names
