use Rattle.std.proofs.Common.{List, ◌≡◌, ◌<◌, ◌+◌, ◌-◌, map, drop, length, ◌∷◌, [], sym, ap, ◌∙◌, refl, arith}
use Rattle.std.proofs.lemmas.List.{map-append, drop-drop}
use Rattle.std.proofs.lemmas.Result.{err_from_is_err_and}
use Rattle.isle_ast.specs.declared.pos.Pos.{Pos}
use Rattle.isle_ast.specs.declared.ast.Expr.{Expr as ExprSource}
use Rattle.isle_ast.specs.Trees.ExprTree.{expr_pos, more_exprs, no_exprs}
use Rattle.isle_ast.specs.Trees.ExprShape.{expr_of, exprs_of, lets_of}
use Rattle.isle_rules.specs.Elaboration.{State}
use Rattle.isle_terms.specs.Inside.Readings.Outcomes.{bind_values, expr_node, call, each_expr, read_expr, read_expr_use, repair_expr}
use Rattle.isle_rules.specs.Shown.ShownTerms.{flags_shown, term_shown, numbers_of}
use Rattle.isle_rules.specs.Shown.ShownRules.{built_shown, built_list, expr_limit}
use Rattle.isle_terms.specs.Inside.Readings.Contexts.{known_in, expected}
use Rattle.isle_terms.specs.Inside.Readings.ExprReadings.{binding_shown, binding_limit}
use Rattle.isle_rules.specs.TypedRules.{TypedExprs, built_term}
use Rattle.isle_terms.specs.Inside.Readings.Outcomes.{Outcome, stands_for, and_then}
use Rattle.isle_terms.proofs.Steps.BuiltShown.{shown-Term, term_limited, let_limited}
use Rattle.isle_terms.proofs.Steps.PatternSteps.{fails_along, fails_then, numbers_counted}
use Rattle.isle_terms.proofs.Steps.ExprSteps.{expr_counted, use_counted, ok_along, err_along}
use Rattle.isle_terms.proofs.Steps.ExprSteps.{next_read, all_read, next_bound, all_bound, call_refused, call_allowed}
use Rattle.isle_terms.proofs.Steps.ExprSteps.{greatest_pushed, greatest_value_pushed, next_fails, next_refused, let_stands, call_counted}
use Rattle.isle_terms.proofs.translate.exprs.+expr.Goals as goal

pub translate_expr-returns-clause-ok : goal.translate_expr-returns-clause-ok
translate_expr-returns-clause-ok t c =
    let at = c.args.context.now in
    let known = known_in at in
    let caller = flags_shown c.args.caller in
    let below = c.args.levels - 1 in
    let node = expr_node known caller (read_expr known caller at.max_nodes below) (read_expr_use known caller at.max_nodes below) in
    let counted = c.if-not-count_node.ensures.counted refl in
    ok_along at.tyenv.now.names at.rule _ _ c.translate_node.result _
    (expr_counted known caller at.max_nodes c.args.levels (expr_of c.args.expr.now) (expected c.args.want) c.args.bindings.now
    c.if-levels-eq0.false counted.0 ∙ ap (node (expr_of c.args.expr.now) (expected c.args.want)) (sym counted.1))
    c.translate_node.ensures.ok

pub translate_expr-returns-clause-err : goal.translate_expr-returns-clause-err
translate_expr-returns-clause-err t c =
    let at = c.args.context.now in
    let known = known_in at in
    let caller = flags_shown c.args.caller in
    let below = c.args.levels - 1 in
    let node = expr_node known caller (read_expr known caller at.max_nodes below) (read_expr_use known caller at.max_nodes below) in
    let counted = c.if-not-count_node.ensures.counted refl in
    err_along at.tyenv.now.names at.rule _ _ c.translate_node.result
    (expr_counted known caller at.max_nodes c.args.levels (expr_of c.args.expr.now) (expected c.args.want) c.args.bindings.now
    c.if-levels-eq0.false counted.0 ∙ ap (node (expr_of c.args.expr.now) (expected c.args.want)) (sym counted.1))
    c.translate_node.ensures.err

pub translate_call-translate_each-requires : goal.translate_call-translate_each-requires
translate_call-translate_each-requires t c =
    let term = c.args.called.now.term.now in
    let count = call_counted (flags_shown c.args.caller) (term_shown c.args.context.now.tyenv.now.names term) (length c.args.args.now)
    c.in_ok-check_call.ensures.ok in
    let slice = ap length c.as_slice-tys.ensures in
    (omega arith, omega (arith, numbers_counted term.arg_tys))

pub translate_call-returns-clause-symbols : goal.translate_call-returns-clause-symbols
translate_call-returns-clause-symbols t c =
    term_limited c.args.called.now.term.now.ret_ty c.args.called.now.id c.new.result c.in_ok-made.made.items _ c.new.ensures
    c.in_ok-made.ensures.symbols

pub translate_call-returns-in_err-check_call-clause-err : goal.translate_call-returns-in_err-check_call-clause-err
translate_call-returns-in_err-check_call-clause-err t c =
    let at = c.args.context.now in
    let caller = flags_shown c.args.caller in
    let refused = call_refused caller (read_expr (known_in at) caller at.max_nodes c.args.levels) c.args.pos c.args.called.now.id.0
    (term_shown at.tyenv.now.names c.args.called.now.term.now) c.args.args.now (length c.args.args.now) c.args.bindings.now refl
    c.in_err-check_call.ensures.err in
    let p = err_from_is_err_and c.from_residual.result c.from_residual.ensures.1 in
    rw (p.1, p.2) (fails_along at.rule _ _ _ refused c.in_err-check_call.ensures.at)

pub translate_call-returns-in_err-made-clause-err : goal.translate_call-returns-in_err-made-clause-err
translate_call-returns-in_err-made-clause-err t c =
    let at = c.args.context.now in
    let caller = flags_shown c.args.caller in
    let allowed = call_allowed caller (read_expr (known_in at) caller at.max_nodes c.args.levels) c.args.pos c.args.called.now.id.0
    (term_shown at.tyenv.now.names c.args.called.now.term.now) c.args.args.now (length c.args.args.now) c.args.bindings.now refl
    c.in_ok-check_call.ensures.ok in
    let failed = rw c.as_slice-tys.ensures at c.in_err-made.ensures.err in
    let p = err_from_is_err_and c.from_residual-in_err-made.result c.from_residual-in_err-made.ensures.1 in
    rw (p.1, p.2) (fails_along at.rule _ _ _ allowed (fails_then at.rule _ _ _ failed))

pub translate_call-returns-clause-ok : goal.translate_call-returns-clause-ok
translate_call-returns-clause-ok t c =
    let at = c.args.context.now in
    let caller = flags_shown c.args.caller in
    let term = c.args.called.now.term.now in
    let allowed = call_allowed caller (read_expr (known_in at) caller at.max_nodes c.args.levels) c.args.pos c.args.called.now.id.0
    (term_shown at.tyenv.now.names term) c.args.args.now (length c.args.args.now) c.args.bindings.now refl
    c.in_ok-check_call.ensures.ok in
    let read = rw c.as_slice-tys.ensures at c.in_ok-made.ensures.ok in
    allowed
    ∙ ap (λ (o : Outcome TypedExprs). and_then o (λ us e. stands_for (built_term term.ret_ty.0 c.args.called.now.id.0 us) e)) read
    ∙ ap (λ e. stands_for e c.translate_each.new.bindings)
    (ap (λ args. built_term term.ret_ty.0 c.args.called.now.id.0 (built_list (map (built_shown at.tyenv.now.names) args))) (sym c.new.ensures)
    ∙ sym (shown-Term at.tyenv.now.names term.ret_ty c.args.called.now.id c.new.result))

pub translate_each-loop-i-preserved : goal.translate_each-loop-i-preserved
translate_each-loop-i-preserved t c =
    let at = c.args.context.now in
    let r = read_expr (known_in at) (flags_shown c.args.caller) at.max_nodes c.args.levels in
    let within : c.loop-i.i < length c.args.tys.now = omega (arith, c.requires) in
    let items = c.in_ok-push.ensures.items in
    let shown = ap (map (built_shown at.tyenv.now.names)) items
    ∙ map-append (built_shown at.tyenv.now.names) c.loop-i.all.items (c.in_ok-made.made ∷ []) in
    let limits = ap (map expr_limit) items ∙ map-append expr_limit c.loop-i.all.items (c.in_ok-made.made ∷ []) in
    record {
      read = rw shown (next_read r c.args.pos (each_expr r c.args.pos (exprs_of c.args.exprs.now) (numbers_of c.args.tys.now) c.args.bindings.now)
          (map (built_shown at.tyenv.now.names) c.loop-i.all.items)
          (built_shown at.tyenv.now.names c.in_ok-made.made) c.args.exprs.now c.args.tys.now c.loop-i.i c.index-exprs-i.result (record { 0 = 0 })
          c.loop-i.bindings c.translate_expr.new.bindings c.loop-i-test.true within c.index-exprs-i.is c.in_ok-made.ensures.ok
          c.loop-i.invariant.read);
      symbols = rw limits (greatest_pushed (map expr_limit c.loop-i.all.items) (expr_limit c.in_ok-made.made) (length at.tyenv.now.names)
          c.loop-i.invariant.symbols c.in_ok-made.ensures.symbols);
      scope = c.in_ok-made.ensures.scope ∙ c.loop-i.invariant.scope;
    }

pub translate_each-returns-in_err-made-clause-ok : goal.translate_each-returns-in_err-made-clause-ok
translate_each-returns-in_err-made-clause-ok t c =
    let p = err_from_is_err_and c.from_residual-in_err-made.result c.from_residual-in_err-made.ensures.1 in
    rw p.1 tt

pub translate_each-returns-in_err-made-clause-err : goal.translate_each-returns-in_err-made-clause-err
translate_each-returns-in_err-made-clause-err t c =
    let at = c.args.context.now in
    let r = read_expr (known_in at) (flags_shown c.args.caller) at.max_nodes c.args.levels in
    let within : c.loop-i.i < length c.args.tys.now = omega (arith, c.requires) in
    let p = err_from_is_err_and c.from_residual-in_err-made.result c.from_residual-in_err-made.ensures.1 in
    rw (p.1, p.2) (next_fails r c.args.pos at.rule
    (each_expr r c.args.pos (exprs_of c.args.exprs.now) (numbers_of c.args.tys.now) c.args.bindings.now)
    (map (built_shown at.tyenv.now.names) c.loop-i.all.items) c.args.exprs.now c.args.tys.now c.loop-i.i c.index-exprs-i.result (record { 0 = 0 })
    c.loop-i.bindings _ c.loop-i-test.true within c.index-exprs-i.is c.in_err-made.ensures.err c.loop-i.invariant.read)

pub translate_each-returns-in_err-made-clause-symbols : goal.translate_each-returns-in_err-made-clause-symbols
translate_each-returns-in_err-made-clause-symbols t c =
    let p = err_from_is_err_and c.from_residual-in_err-made.result c.from_residual-in_err-made.ensures.1 in
    rw p.1 tt

pub translate_each-returns-in_err-made-clause-scope : goal.translate_each-returns-in_err-made-clause-scope
translate_each-returns-in_err-made-clause-scope t c =
    let p = err_from_is_err_and c.from_residual-in_err-made.result c.from_residual-in_err-made.ensures.1 in
    rw p.1 tt

pub translate_each-returns-clause-ok : goal.translate_each-returns-clause-ok
translate_each-returns-clause-ok t c =
    let at = c.args.context.now in
    let r = read_expr (known_in at) (flags_shown c.args.caller) at.max_nodes c.args.levels in
    all_read r c.args.pos (each_expr r c.args.pos (exprs_of c.args.exprs.now) (numbers_of c.args.tys.now) c.args.bindings.now)
    (map (built_shown at.tyenv.now.names) c.loop-i.all.items) c.args.exprs.now c.args.tys.now c.loop-i.i c.loop-i.bindings
    (omega arith) (omega (arith, c.requires)) c.loop-i.invariant.read

pub translate_repaired-returns-clause-ok : goal.translate_repaired-returns-clause-ok
translate_repaired-returns-clause-ok t c =
    let at = c.args.context.now in
    let known = known_in at in
    let caller = flags_shown c.args.caller in
    let e = expr_of c.args.expr.now in
    let counted = c.if-not-count_node.ensures.counted refl in
    let fit = c.in-Some.fit in
    let term = term_shown at.tyenv.now.names fit.term.now in
    let run = λ (place : Pos) (args : List ExprSource) (m : State).
    call caller (read_expr known caller at.max_nodes (c.args.levels - 1)) place fit.id.0 term (exprs_of args) m in
    ok_along at.tyenv.now.names at.rule _ _ c.translate_call.result _
    (ap (λ found. repair_expr (read_expr_use known caller at.max_nodes c.args.levels) found e c.args.bindings.now) (sym c.in-Some.ensures)
    ∙ use_counted known caller at.max_nodes c.args.levels (expr_pos e) fit.id.0 term (more_exprs e no_exprs) c.args.bindings.now
    c.if-levels-eq0.false counted.0 ∙ ap (run (expr_pos e) (c.args.expr.now ∷ [])) (sym counted.1)
    ∙ ap (λ (place : Pos). run place (c.args.expr.now ∷ []) c.count_node.new.self) (sym c.pos-2.ensures)
    ∙ ap (λ (args : List ExprSource). run c.pos-2.result args c.count_node.new.self) (sym c.one-args.ensures))
    c.translate_call.ensures.ok

pub translate_repaired-returns-clause-err : goal.translate_repaired-returns-clause-err
translate_repaired-returns-clause-err t c =
    let at = c.args.context.now in
    let known = known_in at in
    let caller = flags_shown c.args.caller in
    let e = expr_of c.args.expr.now in
    let counted = c.if-not-count_node.ensures.counted refl in
    let fit = c.in-Some.fit in
    let term = term_shown at.tyenv.now.names fit.term.now in
    let run = λ (place : Pos) (args : List ExprSource) (m : State).
    call caller (read_expr known caller at.max_nodes (c.args.levels - 1)) place fit.id.0 term (exprs_of args) m in
    err_along at.tyenv.now.names at.rule _ _ c.translate_call.result
    (ap (λ found. repair_expr (read_expr_use known caller at.max_nodes c.args.levels) found e c.args.bindings.now) (sym c.in-Some.ensures)
    ∙ use_counted known caller at.max_nodes c.args.levels (expr_pos e) fit.id.0 term (more_exprs e no_exprs) c.args.bindings.now
    c.if-levels-eq0.false counted.0 ∙ ap (run (expr_pos e) (c.args.expr.now ∷ [])) (sym counted.1)
    ∙ ap (λ (place : Pos). run place (c.args.expr.now ∷ []) c.count_node.new.self) (sym c.pos-2.ensures)
    ∙ ap (λ (args : List ExprSource). run c.pos-2.result args c.count_node.new.self) (sym c.one-args.ensures))
    c.translate_call.ensures.err

pub translate_let-returns-clause-ok : goal.translate_let-returns-clause-ok
translate_let-returns-clause-ok t c =
    let at = c.args.context.now in
    let r = read_expr (known_in at) (flags_shown c.args.caller) at.max_nodes c.args.levels in
    let read = c.translate_expr.new.bindings in
    let scope = ap (drop (length c.args.defs.now)) c.in_ok-value.ensures.scope ∙ c.in_ok-made.ensures.scope in
    let left = c.in_ok-leave.ensures.ok
    ∙ ap (λ seen. record { scope = seen; variables = read.variables; nodes = read.nodes }) scope in
    let_stands (known_in at) r at.tyenv.now.names (lets_of c.args.defs.now) (expr_of c.args.body.now) (expected c.args.want) c.args.bindings.now
    c.translate_defs.new.bindings read c.leave.new.self c.ty.result c.new.result c.in_ok-made.made.items c.in_ok-new.field-0 c.in_ok-value.value
    c.in_ok-made.ensures.ok c.in_ok-value.ensures.ok c.new.ensures c.in_ok-new.ensures c.ty.ensures left

pub translate_let-returns-clause-symbols : goal.translate_let-returns-clause-symbols
translate_let-returns-clause-symbols t c =
    let_limited c.ty.result c.new.result c.in_ok-made.made.items c.in_ok-new.field-0 c.in_ok-value.value _ c.new.ensures c.in_ok-new.ensures
    c.in_ok-made.ensures.symbols c.in_ok-value.ensures.symbols

pub translate_defs-returns-in_err-translate_def-clause-err : goal.translate_defs-returns-in_err-translate_def-clause-err
translate_defs-returns-in_err-translate_def-clause-err t c =
    let at = c.args.context.now in
    let r = read_expr (known_in at) (flags_shown c.args.caller) at.max_nodes c.args.levels in
    let p = err_from_is_err_and c.from_residual.result c.from_residual.ensures.1 in
    rw (p.1, p.2) (next_refused (known_in at) r at.rule (bind_values (known_in at) r (lets_of c.args.defs.now) c.args.bindings.now)
    (map (binding_shown at.tyenv.now.names) c.loop-i.all.items) c.args.defs.now c.loop-i.i c.index-defs-i.result c.loop-i.bindings _
    c.loop-i-test.true c.index-defs-i.is c.in_err-translate_def.ensures.err c.loop-i.invariant.read)

pub translate_defs-loop-i-preserved : goal.translate_defs-loop-i-preserved
translate_defs-loop-i-preserved t c =
    let at = c.args.context.now in
    let names = at.tyenv.now.names in
    let r = read_expr (known_in at) (flags_shown c.args.caller) at.max_nodes c.args.levels in
    let made = c.in_ok-translate_def.field-0 in
    let items = c.in_ok-push.ensures.items in
    let shown = ap (map (binding_shown names)) items ∙ map-append (binding_shown names) c.loop-i.all.items (made ∷ []) in
    let limits = ap (map binding_limit) items ∙ map-append binding_limit c.loop-i.all.items (made ∷ []) in
    let one_more : 1 + c.loop-i.i ≡ c.loop-i.i + 1 = omega arith in
    record {
      read = rw shown (next_bound (known_in at) r (bind_values (known_in at) r (lets_of c.args.defs.now) c.args.bindings.now)
          (map (binding_shown names) c.loop-i.all.items) (binding_shown names made) c.args.defs.now c.loop-i.i c.index-defs-i.result
          c.loop-i.bindings c.translate_def.new.bindings c.loop-i-test.true c.index-defs-i.is c.in_ok-translate_def.ensures.ok
          c.loop-i.invariant.read);
      symbols = rw limits (greatest_value_pushed (map binding_limit c.loop-i.all.items) (binding_limit made) (length names)
          c.loop-i.invariant.symbols c.in_ok-translate_def.ensures.symbols);
      scope = ap (λ n. drop n c.translate_def.new.bindings.scope) (sym one_more) ∙ sym (drop-drop c.loop-i.i 1 c.translate_def.new.bindings.scope)
          ∙ ap (drop c.loop-i.i) c.in_ok-translate_def.ensures.scope ∙ c.loop-i.invariant.scope;
    }

pub translate_defs-returns-clause-ok : goal.translate_defs-returns-clause-ok
translate_defs-returns-clause-ok t c =
    let at = c.args.context.now in
    let r = read_expr (known_in at) (flags_shown c.args.caller) at.max_nodes c.args.levels in
    all_bound (known_in at) r (bind_values (known_in at) r (lets_of c.args.defs.now) c.args.bindings.now)
    (map (binding_shown at.tyenv.now.names) c.loop-i.all.items) c.args.defs.now c.loop-i.i c.loop-i.bindings (omega arith) c.loop-i.invariant.read
