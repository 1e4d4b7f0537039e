use Rattle.std.proofs.Common.{◌≡◌, ◌+◌, ◌*◌, ◌≤◌, map, drop, length}
use Rattle.isle_ast.specs.Trees.ExprShape.{exprs_of, lets_of}
use Rattle.isle_terms.specs.Inside.Readings.Outcomes.{each_expr, bind_values, read_expr}
use Rattle.isle_rules.specs.Shown.ShownTerms.{flags_shown, numbers_of}
use Rattle.isle_rules.specs.Shown.ShownRules.{built_shown, expr_limit, greatest, greatest_of_values}
use Rattle.isle_terms.specs.Inside.Readings.Contexts.{known_in}
use Rattle.isle_terms.specs.Inside.Readings.ExprReadings.{binding_shown, binding_limit}
use Rattle.isle_terms.proofs.Steps.ExprSteps.{after_exprs, after_bindings}
use Rattle.isle_terms.proofs.translate.exprs.+expr.Given as goal

abbrev pub decreases-translate_expr : goal.decreases-translate_expr
decreases-translate_expr l = 8 * l.levels

abbrev pub decreases-translate_def : goal.decreases-translate_def
decreases-translate_def l = 8 * l.levels + 1

abbrev pub decreases-translate_each : goal.decreases-translate_each
decreases-translate_each l = 8 * l.levels + 1

abbrev pub decreases-translate_defs : goal.decreases-translate_defs
decreases-translate_defs l = 8 * l.levels + 2

abbrev pub decreases-translate_call : goal.decreases-translate_call
decreases-translate_call l = 8 * l.levels + 2

abbrev pub decreases-translate_let : goal.decreases-translate_let
decreases-translate_let l = 8 * l.levels + 3

abbrev pub decreases-translate_repaired : goal.decreases-translate_repaired
decreases-translate_repaired l = 8 * l.levels + 3

abbrev pub decreases-translate_variable : goal.decreases-translate_variable
decreases-translate_variable l = 8 * l.levels + 4

abbrev pub decreases-translate_term : goal.decreases-translate_term
decreases-translate_term l = 8 * l.levels + 4

abbrev pub decreases-translate_node : goal.decreases-translate_node
decreases-translate_node l = 8 * l.levels + 5

abbrev pub invariant-translate_each-loop-i : goal.invariant-translate_each-loop-i
invariant-translate_each-loop-i l =
    let r = read_expr (known_in l.context) (flags_shown l.caller) l.context.max_nodes l.levels in
    record {
      read : each_expr r l.fn.pos (exprs_of l.exprs) (numbers_of l.tys) l.initial.bindings
          ≡ after_exprs (map (built_shown l.context.tyenv.now.names) l.all.items)
          (each_expr r l.fn.pos (exprs_of (drop l.i l.exprs)) (numbers_of (drop l.i l.tys)) l.bindings);
      symbols : greatest (map expr_limit l.all.items) ≤ length l.context.tyenv.now.names;
      scope : l.bindings.scope ≡ l.initial.bindings.scope;
    }

abbrev pub invariant-translate_defs-loop-i : goal.invariant-translate_defs-loop-i
invariant-translate_defs-loop-i l =
    let r = read_expr (known_in l.context) (flags_shown l.caller) l.context.max_nodes l.levels in
    record {
      read : bind_values (known_in l.context) r (lets_of l.defs) l.initial.bindings
          ≡ after_bindings (map (binding_shown l.context.tyenv.now.names) l.all.items)
          (bind_values (known_in l.context) r (lets_of (drop l.i l.defs)) l.bindings);
      symbols : greatest_of_values (map binding_limit l.all.items) ≤ length l.context.tyenv.now.names;
      scope : drop l.i l.bindings.scope ≡ l.initial.bindings.scope;
    }
