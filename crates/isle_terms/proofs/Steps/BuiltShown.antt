-- What a built call and a built `let` show, and below what their symbols are.
use Rattle.std.proofs.Common.{◌≡◌, ◌≤◌, ℕ, List, map, max, refl, sym, ap, ◌∙◌, arith}
use Rattle.isle_types.specs.declared.ids.TypeId.{TypeId}
use Rattle.isle_types.specs.declared.ids.TermId.{TermId}
use Rattle.isle_types.specs.declared.ids.VarId.{VarId}
use Rattle.isle_rules.specs.declared.rules.Expr.{Expr, Expr-F, map-Expr, out-Expr, fold-roll-Expr, fold_out-Expr}
use Rattle.isle_rules.specs.declared.rules.Expr.TheVariants as expr
use Rattle.isle_rules.specs.declared.rules.Expr.TheOpen.{Term, Var, ConstBool, ConstInt, ConstPrim, Let}
use Rattle.isle_rules.specs.TypedRules.{TypedExpr, built_term, built_let, built_at}
use Rattle.isle_rules.specs.TypedTrees.{expr_type, type_of_expr}
use Rattle.isle_rules.specs.Shown.ShownRules.{built_step, built_shown, built_list, binding_list}
use Rattle.isle_rules.specs.Shown.ShownRules.{expr_limit_step, expr_limit, greatest, greatest_of_values}
use Rattle.isle_terms.specs.Inside.Readings.ExprReadings.{binding_shown, binding_limit}

-- a call shows its arguments
pub shown-Term : (names : List (List ℕ)) (ty : TypeId) (term : TermId) (args : List Expr)
    → built_shown names (expr.Term ty term args) ≡ built_term ty.0 term.0 (built_list (map (built_shown names) args))
shown-Term names ty term args =
    ap (built_shown names) (sym (expr.rolls-Term ty term args)) ∙ fold-roll-Expr TypedExpr (built_step names) (Expr-F.Term ty term args)

-- a `let` shows its variables with what their values show
pub shown-Let : (names : List (List ℕ)) (ty : TypeId) (bindings : List (VarId × TypeId × Expr)) (body : Expr)
    → built_shown names (expr.Let ty bindings body) ≡ built_let ty.0 (binding_list (map (binding_shown names) bindings)) (built_shown names body)
shown-Let names ty bindings body =
    ap (built_shown names) (sym (expr.rolls-Let ty bindings body)) ∙ fold-roll-Expr TypedExpr (built_step names) (Expr-F.Let ty bindings body)

-- a node shows its own type
level_at : (names : List (List ℕ)) (level : Expr-F Expr)
    → built_at (built_step names (map-Expr Expr TypedExpr (built_shown names) level)) ≡ (expr_type level).0
level_at names (Term ty term args) = refl
level_at names (Var ty var) = refl
level_at names (ConstBool ty val) = refl
level_at names (ConstInt ty val) = refl
level_at names (ConstPrim ty name) = refl
level_at names (Let ty bindings body) = refl

-- so does an expression
pub shown_at : (names : List (List ℕ)) (e : Expr) → built_at (built_shown names e) ≡ (type_of_expr e).0
shown_at names e = ap built_at (fold_out-Expr TypedExpr (built_step names) e) ∙ level_at names (out-Expr e)

-- the symbols of a call are those of its arguments
pub term_limited : (ty : TypeId) (term : TermId) (args made : List Expr) (bound : ℕ) → args ≡ made → greatest (map expr_limit made) ≤ bound
    → expr_limit (expr.Term ty term args) ≤ bound
term_limited ty term args made bound same within =
    let limit : expr_limit (expr.Term ty term args) ≡ greatest (map expr_limit args) =
    ap expr_limit (sym (expr.rolls-Term ty term args)) ∙ fold-roll-Expr ℕ expr_limit_step (Expr-F.Term ty term args) in
    rw (limit, same) within

-- those of a `let` are those of its values and its body
pub let_limited : (ty : TypeId) (bindings made : List (VarId × TypeId × Expr)) (body value : Expr) (bound : ℕ) → bindings ≡ made → body ≡ value
    → greatest_of_values (map binding_limit made) ≤ bound → expr_limit value ≤ bound → expr_limit (expr.Let ty bindings body) ≤ bound
let_limited ty bindings made body value bound same same_body within within_body =
    let limit : expr_limit (expr.Let ty bindings body) ≡ max (greatest_of_values (map binding_limit bindings)) (expr_limit body) =
    ap expr_limit (sym (expr.rolls-Let ty bindings body)) ∙ fold-roll-Expr ℕ expr_limit_step (Expr-F.Let ty bindings body) in
    rw (limit, same, same_body) (omega arith)
