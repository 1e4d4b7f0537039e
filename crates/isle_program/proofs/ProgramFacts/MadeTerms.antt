-- The terms that expressions make values by.
use Rattle.std.proofs.Common.{◌≡◌, ℕ, List, map, sym, ap, ◌∙◌}
use Rattle.isle_types.specs.declared.ids.TypeId.{TypeId}
use Rattle.isle_types.specs.declared.ids.TermId.{TermId}
use Rattle.isle_types.specs.declared.ids.VarId.{VarId}
use Rattle.isle_rules.specs.declared.rules.Expr.{Expr, Expr-F, fold-roll-Expr}
use Rattle.isle_rules.specs.declared.rules.Expr.TheVariants as exprs
use Rattle.isle_rules.specs.TypedRules.{TypedExpr, built_term, built_let}
use Rattle.isle_rules.specs.Shown.ShownRules.{built_list, built_shown, built_step, binding_list}
use Rattle.isle_program.specs.Facts.Reach.{terms_in_all, terms_in_bound}

-- the terms of expressions, and of the values of a `let`
abbrev pub of_exprs : List (List ℕ) → List Expr → List ℕ
of_exprs names exprs = terms_in_all (built_list (map (built_shown names) exprs))

abbrev pub of_values : List (List ℕ) → List (VarId × TypeId × Expr) → List ℕ
of_values names bindings = terms_in_bound (binding_list
    (map (λ (binding : VarId × TypeId × Expr). (binding.0, binding.1, built_shown names binding.2)) bindings))

pub shown_Term : (names : List (List ℕ)) (ty : TypeId) (term : TermId) (args : List Expr)
    → built_shown names (exprs.Term ty term args) ≡ built_term ty.0 term.0 (built_list (map (built_shown names) args))
shown_Term names ty term args =
    ap (built_shown names) (sym (exprs.rolls-Term ty term args)) ∙ fold-roll-Expr TypedExpr (built_step names) (Expr-F.Term ty term args)

pub shown_Let : (names : List (List ℕ)) (ty : TypeId) (bindings : List (VarId × TypeId × Expr)) (body : Expr)
    → built_shown names (exprs.Let ty bindings body)
    ≡ built_let ty.0 (binding_list (map (λ (binding : VarId × TypeId × Expr). (binding.0, binding.1, built_shown names binding.2)) bindings))
    (built_shown names body)
shown_Let names ty bindings body =
    ap (built_shown names) (sym (exprs.rolls-Let ty bindings body)) ∙ fold-roll-Expr TypedExpr (built_step names) (Expr-F.Let ty bindings body)
