use Rattle.std.proofs.Common.{◌≡◌, ◌++◌, ℕ, List, drop, map}
use Rattle.isle_types.specs.declared.ids.VarId.{VarId}
use Rattle.isle_types.specs.declared.ids.TypeId.{TypeId}
use Rattle.isle_rules.specs.declared.rules.Expr.{Expr}
use Rattle.isle_rules.specs.Shown.ShownRules.{built_list, built_shown, binding_list}
use Rattle.isle_program.specs.Facts.Reach.{terms_in_all, terms_in_bound}
use Rattle.isle_program.proofs.facts.made.+push_of_expr.Given as goal

abbrev pub invariant-push_of_exprs-loop-expr : goal.invariant-push_of_exprs-loop-expr
invariant-push_of_exprs-loop-expr l = (names : List (List ℕ)) →
    l.made.items ++ terms_in_all (built_list (map (built_shown names) (drop l.expr-index l.exprs)))
    ≡ l.initial.made.items ++ terms_in_all (built_list (map (built_shown names) l.exprs))

abbrev pub invariant-push_of_values-loop-binding : goal.invariant-push_of_values-loop-binding
invariant-push_of_values-loop-binding l = (names : List (List ℕ)) →
    l.made.items ++ terms_in_bound (binding_list
    (map (λ (binding : VarId × TypeId × Expr). (binding.0, binding.1, built_shown names binding.2)) (drop l.binding-index l.bindings)))
    ≡ l.initial.made.items ++ terms_in_bound (binding_list
    (map (λ (binding : VarId × TypeId × Expr). (binding.0, binding.1, built_shown names binding.2)) l.bindings))
