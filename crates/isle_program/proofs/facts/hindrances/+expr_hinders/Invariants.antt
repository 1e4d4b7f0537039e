use Rattle.std.proofs.Common.{◌≡◌, drop, map}
use Rattle.isle_types.specs.declared.ids.VarId.{VarId}
use Rattle.isle_types.specs.declared.ids.TypeId.{TypeId}
use Rattle.isle_rules.specs.declared.rules.Expr.{Expr}
use Rattle.isle_rules.specs.Shown.ShownRules.{built_list, built_shown, binding_list}
use Rattle.isle_program.specs.Facts.Reach.{are_hindering_exprs, are_hindering_bindings}
use Rattle.isle_program.proofs.facts.hindrances.+expr_hinders.Given as goal

abbrev pub invariant-exprs_hinder-loop-expr : goal.invariant-exprs_hinder-loop-expr
invariant-exprs_hinder-loop-expr l =
    are_hindering_exprs l.tyenv (built_list (map (built_shown l.tyenv.names) (drop l.expr-index l.exprs)))
    ≡ are_hindering_exprs l.tyenv (built_list (map (built_shown l.tyenv.names) l.exprs))

abbrev pub invariant-values_hinder-loop-binding : goal.invariant-values_hinder-loop-binding
invariant-values_hinder-loop-binding l =
    are_hindering_bindings l.tyenv (binding_list
    (map (λ (binding : VarId × TypeId × Expr). (binding.0, binding.1, built_shown l.tyenv.names binding.2)) (drop l.binding-index l.bindings)))
    ≡ are_hindering_bindings l.tyenv (binding_list
    (map (λ (binding : VarId × TypeId × Expr). (binding.0, binding.1, built_shown l.tyenv.names binding.2)) l.bindings))
