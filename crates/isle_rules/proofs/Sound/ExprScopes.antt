-- Expressions stand for ones that use and bind variables in order.
use Rattle.std.proofs.Common.{◌≡◌, ℕ, zero, suc, inl, inr, List, [], ◌∷◌, length, Option, Some, refl, subst, ◌∙◌, ap}
use Rattle.isle_ast.specs.Trees.ExprTree.{ExprTree, ExprTrees, LetTrees, expr_term, expr_var, expr_bool, expr_int, expr_prim, expr_let}
use Rattle.isle_ast.specs.Trees.ExprTree.{no_exprs, more_exprs, no_lets, more_lets}
use Rattle.isle_rules.specs.TypedRules.{TypedExpr, TypedExprs, TypedBindings}
use Rattle.isle_rules.specs.Signatures.{Flags, Declared}
use Rattle.isle_rules.specs.Elaboration.{State, counted, bound, ExprJudgement, EachExpr, Binds, ExprNode, Builds}
use Rattle.isle_rules.specs.SoundRules.KeptScopes.{with_next, counting, ExprUses, ExprsUse, BindingsAdd}
use Rattle.isle_rules.proofs.Sound.ExprTypes.{TypesExprs, exprs_typed}
use Rattle.isle_rules.proofs.Sound.PatternScopes.{variables_of, scope_of, next_scope, seen_usable}

-- a judgement makes expressions that use variables of their scopes, and bind others in order
abbrev pub UsesInOrder : ExprJudgement → Type 0
UsesInOrder R = (e : ExprTree) (want : Option ℕ) (s : State) (u : TypedExpr) (s' : State) → R e want s u s'
    → ExprUses u (scope_of s) (length s'.variables)

-- a state of the same names has the scope with its own number of variables
pub same_scope : (s s' : State) → s'.scope ≡ s.scope → scope_of s' ≡ counting (scope_of s) (length s'.variables)
same_scope s s' e = ap (λ z. record { usable = variables_of z; count = length s'.variables }) e

module _ (declared : Declared) (caller : Flags) (R : ExprJudgement) (k : TypesExprs declared caller R) (c : UsesInOrder R) where
  each_uses : (ts : ExprTrees) (tys : List ℕ) (s : State) (us : TypedExprs) (s' : State) → EachExpr R ts tys s us s'
      → ExprsUse us (scope_of s) (length s'.variables)
  each_uses no_exprs [] s us s' h = rw (h.0, h.1) refl
  each_uses no_exprs (ty ∷ tys) s us s' h = absurd h
  each_uses (more_exprs t ts) [] s us s' h = absurd h
  each_uses (more_exprs t ts) (ty ∷ tys) s us s' h =
      let first = c t (Some ty) s h.0 h.1 h.3 in
      let others = subst (λ z. ExprsUse h.2 z (length s'.variables)) (same_scope s h.1 (k.scope t (Some ty) s h.0 h.1 h.3))
      (each_uses ts tys h.1 h.2 s' h.4) in
      rw h.5 (length h.1.variables, first, others)

  binds_add : (defs : LetTrees) (s : State) (bs : TypedBindings) (s' : State) → Binds declared.types R defs s bs s'
      → BindingsAdd bs (scope_of s) (scope_of s')
  binds_add no_lets s bs s' h = rw (h.0, h.1) refl
  binds_add (more_lets var of_type val pos others) s bs s' h =
      let value = c val (Some h.0) s h.1 h.2 h.5 in
      let inside = next_scope h.2 var.0 h.0 ∙ ap with_next (same_scope s h.2 (k.scope val (Some h.0) s h.1 h.2 h.5)) in
      let rest = subst (λ z. BindingsAdd h.3 z (scope_of s')) inside (binds_add others (bound h.2 var.0 h.0) h.3 s' h.6) in
      rw h.7 (value, rest)

  expr_node_uses : (e : ExprTree) (want : Option ℕ) (s : State) (u : TypedExpr) (s' : State) → ExprNode declared caller R e want s u s'
      → ExprUses u (scope_of s) (length s'.variables)
  expr_node_uses (expr_int val big pos) want s u s' h = rw (h.3, h.4) refl
  expr_node_uses (expr_bool val pos) want s u s' h = rw (h.1, h.2) refl
  expr_node_uses (expr_prim name pos) want s u s' h = rw (h.3, h.4) refl
  expr_node_uses (expr_var name pos) want s u s' h = elim h.2 [
    | inl e ↦ rw (e.1, e.2) (seen_usable s.scope name.0 h.0 h.1, refl)
    | inr e ↦ c _ want s u s' e.repaired
  ]
  expr_node_uses (expr_term name args pos) want s u s' h = elim h.4 [
    | inl e ↦ let each = each_uses args h.1.args s e.values s' e.each in rw e.made each
    | inr e ↦ c _ want s u s' e.repaired
  ]
  expr_node_uses (expr_let defs body pos) want s u s' h =
      let bindings = binds_add defs s h.0 h.1 h.4 in
      let inside = c body want h.1 h.2 h.3 h.5 in
      rw (h.6, h.7) (scope_of h.1, bindings, inside)

-- what an expression stands for uses and binds variables in order, whatever the levels
pub exprs_use : (declared : Declared) (caller : Flags) (levels : ℕ) → UsesInOrder (Builds declared caller levels)
exprs_use declared caller zero e want s u s' h = absurd h
exprs_use declared caller (suc levels) e want s u s' h =
    expr_node_uses declared caller (Builds declared caller levels) (exprs_typed declared caller levels) (exprs_use declared caller levels) e want
    (counted s) u s' h
