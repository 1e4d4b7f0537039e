-- Expressions stand for well-typed ones.
use Rattle.std.proofs.Common.{◌≡◌, ℕ, zero, suc, inl, inr, List, [], ◌∷◌, Option, Some, refl, ap, sym, subst, ◌∙◌}
use Rattle.isle_ast.specs.Trees.ExprTree.{ExprTree, ExprTrees, LetTrees, expr_term, expr_var, expr_bool, expr_int, expr_prim, expr_let}
use Rattle.isle_ast.specs.Trees.ExprTree.{no_exprs, more_exprs, no_lets, more_lets}
use Rattle.isle_rules.specs.TypedRules.{TypedExpr, TypedExprs, TypedBindings, built_at, Variable}
use Rattle.isle_rules.specs.Signatures.{Flags, Declared}
use Rattle.isle_rules.specs.Elaboration.{State, counted, bound, IsExpected, ExprJudgement, EachExpr, Binds, ExprNode, Builds}
use Rattle.isle_rules.specs.SoundRules.WellTyped.{IsTypedExpr, AreTypedExprs, AreTypedBindings}
use Rattle.isle_rules.proofs.Sound.GrowingVariables.{Extends, same_extends, bound_extends, bound_has_type, AreTyped, seen_typed}

-- a judgement of expressions only adds variables, keeps the names, and makes expressions that are well typed, of the
-- type that is expected
pub record TypesExprs (declared : Declared) (caller : Flags) (R : ExprJudgement) : Type 0 where
  pub grows : (e : ExprTree) (want : Option ℕ) (s : State) (u : TypedExpr) (s' : State) → R e want s u s' → Extends s.variables s'.variables
  pub scope : (e : ExprTree) (want : Option ℕ) (s : State) (u : TypedExpr) (s' : State) → R e want s u s' → s'.scope ≡ s.scope
  pub expected : (e : ExprTree) (want : Option ℕ) (s : State) (u : TypedExpr) (s' : State) → R e want s u s' → IsExpected want (built_at u)
  pub typed : (e : ExprTree) (want : Option ℕ) (s : State) (u : TypedExpr) (s' : State) → R e want s u s' → (variables : List Variable)
      → Extends s'.variables variables → AreTyped variables s.scope → IsTypedExpr declared variables caller (built_at u) u

-- the names are the same, where a state is
same_names : (s t : State) → s ≡ t → s.scope ≡ t.scope
same_names s t e = ap (λ (z : State). z.scope) e

module _ (declared : Declared) (caller : Flags) (R : ExprJudgement) (c : TypesExprs declared caller R) where
  -- an expression whose type is expected is of that type
  pub at_type : (e : ExprTree) (ty : ℕ) (s : State) (u : TypedExpr) (s' : State) → R e (Some ty) s u s' → (variables : List Variable)
      → Extends s'.variables variables → AreTyped variables s.scope → IsTypedExpr declared variables caller ty u
  at_type e ty s u s' h variables more k =
      subst (λ z. IsTypedExpr declared variables caller z u) (sym (c.expected e (Some ty) s u s' h)) (c.typed e (Some ty) s u s' h variables more k)

  each_expr_extends : (ts : ExprTrees) (tys : List ℕ) (s : State) (us : TypedExprs) (s' : State) → EachExpr R ts tys s us s'
      → Extends s.variables s'.variables
  each_expr_extends no_exprs [] s us s' h = same_extends s s' h.1
  each_expr_extends no_exprs (ty ∷ tys) s us s' h = absurd h
  each_expr_extends (more_exprs t ts) [] s us s' h = absurd h
  each_expr_extends (more_exprs t ts) (ty ∷ tys) s us s' h =
      λ var variable is. each_expr_extends ts tys h.1 h.2 s' h.4 var variable (c.grows t (Some ty) s h.0 h.1 h.3 var variable is)

  each_expr_scope : (ts : ExprTrees) (tys : List ℕ) (s : State) (us : TypedExprs) (s' : State) → EachExpr R ts tys s us s'
      → s'.scope ≡ s.scope
  each_expr_scope no_exprs [] s us s' h = same_names s' s h.1
  each_expr_scope no_exprs (ty ∷ tys) s us s' h = absurd h
  each_expr_scope (more_exprs t ts) [] s us s' h = absurd h
  each_expr_scope (more_exprs t ts) (ty ∷ tys) s us s' h =
      each_expr_scope ts tys h.1 h.2 s' h.4 ∙ c.scope t (Some ty) s h.0 h.1 h.3

  each_expr_typed : (ts : ExprTrees) (tys : List ℕ) (s : State) (us : TypedExprs) (s' : State) → EachExpr R ts tys s us s'
      → (variables : List Variable) → Extends s'.variables variables → AreTyped variables s.scope
      → AreTypedExprs declared variables caller tys us
  each_expr_typed no_exprs [] s us s' h variables more k = rw h.0 tt
  each_expr_typed no_exprs (ty ∷ tys) s us s' h variables more k = absurd h
  each_expr_typed (more_exprs t ts) [] s us s' h variables more k = absurd h
  each_expr_typed (more_exprs t ts) (ty ∷ tys) s us s' h variables more k =
      let names = c.scope t (Some ty) s h.0 h.1 h.3 in
      let first = at_type t ty s h.0 h.1 h.3 variables
      (λ var variable is. more var variable (each_expr_extends ts tys h.1 h.2 s' h.4 var variable is)) k in
      let others = each_expr_typed ts tys h.1 h.2 s' h.4 variables more (subst (λ z. AreTyped variables z) (sym names) k) in
      rw h.5 (first, others)

  binds_extends : (defs : LetTrees) (s : State) (bs : TypedBindings) (s' : State) → Binds declared.types R defs s bs s'
      → Extends s.variables s'.variables
  binds_extends no_lets s bs s' h = same_extends s s' h.1
  binds_extends (more_lets var of_type val pos others) s bs s' h =
      λ v variable is. binds_extends others _ h.3 s' h.6 v variable
      (bound_extends h.2 var.0 h.0 v variable (c.grows val (Some h.0) s h.1 h.2 h.5 v variable is))

  binds_typed : (defs : LetTrees) (s : State) (bs : TypedBindings) (s' : State) → Binds declared.types R defs s bs s'
      → (variables : List Variable) → Extends s'.variables variables → AreTyped variables s.scope
      → AreTypedBindings declared variables caller bs × AreTyped variables s'.scope
  binds_typed no_lets s bs s' h variables more k = rw (h.0, h.1) (tt, k)
  binds_typed (more_lets var of_type val pos others) s bs s' h variables more k =
      let longer : Extends (bound h.2 var.0 h.0).variables variables =
      λ v variable is. more v variable (binds_extends others (bound h.2 var.0 h.0) h.3 s' h.6 v variable is) in
      let own = bound_has_type h.2 var.0 h.0 variables longer in
      let value = at_type val h.0 s h.1 h.2 h.5 variables
      (λ v variable is. longer v variable (bound_extends h.2 var.0 h.0 v variable is)) k in
      let names = c.scope val (Some h.0) s h.1 h.2 h.5 in
      let rest = binds_typed others (bound h.2 var.0 h.0) h.3 s' h.6 variables more
      (own, subst (λ z. AreTyped variables z) (sym names) k) in
      rw h.7 ((own, value, rest.0), rest.1)

  expr_node_extends : (e : ExprTree) (want : Option ℕ) (s : State) (u : TypedExpr) (s' : State)
      → ExprNode declared caller R e want s u s' → Extends s.variables s'.variables
  expr_node_extends (expr_int val big pos) want s u s' h = same_extends s s' h.4
  expr_node_extends (expr_bool val pos) want s u s' h = same_extends s s' h.2
  expr_node_extends (expr_prim name pos) want s u s' h = same_extends s s' h.4
  expr_node_extends (expr_var name pos) want s u s' h = elim h.2 [
    | inl k ↦ same_extends s s' k.2
    | inr k ↦ c.grows _ want s u s' k.repaired
  ]
  expr_node_extends (expr_term name args pos) want s u s' h = elim h.4 [
    | inl k ↦ each_expr_extends args h.1.args s k.values s' k.each
    | inr k ↦ c.grows _ want s u s' k.repaired
  ]
  expr_node_extends (expr_let defs body pos) want s u s' h =
      rw h.7 (λ var variable is. c.grows body want h.1 h.2 h.3 h.5 var variable (binds_extends defs s h.0 h.1 h.4 var variable is))

  expr_node_scope : (e : ExprTree) (want : Option ℕ) (s : State) (u : TypedExpr) (s' : State)
      → ExprNode declared caller R e want s u s' → s'.scope ≡ s.scope
  expr_node_scope (expr_int val big pos) want s u s' h = same_names s' s h.4
  expr_node_scope (expr_bool val pos) want s u s' h = same_names s' s h.2
  expr_node_scope (expr_prim name pos) want s u s' h = same_names s' s h.4
  expr_node_scope (expr_var name pos) want s u s' h = elim h.2 [
    | inl k ↦ same_names s' s k.2
    | inr k ↦ c.scope _ want s u s' k.repaired
  ]
  expr_node_scope (expr_term name args pos) want s u s' h = elim h.4 [
    | inl k ↦ each_expr_scope args h.1.args s k.values s' k.each
    | inr k ↦ c.scope _ want s u s' k.repaired
  ]
  expr_node_scope (expr_let defs body pos) want s u s' h = ap (λ (z : State). z.scope) h.7

  expr_node_expected : (e : ExprTree) (want : Option ℕ) (s : State) (u : TypedExpr) (s' : State)
      → ExprNode declared caller R e want s u s' → IsExpected want (built_at u)
  expr_node_expected (expr_int val big pos) want s u s' h = rw (h.1, h.3) refl
  expr_node_expected (expr_bool val pos) want s u s' h = rw h.1 h.0
  expr_node_expected (expr_prim name pos) want s u s' h = rw h.3 h.2
  expr_node_expected (expr_var name pos) want s u s' h = elim h.2 [
    | inl k ↦ rw k.1 k.0
    | inr k ↦ c.expected _ want s u s' k.repaired
  ]
  expr_node_expected (expr_term name args pos) want s u s' h = elim h.4 [
    | inl k ↦ rw k.made k.type
    | inr k ↦ c.expected _ want s u s' k.repaired
  ]
  expr_node_expected (expr_let defs body pos) want s u s' h = rw h.6 (c.expected body want h.1 h.2 h.3 h.5)

  expr_node_typed : (e : ExprTree) (want : Option ℕ) (s : State) (u : TypedExpr) (s' : State)
      → ExprNode declared caller R e want s u s' → (variables : List Variable) → Extends s'.variables variables → AreTyped variables s.scope
      → IsTypedExpr declared variables caller (built_at u) u
  expr_node_typed (expr_int val big pos) want s u s' h variables more k = rw h.3 (refl, (big, h.2))
  expr_node_typed (expr_bool val pos) want s u s' h variables more k = rw h.1 (refl, refl)
  expr_node_typed (expr_prim name pos) want s u s' h variables more k = rw h.3 (refl, h.1)
  expr_node_typed (expr_var name pos) want s u s' h variables more k = elim h.2 [
    | inl e ↦ rw e.1 (refl, seen_typed variables s.scope name.0 h.0 k h.1)
    | inr e ↦ c.typed _ want s u s' e.repaired variables more k
  ]
  expr_node_typed (expr_term name args pos) want s u s' h variables more k = elim h.4 [
    | inl e ↦ let each = each_expr_typed args h.1.args s e.values s' e.each variables more k in
        rw e.made (refl, record { term = h.1; known = h.3; type = refl; usable = e.usable; allowed = e.allowed; args = each })
    | inr e ↦ c.typed _ want s u s' e.repaired variables more k
  ]
  expr_node_typed (expr_let defs body pos) want s u s' h variables more k =
      let longer = subst (λ (z : State). Extends z.variables variables) h.7 more in
      let bindings = binds_typed defs s h.0 h.1 h.4 variables
      (λ var variable is. longer var variable (c.grows body want h.1 h.2 h.3 h.5 var variable is)) k in
      rw h.6 (refl, bindings.0, c.typed body want h.1 h.2 h.3 h.5 variables longer bindings.1)

-- what an expression stands for is well typed, whatever the levels
pub exprs_typed : (declared : Declared) (caller : Flags) (levels : ℕ) → TypesExprs declared caller (Builds declared caller levels)
exprs_typed declared caller zero = record {
  grows = λ e want s u s' h. absurd h;
  scope = λ e want s u s' h. absurd h;
  expected = λ e want s u s' h. absurd h;
  typed = λ e want s u s' h. absurd h;
}
exprs_typed declared caller (suc levels) = record {
  grows = λ e want s u s' h. expr_node_extends declared caller (Builds declared caller levels) (exprs_typed declared caller levels) e want
      (counted s) u s' h;
  scope = λ e want s u s' h. expr_node_scope declared caller (Builds declared caller levels) (exprs_typed declared caller levels) e want
      (counted s) u s' h;
  expected = λ e want s u s' h. expr_node_expected declared caller (Builds declared caller levels) (exprs_typed declared caller levels) e want
      (counted s) u s' h;
  typed = λ e want s u s' h. expr_node_typed declared caller (Builds declared caller levels) (exprs_typed declared caller levels) e want
      (counted s) u s' h;
}
