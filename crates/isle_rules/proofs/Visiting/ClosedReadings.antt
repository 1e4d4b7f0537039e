-- What trees stand for uses only variables bound before, and terms that can be used so.
use Rattle.std.proofs.Common.{◌≡◌, ℕ, zero, suc, ◌+◌, ◌≤◌, inl, inr, Bool, true, false, List, [], ◌∷◌, length, Option, Some, None}
use Rattle.std.proofs.Common.{slice_get, ap, sym, subst, refl, ◌∙◌, arith}
use Rattle.std.specs.Str.{bytes_eq}
use Rattle.std.proofs.lemmas.List.{length-append}
use Rattle.std.proofs.lemmas.Option.{none-some, same_Some}
use Rattle.isle_ast.specs.declared.ast.IfLet.{IfLet}
use Rattle.isle_ast.specs.declared.ast.Rule.{Rule}
use Rattle.isle_ast.specs.Trees.PatternTree.{PatternTree, PatternTrees, pattern_var, pattern_bind, pattern_bool, pattern_int, pattern_prim}
use Rattle.isle_ast.specs.Trees.PatternTree.{pattern_term, pattern_wildcard, pattern_and, pattern_macro_arg, no_patterns, more_patterns}
use Rattle.isle_ast.specs.Trees.ExprTree.{ExprTree, ExprTrees, LetTrees, expr_term, expr_var, expr_bool, expr_int, expr_prim, expr_let}
use Rattle.isle_ast.specs.Trees.ExprTree.{no_exprs, more_exprs, no_lets, more_lets}
use Rattle.isle_types.specs.Environment.{Environment}
use Rattle.isle_rules.specs.TypedRules.{TypedPattern, TypedPatterns, TypedExpr, TypedExprs, TypedBindings, TypedIfLet, TypedRule}
use Rattle.isle_rules.specs.Signatures.{Flags, Signature, Declared, put_in_for, has_extractor_form}
use Rattle.isle_rules.specs.Elaboration.{State, counted, bound, start, Visible, visible_in, each_at, PatternJudgement, EachPattern, TakesApart}
use Rattle.isle_rules.specs.Elaboration.{PatternNode, Elaborates, ExprJudgement, EachExpr, Binds, ExprNode, Builds, Conditions, ElaboratesRule}
use Rattle.isle_rules.proofs.Visiting.ClosedTrees.{IsOneOf, after, after_all, after_bindings, after_iflets, typed_count, built_count}
use Rattle.isle_rules.proofs.Visiting.ClosedTrees.{Closed, AllClosed, ClosedExpr, ClosedExprs, ClosedBindings, ClosedIfLets, ClosedRule, after_keeps}

-- each name that can be used is that of one of these variables
abbrev pub AreBound : List Visible → List ℕ → Type 0
AreBound [] vars = Unit {0}
AreBound (first ∷ others) vars = IsOneOf vars first.var × AreBound others vars

-- so is the innermost of a name
seen_bound : (scope : List Visible) (name : List ℕ) (seen : Visible) (vars : List ℕ) → AreBound scope vars → visible_in scope name ≡ Some seen
    → IsOneOf vars seen.var
seen_bound [] name seen vars h e = absurd (none-some seen e)
seen_bound (first ∷ others) name seen vars h e = by_test (bytes_eq first.name name) refl (seen_bound others name seen vars h.1)
  where
    by_test : (b : Bool) → bytes_eq first.name name ≡ b → (visible_in others name ≡ Some seen → IsOneOf vars seen.var) → IsOneOf vars seen.var
    by_test true t further = subst (λ (z : Visible). IsOneOf vars z.var) (same_Some _ _ (rw t at e)) h.0
    by_test false t further = further (rw t at e)

-- names are those of more variables too
bound_more : (scope : List Visible) (vars wider : List ℕ) → ((var : ℕ) → IsOneOf vars var → IsOneOf wider var) → AreBound scope vars
    → AreBound scope wider
bound_more [] vars wider more h = tt
bound_more (first ∷ others) vars wider more h = (more first.var h.0, bound_more others vars wider more h.1)

-- a judgement of patterns only adds variables, and makes closed patterns
pub record Closes (terms : List Signature) (R : PatternJudgement) : Type 0 where
  pub grows : (t : PatternTree) (ty : ℕ) (s : State) (u : TypedPattern) (s' : State) → R t ty s u s' → length s.variables ≤ length s'.variables
  pub closed : (t : PatternTree) (ty : ℕ) (s : State) (u : TypedPattern) (s' : State) → R t ty s u s' → (count : ℕ) (vars : List ℕ)
      → length s'.variables ≤ count → AreBound s.scope vars → Closed terms count u vars × AreBound s'.scope (after u vars)

-- there are as many variables, where a state is the same
same_variables : (s t : State) → s ≡ t → length t.variables ≤ length s.variables
same_variables s t e = let n = ap (λ (z : State). length z.variables) e in omega arith

-- a name more is a variable more
one_more : (s : State) (name : List ℕ) (ty : ℕ) → length (bound s name ty).variables ≡ length s.variables + 1
one_more s name ty = length-append s.variables _

module _ (declared : Declared) (R : PatternJudgement) (c : Closes declared.terms R) where
  pub each_more : (ts : PatternTrees) (tys : List ℕ) (s : State) (us : TypedPatterns) (s' : State) → EachPattern R ts tys s us s'
      → length s.variables ≤ length s'.variables
  each_more no_patterns [] s us s' h = same_variables s' s h.1
  each_more no_patterns (ty ∷ tys) s us s' h = absurd h
  each_more (more_patterns t ts) [] s us s' h = absurd h
  each_more (more_patterns t ts) (ty ∷ tys) s us s' h =
      let a = c.grows t ty s h.0 h.1 h.3 in let b = each_more ts tys h.1 h.2 s' h.4 in omega arith

  pub each_closed : (ts : PatternTrees) (tys : List ℕ) (s : State) (us : TypedPatterns) (s' : State) → EachPattern R ts tys s us s'
      → (count : ℕ) (vars : List ℕ) → length s'.variables ≤ count → AreBound s.scope vars
      → AllClosed declared.terms count us vars × AreBound s'.scope (after_all us vars)
  each_closed no_patterns [] s us s' h count vars n k = rw (h.0, h.1) (tt, k)
  each_closed no_patterns (ty ∷ tys) s us s' h count vars n k = absurd h
  each_closed (more_patterns t ts) [] s us s' h count vars n k = absurd h
  each_closed (more_patterns t ts) (ty ∷ tys) s us s' h count vars n k =
      let more = each_more ts tys h.1 h.2 s' h.4 in
      let first = c.closed t ty s h.0 h.1 h.3 count vars (omega arith) k in
      let others = each_closed ts tys h.1 h.2 s' h.4 count (after h.0 vars) n first.1 in
      rw h.5 ((first.0, others.0), others.1)

  -- there is a pattern for each type
  pub each_count : (ts : PatternTrees) (tys : List ℕ) (s : State) (us : TypedPatterns) (s' : State) → EachPattern R ts tys s us s'
      → typed_count us ≡ length tys
  each_count no_patterns [] s us s' h = rw h.0 refl
  each_count no_patterns (ty ∷ tys) s us s' h = absurd h
  each_count (more_patterns t ts) [] s us s' h = absurd h
  each_count (more_patterns t ts) (ty ∷ tys) s us s' h = let others = each_count ts tys h.1 h.2 s' h.4 in rw h.5 (omega arith)

  taken_more : (term : Signature) (number : ℕ) (template : Option PatternTree) (args : PatternTrees) (ty : ℕ) (s : State) (u : TypedPattern)
      (s' : State) → TakesApart R term number template args ty s u s' → length s.variables ≤ length s'.variables
  taken_more term number None args ty s u s' h = each_more args term.args s h.0 s' h.1
  taken_more term number (Some template) args ty s u s' h = c.grows h.0 ty s u s' h.2

  taken_closed : (term : Signature) (number : ℕ) (template : Option PatternTree) (args : PatternTrees) (ty : ℕ) (s : State) (u : TypedPattern)
      (s' : State) → slice_get declared.terms number ≡ Some term → has_extractor_form term.form ≡ true
      → TakesApart R term number template args ty s u s' → (count : ℕ) (vars : List ℕ) → length s'.variables ≤ count → AreBound s.scope vars
      → Closed declared.terms count u vars × AreBound s'.scope (after u vars)
  taken_closed term number None args ty s u s' known usable h count vars n k =
      let each = each_closed args term.args s h.0 s' h.1 count vars n k in
      let parts = each_count args term.args s h.0 s' h.1 in
      rw h.2 ((record { term = term; known = known; form = usable; enough = omega arith }, each.0), each.1)
  taken_closed term number (Some template) args ty s u s' known usable h count vars n k = c.closed h.0 ty s u s' h.2 count vars n k

  node_more : (t : PatternTree) (ty : ℕ) (s : State) (u : TypedPattern) (s' : State)
      → PatternNode declared R t ty s u s' → length s.variables ≤ length s'.variables
  node_more (pattern_var name pos) ty s u s' (inl h) =
      let e = ap (λ (z : State). length z.variables) h.2 in let m = one_more s name.0 ty in omega arith
  node_more (pattern_var name pos) ty s u s' (inr h) = same_variables s' s h.4
  node_more (pattern_bind name below pos) ty s u s' h =
      let a = c.grows below ty s h.0 h.1 h.2 in let e = ap (λ (z : State). length z.variables) h.5 in
      let m = one_more h.1 name.0 ty in omega arith
  node_more (pattern_bool val pos) ty s u s' h = same_variables s' s h.2
  node_more (pattern_int val big pos) ty s u s' h = same_variables s' s h.2
  node_more (pattern_prim name pos) ty s u s' h = same_variables s' s h.2
  node_more (pattern_term name args pos) ty s u s' h = elim h.4 [
    | inl k ↦ taken_more h.1 h.0 (put_in_for declared h.1) args ty s u s' k.taken
    | inr k ↦ c.grows _ ty s u s' k.repaired
  ]
  node_more (pattern_wildcard pos) ty s u s' h = same_variables s' s h.1
  node_more (pattern_and below pos) ty s u s' h = each_more below (each_at ty below) s h.0 s' h.1
  node_more (pattern_macro_arg place pos) ty s u s' h = absurd h

  node_closed : (t : PatternTree) (ty : ℕ) (s : State) (u : TypedPattern) (s' : State)
      → PatternNode declared R t ty s u s' → (count : ℕ) (vars : List ℕ) → length s'.variables ≤ count → AreBound s.scope vars
      → Closed declared.terms count u vars × AreBound s'.scope (after u vars)
  node_closed (pattern_var name pos) ty s u s' (inl h) count vars n k =
      let e = ap (λ (z : State). length z.variables) h.2 in let m = one_more s name.0 ty in
      rw (h.1, h.2) ((omega arith, tt), (inl refl, bound_more s.scope vars (length s.variables ∷ vars) (λ var o. inr o) k))
  node_closed (pattern_var name pos) ty s u s' (inr h) count vars n k =
      rw (h.3, h.4) (seen_bound s.scope name.0 h.0 vars k h.1, k)
  node_closed (pattern_bind name below pos) ty s u s' h count vars n k =
      let e = ap (λ (z : State). length z.variables) h.5 in
      let m = one_more h.1 name.0 ty in
      let own = length h.1.variables in
      let inside = c.closed below ty s h.0 h.1 h.2 count (own ∷ vars) (omega arith)
      (bound_more s.scope vars (own ∷ vars) (λ var o. inr o) k) in
      rw (h.4, h.5) ((omega arith, inside.0), (after_keeps h.0 (own ∷ vars) own (inl refl), inside.1))
  node_closed (pattern_bool val pos) ty s u s' h count vars n k = rw (h.1, h.2) (tt, k)
  node_closed (pattern_int val big pos) ty s u s' h count vars n k = rw (h.1, h.2) (tt, k)
  node_closed (pattern_prim name pos) ty s u s' h count vars n k = rw (h.1, h.2) (tt, k)
  node_closed (pattern_term name args pos) ty s u s' h count vars n k = elim h.4 [
    | inl e ↦ taken_closed h.1 h.0 (put_in_for declared h.1) args ty s u s' h.3 e.usable e.taken count vars n k
    | inr e ↦ c.closed _ ty s u s' e.repaired count vars n k
  ]
  node_closed (pattern_wildcard pos) ty s u s' h count vars n k = rw (h.0, h.1) (tt, k)
  node_closed (pattern_and below pos) ty s u s' h count vars n k =
      let each = each_closed below (each_at ty below) s h.0 s' h.1 count vars n k in rw h.2 each
  node_closed (pattern_macro_arg place pos) ty s u s' h count vars n k = absurd h

-- what a pattern stands for is closed, whatever the levels
pub patterns_close : (declared : Declared) (levels : ℕ) → Closes declared.terms (Elaborates declared levels)
patterns_close declared zero = record { grows = λ t ty s u s' h. absurd h; closed = λ t ty s u s' h. absurd h }
patterns_close declared (suc levels) = record {
  grows = λ t ty s u s' h. node_more declared (Elaborates declared levels) (patterns_close declared levels) t ty (counted s) u s' h;
  closed = λ t ty s u s' h. node_closed declared (Elaborates declared levels) (patterns_close declared levels) t ty (counted s) u s' h;
}

-- a judgement of expressions only adds variables, keeps the names, and makes closed expressions
pub record ClosesExprs (terms : List Signature) (R : ExprJudgement) : Type 0 where
  pub grows : (e : ExprTree) (want : Option ℕ) (s : State) (u : TypedExpr) (s' : State) → R e want s u s'
      → length s.variables ≤ length s'.variables
  pub scope : (e : ExprTree) (want : Option ℕ) (s : State) (u : TypedExpr) (s' : State) → R e want s u s' → s'.scope ≡ s.scope
  pub closed : (e : ExprTree) (want : Option ℕ) (s : State) (u : TypedExpr) (s' : State) → R e want s u s' → (vars : List ℕ)
      → AreBound s.scope vars → ClosedExpr terms u vars

-- the names are the same, where a state is
same_names : (s t : State) → s ≡ t → s.scope ≡ t.scope
same_names s t e = ap (λ (z : State). z.scope) e

module _ (declared : Declared) (R : ExprJudgement) (c : ClosesExprs declared.terms R) where
  each_expr_more : (ts : ExprTrees) (tys : List ℕ) (s : State) (us : TypedExprs) (s' : State) → EachExpr R ts tys s us s'
      → length s.variables ≤ length s'.variables
  each_expr_more no_exprs [] s us s' h = same_variables s' s h.1
  each_expr_more no_exprs (ty ∷ tys) s us s' h = absurd h
  each_expr_more (more_exprs t ts) [] s us s' h = absurd h
  each_expr_more (more_exprs t ts) (ty ∷ tys) s us s' h =
      let a = c.grows t (Some ty) s h.0 h.1 h.3 in let b = each_expr_more ts tys h.1 h.2 s' h.4 in omega arith

  each_expr_scope : (ts : ExprTrees) (tys : List ℕ) (s : State) (us : TypedExprs) (s' : State) → EachExpr R ts tys s us s'
      → s'.scope ≡ s.scope
  each_expr_scope no_exprs [] s us s' h = same_names s' s h.1
  each_expr_scope no_exprs (ty ∷ tys) s us s' h = absurd h
  each_expr_scope (more_exprs t ts) [] s us s' h = absurd h
  each_expr_scope (more_exprs t ts) (ty ∷ tys) s us s' h =
      each_expr_scope ts tys h.1 h.2 s' h.4 ∙ c.scope t (Some ty) s h.0 h.1 h.3

  each_expr_closed : (ts : ExprTrees) (tys : List ℕ) (s : State) (us : TypedExprs) (s' : State) → EachExpr R ts tys s us s' → (vars : List ℕ)
      → AreBound s.scope vars → ClosedExprs declared.terms us vars × (built_count us ≡ length tys)
  each_expr_closed no_exprs [] s us s' h vars k = rw h.0 (tt, refl)
  each_expr_closed no_exprs (ty ∷ tys) s us s' h vars k = absurd h
  each_expr_closed (more_exprs t ts) [] s us s' h vars k = absurd h
  each_expr_closed (more_exprs t ts) (ty ∷ tys) s us s' h vars k =
      let names = c.scope t (Some ty) s h.0 h.1 h.3 in
      let others = each_expr_closed ts tys h.1 h.2 s' h.4 vars (subst (λ z. AreBound z vars) (sym names) k) in
      rw h.5 ((c.closed t (Some ty) s h.0 h.1 h.3 vars k, others.0), omega (arith, others.1))

  binds_more : (types : Environment) (defs : LetTrees) (s : State) (bs : TypedBindings) (s' : State) → Binds types R defs s bs s'
      → length s.variables ≤ length s'.variables
  binds_more types no_lets s bs s' h = same_variables s' s h.1
  binds_more types (more_lets var of_type val pos others) s bs s' h =
      let a = c.grows val (Some h.0) s h.1 h.2 h.5 in let m = one_more h.2 var.0 h.0 in
      let b = binds_more types others _ h.3 s' h.6 in omega arith

  binds_closed : (types : Environment) (defs : LetTrees) (s : State) (bs : TypedBindings) (s' : State) → Binds types R defs s bs s'
      → (vars : List ℕ) → AreBound s.scope vars → ClosedBindings declared.terms bs vars × AreBound s'.scope (after_bindings bs vars)
  binds_closed types no_lets s bs s' h vars k = rw (h.0, h.1) (tt, k)
  binds_closed types (more_lets var of_type val pos others) s bs s' h vars k =
      let own = length h.2.variables in
      let names = c.scope val (Some h.0) s h.1 h.2 h.5 in
      let inside : AreBound h.2.scope (own ∷ vars) =
      subst (λ z. AreBound z (own ∷ vars)) (sym names) (bound_more s.scope vars (own ∷ vars) (λ var o. inr o) k) in
      let rest = binds_closed types others _ h.3 s' h.6 (own ∷ vars) (inl refl, inside) in
      rw h.7 ((c.closed val (Some h.0) s h.1 h.2 h.5 vars k, rest.0), rest.1)

  expr_node_more : (caller : Flags) (e : ExprTree) (want : Option ℕ) (s : State) (u : TypedExpr) (s' : State)
      → ExprNode declared caller R e want s u s' → length s.variables ≤ length s'.variables
  expr_node_more caller (expr_int val big pos) want s u s' h = same_variables s' s h.4
  expr_node_more caller (expr_bool val pos) want s u s' h = same_variables s' s h.2
  expr_node_more caller (expr_prim name pos) want s u s' h = same_variables s' s h.4
  expr_node_more caller (expr_var name pos) want s u s' h = elim h.2 [
    | inl k ↦ same_variables s' s k.2
    | inr k ↦ c.grows _ want s u s' k.repaired
  ]
  expr_node_more caller (expr_term name args pos) want s u s' h = elim h.4 [
    | inl k ↦ each_expr_more args h.1.args s k.values s' k.each
    | inr k ↦ c.grows _ want s u s' k.repaired
  ]
  expr_node_more caller (expr_let defs body pos) want s u s' h =
      let a = binds_more declared.types defs s h.0 h.1 h.4 in let b = c.grows body want h.1 h.2 h.3 h.5 in
      let e = ap (λ (z : State). length z.variables) h.7 in omega arith

  expr_node_scope : (caller : Flags) (e : ExprTree) (want : Option ℕ) (s : State) (u : TypedExpr) (s' : State)
      → ExprNode declared caller R e want s u s' → s'.scope ≡ s.scope
  expr_node_scope caller (expr_int val big pos) want s u s' h = same_names s' s h.4
  expr_node_scope caller (expr_bool val pos) want s u s' h = same_names s' s h.2
  expr_node_scope caller (expr_prim name pos) want s u s' h = same_names s' s h.4
  expr_node_scope caller (expr_var name pos) want s u s' h = elim h.2 [
    | inl k ↦ same_names s' s k.2
    | inr k ↦ c.scope _ want s u s' k.repaired
  ]
  expr_node_scope caller (expr_term name args pos) want s u s' h = elim h.4 [
    | inl k ↦ each_expr_scope args h.1.args s k.values s' k.each
    | inr k ↦ c.scope _ want s u s' k.repaired
  ]
  expr_node_scope caller (expr_let defs body pos) want s u s' h = ap (λ (z : State). z.scope) h.7

  expr_node_closed : (caller : Flags) (e : ExprTree) (want : Option ℕ) (s : State) (u : TypedExpr) (s' : State)
      → ExprNode declared caller R e want s u s' → (vars : List ℕ) → AreBound s.scope vars → ClosedExpr declared.terms u vars
  expr_node_closed caller (expr_int val big pos) want s u s' h vars k = rw h.3 tt
  expr_node_closed caller (expr_bool val pos) want s u s' h vars k = rw h.1 tt
  expr_node_closed caller (expr_prim name pos) want s u s' h vars k = rw h.3 tt
  expr_node_closed caller (expr_var name pos) want s u s' h vars k = elim h.2 [
    | inl e ↦ rw e.1 (seen_bound s.scope name.0 h.0 vars k h.1)
    | inr e ↦ c.closed _ want s u s' e.repaired vars k
  ]
  expr_node_closed caller (expr_term name args pos) want s u s' h vars k = elim h.4 [
    | inl e ↦ let each = each_expr_closed args h.1.args s e.values s' e.each vars k in
        let n : built_count e.values ≤ length h.1.args = omega (arith, each.1) in
        rw e.made (record { term = h.1; known = h.3; form = e.usable; enough = n }, each.0)
    | inr e ↦ c.closed _ want s u s' e.repaired vars k
  ]
  expr_node_closed caller (expr_let defs body pos) want s u s' h vars k =
      let bindings = binds_closed declared.types defs s h.0 h.1 h.4 vars k in
      rw h.6 (bindings.0, c.closed body want h.1 h.2 h.3 h.5 (after_bindings h.0 vars) bindings.1)

-- what an expression stands for is closed, whatever the levels
pub exprs_close : (declared : Declared) (caller : Flags) (levels : ℕ) → ClosesExprs declared.terms (Builds declared caller levels)
exprs_close declared caller zero =
    record { grows = λ e want s u s' h. absurd h; scope = λ e want s u s' h. absurd h; closed = λ e want s u s' h. absurd h }
exprs_close declared caller (suc levels) = record {
  grows = λ e want s u s' h. expr_node_more declared (Builds declared caller levels) (exprs_close declared caller levels) caller e want
      (counted s) u s' h;
  scope = λ e want s u s' h. expr_node_scope declared (Builds declared caller levels) (exprs_close declared caller levels) caller e want
      (counted s) u s' h;
  closed = λ e want s u s' h. expr_node_closed declared (Builds declared caller levels) (exprs_close declared caller levels) caller e want
      (counted s) u s' h;
}

conditions_more : (declared : Declared) (caller : Flags) (levels : ℕ) (trees : List IfLet) (s : State) (us : List TypedIfLet) (s' : State)
    → Conditions declared caller levels trees s us s' → length s.variables ≤ length s'.variables
conditions_more declared caller levels [] s us s' h = same_variables s' s h.1
conditions_more declared caller levels (first ∷ others) s us s' h =
    let a = (exprs_close declared caller levels).grows _ None s h.0 h.1 h.5 in
    let b = (patterns_close declared levels).grows _ _ h.1 h.2 h.3 h.6 in
    let d = conditions_more declared caller levels others h.3 h.4 s' h.7 in omega arith

-- what conditions stand for is closed
conditions_closed : (declared : Declared) (caller : Flags) (levels : ℕ) (trees : List IfLet) (s : State) (us : List TypedIfLet) (s' : State)
    → Conditions declared caller levels trees s us s' → (count : ℕ) (vars : List ℕ) → length s'.variables ≤ count → AreBound s.scope vars
    → ClosedIfLets declared.terms count us vars × AreBound s'.scope (after_iflets us vars)
conditions_closed declared caller levels [] s us s' h count vars n k = rw (h.0, h.1) (tt, k)
conditions_closed declared caller levels (first ∷ others) s us s' h count vars n k =
    let exprs = exprs_close declared caller levels in
    let names = exprs.scope _ None s h.0 h.1 h.5 in
    let more = conditions_more declared caller levels others h.3 h.4 s' h.7 in
    let pattern = (patterns_close declared levels).closed _ _ h.1 h.2 h.3 h.6 count vars (omega arith)
    (subst (λ z. AreBound z vars) (sym names) k) in
    let rest = conditions_closed declared caller levels others h.3 h.4 s' h.7 count (after h.2 vars) n pattern.1 in
    rw h.8 ((exprs.closed _ None s h.0 h.1 h.5 vars k, pattern.0, rest.0), rest.1)

-- what a rule stands for is closed
pub rule_closed : (declared : Declared) (levels max : ℕ) (tree : Rule) (typed : TypedRule) → ElaboratesRule declared levels max tree typed
    → ClosedRule declared.terms typed
rule_closed declared levels max tree typed h =
    let patterns = Elaborates declared levels in
    let right_more = (exprs_close declared h.flags levels).grows _ _ h.met typed.right h.done h.right in
    let met_more = conditions_more declared _ levels tree.iflets h.matched typed.iflets h.met h.conditions in
    let count = ap (λ z. length z) h.variables in
    let args = each_closed declared patterns (patterns_close declared levels) h.args h.term.args start typed.args h.matched h.left
    (length typed.variables) [] (omega arith) tt in
    let parts = each_count declared patterns (patterns_close declared levels) h.args h.term.args start typed.args h.matched h.left in
    let iflets = conditions_closed declared _ levels tree.iflets h.matched typed.iflets h.met h.conditions (length typed.variables)
    (after_all typed.args []) (omega arith) args.1 in
    record {
      root = h.term;
      known = h.known;
      enough = omega arith;
      args = args.0;
      iflets = iflets.0;
      right = (exprs_close declared h.flags levels).closed _ _ h.met typed.right h.done h.right _ iflets.1;
    }
