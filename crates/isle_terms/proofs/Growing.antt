-- Reading a pattern or an expression only adds nodes.
use Rattle.std.proofs.Common.{◌≡◌, ℕ, zero, suc, ◌≤◌, inl, inr, List, [], ◌∷◌, Option, None, Some, ap, arith}
use Rattle.isle_ast.specs.declared.ast.IfLet.{IfLet}
use Rattle.isle_ast.specs.Trees.PatternTree.{PatternTree, PatternTrees, pattern_var, pattern_bind, pattern_bool, pattern_int, pattern_prim}
use Rattle.isle_ast.specs.Trees.PatternTree.{pattern_term, pattern_wildcard, pattern_and, pattern_macro_arg, no_patterns, more_patterns}
use Rattle.isle_ast.specs.Trees.ExprTree.{ExprTree, ExprTrees, LetTrees, expr_term, expr_var, expr_bool, expr_int, expr_prim, expr_let}
use Rattle.isle_ast.specs.Trees.ExprTree.{no_exprs, more_exprs, no_lets, more_lets}
use Rattle.isle_types.specs.Environment.{Environment}
use Rattle.isle_rules.specs.TypedRules.{TypedPattern, TypedPatterns, TypedExpr, TypedExprs, TypedBindings, TypedIfLet}
use Rattle.isle_rules.specs.Signatures.{Flags, Signature, Declared, put_in_for}
use Rattle.isle_rules.specs.Elaboration.{State, counted, each_at, PatternJudgement, EachPattern, TakesApart, PatternNode, Elaborates}
use Rattle.isle_rules.specs.Elaboration.{ExprJudgement, EachExpr, Binds, ExprNode, Builds, Conditions}

-- there are as many nodes as there were, where a state is the same
same_nodes : (s t : State) → s ≡ t → t.nodes ≤ s.nodes
same_nodes s t e = let n = ap (λ (z : State). z.nodes) e in omega arith

pub record Grows (R : PatternJudgement) : Type 0 where
  pub grows : (t : PatternTree) (ty : ℕ) (s : State) (u : TypedPattern) (s' : State) → R t ty s u s' → s.nodes ≤ s'.nodes

module _ (R : PatternJudgement) (g : Grows R) where
  pub each_grows : (ts : PatternTrees) (tys : List ℕ) (s : State) (us : TypedPatterns) (s' : State) → EachPattern R ts tys s us s'
      → s.nodes ≤ s'.nodes
  each_grows no_patterns [] s us s' h = same_nodes s' s h.1
  each_grows no_patterns (ty ∷ tys) s us s' h = absurd h
  each_grows (more_patterns t ts) [] s us s' h = absurd h
  each_grows (more_patterns t ts) (ty ∷ tys) s us s' h =
      let a = g.grows t ty s h.0 h.1 h.3 in let b = each_grows ts tys h.1 h.2 s' h.4 in omega arith

  taken_grows : (term : Signature) (number : ℕ) (template : Option PatternTree) (args : PatternTrees) (ty : ℕ) (s : State) (u : TypedPattern)
      (s' : State)
      → TakesApart R term number template args ty s u s' → s.nodes ≤ s'.nodes
  taken_grows term number None args ty s u s' h = each_grows args term.args s h.0 s' h.1
  taken_grows term number (Some template) args ty s u s' h = g.grows h.0 ty s u s' h.2

  pub node_grows : (declared : Declared) (t : PatternTree) (ty : ℕ) (s : State) (u : TypedPattern) (s' : State)
      → PatternNode declared R t ty s u s' → s.nodes ≤ s'.nodes
  node_grows declared (pattern_var name pos) ty s u s' (inl h) = let e = ap (λ (z : State). z.nodes) h.2 in omega arith
  node_grows declared (pattern_var name pos) ty s u s' (inr h) = same_nodes s' s h.4
  node_grows declared (pattern_bind name below pos) ty s u s' h =
      let a = g.grows below ty s h.0 h.1 h.2 in let e = ap (λ (z : State). z.nodes) h.5 in omega arith
  node_grows declared (pattern_bool val pos) ty s u s' h = same_nodes s' s h.2
  node_grows declared (pattern_int val big pos) ty s u s' h = same_nodes s' s h.2
  node_grows declared (pattern_prim name pos) ty s u s' h = same_nodes s' s h.2
  node_grows declared (pattern_term name args pos) ty s u s' h = elim h.4 [
    | inl k ↦ taken_grows h.1 h.0 (put_in_for declared h.1) args ty s u s' k.taken
    | inr k ↦ g.grows _ ty s u s' k.repaired
  ]
  node_grows declared (pattern_wildcard pos) ty s u s' h = same_nodes s' s h.1
  node_grows declared (pattern_and below pos) ty s u s' h = each_grows below (each_at ty below) s h.0 s' h.1
  node_grows declared (pattern_macro_arg place pos) ty s u s' h = absurd h

pub patterns_grow : (declared : Declared) (levels : ℕ) → Grows (Elaborates declared levels)
patterns_grow declared zero = record { grows = λ t ty s u s' h. absurd h }
patterns_grow declared (suc levels) = record {
  grows = λ t ty s u s' h. let a = node_grows (Elaborates declared levels) (patterns_grow declared levels) declared t ty (counted s) u s' h in
      omega arith;
}

pub record ExprsGrow (R : ExprJudgement) : Type 0 where
  pub grows : (e : ExprTree) (want : Option ℕ) (s : State) (u : TypedExpr) (s' : State) → R e want s u s' → s.nodes ≤ s'.nodes

module _ (R : ExprJudgement) (g : ExprsGrow R) where
  pub each_expr_grows : (ts : ExprTrees) (tys : List ℕ) (s : State) (us : TypedExprs) (s' : State) → EachExpr R ts tys s us s' → s.nodes ≤ s'.nodes
  each_expr_grows no_exprs [] s us s' h = same_nodes s' s h.1
  each_expr_grows no_exprs (ty ∷ tys) s us s' h = absurd h
  each_expr_grows (more_exprs t ts) [] s us s' h = absurd h
  each_expr_grows (more_exprs t ts) (ty ∷ tys) s us s' h =
      let a = g.grows t (Some ty) s h.0 h.1 h.3 in let b = each_expr_grows ts tys h.1 h.2 s' h.4 in omega arith

  pub binds_grow : (types : Environment) (defs : LetTrees) (s : State) (bs : TypedBindings) (s' : State) → Binds types R defs s bs s'
      → s.nodes ≤ s'.nodes
  binds_grow types no_lets s bs s' h = same_nodes s' s h.1
  binds_grow types (more_lets var of_type val pos others) s bs s' h =
      let a = g.grows val (Some h.0) s h.1 h.2 h.5 in let b = binds_grow types others _ h.3 s' h.6 in omega arith

  pub expr_node_grows : (declared : Declared) (caller : Flags) (e : ExprTree) (want : Option ℕ) (s : State) (u : TypedExpr) (s' : State)
      → ExprNode declared caller R e want s u s' → s.nodes ≤ s'.nodes
  expr_node_grows declared caller (expr_int val big pos) want s u s' h = same_nodes s' s h.4
  expr_node_grows declared caller (expr_bool val pos) want s u s' h = same_nodes s' s h.2
  expr_node_grows declared caller (expr_prim name pos) want s u s' h = same_nodes s' s h.4
  expr_node_grows declared caller (expr_var name pos) want s u s' h = elim h.2 [
    | inl k ↦ same_nodes s' s k.2
    | inr k ↦ g.grows _ want s u s' k.repaired
  ]
  expr_node_grows declared caller (expr_term name args pos) want s u s' h = elim h.4 [
    | inl k ↦ each_expr_grows args h.1.args s k.values s' k.each
    | inr k ↦ g.grows _ want s u s' k.repaired
  ]
  expr_node_grows declared caller (expr_let defs body pos) want s u s' h =
      let a = binds_grow declared.types defs s h.0 h.1 h.4 in let b = g.grows body want h.1 h.2 h.3 h.5 in
      let e = ap (λ (z : State). z.nodes) h.7 in omega arith

pub exprs_grow : (declared : Declared) (caller : Flags) (levels : ℕ) → ExprsGrow (Builds declared caller levels)
exprs_grow declared caller zero = record { grows = λ e want s u s' h. absurd h }
exprs_grow declared caller (suc levels) = record {
  grows = λ e want s u s' h. let a = expr_node_grows (Builds declared caller levels) (exprs_grow declared caller levels) declared caller e want
      (counted s) u s' h in omega arith;
}

pub conditions_grow : (declared : Declared) (caller : Flags) (levels : ℕ) (trees : List IfLet) (s : State) (us : List TypedIfLet) (s' : State)
    → Conditions declared caller levels trees s us s' → s.nodes ≤ s'.nodes
conditions_grow declared caller levels [] s us s' h = same_nodes s' s h.1
conditions_grow declared caller levels (first ∷ others) s us s' h =
    let a = (exprs_grow declared caller levels).grows _ None s h.0 h.1 h.5 in
    let b = (patterns_grow declared levels).grows _ _ h.1 h.2 h.3 h.6 in
    let c = conditions_grow declared caller levels others h.3 h.4 s' h.7 in omega arith
