-- An expression stands for one thing at most, whatever the levels; so does a list of conditions.
use Rattle.std.proofs.Common.{◌≡◌, ◌≢◌, ◌⊎◌, ℕ, zero, suc, inl, inr, List, [], ◌∷◌, Option, None, Some, sym, ap, subst, ◌∙◌, slice_get}
use Rattle.std.proofs.lemmas.Option.{none-some, same_Some}
use Rattle.isle_ast.specs.declared.ast.IfLet.{IfLet}
use Rattle.isle_ast.specs.Trees.PatternShape.{pattern_of}
use Rattle.isle_ast.specs.Trees.ExprTree.{ExprTree, ExprTrees, LetTrees, expr_term, expr_var, expr_bool, expr_int, expr_prim, expr_let}
use Rattle.isle_ast.specs.Trees.ExprTree.{no_exprs, more_exprs, no_lets, more_lets, expr_pos}
use Rattle.isle_ast.specs.Trees.ExprShape.{expr_of}
use Rattle.isle_types.specs.Environment.{Environment}
use Rattle.isle_rules.specs.TypedRules.{TypedExpr, TypedExprs, TypedBindings, built_var, built_at, TypedIfLet}
use Rattle.isle_rules.specs.Signatures.{Flags, Signature, Declared, Converts}
use Rattle.isle_rules.specs.Elaboration.{State, counted, bound, Visible, Elaborates, IsExpected, ExprJudgement, EachExpr, Binds, Calls}
use Rattle.isle_rules.specs.Elaboration.{ConvertsExpr, ExprNode, Builds, Conditions}
use Rattle.isle_rules.proofs.Determined.{patterns_agree}

-- what two judgements say of one expression is the same
pub record AgreeExprs (R S : ExprJudgement) : Type 0 where
  pub same : (e : ExprTree) (want : Option ℕ) (s : State) (u v : TypedExpr) (a b : State) → R e want s u a → S e want s v b → (u ≡ v) × (a ≡ b)

module _ (R S : ExprJudgement) (agree : AgreeExprs R S) where
  each_expr_same : (ts : ExprTrees) (tys : List ℕ) (s : State) (us vs : TypedExprs) (a b : State)
      → EachExpr R ts tys s us a → EachExpr S ts tys s vs b → (us ≡ vs) × (a ≡ b)
  each_expr_same no_exprs [] s us vs a b h k = (h.0 ∙ sym k.0, h.1 ∙ sym k.1)
  each_expr_same no_exprs (ty ∷ tys) s us vs a b h k = absurd h
  each_expr_same (more_exprs t ts) [] s us vs a b h k = absurd h
  each_expr_same (more_exprs t ts) (ty ∷ tys) s us vs a b h k =
      let first = agree.same t (Some ty) s h.0 k.0 h.1 k.1 h.3 k.3 in
      let rest = subst (λ z. EachExpr S ts tys z k.2 b) (sym first.1) k.4 in
      let others = each_expr_same ts tys h.1 h.2 k.2 a b h.4 rest in
      (cc (h.5, k.5, first.0, others.0), others.1)

  pub binds_same : (types : Environment) (defs : LetTrees) (s : State) (us vs : TypedBindings) (a b : State)
      → Binds types R defs s us a → Binds types S defs s vs b → (us ≡ vs) × (a ≡ b)
  binds_same types no_lets s us vs a b h k = (h.0 ∙ sym k.0, h.1 ∙ sym k.1)
  binds_same types (more_lets var of_type val pos others) s us vs a b h k =
      let ty : h.0 ≡ k.0 = same_Some _ _ (sym h.4 ∙ k.4) in
      let first = agree.same val (Some h.0) s h.1 k.1 h.2 k.2 h.5 (subst (λ z. S val (Some z) s k.1 k.2) (sym ty) k.5) in
      let next : bound k.2 var.0 k.0 ≡ bound h.2 var.0 h.0 = cc (first.1, ty) in
      let rest = binds_same types others (bound h.2 var.0 h.0) h.3 k.3 a b h.6 (subst (λ z. Binds types S others z k.3 b) next k.6) in
      (cc (h.7, k.7, first.0, first.1, ty, rest.0), rest.1)

  pub expected_same : (want : Option ℕ) (ty inner : ℕ) → IsExpected want inner → want ≡ Some ty → inner ≢ ty → ⊥
  expected_same None ty inner h e n = none-some ty e
  expected_same (Some wanted) ty inner h e n = n (sym h ∙ same_Some _ _ e)

  converted_expr_same : (declared : Declared) (tree : ExprTree) (inner : ℕ) (want : Option ℕ) (s : State) (u v : TypedExpr) (a b : State)
      → ConvertsExpr declared R tree inner want s u a → ConvertsExpr declared S tree inner want s v b → (u ≡ v) × (a ≡ b)
  converted_expr_same declared tree inner want s u v a b h k =
      let ty : h.ty ≡ k.ty = same_Some _ _ (sym h.wanted ∙ k.wanted) in
      let fits = subst (λ z. Converts declared inner z h.name h.converter) ty h.fits in
      let name : h.name ≡ k.name = same_Some _ _ (sym fits.converter ∙ k.fits.converter) in
      agree.same _ want s u v a b (subst
      (λ z. R (expr_term (z, expr_pos tree) (more_exprs tree no_exprs) (expr_pos tree)) want s u a) name h.repaired) k.repaired

  called_same : (declared : Declared) (caller : Flags) (term : Signature) (number : ℕ) (args : ExprTrees) (tree : ExprTree) (want : Option ℕ)
      (s : State) (u v : TypedExpr) (a b : State)
      → Calls caller R term number args want s u a ⊎ ConvertsExpr declared R tree term.ret want s u a
      → Calls caller S term number args want s v b ⊎ ConvertsExpr declared S tree term.ret want s v b → (u ≡ v) × (a ≡ b)
  called_same declared caller term number args tree want s u v a b (inl h) (inl k) =
      let each = each_expr_same args term.args s h.values k.values a b h.each k.each in (cc (h.made, k.made, each.0), each.1)
  called_same declared caller term number args tree want s u v a b (inl h) (inr k) = absurd (expected_same want k.ty term.ret h.type k.wanted k.other)
  called_same declared caller term number args tree want s u v a b (inr h) (inl k) = absurd (expected_same want h.ty term.ret k.type h.wanted h.other)
  called_same declared caller term number args tree want s u v a b (inr h) (inr k) = converted_expr_same declared tree term.ret want s u v a b h k

  var_same : (declared : Declared) (seen : Visible) (tree : ExprTree) (want : Option ℕ) (s : State) (u v : TypedExpr) (a b : State)
      → (IsExpected want seen.type × (u ≡ built_var seen.type seen.var) × (a ≡ s)) ⊎ ConvertsExpr declared R tree seen.type want s u a
      → (IsExpected want seen.type × (v ≡ built_var seen.type seen.var) × (b ≡ s)) ⊎ ConvertsExpr declared S tree seen.type want s v b → (u ≡ v)
      × (a ≡ b)
  var_same declared seen tree want s u v a b (inl h) (inl k) = (h.1 ∙ sym k.1, h.2 ∙ sym k.2)
  var_same declared seen tree want s u v a b (inl h) (inr k) = absurd (expected_same want k.ty seen.type h.0 k.wanted k.other)
  var_same declared seen tree want s u v a b (inr h) (inl k) = absurd (expected_same want h.ty seen.type k.0 h.wanted h.other)
  var_same declared seen tree want s u v a b (inr h) (inr k) = converted_expr_same declared tree seen.type want s u v a b h k

  pub expr_node_same : (declared : Declared) (caller : Flags) (e : ExprTree) (want : Option ℕ) (s : State) (u v : TypedExpr) (a b : State)
      → ExprNode declared caller R e want s u a → ExprNode declared caller S e want s v b → (u ≡ v) × (a ≡ b)
  expr_node_same declared caller (expr_int val big pos) want s u v a b h k =
      let ty : h.0 ≡ k.0 = same_Some _ _ (sym h.1 ∙ k.1) in (cc (h.3, k.3, ty), h.4 ∙ sym k.4)
  expr_node_same declared caller (expr_bool val pos) want s u v a b h k = (h.1 ∙ sym k.1, h.2 ∙ sym k.2)
  expr_node_same declared caller (expr_prim name pos) want s u v a b h k =
      let ty : h.0 ≡ k.0 = same_Some _ _ (sym h.1 ∙ k.1) in (cc (h.3, k.3, ty), h.4 ∙ sym k.4)
  expr_node_same declared caller (expr_var name pos) want s u v a b h k =
      let seen : h.0 ≡ k.0 = same_Some _ _ (sym h.1 ∙ k.1) in
      var_same declared k.0 (expr_var name pos) want s u v a b
      (subst (λ (z : Visible). (IsExpected want z.type × (u ≡ built_var z.type z.var) × (a ≡ s))
      ⊎ ConvertsExpr declared R (expr_var name pos) z.type want s u a) seen h.2) k.2
  expr_node_same declared caller (expr_term sym_name args pos) want s u v a b h k =
      let number : h.0 ≡ k.0 = same_Some _ _ (sym h.2 ∙ k.2) in
      let term : h.1 ≡ k.1 = same_Some _ _ (sym h.3 ∙ ap (slice_get declared.terms) number ∙ k.3) in
      called_same declared caller k.1 k.0 args (expr_term sym_name args pos) want s u v a b
      (subst (λ (z : Signature). Calls caller R z k.0 args want s u a ⊎ ConvertsExpr declared R (expr_term sym_name args pos) z.ret want s u a) term
      (subst (λ z. Calls caller R h.1 z args want s u a ⊎ ConvertsExpr declared R (expr_term sym_name args pos) h.1.ret want s u a) number h.4)) k.4
  expr_node_same declared caller (expr_let defs body pos) want s u v a b h k =
      let first = binds_same declared.types defs s h.0 k.0 h.1 k.1 h.4 k.4 in
      let inside = agree.same body want h.1 h.2 k.2 h.3 k.3 h.5 (subst (λ z. S body want z k.2 k.3) (sym first.1) k.5) in
      (cc (h.6, k.6, first.0, inside.0), cc (h.7, k.7, inside.1))

-- whatever the levels, an expression stands for one thing at most
pub exprs_agree : (declared : Declared) (caller : Flags) (m n : ℕ) → AgreeExprs (Builds declared caller m) (Builds declared caller n)
exprs_agree declared caller zero n = record { same = λ e want s u v a b h k. absurd h }
exprs_agree declared caller (suc m) zero = record { same = λ e want s u v a b h k. absurd k }
exprs_agree declared caller (suc m) (suc n) = record {
  same = λ e want s u v a b h k. expr_node_same (Builds declared caller m) (Builds declared caller n)
      (exprs_agree declared caller m n) declared caller e want (counted s) u v a b h k;
}

-- so do conditions
pub conditions_same : (declared : Declared) (caller : Flags) (m n : ℕ) (trees : List IfLet) (s : State) (us vs : List TypedIfLet) (a b : State)
    → Conditions declared caller m trees s us a → Conditions declared caller n trees s vs b → (us ≡ vs) × (a ≡ b)
conditions_same declared caller m n [] s us vs a b h k = (h.0 ∙ sym k.0, h.1 ∙ sym k.1)
conditions_same declared caller m n (first ∷ others) s us vs a b h k =
    let value = (exprs_agree declared caller m n).same (expr_of first.expr) None s h.0 k.0 h.1 k.1 h.5 k.5 in
    let ty : built_at k.0 ≡ built_at h.0 = ap built_at (sym value.0) in
    let moved = subst (λ z. Elaborates declared n (pattern_of first.pattern) z h.1 k.2 k.3) ty
    (subst (λ z. Elaborates declared n (pattern_of first.pattern) (built_at k.0) z k.2 k.3) (sym value.1) k.6) in
    let pattern = (patterns_agree declared m n).same (pattern_of first.pattern) (built_at h.0) h.1 h.2 k.2 h.3 k.3 h.6 moved in
    let rest = conditions_same declared caller m n others h.3 h.4 k.4 a b h.7
    (subst (λ z. Conditions declared caller n others z k.4 b) (sym pattern.1) k.7) in
    (cc (h.8, k.8, value.0, pattern.0, rest.0), rest.1)
