-- Where reading comes to a node at which it can't go on, the whole stands for nothing.
use Rattle.std.proofs.Common.{◌≡◌, ℕ, ◌≤◌, inl, inr, List, [], ◌∷◌, Option, None, Some, sym, ap, subst, ◌∙◌, arith, slice_get}
use Rattle.std.proofs.lemmas.Option.{same_Some}
use Rattle.isle_ast.specs.Trees.PatternTree.{PatternTree, PatternTrees, pattern_var, pattern_bind, pattern_bool, pattern_int, pattern_prim}
use Rattle.isle_ast.specs.Trees.PatternTree.{pattern_term, pattern_wildcard, pattern_and, pattern_macro_arg, no_patterns, more_patterns}
use Rattle.isle_ast.specs.Trees.ExprTree.{ExprTree, ExprTrees, LetTrees, expr_term, expr_var, expr_bool, expr_int, expr_prim, expr_let}
use Rattle.isle_ast.specs.Trees.ExprTree.{no_exprs, more_exprs, no_lets, more_lets, expr_pos}
use Rattle.isle_types.specs.Environment.{Environment}
use Rattle.isle_rules.specs.TypedRules.{TypedPattern, TypedPatterns, TypedExpr, TypedExprs, TypedBindings}
use Rattle.isle_rules.specs.Signatures.{Flags, Signature, Declared, put_in_for, Converts}
use Rattle.isle_rules.specs.Elaboration.{State, bound, Visible, each_at, PatternJudgement, EachPattern, TakesApart, PatternNode, ExprJudgement}
use Rattle.isle_rules.specs.Elaboration.{EachExpr, Binds, ConvertsExpr, ExprNode}
use Rattle.isle_terms.specs.Reaching.{PatternFact, ExprFact, SomePattern, TakenApart, BelowPattern, SomeExpr, SomeValue, RepairedExpr, BelowExpr}
use Rattle.isle_rules.proofs.Determined.{Agree, converter_same}
use Rattle.isle_rules.proofs.DeterminedExprs.{AgreeExprs, expected_same, binds_same}
use Rattle.isle_terms.proofs.Growing.{Grows, each_grows, ExprsGrow, each_expr_grows, binds_grow}

-- what holds of a number of nodes holds of fewer
pub record IsBound (W : ℕ → Type 0) : Type 0 where
  pub fewer : (a b : ℕ) → a ≤ b → W b → W a

-- a pattern with a fact stands for nothing within a bound
pub record Refutes (W : ℕ → Type 0) (P : PatternFact) (R : PatternJudgement) : Type 0 where
  pub refuted : (t : PatternTree) (ty : ℕ) (s : State) (u : TypedPattern) (s' : State) → P t ty s → R t ty s u s' → W s'.nodes → ⊥

module _ (W : ℕ → Type 0) (bounds : IsBound W) (P : PatternFact) (R S : PatternJudgement) (agree : Agree R S) (grow : Grows S)
    (at : Refutes W P S) where
  pub some_refuted : (ts : PatternTrees) (tys : List ℕ) (s : State) (us : TypedPatterns) (s' : State) → SomePattern R P ts tys s
      → EachPattern S ts tys s us s' → W s'.nodes → ⊥
  some_refuted no_patterns tys s us s' h k w = h
  some_refuted (more_patterns t ts) [] s us s' h k w = h
  some_refuted (more_patterns t ts) (ty ∷ tys) s us s' (inl h) k w =
      at.refuted t ty s k.0 k.1 h k.3 (bounds.fewer k.1.nodes s'.nodes (each_grows S grow ts tys k.1 k.2 s' k.4) w)
  some_refuted (more_patterns t ts) (ty ∷ tys) s us s' (inr h) k w =
      let first = agree.same t ty s h.0 k.0 h.1 k.1 h.2 k.3 in
      some_refuted ts tys k.1 k.2 s' (subst (λ z. SomePattern R P ts tys z) first.1 h.3) k.4 w

  taken_refuted : (term : Signature) (number : ℕ) (template : Option PatternTree) (args : PatternTrees) (ty : ℕ) (s : State) (u : TypedPattern)
      (s' : State)
      → TakenApart R P term template args ty s → TakesApart S term number template args ty s u s' → W s'.nodes → ⊥
  taken_refuted term number None args ty s u s' h k w = some_refuted args term.args s k.0 s' h k.1 w
  taken_refuted term number (Some template) args ty s u s' h k w =
      let body : h.0 ≡ k.0 = same_Some _ _ (sym h.1 ∙ k.1) in
      at.refuted k.0 ty s u s' (subst (λ z. P z ty s) body h.2) k.2 w

  pub below_refuted : (declared : Declared) (t : PatternTree) (ty : ℕ) (s : State) (u : TypedPattern) (s' : State)
      → BelowPattern declared R P t ty s → PatternNode declared S t ty s u s' → W s'.nodes → ⊥
  below_refuted declared (pattern_var name pos) ty s u s' h k w = h
  below_refuted declared (pattern_bind name below pos) ty s u s' h k w =
      at.refuted below ty s k.0 k.1 h k.2 (bounds.fewer k.1.nodes s'.nodes (let e = ap (λ (z : State). z.nodes) k.5 in omega arith) w)
  below_refuted declared (pattern_bool val pos) ty s u s' h k w = h
  below_refuted declared (pattern_int val big pos) ty s u s' h k w = h
  below_refuted declared (pattern_prim name pos) ty s u s' h k w = h
  below_refuted declared (pattern_term name args pos) ty s u s' h k w =
      let number : h.0 ≡ k.0 = same_Some _ _ (sym h.2 ∙ k.2) in
      let term : h.1 ≡ k.1 = same_Some _ _ (sym h.3 ∙ ap (slice_get declared.terms) number ∙ k.3) in
      elim h.4 [
        | inl p ↦ elim k.4 [
          | inl q ↦ taken_refuted k.1 k.0 (put_in_for declared k.1) args ty s u s'
              (subst (λ z. TakenApart R P z (put_in_for declared z) args ty s) term p.3) q.taken w
          | inr q ↦ q.other (ap (λ (z : Signature). z.ret) (sym term) ∙ p.0)
        ]
        | inr p ↦ elim k.4 [
          | inl q ↦ p.2 (ap (λ (z : Signature). z.ret) term ∙ q.type)
          | inr q ↦
              let fits = subst (λ z. Converts declared z ty p.0 p.1) (ap (λ (z : Signature). z.ret) term) p.3 in
              let same : p.0 ≡ q.name = converter_same R S agree declared k.1.ret ty p.0 q.name p.1 q.converter fits q.fits in
              at.refuted _ ty s u s' (subst (λ z. P
              (pattern_term (z, pos) (more_patterns (pattern_term name args pos) no_patterns) pos) ty s) same p.5) q.repaired w
        ]
      ]
  below_refuted declared (pattern_wildcard pos) ty s u s' h k w = h
  below_refuted declared (pattern_and below pos) ty s u s' h k w = some_refuted below (each_at ty below) s k.0 s' h k.1 w
  below_refuted declared (pattern_macro_arg place pos) ty s u s' h k w = h

-- an expression with a fact stands for nothing within a bound
pub record RefutesExprs (W : ℕ → Type 0) (P : ExprFact) (R : ExprJudgement) : Type 0 where
  pub refuted : (e : ExprTree) (want : Option ℕ) (s : State) (u : TypedExpr) (s' : State) → P e want s → R e want s u s' → W s'.nodes → ⊥

module _ (W : ℕ → Type 0) (bounds : IsBound W) (P : ExprFact) (R S : ExprJudgement) (agree : AgreeExprs R S) (grow : ExprsGrow S)
    (at : RefutesExprs W P S) where
  some_expr_refuted : (ts : ExprTrees) (tys : List ℕ) (s : State) (us : TypedExprs) (s' : State) → SomeExpr R P ts tys s
      → EachExpr S ts tys s us s' → W s'.nodes → ⊥
  some_expr_refuted no_exprs tys s us s' h k w = h
  some_expr_refuted (more_exprs t ts) [] s us s' h k w = h
  some_expr_refuted (more_exprs t ts) (ty ∷ tys) s us s' (inl h) k w =
      at.refuted t (Some ty) s k.0 k.1 h k.3 (bounds.fewer k.1.nodes s'.nodes (each_expr_grows S grow ts tys k.1 k.2 s' k.4) w)
  some_expr_refuted (more_exprs t ts) (ty ∷ tys) s us s' (inr h) k w =
      let first = agree.same t (Some ty) s h.0 k.0 h.1 k.1 h.2 k.3 in
      some_expr_refuted ts tys k.1 k.2 s' (subst (λ z. SomeExpr R P ts tys z) first.1 h.3) k.4 w

  some_value_refuted : (types : Environment) (defs : LetTrees) (s : State) (bs : TypedBindings) (s' : State) → SomeValue types R P defs s
      → Binds types S defs s bs s' → W s'.nodes → ⊥
  some_value_refuted types no_lets s bs s' h k w = h
  some_value_refuted types (more_lets var of_type val pos others) s bs s' h k w =
      let ty : h.0 ≡ k.0 = same_Some _ _ (sym h.1 ∙ k.4) in
      elim h.2 [
        | inl p ↦ at.refuted val (Some k.0) s k.1 k.2 (subst (λ z. P val (Some z) s) ty p) k.5
            (bounds.fewer k.2.nodes s'.nodes (let a = binds_grow S grow types others (bound k.2 var.0 k.0) k.3 s' k.6 in omega arith) w)
        | inr p ↦
            let first = agree.same val (Some k.0) s p.0 k.1 p.1 k.2 (subst (λ z. R val (Some z) s p.0 p.1) ty p.2) k.5 in
            let next : bound p.1 var.0 h.0 ≡ bound k.2 var.0 k.0 = cc (first.1, ty) in
            some_value_refuted types others (bound k.2 var.0 k.0) k.3 s' (subst (λ z. SomeValue types R P others z) next p.3) k.6 w
      ]

  repaired_refuted : (declared : Declared) (tree : ExprTree) (inner : ℕ) (want : Option ℕ) (s : State) (u : TypedExpr) (s' : State)
      → RepairedExpr declared P tree inner want s → ConvertsExpr declared S tree inner want s u s' → W s'.nodes → ⊥
  repaired_refuted declared tree inner want s u s' h k w =
      let ty : h.0 ≡ k.ty = same_Some _ _ (sym h.3 ∙ k.wanted) in
      let fits = subst (λ z. Converts declared inner z h.1 h.2) ty h.5 in
      let same : h.1 ≡ k.name = same_Some _ _ (sym fits.converter ∙ k.fits.converter) in
      at.refuted _ want s u s' (subst (λ z. P (expr_term (z, expr_pos tree) (more_exprs tree no_exprs) (expr_pos tree)) want s) same h.7) k.repaired w

  pub below_expr_refuted : (declared : Declared) (caller : Flags) (e : ExprTree) (want : Option ℕ) (s : State) (u : TypedExpr) (s' : State)
      → BelowExpr declared caller R P e want s → ExprNode declared caller S e want s u s' → W s'.nodes → ⊥
  below_expr_refuted declared caller (expr_int val big pos) want s u s' h k w = h
  below_expr_refuted declared caller (expr_bool val pos) want s u s' h k w = h
  below_expr_refuted declared caller (expr_prim name pos) want s u s' h k w = h
  below_expr_refuted declared caller (expr_var name pos) want s u s' h k w =
      let seen : h.0 ≡ k.0 = same_Some _ _ (sym h.1 ∙ k.1) in
      let there = subst (λ (z : Visible). RepairedExpr declared P (expr_var name pos) z.type want s) seen h.2 in
      elim k.2 [
        | inl q ↦ expected_same R S agree want there.0 k.0.type q.0 there.3 there.4
        | inr q ↦ repaired_refuted declared (expr_var name pos) k.0.type want s u s' there q w
      ]
  below_expr_refuted declared caller (expr_term name args pos) want s u s' h k w =
      let number : h.0 ≡ k.0 = same_Some _ _ (sym h.2 ∙ k.2) in
      let term : h.1 ≡ k.1 = same_Some _ _ (sym h.3 ∙ ap (slice_get declared.terms) number ∙ k.3) in
      elim h.4 [
        | inl p ↦ elim k.4 [
          | inl q ↦ some_expr_refuted args k.1.args s q.values s' (subst (λ (z : Signature). SomeExpr R P args z.args s) term p.4) q.each w
          | inr q ↦ expected_same R S agree want q.ty h.1.ret p.0 q.wanted (λ e. q.other (ap (λ (z : Signature). z.ret) (sym term) ∙ e))
        ]
        | inr p ↦
            let there = subst (λ (z : Signature). RepairedExpr declared P (expr_term name args pos) z.ret want s) term p in
            elim k.4 [
              | inl q ↦ expected_same R S agree want there.0 k.1.ret q.type there.3 there.4
              | inr q ↦ repaired_refuted declared (expr_term name args pos) k.1.ret want s u s' there q w
            ]
      ]
  below_expr_refuted declared caller (expr_let defs body pos) want s u s' h k w =
      let inside : W k.3.nodes = bounds.fewer k.3.nodes s'.nodes (let e = ap (λ (z : State). z.nodes) k.7 in omega arith) w in
      elim h [
        | inl p ↦ some_value_refuted declared.types defs s k.0 k.1 p k.4
            (bounds.fewer k.1.nodes k.3.nodes (grow.grows body want k.1 k.2 k.3 k.5) inside)
        | inr p ↦
            let first = binds_same R S agree declared.types defs s p.0 k.0 p.1 k.1 p.2 k.4 in
            at.refuted body want k.1 k.2 k.3 (subst (λ z. P body want z) first.1 p.3) k.5 inside
      ]
