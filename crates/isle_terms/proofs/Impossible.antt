-- What is ill typed at some position stands for nothing; what is too large stands for nothing within the sizes.
use Rattle.std.proofs.Common.{◌≡◌, ◌⊎◌, ℕ, zero, suc, ◌≤◌, inl, inr, List, [], ◌∷◌, Option, None, Some, refl, sym, ap, subst, ◌∙◌, arith, length}
use Rattle.std.proofs.Common.{slice_get}
use Rattle.std.specs.Prelude.{IsSome}
use Rattle.std.proofs.lemmas.Bool.{false≢true}
use Rattle.std.proofs.lemmas.Option.{none-some, same_Some}
use Rattle.isle_ast.specs.declared.pos.Pos.{Pos}
use Rattle.isle_ast.specs.Trees.PatternTree.{PatternTree, PatternTrees, pattern_var, pattern_bind, pattern_bool, pattern_int, pattern_prim}
use Rattle.isle_ast.specs.Trees.PatternTree.{pattern_term, pattern_wildcard, pattern_and, pattern_macro_arg, no_patterns, more_patterns}
use Rattle.isle_ast.specs.Trees.ExprTree.{ExprTree, ExprTrees, LetTrees, expr_term, expr_var, expr_bool, expr_int, expr_prim, expr_let}
use Rattle.isle_ast.specs.Trees.ExprTree.{no_exprs, more_exprs, no_lets, more_lets}
use Rattle.isle_types.specs.Environment.{Environment}
use Rattle.isle_rules.specs.TypedRules.{TypedPattern, TypedPatterns, TypedExpr, TypedExprs, TypedBindings, built_var}
use Rattle.isle_rules.specs.Signatures.{Flags, Signature, Declared, put_in_for, Converts}
use Rattle.isle_rules.specs.Elaboration.{State, counted, bound, Visible, visible_in, pattern_count, expr_count, PatternJudgement, EachPattern}
use Rattle.isle_rules.specs.Elaboration.{TakesApart, Extracts, ConvertsPattern, PatternNode, Elaborates, IsExpected, IsLiteralOf, ExprJudgement}
use Rattle.isle_rules.specs.Elaboration.{EachExpr, Binds, Calls, ConvertsExpr, ExprNode, Builds}
use Rattle.isle_terms.specs.Reaching.{ReachesPattern, ReachesExpr, IsTooLarge}
use Rattle.isle_terms.specs.IllTyped.{IsIllUse, no_extractor, other_count, argument_lacking, other_type, IsIllPattern, IsBeyondRepair, IsIllCall}
use Rattle.isle_terms.specs.IllTyped.{no_constructor, not_allowed, other_number, other_result, HasUnknownType, IsIllExpr}
use Rattle.isle_terms.specs.RuleReaching.{IllPatternAt, IllExprAt}
use Rattle.isle_rules.proofs.Determined.{Agree, patterns_agree}
use Rattle.isle_rules.proofs.DeterminedExprs.{AgreeExprs, exprs_agree}
use Rattle.isle_terms.proofs.Growing.{patterns_grow, exprs_grow, node_grows, expr_node_grows}
use Rattle.isle_terms.proofs.Refuting.{IsBound, Refutes, below_refuted, RefutesExprs, below_expr_refuted}

-- as many patterns are read as there are types
pub each_count : (R : PatternJudgement) (ts : PatternTrees) (tys : List ℕ) (s : State) (us : TypedPatterns) (s' : State)
    → EachPattern R ts tys s us s' → pattern_count ts ≡ length tys
each_count R no_patterns [] s us s' h = refl
each_count R no_patterns (ty ∷ tys) s us s' h = absurd h
each_count R (more_patterns t ts) [] s us s' h = absurd h
each_count R (more_patterns t ts) (ty ∷ tys) s us s' h = let e = each_count R ts tys h.1 h.2 s' h.4 in omega arith

-- as many expressions are read as there are types
pub each_expr_count : (R : ExprJudgement) (ts : ExprTrees) (tys : List ℕ) (s : State) (us : TypedExprs) (s' : State) → EachExpr R ts tys s us s'
    → expr_count ts ≡ length tys
each_expr_count R no_exprs [] s us s' h = refl
each_expr_count R no_exprs (ty ∷ tys) s us s' h = absurd h
each_expr_count R (more_exprs t ts) [] s us s' h = absurd h
each_expr_count R (more_exprs t ts) (ty ∷ tys) s us s' h = let e = each_expr_count R ts tys h.1 h.2 s' h.4 in omega arith

some_none : {A : Type 0} (o : Option A) → IsSome o → o ≡ None → ⊥
some_none None h e = false≢true h
some_none (Some x) h e = none-some x (sym e)

taken_fills : (R : PatternJudgement) (term : Signature) (number : ℕ) (template : PatternTree) (option : Option PatternTree) (args : PatternTrees)
    (ty : ℕ) (s : State) (u : TypedPattern) (s' : State)
    → option ≡ Some template → TakesApart R term number option args ty s u s' → TakesApart R term number (Some template) args ty s u s'
taken_fills R term number template option args ty s u s' e h = subst (λ z. TakesApart R term number z args ty s u s') e h

module _ (declared : Declared) (R S : PatternJudgement) (agree : Agree R S) (at : Pos) where
  use_is_well : (term : Signature) (number : ℕ) (args : PatternTrees) (tree : PatternTree) (ty : ℕ) (s : State) (u : TypedPattern) (s' : State)
      → IsIllUse declared term args ty → Extracts declared S term number args ty s u s' ⊎ ConvertsPattern declared S term tree ty s u s' → ⊥
  use_is_well term number args tree ty s u s' (no_extractor same none) (inl k) = false≢true (sym none ∙ k.usable)
  use_is_well term number args tree ty s u s' (no_extractor same none) (inr k) = k.other same
  use_is_well term number args tree ty s u s' (other_count same count) (inl k) = count k.arity
  use_is_well term number args tree ty s u s' (other_count same count) (inr k) = k.other same
  use_is_well term number args tree ty s u s' (argument_lacking same lacks) (inl k) =
      let put = taken_fills S term number lacks.0 (put_in_for declared term) args ty s u s' lacks.1 k.taken in
      none-some put.0 (sym lacks.2 ∙ put.1)
  use_is_well term number args tree ty s u s' (argument_lacking same lacks) (inr k) = k.other same
  use_is_well term number args tree ty s u s' (other_type other none) (inl k) = other k.type
  use_is_well term number args tree ty s u s' (other_type other none) (inr k) = none k.name k.converter k.fits k.usable

  node_is_well : (t : PatternTree) (ty : ℕ) (s : State) (u : TypedPattern) (s' : State) → IsIllPattern declared R at t ty s
      → PatternNode declared S t ty s u s' → ⊥
  node_is_well (pattern_var name pos) ty s u s' h (inl k) = none-some _ (sym k.0 ∙ h.1)
  node_is_well (pattern_var name pos) ty s u s' h (inr k) =
      let same : h.0 ≡ k.0 = same_Some _ _ (sym h.1 ∙ k.1) in h.2 (ap (λ (z : Visible). z.type) same ∙ k.2)
  node_is_well (pattern_bind name below pos) ty s u s' h k =
      let inside = agree.same below ty s h.0 k.0 h.1 k.1 h.2 k.2 in
      some_none (visible_in h.1.scope name.0) h.3 (ap (λ (z : State). visible_in z.scope name.0) inside.1 ∙ k.3)
  node_is_well (pattern_bool val pos) ty s u s' h k = h.0 k.0
  node_is_well (pattern_int val big pos) ty s u s' h k = h.0 k.0
  node_is_well (pattern_prim name pos) ty s u s' h k = h.0 k.0
  node_is_well (pattern_term name args pos) ty s u s' h k = elim h.0 [
    | inl none ↦ none-some k.0 (sym none ∙ k.2)
    | inr p ↦
        let number : p.0 ≡ k.0 = same_Some _ _ (sym p.2 ∙ k.2) in
        let term : p.1 ≡ k.1 = same_Some _ _ (sym p.3 ∙ ap (slice_get declared.terms) number ∙ k.3) in
        use_is_well k.1 k.0 args (pattern_term name args pos) ty s u s' (subst (λ z. IsIllUse declared z args ty) term p.4) k.4
  ]
  node_is_well (pattern_wildcard pos) ty s u s' h k = h
  node_is_well (pattern_and below pos) ty s u s' h k = h
  node_is_well (pattern_macro_arg place pos) ty s u s' h k = k

pub always : IsBound (λ _. Unit {0})
always = record { fewer = λ a b h w. tt }

-- an ill-typed pattern stands for nothing, in however many levels
pub ill_patterns : (declared : Declared) (at : Pos) (n m : ℕ)
    → Refutes (λ _. Unit {0}) (ReachesPattern declared (IllPatternAt declared at) n) (Elaborates declared m)
ill_patterns declared at zero m = record { refuted = λ t ty s u s' h k w. absurd h }
ill_patterns declared at (suc n) zero = record { refuted = λ t ty s u s' h k w. absurd k }
ill_patterns declared at (suc n) (suc m) = record {
  refuted = λ t ty s u s' h k w. elim h [
    | inl ill ↦ node_is_well declared (Elaborates declared n) (Elaborates declared m) (patterns_agree declared n m) at t ty (counted s) u s' ill k
    | inr below ↦ below_refuted (λ _. Unit {0}) always (ReachesPattern declared (IllPatternAt declared at) n) (Elaborates declared n)
        (Elaborates declared m)
        (patterns_agree declared n m) (patterns_grow declared m) (ill_patterns declared at n m) declared t ty (counted s) u s' below k tt
  ];
}

pub up_to : (max : ℕ) → IsBound (λ nodes. nodes ≤ max)
up_to max = record { fewer = λ a b h w. omega arith }

-- a pattern that is too large stands for nothing within the sizes
pub large_patterns : (declared : Declared) (max n m : ℕ) → m ≤ n
    → Refutes (λ nodes. nodes ≤ max) (ReachesPattern declared (λ left t ty s. IsTooLarge max left s) n) (Elaborates declared m)
large_patterns declared max zero zero fits = record { refuted = λ t ty s u s' h k w. absurd k }
large_patterns declared max zero (suc m) fits = absurd (omega arith)
large_patterns declared max (suc n) zero fits = record { refuted = λ t ty s u s' h k w. absurd k }
large_patterns declared max (suc n) (suc m) fits = record {
  refuted = λ t ty s u s' h k w. elim h [
    | inl full ↦ (let a = node_grows (Elaborates declared m) (patterns_grow declared m) declared t ty (counted s) u s' k in absurd (omega arith))
    | inr below ↦ below_refuted (λ nodes. nodes ≤ max) (up_to max) (ReachesPattern declared (λ left t ty s. IsTooLarge max left s) n)
        (Elaborates declared n) (Elaborates declared m)
        (patterns_agree declared n m) (patterns_grow declared m) (large_patterns declared max n m (omega arith)) declared t ty
        (counted s) u s' below k w
  ];
}

-- a call that is well isn't ill
module _ (declared : Declared) (caller : Flags) (R S : ExprJudgement) (agree : AgreeExprs R S) (at : Pos) where
  repairable : (inner : ℕ) (want : Option ℕ) (tree : ExprTree) (s : State) (u : TypedExpr) (s' : State)
      → IsBeyondRepair declared inner want → IsExpected want inner ⊎ ConvertsExpr declared S tree inner want s u s' → ⊥
  repairable inner None tree s u s' h k = h
  repairable inner (Some ty) tree s u s' h (inl k) = h.0 (sym k)
  repairable inner (Some ty) tree s u s' h (inr k) =
      let same : ty ≡ k.ty = same_Some _ _ k.wanted in
      h.1 k.name k.converter (subst (λ z. Converts declared inner z k.name k.converter) (sym same) k.fits) k.usable

  converted_elsewhere : (want : Option ℕ) (inner : ℕ) (tree : ExprTree) (s : State) (u : TypedExpr) (s' : State)
      → IsExpected want inner → ConvertsExpr declared S tree inner want s u s' → ⊥
  converted_elsewhere None inner tree s u s' h k = none-some _ k.wanted
  converted_elsewhere (Some ty) inner tree s u s' h k = k.other (sym h ∙ same_Some _ _ k.wanted)

  call_is_well : (term : Signature) (number : ℕ) (args : ExprTrees) (tree : ExprTree) (want : Option ℕ) (s : State) (u : TypedExpr) (s' : State)
      → IsIllCall declared caller term args want → Calls caller S term number args want s u s' ⊎ ConvertsExpr declared S tree term.ret want s u s' → ⊥
  call_is_well term number args tree want s u s' (no_constructor same none) (inl k) = false≢true (sym none ∙ k.usable)
  call_is_well term number args tree want s u s' (no_constructor same none) (inr k) = converted_elsewhere want term.ret tree s u s' same k
  call_is_well term number args tree want s u s' (not_allowed same none) (inl k) = false≢true (sym none ∙ k.allowed)
  call_is_well term number args tree want s u s' (not_allowed same none) (inr k) = converted_elsewhere want term.ret tree s u s' same k
  call_is_well term number args tree want s u s' (other_number same count) (inl k) = count (each_expr_count S args term.args s k.values s' k.each)
  call_is_well term number args tree want s u s' (other_number same count) (inr k) = converted_elsewhere want term.ret tree s u s' same k
  call_is_well term number args tree want s u s' (other_result beyond) (inl k) = repairable term.ret want tree s u s' beyond (inl k.type)
  call_is_well term number args tree want s u s' (other_result beyond) (inr k) = repairable term.ret want tree s u s' beyond (inr k)

  types_are_known : (types : Environment) (defs : LetTrees) (s : State) (bs : TypedBindings) (s' : State) → HasUnknownType types R at defs s
      → Binds types S defs s bs s' → ⊥
  types_are_known types no_lets s bs s' h k = h
  types_are_known types (more_lets var of_type val pos others) s bs s' (inl h) k = none-some _ (sym h.0 ∙ k.4)
  types_are_known types (more_lets var of_type val pos others) s bs s' (inr h) k =
      let ty : h.0 ≡ k.0 = same_Some _ _ (sym h.3 ∙ k.4) in
      let first = agree.same val (Some k.0) s h.1 k.1 h.2 k.2 (subst (λ z. R val (Some z) s h.1 h.2) ty h.4) k.5 in
      let next : bound h.2 var.0 h.0 ≡ bound k.2 var.0 k.0 = cc (first.1, ty) in
      types_are_known types others (bound k.2 var.0 k.0) k.3 s' (subst (λ z. HasUnknownType types R at others z) next h.5) k.6

  var_is_well : (seen : Visible) (tree : ExprTree) (want : Option ℕ) (s : State) (u : TypedExpr) (s' : State) → IsBeyondRepair declared seen.type want
      → (IsExpected want seen.type × (u ≡ built_var seen.type seen.var) × (s' ≡ s)) ⊎ ConvertsExpr declared S tree seen.type want s u s' → ⊥
  var_is_well seen tree want s u s' h (inl k) = repairable seen.type want tree s u s' h (inl k.0)
  var_is_well seen tree want s u s' h (inr k) = repairable seen.type want tree s u s' h (inr k)

  expr_node_is_well : (e : ExprTree) (want : Option ℕ) (s : State) (u : TypedExpr) (s' : State)
      → IsIllExpr declared caller R at e want s → ExprNode declared caller S e want s u s' → ⊥
  expr_node_is_well (expr_int val big pos) want s u s' h k = elim h.0 [
    | inl none ↦ none-some k.0 (sym none ∙ k.1)
    | inr p ↦ (let ty : k.0 ≡ p.0 = same_Some _ _ (sym k.1 ∙ p.1) in p.2 (subst (λ z. IsLiteralOf declared.types z val big) ty k.2))
  ]
  expr_node_is_well (expr_bool val pos) want s u s' h k = h.0 k.0
  expr_node_is_well (expr_prim name pos) want s u s' h k = elim h.0 [
    | inl none ↦ none-some k.0 (sym none ∙ k.1)
    | inr p ↦ (let ty : k.0 ≡ p.0 = same_Some _ _ (sym k.1 ∙ p.1) in p.2 (subst (λ z. IsExpected want z) ty k.2))
  ]
  expr_node_is_well (expr_var name pos) want s u s' h k = elim h.0 [
    | inl none ↦ none-some k.0 (sym none ∙ k.1)
    | inr p ↦
        let seen : p.0 ≡ k.0 = same_Some _ _ (sym p.1 ∙ k.1) in
        var_is_well k.0 (expr_var name pos) want s u s' (subst (λ (z : Visible). IsBeyondRepair declared z.type want) seen p.2) k.2
  ]
  expr_node_is_well (expr_term name args pos) want s u s' h k = elim h.0 [
    | inl none ↦ none-some k.0 (sym none ∙ k.2)
    | inr p ↦
        let number : p.0 ≡ k.0 = same_Some _ _ (sym p.2 ∙ k.2) in
        let term : p.1 ≡ k.1 = same_Some _ _ (sym p.3 ∙ ap (slice_get declared.terms) number ∙ k.3) in
        call_is_well k.1 k.0 args (expr_term name args pos) want s u s' (subst (λ z. IsIllCall declared caller z args want) term p.4) k.4
  ]
  expr_node_is_well (expr_let defs body pos) want s u s' h k = types_are_known declared.types defs s k.0 k.1 h k.4

-- an ill-typed expression stands for nothing, in however many levels
pub ill_exprs : (declared : Declared) (caller : Flags) (at : Pos) (n m : ℕ)
    → RefutesExprs (λ _. Unit {0}) (ReachesExpr declared caller (IllExprAt declared at caller) n) (Builds declared caller m)
ill_exprs declared caller at zero m = record { refuted = λ e want s u s' h k w. absurd h }
ill_exprs declared caller at (suc n) zero = record { refuted = λ e want s u s' h k w. absurd k }
ill_exprs declared caller at (suc n) (suc m) = record {
  refuted = λ e want s u s' h k w. elim h [
    | inl ill ↦ expr_node_is_well declared caller (Builds declared caller n) (Builds declared caller m)
        (exprs_agree declared caller n m) at e want (counted s) u s' ill k
    | inr below ↦ below_expr_refuted (λ _. Unit {0}) always (ReachesExpr declared caller (IllExprAt declared at caller) n)
        (Builds declared caller n) (Builds declared caller m)
        (exprs_agree declared caller n m) (exprs_grow declared caller m) (ill_exprs declared caller at n m) declared caller e want
        (counted s) u s' below k tt
  ];
}

-- an expression that is too large stands for nothing within the sizes
pub large_exprs : (declared : Declared) (caller : Flags) (max n m : ℕ) → m ≤ n
    → RefutesExprs (λ nodes. nodes ≤ max) (ReachesExpr declared caller (λ left e want s. IsTooLarge max left s) n) (Builds declared caller m)
large_exprs declared caller max zero zero fits = record { refuted = λ e want s u s' h k w. absurd k }
large_exprs declared caller max zero (suc m) fits = absurd (omega arith)
large_exprs declared caller max (suc n) zero fits = record { refuted = λ e want s u s' h k w. absurd k }
large_exprs declared caller max (suc n) (suc m) fits = record {
  refuted = λ e want s u s' h k w. elim h [
    | inl full ↦ (let a = expr_node_grows (Builds declared caller m) (exprs_grow declared caller m) declared caller e want (counted s) u s' k in
        absurd (omega arith))
    | inr below ↦ below_expr_refuted (λ nodes. nodes ≤ max) (up_to max) (ReachesExpr declared caller (λ left e want s. IsTooLarge max left s) n)
        (Builds declared caller n) (Builds declared caller m)
        (exprs_agree declared caller n m) (exprs_grow declared caller m)
        (large_exprs declared caller max n m (omega arith)) declared caller e want (counted s) u s' below k w
  ];
}
