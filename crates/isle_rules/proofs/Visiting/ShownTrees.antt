-- What interned trees show.
use Rattle.std.proofs.Common.{◌≡◌, ℕ, List, [], ◌∷◌, map, refl, ap, sym, subst, ◌∙◌}
use Rattle.isle_types.specs.declared.ids.TypeId.{TypeId}
use Rattle.isle_types.specs.declared.ids.VarId.{VarId}
use Rattle.isle_types.specs.TypeTables.{name_at}
use Rattle.isle_rules.specs.declared.rules.Pattern.{Pattern, Pattern-F, map-Pattern, fold-roll-Pattern, ind-Pattern}
use Rattle.isle_rules.specs.declared.rules.Pattern.TheOpen.{BindPattern, Var as PatternVar, ConstBool as PatternBool, ConstInt as PatternInt}
use Rattle.isle_rules.specs.declared.rules.Pattern.TheOpen.{ConstPrim as PatternPrim, Term as PatternTerm, Wildcard, And}
use Rattle.isle_rules.specs.declared.rules.Expr.{Expr, Expr-F, map-Expr, fold-roll-Expr, ind-Expr}
use Rattle.isle_rules.specs.declared.rules.Expr.TheOpen.{Term, Var, ConstBool, ConstInt, ConstPrim, Let}
use Rattle.isle_rules.specs.TypedRules.{TypedPattern, TypedPatterns, typed_bind, typed_var, typed_bool, typed_int, typed_prim, typed_term}
use Rattle.isle_rules.specs.TypedRules.{typed_wildcard, typed_and, no_typed, more_typed, TypedExpr, TypedExprs, TypedBindings, built_term}
use Rattle.isle_rules.specs.TypedRules.{built_var, built_bool, built_int, built_prim, built_let, no_built, more_built}
use Rattle.isle_rules.specs.TypedRules.{no_typed_bindings, more_typed_bindings}
use Rattle.isle_rules.specs.Shown.ShownRules.{typed_step, typed_shown, typed_list, built_step, built_shown, built_list, binding_list}
use Rattle.isle_rules.specs.Visits.InternedTrees.{InternedPattern, InternedPatterns, bind_pattern, var_pattern, bool_pattern, int_pattern}
use Rattle.isle_rules.specs.Visits.InternedTrees.{prim_pattern, term_pattern, wildcard_pattern, and_pattern, no_patterns, more_patterns}
use Rattle.isle_rules.specs.Visits.InternedTrees.{InternedExpr, InternedExprs, InternedBindings, term_expr, var_expr, bool_expr, int_expr}
use Rattle.isle_rules.specs.Visits.InternedTrees.{prim_expr, let_expr, no_exprs, more_exprs, no_bindings, more_bindings}
use Rattle.isle_rules.specs.Visits.InternedTrees.{listed_patterns, pattern_node, pattern_of, listed_exprs, listed_bindings, expr_node, expr_of}

module _ (names : List (List ℕ)) where
  abbrev mutual
    -- what an interned pattern shows
    pub shown_pattern : InternedPattern → TypedPattern
    shown_pattern (bind_pattern ty var p) = typed_bind ty.0 var.0 (shown_pattern p)
    shown_pattern (var_pattern ty var) = typed_var ty.0 var.0
    shown_pattern (bool_pattern ty val) = typed_bool ty.0 val
    shown_pattern (int_pattern ty val) = typed_int ty.0 val
    shown_pattern (prim_pattern ty name) = typed_prim ty.0 (name_at names name)
    shown_pattern (term_pattern ty term ps) = typed_term ty.0 term.0 (shown_patterns ps)
    shown_pattern (wildcard_pattern ty) = typed_wildcard ty.0
    shown_pattern (and_pattern ty ps) = typed_and ty.0 (shown_patterns ps)

    pub shown_patterns : InternedPatterns → TypedPatterns
    shown_patterns no_patterns = no_typed
    shown_patterns (more_patterns p ps) = more_typed (shown_pattern p) (shown_patterns ps)

  abbrev mutual
    -- what an interned expression shows
    pub shown_expr : InternedExpr → TypedExpr
    shown_expr (term_expr ty term es) = built_term ty.0 term.0 (shown_exprs es)
    shown_expr (var_expr ty var) = built_var ty.0 var.0
    shown_expr (bool_expr ty val) = built_bool ty.0 val
    shown_expr (int_expr ty val) = built_int ty.0 val
    shown_expr (prim_expr ty name) = built_prim ty.0 (name_at names name)
    shown_expr (let_expr ty bs body) = built_let ty.0 (shown_bindings bs) (shown_expr body)

    pub shown_exprs : InternedExprs → TypedExprs
    shown_exprs no_exprs = no_built
    shown_exprs (more_exprs e es) = more_built (shown_expr e) (shown_exprs es)

    pub shown_bindings : InternedBindings → TypedBindings
    shown_bindings no_bindings = no_typed_bindings
    shown_bindings (more_bindings var ty e bs) = more_typed_bindings var.0 ty.0 (shown_expr e) (shown_bindings bs)

  -- a pattern as a tree shows what the pattern shows
  abbrev PatternShown : Pattern → Type 0
  PatternShown pattern = shown_pattern (pattern_of pattern) ≡ typed_shown names pattern

  parts_shown : (ps : List ((p : Pattern) × PatternShown p))
      → shown_patterns (listed_patterns (map pattern_of (map (λ p. p.0) ps))) ≡ typed_list (map (typed_shown names) (map (λ p. p.0) ps))
  parts_shown [] = refl
  parts_shown (p ∷ ps) = let first = p.1 in let others = parts_shown ps in cc

  -- the patterns below a node, without what is shown of them
  abbrev below : Pattern-F ((p : Pattern) × PatternShown p) → Pattern-F Pattern
  below y = map-Pattern ((p : Pattern) × PatternShown p) Pattern (λ p. p.0) y

  pattern_level : (y : Pattern-F ((p : Pattern) × PatternShown p))
      → shown_pattern (pattern_node (map-Pattern Pattern InternedPattern pattern_of (below y)))
      ≡ typed_step names (map-Pattern Pattern TypedPattern (typed_shown names) (below y))
  pattern_level (BindPattern ty var sub) = ap (typed_bind ty.0 var.0) sub.1
  pattern_level (PatternVar ty var) = refl
  pattern_level (PatternBool ty val) = refl
  pattern_level (PatternInt ty val) = refl
  pattern_level (PatternPrim ty name) = refl
  pattern_level (PatternTerm ty term args) = ap (typed_term ty.0 term.0) (parts_shown args)
  pattern_level (Wildcard ty) = refl
  pattern_level (And ty subs) = ap (typed_and ty.0) (parts_shown subs)

  pub pattern_shown : (pattern : Pattern) → shown_pattern (pattern_of pattern) ≡ typed_shown names pattern
  pattern_shown = ind-Pattern PatternShown (λ x y made.
      ap shown_pattern (fold-roll-Pattern InternedPattern pattern_node x)
      ∙ subst (λ z. shown_pattern (pattern_node (map-Pattern Pattern InternedPattern pattern_of z))
      ≡ typed_step names (map-Pattern Pattern TypedPattern (typed_shown names) z)) made (pattern_level y)
      ∙ sym (fold-roll-Pattern TypedPattern (typed_step names) x))

  -- an expression as a tree shows what the expression shows
  abbrev ExprShown : Expr → Type 0
  ExprShown expr = shown_expr (expr_of expr) ≡ built_shown names expr

  values_shown : (es : List ((e : Expr) × ExprShown e))
      → shown_exprs (listed_exprs (map expr_of (map (λ e. e.0) es))) ≡ built_list (map (built_shown names) (map (λ e. e.0) es))
  values_shown [] = refl
  values_shown (e ∷ es) = let first = e.1 in let others = values_shown es in cc

  -- the variables of a `let`, each with what is made of its value
  abbrev each_value : {X Y : Type 0} → (X → Y) → List (VarId × TypeId × X) → List (VarId × TypeId × Y)
  each_value {X} f bindings = map (λ (binding : VarId × TypeId × X). (binding.0, binding.1, f binding.2)) bindings

  bindings_shown : (bs : List (VarId × TypeId × ((e : Expr) × ExprShown e)))
      → shown_bindings (listed_bindings (each_value expr_of (each_value (λ e. e.0) bs)))
      ≡ binding_list (each_value (built_shown names) (each_value (λ e. e.0) bs))
  bindings_shown [] = refl
  bindings_shown (b ∷ bs) = let first = b.2.1 in let others = bindings_shown bs in cc

  expr_level : (y : Expr-F ((e : Expr) × ExprShown e))
      → shown_expr (expr_node (map-Expr Expr InternedExpr expr_of (map-Expr ((e : Expr) × ExprShown e) Expr (λ e. e.0) y)))
      ≡ built_step names (map-Expr Expr TypedExpr (built_shown names) (map-Expr ((e : Expr) × ExprShown e) Expr (λ e. e.0) y))
  expr_level (Term ty term args) = ap (built_term ty.0 term.0) (values_shown args)
  expr_level (Var ty var) = refl
  expr_level (ConstBool ty val) = refl
  expr_level (ConstInt ty val) = refl
  expr_level (ConstPrim ty name) = refl
  expr_level (Let ty bindings body) = let first = bindings_shown bindings in let last = body.1 in cc

  pub expr_shown : (expr : Expr) → shown_expr (expr_of expr) ≡ built_shown names expr
  expr_shown = ind-Expr ExprShown (λ x y made.
      ap shown_expr (fold-roll-Expr InternedExpr expr_node x)
      ∙ subst (λ z. shown_expr (expr_node (map-Expr Expr InternedExpr expr_of z))
      ≡ built_step names (map-Expr Expr TypedExpr (built_shown names) z)) made (expr_level y)
      ∙ sym (fold-roll-Expr TypedExpr (built_step names) x))
