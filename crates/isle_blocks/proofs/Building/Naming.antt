-- Shown rules are named rules.
use Rattle.std.proofs.Common.{◌≡◌, ℕ, zero, suc, ◌+◌, ◌≤◌, ◌<◌, List, [], ◌∷◌, length, map, Option, Some, None}
use Rattle.std.proofs.Common.{slice_get, arith, refl, ap, sym, subst, ◌∙◌}
use Rattle.std.specs.Prelude.{unwrap_or}
use Rattle.std.proofs.lemmas.List.{length-replicate}
use Rattle.std.proofs.lemmas.Option.{slice_get-get_or}
use Rattle.isle_types.specs.declared.ids.Sym.{Sym}
use Rattle.isle_types.specs.declared.ids.TypeId.{TypeId}
use Rattle.isle_types.specs.declared.ids.VarId.{VarId}
use Rattle.isle_types.specs.Names.{AreDistinct}
use Rattle.isle_types.specs.TypeTables.{name_at}
use Rattle.isle_rules.specs.declared.rules.Pattern.{Pattern, Pattern-F, map-Pattern, fold-roll-Pattern, ind-Pattern}
use Rattle.isle_rules.specs.declared.rules.Pattern.TheOpen.{BindPattern, Var as PatternVar, ConstBool as PatternBool, ConstInt as PatternInt}
use Rattle.isle_rules.specs.declared.rules.Pattern.TheOpen.{ConstPrim as PatternPrim, Term as PatternTerm, Wildcard, And}
use Rattle.isle_rules.specs.declared.rules.Expr.{Expr, Expr-F, map-Expr, fold-roll-Expr, ind-Expr}
use Rattle.isle_rules.specs.declared.rules.Expr.TheOpen.{Term, Var, ConstBool, ConstInt, ConstPrim, Let}
use Rattle.isle_rules.specs.declared.rules.IfLet.{IfLet}
use Rattle.isle_rules.specs.declared.rules.Rule.{Rule}
use Rattle.isle_rules.specs.TypedRules.{TypedPattern, TypedExpr, TypedRule, typed_bind, typed_prim, typed_term, typed_and}
use Rattle.isle_rules.specs.TypedRules.{built_term, built_prim}
use Rattle.isle_rules.specs.Shown.ShownRules.{typed_step, typed_shown, typed_list, pattern_limit_step, pattern_limit, greatest, built_step}
use Rattle.isle_rules.specs.Shown.ShownRules.{built_shown, built_list, binding_list, expr_limit_step, expr_limit, greatest_of_values, iflet_shown}
use Rattle.isle_rules.specs.Shown.RulesShown.{iflet_limit, IsShownRule}
use Rattle.isle_rules.specs.Visits.InternedTrees.{InternedPattern, InternedExpr, listed_patterns, pattern_node, pattern_of, listed_exprs}
use Rattle.isle_rules.specs.Visits.InternedTrees.{listed_bindings, expr_node, expr_of}
use Rattle.isle_blocks.specs.Rows.{IsInjective}
use Rattle.isle_blocks.specs.Inside.Building.Named.{named_pattern, named_patterns, named_expr, named_exprs, named_bindings, named_iflet, IsNamedRule}
use Rattle.isle_blocks.specs.Building.Naming.{longest_of, text_beyond, name_by}

-- no name is longer than the longest
longest : (names : List (List ℕ)) (place : ℕ) (name : List ℕ) → slice_get names place ≡ Some name → length name ≤ longest_of names
longest [] place name e = absurd cc
longest (first ∷ others) zero name e = let same : first ≡ name = cc in let size = ap (λ (x : List ℕ). length x) same in omega arith
longest (first ∷ others) (suc place) name e = let low = longest others place name e in omega arith

module _ (names : List (List ℕ)) (distinct : AreDistinct names) where
  same_place : (a b : Sym) (o p : Option (List ℕ)) → slice_get names a.0 ≡ o → slice_get names b.0 ≡ p
      → unwrap_or o (text_beyond names a) ≡ unwrap_or p (text_beyond names b) → a.0 ≡ b.0
  same_place a b (Some x) (Some y) here there e = distinct x a.0 b.0 here (there ∙ ap Some (sym e))
  same_place a b (Some x) None here there e =
      let low = longest names a.0 x here in
      let size = ap (λ (x : List ℕ). length x) e ∙ length-replicate (longest_of names + 1 + b.0) 0 in omega arith
  same_place a b None (Some y) here there e =
      let low = longest names b.0 y there in
      let size = sym (ap (λ (x : List ℕ). length x) e) ∙ length-replicate (longest_of names + 1 + a.0) 0 in omega arith
  same_place a b None None here there e =
      let size = sym (length-replicate (longest_of names + 1 + a.0) 0) ∙ ap (λ (x : List ℕ). length x) e
      ∙ length-replicate (longest_of names + 1 + b.0) 0 in omega arith

  -- no two symbols have one name where names stand once each
  pub name_by_injective : IsInjective (name_by names)
  name_by_injective a b e =
      let same = same_place a b (slice_get names a.0) (slice_get names b.0) refl refl e in (λ i. record { 0 = same i })

module _ (names : List (List ℕ)) where
  -- a known symbol has its name
  agree : (symbol : Sym) → symbol.0 < length names → name_by names symbol ≡ name_at names symbol
  agree symbol low =
      let here = slice_get-get_or names symbol.0 [] low in
      ap (λ (o : Option (List ℕ)). unwrap_or o (text_beyond names symbol)) here ∙ sym (ap (λ (o : Option (List ℕ)). unwrap_or o []) here)

  -- a pattern as a tree, named, is what the pattern shows
  abbrev IsNamed : Pattern → Type 0
  IsNamed pattern = pattern_limit pattern ≤ length names → named_pattern (name_by names) (pattern_of pattern) ≡ typed_shown names pattern

  args_named : (ps : List ((p : Pattern) × IsNamed p)) → greatest (map pattern_limit (map (λ p. p.0) ps)) ≤ length names
      → named_patterns (name_by names) (listed_patterns (map pattern_of (map (λ p. p.0) ps)))
      ≡ typed_list (map (typed_shown names) (map (λ p. p.0) ps))
  args_named [] within = refl
  args_named (p ∷ ps) within = let first = p.1 (omega arith) in let others = args_named ps (omega arith) in cc

  -- the patterns below a node, without what is said of them
  abbrev below : Pattern-F ((p : Pattern) × IsNamed p) → Pattern-F Pattern
  below y = map-Pattern ((p : Pattern) × IsNamed p) Pattern (λ p. p.0) y

  pattern_level : (y : Pattern-F ((p : Pattern) × IsNamed p))
      → pattern_limit_step (map-Pattern Pattern ℕ pattern_limit (below y)) ≤ length names
      → named_pattern (name_by names) (pattern_node (map-Pattern Pattern InternedPattern pattern_of (below y)))
      ≡ typed_step names (map-Pattern Pattern TypedPattern (typed_shown names) (below y))
  pattern_level (BindPattern ty var sub) within = ap (typed_bind ty.0 var.0) (sub.1 within)
  pattern_level (PatternVar ty var) within = refl
  pattern_level (PatternBool ty val) within = refl
  pattern_level (PatternInt ty val) within = refl
  pattern_level (PatternPrim ty name) within = ap (typed_prim ty.0) (agree name (omega arith))
  pattern_level (PatternTerm ty term args) within = ap (typed_term ty.0 term.0) (args_named args within)
  pattern_level (Wildcard ty) within = refl
  pattern_level (And ty subs) within = ap (typed_and ty.0) (args_named subs within)

  pattern_named : (pattern : Pattern) → pattern_limit pattern ≤ length names
      → named_pattern (name_by names) (pattern_of pattern) ≡ typed_shown names pattern
  pattern_named = ind-Pattern IsNamed (λ x y made within.
      ap (named_pattern (name_by names)) (fold-roll-Pattern InternedPattern pattern_node x)
      ∙ subst (λ z. pattern_limit_step (map-Pattern Pattern ℕ pattern_limit z) ≤ length names
      → named_pattern (name_by names) (pattern_node (map-Pattern Pattern InternedPattern pattern_of z))
      ≡ typed_step names (map-Pattern Pattern TypedPattern (typed_shown names) z))
      made (pattern_level y) (subst (λ n. n ≤ length names) (fold-roll-Pattern ℕ pattern_limit_step x) within)
      ∙ sym (fold-roll-Pattern TypedPattern (typed_step names) x))

  patterns_named : (ps : List Pattern) → greatest (map pattern_limit ps) ≤ length names
      → named_patterns (name_by names) (listed_patterns (map pattern_of ps)) ≡ typed_list (map (typed_shown names) ps)
  patterns_named [] within = refl
  patterns_named (p ∷ ps) within = let first = pattern_named p (omega arith) in let others = patterns_named ps (omega arith) in cc

  -- so is an expression
  abbrev IsNamedExpr : Expr → Type 0
  IsNamedExpr expr = expr_limit expr ≤ length names → named_expr (name_by names) (expr_of expr) ≡ built_shown names expr

  values_named : (es : List ((e : Expr) × IsNamedExpr e)) → greatest (map expr_limit (map (λ e. e.0) es)) ≤ length names
      → named_exprs (name_by names) (listed_exprs (map expr_of (map (λ e. e.0) es)))
      ≡ built_list (map (built_shown names) (map (λ e. e.0) es))
  values_named [] within = refl
  values_named (e ∷ es) within = let first = e.1 (omega arith) in let others = values_named es (omega arith) in cc

  -- the variables of a `let`, each with what is made of its value
  abbrev each_value : {X Y : Type 0} → (X → Y) → List (VarId × TypeId × X) → List (VarId × TypeId × Y)
  each_value {X} f bindings = map (λ (binding : VarId × TypeId × X). (binding.0, binding.1, f binding.2)) bindings

  bindings_named : (bs : List (VarId × TypeId × ((e : Expr) × IsNamedExpr e)))
      → greatest_of_values (each_value expr_limit (each_value (λ e. e.0) bs)) ≤ length names
      → named_bindings (name_by names) (listed_bindings (each_value expr_of (each_value (λ e. e.0) bs)))
      ≡ binding_list (each_value (built_shown names) (each_value (λ e. e.0) bs))
  bindings_named [] within = refl
  bindings_named (b ∷ bs) within = let first = b.2.1 (omega arith) in let others = bindings_named bs (omega arith) in cc

  expr_level : (y : Expr-F ((e : Expr) × IsNamedExpr e))
      → expr_limit_step (map-Expr Expr ℕ expr_limit (map-Expr ((e : Expr) × IsNamedExpr e) Expr (λ e. e.0) y)) ≤ length names
      → named_expr (name_by names) (expr_node (map-Expr Expr InternedExpr expr_of (map-Expr ((e : Expr) × IsNamedExpr e) Expr (λ e. e.0) y)))
      ≡ built_step names (map-Expr Expr TypedExpr (built_shown names) (map-Expr ((e : Expr) × IsNamedExpr e) Expr (λ e. e.0) y))
  expr_level (Term ty term args) within = ap (built_term ty.0 term.0) (values_named args within)
  expr_level (Var ty var) within = refl
  expr_level (ConstBool ty val) within = refl
  expr_level (ConstInt ty val) within = refl
  expr_level (ConstPrim ty name) within = ap (built_prim ty.0) (agree name (omega arith))
  expr_level (Let ty bindings body) within =
      let first = bindings_named bindings (omega arith) in let last = body.1 (omega arith) in cc

  expr_named : (expr : Expr) → expr_limit expr ≤ length names → named_expr (name_by names) (expr_of expr) ≡ built_shown names expr
  expr_named = ind-Expr IsNamedExpr (λ x y made within.
      ap (named_expr (name_by names)) (fold-roll-Expr InternedExpr expr_node x)
      ∙ subst (λ z. expr_limit_step (map-Expr Expr ℕ expr_limit z) ≤ length names
      → named_expr (name_by names) (expr_node (map-Expr Expr InternedExpr expr_of z))
      ≡ built_step names (map-Expr Expr TypedExpr (built_shown names) z))
      made (expr_level y) (subst (λ n. n ≤ length names) (fold-roll-Expr ℕ expr_limit_step x) within)
      ∙ sym (fold-roll-Expr TypedExpr (built_step names) x))

  iflets_named : (is : List IfLet) → greatest (map iflet_limit is) ≤ length names
      → map (named_iflet (name_by names)) is ≡ map (iflet_shown names) is
  iflets_named [] within = refl
  iflets_named (x ∷ is) within =
      let first = pattern_named x.lhs (omega arith) in
      let last = expr_named x.rhs (omega arith) in
      let others = iflets_named is (omega arith) in (λ i. record { pattern = first i; value = last i } ∷ others i)

  -- a rule that shows a typed rule is that rule, named
  pub shown_named : (typed : TypedRule) (rule : Rule) → IsShownRule names typed rule → IsNamedRule (name_by names) typed rule
  shown_named typed rule h = record {
    args = sym (patterns_named rule.args h.arg_symbols ∙ h.args);
    iflets = sym (iflets_named rule.iflets h.iflet_symbols ∙ h.iflets);
    right = sym (expr_named rule.rhs h.right_symbols ∙ h.right);
  }
