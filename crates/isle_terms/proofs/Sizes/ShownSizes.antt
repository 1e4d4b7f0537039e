-- The code's trees have the sizes of what they show, so its rules are within sizes.
use Rattle.std.proofs.Common.{◌≡◌, ℕ, ◌+◌, ◌*◌, ◌≤◌, max, List, [], ◌∷◌, map, refl, sym, ap, subst, ◌∙◌, arith}
use Rattle.std.specs.Prelude.{All}
use Rattle.std.specs.List.{AllZip}
use Rattle.std.proofs.lemmas.List.Elements.{All-nil, All-cons, All-head, All-tail}
use Rattle.isle_ast.specs.declared.ast.Def.{Def}
use Rattle.isle_types.specs.declared.ids.TypeId.{TypeId}
use Rattle.isle_types.specs.declared.ids.VarId.{VarId}
use Rattle.isle_types.specs.Environment.{Environment}
use Rattle.isle_types.specs.TypeTables.{TypeTables}
use Rattle.isle_rules.specs.declared.rules.Pattern.{Pattern, Pattern-F, fold-Pattern, map-Pattern, fold-roll-Pattern, ind-Pattern}
use Rattle.isle_rules.specs.declared.rules.Pattern.TheOpen.{BindPattern, Var as PatternVar, ConstBool as PatternBool, ConstInt as PatternInt}
use Rattle.isle_rules.specs.declared.rules.Pattern.TheOpen.{ConstPrim as PatternPrim, Term as PatternTerm, Wildcard, And}
use Rattle.isle_rules.specs.declared.rules.Expr.{Expr, Expr-F, fold-Expr, map-Expr, fold-roll-Expr, ind-Expr}
use Rattle.isle_rules.specs.declared.rules.Expr.TheOpen.{Term, Var, ConstBool, ConstInt, ConstPrim, Let}
use Rattle.isle_rules.specs.declared.rules.IfLet.{IfLet}
use Rattle.isle_rules.specs.declared.rules.Rule.{Rule}
use Rattle.isle_rules.specs.TypedRules.{TypedPattern, TypedExpr, TypedRule}
use Rattle.isle_rules.specs.Shown.RulesShown.{ShowsTerms}
use Rattle.isle_rules.specs.Shown.ShownRules.{typed_list, typed_step, typed_shown, built_list, binding_list, built_step, built_shown, iflet_shown}
use Rattle.isle_rules.specs.Shown.ShownRules.{greatest, greatest_of_values}
use Rattle.isle_rules.specs.Shown.RulesShown.{IsShownRule}
use Rattle.isle_rules.specs.Shown.TermTables.{TermTables}
use Rattle.isle_terms.specs.Sizes.{typed_depth, deepest_typed, typed_nodes, nodes_of_typed, built_depth, deepest_built, deepest_value}
use Rattle.isle_terms.specs.Sizes.{built_nodes, nodes_of_built, nodes_of_values, deepest_condition, nodes_of_conditions}
use Rattle.isle_terms.specs.Sizes.{IsWithinSizes, total, total_of_values, pattern_depth_step, pattern_depth, pattern_nodes_step, pattern_nodes}
use Rattle.isle_terms.specs.Sizes.{expr_depth_step, expr_depth, expr_nodes_step, expr_nodes, iflet_nodes, HasSizes}
use Rattle.isle_terms.proofs.Sizes.RuleSizes.{rules_small}

-- a measure of what a pattern shows is one of the pattern, where it is so at one node
module _ (names : List (List ℕ)) (measure : TypedPattern → ℕ) (step : Pattern-F ℕ → ℕ)
    (one : (y : Pattern-F TypedPattern) → measure (typed_step names y) ≡ step (map-Pattern TypedPattern ℕ measure y)) where
  abbrev Measured : Pattern → Type 0
  Measured pattern = measure (typed_shown names pattern) ≡ fold-Pattern ℕ step pattern

  -- the patterns below a node, without what is known of them
  abbrev below : Pattern-F ((p : Pattern) × Measured p) → Pattern-F Pattern
  below y = map-Pattern ((p : Pattern) × Measured p) Pattern (λ p. p.0) y

  each_measured : (ps : List ((p : Pattern) × Measured p))
      → map measure (map (typed_shown names) (map (λ p. p.0) ps)) ≡ map (fold-Pattern ℕ step) (map (λ p. p.0) ps)
  each_measured [] = refl
  each_measured (p ∷ ps) = let first = p.1 in let others = each_measured ps in cc

  level_measured : (y : Pattern-F ((p : Pattern) × Measured p))
      → map-Pattern TypedPattern ℕ measure (map-Pattern Pattern TypedPattern (typed_shown names) (below y))
      ≡ map-Pattern Pattern ℕ (fold-Pattern ℕ step) (below y)
  level_measured (BindPattern ty var sub) = ap (BindPattern ty var) sub.1
  level_measured (PatternVar ty var) = refl
  level_measured (PatternBool ty val) = refl
  level_measured (PatternInt ty val) = refl
  level_measured (PatternPrim ty name) = refl
  level_measured (PatternTerm ty term args) = ap (PatternTerm ty term) (each_measured args)
  level_measured (Wildcard ty) = refl
  level_measured (And ty subs) = ap (And ty) (each_measured subs)

  pattern_measured : (pattern : Pattern) → measure (typed_shown names pattern) ≡ fold-Pattern ℕ step pattern
  pattern_measured = ind-Pattern Measured (λ x y made.
      ap measure (fold-roll-Pattern TypedPattern (typed_step names) x)
      ∙ subst (λ z. measure (typed_step names (map-Pattern Pattern TypedPattern (typed_shown names) z))
      ≡ step (map-Pattern Pattern ℕ (fold-Pattern ℕ step) z)) made
      (one (map-Pattern Pattern TypedPattern (typed_shown names) (below y)) ∙ ap step (level_measured y))
      ∙ sym (fold-roll-Pattern ℕ step x))

-- a measure of what an expression shows is one of the expression, where it is so at one node
module _ (names : List (List ℕ)) (measure : TypedExpr → ℕ) (step : Expr-F ℕ → ℕ)
    (one : (y : Expr-F TypedExpr) → measure (built_step names y) ≡ step (map-Expr TypedExpr ℕ measure y)) where
  abbrev BuiltMeasured : Expr → Type 0
  BuiltMeasured expr = measure (built_shown names expr) ≡ fold-Expr ℕ step expr

  -- the expressions below a node, without what is known of them
  abbrev built_below : Expr-F ((e : Expr) × BuiltMeasured e) → Expr-F Expr
  built_below y = map-Expr ((e : Expr) × BuiltMeasured e) Expr (λ e. e.0) y

  each_built_measured : (es : List ((e : Expr) × BuiltMeasured e))
      → map measure (map (built_shown names) (map (λ e. e.0) es)) ≡ map (fold-Expr ℕ step) (map (λ e. e.0) es)
  each_built_measured [] = refl
  each_built_measured (e ∷ es) = let first = e.1 in let others = each_built_measured es in cc

  -- the variables of a `let`, each with what is made of its value
  abbrev each_value : {X Y : Type 0} → (X → Y) → List (VarId × TypeId × X) → List (VarId × TypeId × Y)
  each_value {X} f bindings = map (λ (binding : VarId × TypeId × X). (binding.0, binding.1, f binding.2)) bindings

  values_measured : (bs : List (VarId × TypeId × ((e : Expr) × BuiltMeasured e)))
      → each_value measure (each_value (built_shown names) (each_value (λ e. e.0) bs)) ≡ each_value (fold-Expr ℕ step) (each_value (λ e. e.0) bs)
  values_measured [] = refl
  values_measured (b ∷ bs) = let first = b.2.1 in let others = values_measured bs in cc

  level_built_measured : (y : Expr-F ((e : Expr) × BuiltMeasured e))
      → map-Expr TypedExpr ℕ measure (map-Expr Expr TypedExpr (built_shown names) (built_below y))
      ≡ map-Expr Expr ℕ (fold-Expr ℕ step) (built_below y)
  level_built_measured (Term ty term args) = ap (Term ty term) (each_built_measured args)
  level_built_measured (Var ty var) = refl
  level_built_measured (ConstBool ty val) = refl
  level_built_measured (ConstInt ty val) = refl
  level_built_measured (ConstPrim ty name) = refl
  level_built_measured (Let ty bindings body) = let first = values_measured bindings in let last = body.1 in cc

  expr_measured : (expr : Expr) → measure (built_shown names expr) ≡ fold-Expr ℕ step expr
  expr_measured = ind-Expr BuiltMeasured (λ x y made.
      ap measure (fold-roll-Expr TypedExpr (built_step names) x)
      ∙ subst (λ z. measure (built_step names (map-Expr Expr TypedExpr (built_shown names) z)) ≡ step (map-Expr Expr ℕ (fold-Expr ℕ step) z)) made
      (one (map-Expr Expr TypedExpr (built_shown names) (built_below y)) ∙ ap step (level_built_measured y))
      ∙ sym (fold-roll-Expr ℕ step x))

deepest_listed : (ts : List TypedPattern) → deepest_typed (typed_list ts) ≡ greatest (map typed_depth ts)
deepest_listed [] = refl
deepest_listed (t ∷ ts) = let others = deepest_listed ts in cc

nodes_listed : (ts : List TypedPattern) → nodes_of_typed (typed_list ts) ≡ total (map typed_nodes ts)
nodes_listed [] = refl
nodes_listed (t ∷ ts) = let others = nodes_listed ts in cc

deepest_built_listed : (ts : List TypedExpr) → deepest_built (built_list ts) ≡ greatest (map built_depth ts)
deepest_built_listed [] = refl
deepest_built_listed (t ∷ ts) = let others = deepest_built_listed ts in cc

nodes_built_listed : (ts : List TypedExpr) → nodes_of_built (built_list ts) ≡ total (map built_nodes ts)
nodes_built_listed [] = refl
nodes_built_listed (t ∷ ts) = let others = nodes_built_listed ts in cc

deepest_value_listed : (bs : List (VarId × TypeId × TypedExpr)) → deepest_value (binding_list bs)
    ≡ greatest_of_values (map (λ (b : VarId × TypeId × TypedExpr). (b.0, b.1, built_depth b.2)) bs)
deepest_value_listed [] = refl
deepest_value_listed (b ∷ bs) = let others = deepest_value_listed bs in cc

nodes_values_listed : (bs : List (VarId × TypeId × TypedExpr)) → nodes_of_values (binding_list bs)
    ≡ total_of_values (map (λ (b : VarId × TypeId × TypedExpr). (b.0, b.1, built_nodes b.2)) bs)
nodes_values_listed [] = refl
nodes_values_listed (b ∷ bs) = let others = nodes_values_listed bs in cc

module _ (names : List (List ℕ)) where
  depth_step : (y : Pattern-F TypedPattern) → typed_depth (typed_step names y) ≡ pattern_depth_step (map-Pattern TypedPattern ℕ typed_depth y)
  depth_step (BindPattern ty var sub) = refl
  depth_step (PatternVar ty var) = refl
  depth_step (PatternBool ty val) = refl
  depth_step (PatternInt ty val) = refl
  depth_step (PatternPrim ty name) = refl
  depth_step (PatternTerm ty term args) = ap (λ n. n + 1) (deepest_listed args)
  depth_step (Wildcard ty) = refl
  depth_step (And ty subs) = ap (λ n. n + 1) (deepest_listed subs)

  nodes_step : (y : Pattern-F TypedPattern) → typed_nodes (typed_step names y) ≡ pattern_nodes_step (map-Pattern TypedPattern ℕ typed_nodes y)
  nodes_step (BindPattern ty var sub) = refl
  nodes_step (PatternVar ty var) = refl
  nodes_step (PatternBool ty val) = refl
  nodes_step (PatternInt ty val) = refl
  nodes_step (PatternPrim ty name) = refl
  nodes_step (PatternTerm ty term args) = ap (λ n. n + 1) (nodes_listed args)
  nodes_step (Wildcard ty) = refl
  nodes_step (And ty subs) = ap (λ n. n + 1) (nodes_listed subs)

  built_depth_step : (y : Expr-F TypedExpr) → built_depth (built_step names y) ≡ expr_depth_step (map-Expr TypedExpr ℕ built_depth y)
  built_depth_step (Term ty term args) = ap (λ n. n + 1) (deepest_built_listed args)
  built_depth_step (Var ty var) = refl
  built_depth_step (ConstBool ty val) = refl
  built_depth_step (ConstInt ty val) = refl
  built_depth_step (ConstPrim ty name) = refl
  built_depth_step (Let ty bindings body) = ap (λ n. max n (built_depth body) + 1) (deepest_value_listed bindings)

  built_nodes_step : (y : Expr-F TypedExpr) → built_nodes (built_step names y) ≡ expr_nodes_step (map-Expr TypedExpr ℕ built_nodes y)
  built_nodes_step (Term ty term args) = ap (λ n. n + 1) (nodes_built_listed args)
  built_nodes_step (Var ty var) = refl
  built_nodes_step (ConstBool ty val) = refl
  built_nodes_step (ConstInt ty val) = refl
  built_nodes_step (ConstPrim ty name) = refl
  built_nodes_step (Let ty bindings body) = ap (λ n. n + built_nodes body + 1) (nodes_values_listed bindings)

  -- a pattern is as deep as what it shows
  pub pattern_depth_shown : (pattern : Pattern) → typed_depth (typed_shown names pattern) ≡ pattern_depth pattern
  pattern_depth_shown = pattern_measured names typed_depth pattern_depth_step depth_step

  -- a pattern has as many nodes as what it shows
  pub pattern_nodes_shown : (pattern : Pattern) → typed_nodes (typed_shown names pattern) ≡ pattern_nodes pattern
  pattern_nodes_shown = pattern_measured names typed_nodes pattern_nodes_step nodes_step

  -- an expression is as deep as what it shows
  pub expr_depth_shown : (expr : Expr) → built_depth (built_shown names expr) ≡ expr_depth expr
  expr_depth_shown = expr_measured names built_depth expr_depth_step built_depth_step

  -- an expression has as many nodes as what it shows
  pub expr_nodes_shown : (expr : Expr) → built_nodes (built_shown names expr) ≡ expr_nodes expr
  expr_nodes_shown = expr_measured names built_nodes expr_nodes_step built_nodes_step

  args_deep : (depth : ℕ) (args : List Pattern) → deepest_typed (typed_list (map (typed_shown names) args)) ≤ depth
      → All (λ (pattern : Pattern). pattern_depth pattern ≤ depth) args
  args_deep depth [] within = All-nil (λ (pattern : Pattern). pattern_depth pattern ≤ depth)
  args_deep depth (first ∷ others) within =
      let own = pattern_depth_shown first in
      All-cons (λ (pattern : Pattern). pattern_depth pattern ≤ depth) first others (omega arith) (args_deep depth others (omega arith))

  lefts_deep : (depth : ℕ) (iflets : List IfLet) → deepest_condition (map (iflet_shown names) iflets) ≤ depth
      → All (λ (iflet : IfLet). pattern_depth iflet.lhs ≤ depth) iflets
  lefts_deep depth [] within = All-nil (λ (iflet : IfLet). pattern_depth iflet.lhs ≤ depth)
  lefts_deep depth (first ∷ others) within =
      let own = pattern_depth_shown first.lhs in
      All-cons (λ (iflet : IfLet). pattern_depth iflet.lhs ≤ depth) first others (omega arith) (lefts_deep depth others (omega arith))

  values_deep : (depth : ℕ) (iflets : List IfLet) → deepest_condition (map (iflet_shown names) iflets) ≤ depth
      → All (λ (iflet : IfLet). expr_depth iflet.rhs ≤ depth) iflets
  values_deep depth [] within = All-nil (λ (iflet : IfLet). expr_depth iflet.rhs ≤ depth)
  values_deep depth (first ∷ others) within =
      let own = expr_depth_shown first.rhs in
      All-cons (λ (iflet : IfLet). expr_depth iflet.rhs ≤ depth) first others (omega arith) (values_deep depth others (omega arith))

  args_nodes : (args : List Pattern) → nodes_of_typed (typed_list (map (typed_shown names) args)) ≡ total (map pattern_nodes args)
  args_nodes [] = refl
  args_nodes (first ∷ others) = let own = pattern_nodes_shown first in let rest = args_nodes others in omega arith

  iflets_nodes : (iflets : List IfLet) → nodes_of_conditions (map (iflet_shown names) iflets) ≡ total (map iflet_nodes iflets)
  iflets_nodes [] = refl
  iflets_nodes (first ∷ others) =
      let left = pattern_nodes_shown first.lhs in let value = expr_nodes_shown first.rhs in let rest = iflets_nodes others in omega arith

  -- a rule has the sizes of what it shows
  pub sizes_shown : (levels most : ℕ) (typed : TypedRule) (rule : Rule) → IsWithinSizes levels most typed → IsShownRule names typed rule
      → HasSizes (levels + 1) (2 * most) rule
  sizes_shown levels most typed rule small shown =
      let args = args_nodes rule.args in
      let iflets = iflets_nodes rule.iflets in
      let right_nodes = expr_nodes_shown rule.rhs in
      let right_depth = expr_depth_shown rule.rhs in
      let all = small.nodes in
      let deep = small.right in
      let a = ap nodes_of_typed shown.args in
      let i = ap nodes_of_conditions shown.iflets in
      let n = ap built_nodes shown.right in
      let d = ap built_depth shown.right in
      record {
        args = args_deep (levels + 1) rule.args (rw shown.args small.args);
        patterns = lefts_deep (levels + 1) rule.iflets (rw shown.iflets small.iflets);
        values = values_deep (levels + 1) rule.iflets (rw shown.iflets small.iflets);
        right = omega arith;
        nodes = omega arith;
      }

  each_sized : (levels most : ℕ) (typed : List TypedRule) (rules : List Rule) → All (IsWithinSizes levels most) typed
      → AllZip (IsShownRule names) typed rules → All (HasSizes (levels + 1) (2 * most)) rules
  each_sized levels most [] [] small shown = All-nil (HasSizes (levels + 1) (2 * most))
  each_sized levels most [] (rule ∷ rules) small shown = absurd shown
  each_sized levels most (typed ∷ others) [] small shown = absurd shown
  each_sized levels most (typed ∷ others) (rule ∷ rules) small shown =
      All-cons (HasSizes (levels + 1) (2 * most)) rule rules
      (sizes_shown levels most typed rule (All-head (IsWithinSizes levels most) typed others small) shown.0)
      (each_sized levels most others rules (All-tail (IsWithinSizes levels most) typed others small) shown.1)

-- every rule of an environment that shows what definitions make is within sizes
pub rules_sized : (tyenv : TypeTables) (env : TermTables) (types : Environment) (levels max : ℕ) (defs : List Def)
    → ShowsTerms tyenv env types levels max defs → All (HasSizes (levels + 1) (2 * max)) env.rules
rules_sized tyenv env types levels max defs shows =
    each_sized tyenv.names levels max shows.environment.rules env.rules
    (rules_small types env.expands levels max defs shows.environment shows.makes) shows.rules
