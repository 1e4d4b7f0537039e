-- The sizes of typed rules, how deep they are and how many nodes they have, and how a rule fits its term.
use Rattle.std.specs.Prelude.{◌≡◌, ◌≤◌, ℕ, ◌+◌, ◌*◌, max, true, List, [], ◌∷◌, length, map, Some, slice_get, All}
use Rattle.isle_types.specs.declared.ids.TypeId.{TypeId}
use Rattle.isle_types.specs.declared.ids.VarId.{VarId}
use Rattle.isle_types.specs.TypeEnvs.{CountUp}
use Rattle.isle_rules.specs.declared.terms.Term.{Term as KnownTerm}
use Rattle.isle_rules.specs.declared.rules.Pattern.{Pattern, Pattern-F, fold-Pattern}
use Rattle.isle_rules.specs.declared.rules.Pattern.TheOpen.{BindPattern, Var as PatternVar, ConstBool as PatternBool, ConstInt as PatternInt}
use Rattle.isle_rules.specs.declared.rules.Pattern.TheOpen.{ConstPrim as PatternPrim, Term as PatternTerm, Wildcard, And}
use Rattle.isle_rules.specs.declared.rules.Expr.{Expr, Expr-F, fold-Expr}
use Rattle.isle_rules.specs.declared.rules.Expr.TheOpen.{Term, Var, ConstBool, ConstInt, ConstPrim, Let}
use Rattle.isle_rules.specs.declared.rules.IfLet.{IfLet}
use Rattle.isle_rules.specs.declared.rules.Rule.{Rule}
use Rattle.isle_rules.specs.TypedRules.{TypedPattern, TypedPatterns, typed_bind, typed_var, typed_bool, typed_int, typed_prim, typed_term}
use Rattle.isle_rules.specs.TypedRules.{typed_wildcard, typed_and, no_typed, more_typed, TypedExpr, TypedExprs, TypedBindings, built_term}
use Rattle.isle_rules.specs.TypedRules.{built_var, built_bool, built_int, built_prim, built_let, no_built, more_built, no_typed_bindings, more_typed_bindings}
use Rattle.isle_rules.specs.TypedRules.{TypedIfLet, TypedRule}
use Rattle.isle_rules.specs.Terms.{has_rules_kind}
use Rattle.isle_rules.specs.Shown.ShownRules.{greatest, greatest_of_values}
use Rattle.isle_rules.specs.Shown.TermTables.{TermTables}

abbrev mutual
  -- how deep a typed pattern is: one more than the deepest below it
  pub typed_depth : TypedPattern → ℕ
  typed_depth (typed_bind _ _ below) = typed_depth below + 1
  typed_depth (typed_var _ _) = 1
  typed_depth (typed_bool _ _) = 1
  typed_depth (typed_int _ _) = 1
  typed_depth (typed_prim _ _) = 1
  typed_depth (typed_term _ _ below) = deepest_typed below + 1
  typed_depth (typed_wildcard _) = 1
  typed_depth (typed_and _ below) = deepest_typed below + 1

  -- how deep the deepest of typed patterns is
  pub deepest_typed : TypedPatterns → ℕ
  deepest_typed no_typed = 0
  deepest_typed (more_typed first others) = max (typed_depth first) (deepest_typed others)

abbrev mutual
  -- how many nodes a typed pattern has
  pub typed_nodes : TypedPattern → ℕ
  typed_nodes (typed_bind _ _ below) = typed_nodes below + 1
  typed_nodes (typed_var _ _) = 1
  typed_nodes (typed_bool _ _) = 1
  typed_nodes (typed_int _ _) = 1
  typed_nodes (typed_prim _ _) = 1
  typed_nodes (typed_term _ _ below) = nodes_of_typed below + 1
  typed_nodes (typed_wildcard _) = 1
  typed_nodes (typed_and _ below) = nodes_of_typed below + 1

  -- how many nodes typed patterns have
  pub nodes_of_typed : TypedPatterns → ℕ
  nodes_of_typed no_typed = 0
  nodes_of_typed (more_typed first others) = typed_nodes first + nodes_of_typed others

abbrev mutual
  -- how deep a typed expression is: one more than the deepest below it, the values and the body of a `let`
  pub built_depth : TypedExpr → ℕ
  built_depth (built_term _ _ below) = deepest_built below + 1
  built_depth (built_var _ _) = 1
  built_depth (built_bool _ _) = 1
  built_depth (built_int _ _) = 1
  built_depth (built_prim _ _) = 1
  built_depth (built_let _ bindings body) = max (deepest_value bindings) (built_depth body) + 1

  -- how deep the deepest of typed expressions is
  pub deepest_built : TypedExprs → ℕ
  deepest_built no_built = 0
  deepest_built (more_built first others) = max (built_depth first) (deepest_built others)

  -- how deep the deepest value of a `let` is
  pub deepest_value : TypedBindings → ℕ
  deepest_value no_typed_bindings = 0
  deepest_value (more_typed_bindings _ _ val others) = max (built_depth val) (deepest_value others)

abbrev mutual
  -- how many nodes a typed expression has
  pub built_nodes : TypedExpr → ℕ
  built_nodes (built_term _ _ below) = nodes_of_built below + 1
  built_nodes (built_var _ _) = 1
  built_nodes (built_bool _ _) = 1
  built_nodes (built_int _ _) = 1
  built_nodes (built_prim _ _) = 1
  built_nodes (built_let _ bindings body) = nodes_of_values bindings + built_nodes body + 1

  -- how many nodes typed expressions have
  pub nodes_of_built : TypedExprs → ℕ
  nodes_of_built no_built = 0
  nodes_of_built (more_built first others) = built_nodes first + nodes_of_built others

  -- how many nodes the values of a `let` have
  pub nodes_of_values : TypedBindings → ℕ
  nodes_of_values no_typed_bindings = 0
  nodes_of_values (more_typed_bindings _ _ val others) = built_nodes val + nodes_of_values others

-- how deep the deepest pattern or value of typed conditions is
abbrev pub deepest_condition : List TypedIfLet → ℕ
deepest_condition [] = 0
deepest_condition (first ∷ others) = max (max (typed_depth first.pattern) (built_depth first.value)) (deepest_condition others)

-- how many nodes typed conditions have
abbrev pub nodes_of_conditions : List TypedIfLet → ℕ
nodes_of_conditions [] = 0
nodes_of_conditions (first ∷ others) = typed_nodes first.pattern + built_nodes first.value + nodes_of_conditions others

-- how many nodes a typed rule has
abbrev pub typed_rule_nodes : TypedRule → ℕ
typed_rule_nodes rule = nodes_of_typed rule.args + nodes_of_conditions rule.iflets + built_nodes rule.right

-- A typed rule is within what so many levels and nodes make. A name that binds counts as one node of one level, and makes two: the
-- variable, and the wildcard below it.
pub record IsWithinSizes (levels most : ℕ) (rule : TypedRule) : Type 0 where
  pub args : deepest_typed rule.args ≤ levels + 1
  pub iflets : deepest_condition rule.iflets ≤ levels + 1
  pub right : built_depth rule.right ≤ levels + 1
  pub nodes : typed_rule_nodes rule ≤ 2 * most

-- some numbers together
abbrev pub total : List ℕ → ℕ
total [] = 0
total (first ∷ others) = first + total others

-- one node of a pattern, where these are the depths below it
abbrev pub pattern_depth_step : Pattern-F ℕ → ℕ
pattern_depth_step (BindPattern ty var below) = below + 1
pattern_depth_step (PatternVar ty var) = 1
pattern_depth_step (PatternBool ty val) = 1
pattern_depth_step (PatternInt ty val) = 1
pattern_depth_step (PatternPrim ty name) = 1
pattern_depth_step (PatternTerm ty term args) = greatest args + 1
pattern_depth_step (Wildcard ty) = 1
pattern_depth_step (And ty below) = greatest below + 1

-- how deep a pattern is
abbrev pub pattern_depth : Pattern → ℕ
pattern_depth = fold-Pattern ℕ pattern_depth_step

-- one node of a pattern, where these are the counts of nodes below it
abbrev pub pattern_nodes_step : Pattern-F ℕ → ℕ
pattern_nodes_step (BindPattern ty var below) = below + 1
pattern_nodes_step (PatternVar ty var) = 1
pattern_nodes_step (PatternBool ty val) = 1
pattern_nodes_step (PatternInt ty val) = 1
pattern_nodes_step (PatternPrim ty name) = 1
pattern_nodes_step (PatternTerm ty term args) = total args + 1
pattern_nodes_step (Wildcard ty) = 1
pattern_nodes_step (And ty below) = total below + 1

-- how many nodes a pattern has
abbrev pub pattern_nodes : Pattern → ℕ
pattern_nodes = fold-Pattern ℕ pattern_nodes_step

-- one node of an expression, where these are the depths below it
abbrev pub expr_depth_step : Expr-F ℕ → ℕ
expr_depth_step (Term ty term args) = greatest args + 1
expr_depth_step (Var ty var) = 1
expr_depth_step (ConstBool ty val) = 1
expr_depth_step (ConstInt ty val) = 1
expr_depth_step (ConstPrim ty name) = 1
expr_depth_step (Let ty bindings body) = max (greatest_of_values bindings) body + 1

-- how deep an expression is
abbrev pub expr_depth : Expr → ℕ
expr_depth = fold-Expr ℕ expr_depth_step

-- the numbers of a `let`'s values together
abbrev pub total_of_values : List (VarId × TypeId × ℕ) → ℕ
total_of_values [] = 0
total_of_values (first ∷ others) = first.2 + total_of_values others

-- one node of an expression, where these are the counts of nodes below it
abbrev pub expr_nodes_step : Expr-F ℕ → ℕ
expr_nodes_step (Term ty term args) = total args + 1
expr_nodes_step (Var ty var) = 1
expr_nodes_step (ConstBool ty val) = 1
expr_nodes_step (ConstInt ty val) = 1
expr_nodes_step (ConstPrim ty name) = 1
expr_nodes_step (Let ty bindings body) = total_of_values bindings + body + 1

-- how many nodes an expression has
abbrev pub expr_nodes : Expr → ℕ
expr_nodes = fold-Expr ℕ expr_nodes_step

-- how many nodes a condition has
abbrev pub iflet_nodes : IfLet → ℕ
iflet_nodes iflet = pattern_nodes iflet.lhs + expr_nodes iflet.rhs

-- how many nodes a rule has
abbrev pub rule_nodes : Rule → ℕ
rule_nodes rule = total (map pattern_nodes rule.args) + total (map iflet_nodes rule.iflets) + expr_nodes rule.rhs

-- a rule's arguments, conditions and right side are at most so deep, and together have at most so many nodes
pub record HasSizes (depth most : ℕ) (rule : Rule) : Type 0 where
  pub args : All (λ (pattern : Pattern). pattern_depth pattern ≤ depth) rule.args
  pub patterns : All (λ (iflet : IfLet). pattern_depth iflet.lhs ≤ depth) rule.iflets
  pub values : All (λ (iflet : IfLet). expr_depth iflet.rhs ≤ depth) rule.iflets
  pub right : expr_depth rule.rhs ≤ depth
  pub nodes : rule_nodes rule ≤ most

-- the root of a rule is a term with rules, of as many arguments
pub record FitsItsTerm (env : TermTables) (rule : Rule) : Type 0 where
  pub term : KnownTerm
  pub root : slice_get env.terms rule.root_term.0 ≡ Some term
  pub ruled : has_rules_kind term.kind ≡ true
  pub arity : length rule.args ≡ length term.arg_tys

-- each rule of an environment stands at the place of its number, and fits its term
pub record HasFittingRules (env : TermTables) : Type 0 where
  pub numbered : CountUp (λ (rule : Rule). rule.id.0) 0 env.rules
  pub fitting : All (FitsItsTerm env) env.rules
