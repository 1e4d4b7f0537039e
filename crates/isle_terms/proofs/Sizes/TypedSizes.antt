-- What trees stand for is within sizes.
use Rattle.std.proofs.Common.{◌≡◌, ℕ, zero, suc, ◌+◌, ◌*◌, ◌≤◌, inl, inr, List, [], ◌∷◌, Option, None, Some, ap, arith}
use Rattle.isle_ast.specs.declared.ast.IfLet.{IfLet}
use Rattle.isle_ast.specs.declared.ast.Rule.{Rule}
use Rattle.isle_ast.specs.Trees.PatternTree.{PatternTree, PatternTrees, pattern_var, pattern_bind, pattern_bool, pattern_int, pattern_prim}
use Rattle.isle_ast.specs.Trees.PatternTree.{pattern_term, pattern_wildcard, pattern_and, pattern_macro_arg, no_patterns, more_patterns}
use Rattle.isle_ast.specs.Trees.ExprTree.{ExprTree, ExprTrees, LetTrees, expr_term, expr_var, expr_bool, expr_int, expr_prim, expr_let}
use Rattle.isle_ast.specs.Trees.ExprTree.{no_exprs, more_exprs, no_lets, more_lets}
use Rattle.isle_types.specs.Environment.{Environment}
use Rattle.isle_rules.specs.TypedRules.{TypedPattern, TypedPatterns, TypedExpr, TypedExprs, TypedBindings, TypedIfLet, TypedRule}
use Rattle.isle_rules.specs.Signatures.{Flags, Signature, Declared, put_in_for}
use Rattle.isle_rules.specs.Elaboration.{State, counted, start, each_at, PatternJudgement, EachPattern, TakesApart, PatternNode, Elaborates, on_lhs}
use Rattle.isle_rules.specs.Elaboration.{ExprJudgement, EachExpr, Binds, ExprNode, Builds, Conditions, ElaboratesRule}
use Rattle.isle_terms.specs.Sizes.{typed_depth, deepest_typed, typed_nodes, nodes_of_typed, built_depth, deepest_built, deepest_value}
use Rattle.isle_terms.specs.Sizes.{built_nodes, nodes_of_built, nodes_of_values, deepest_condition, nodes_of_conditions, IsWithinSizes}

-- a judgement makes patterns at most so deep, with at most two nodes for each that is counted
pub record MakesSmall (limit : ℕ) (R : PatternJudgement) : Type 0 where
  pub depth : (t : PatternTree) (ty : ℕ) (s : State) (u : TypedPattern) (s' : State) → R t ty s u s' → typed_depth u ≤ limit
  pub nodes : (t : PatternTree) (ty : ℕ) (s : State) (u : TypedPattern) (s' : State) → R t ty s u s'
      → typed_nodes u + 2 * s.nodes ≤ 2 * s'.nodes

module _ (limit : ℕ) (some : 1 ≤ limit) (R : PatternJudgement) (c : MakesSmall limit R) where
  -- the deepest of patterns, and their nodes
  pub each_small : (ts : PatternTrees) (tys : List ℕ) (s : State) (us : TypedPatterns) (s' : State) → EachPattern R ts tys s us s'
      → (deepest_typed us ≤ limit) × (nodes_of_typed us + 2 * s.nodes ≤ 2 * s'.nodes)
  each_small no_patterns [] s us s' h =
      let d = ap deepest_typed h.0 in let n = ap nodes_of_typed h.0 in let e = ap (λ (z : State). z.nodes) h.1 in
      (omega arith, omega arith)
  each_small no_patterns (ty ∷ tys) s us s' h = absurd h
  each_small (more_patterns t ts) [] s us s' h = absurd h
  each_small (more_patterns t ts) (ty ∷ tys) s us s' h =
      let deep = c.depth t ty s h.0 h.1 h.3 in let size = c.nodes t ty s h.0 h.1 h.3 in
      let others = each_small ts tys h.1 h.2 s' h.4 in let below = others.0 in let rest = others.1 in
      let d = ap deepest_typed h.5 in let n = ap nodes_of_typed h.5 in
      (omega arith, omega arith)

  -- one node, which is counted before it
  abbrev NodeSmall : State → TypedPattern → State → Type 0
  NodeSmall s u s' = (typed_depth u ≤ limit + 1) × (typed_nodes u + 2 * s.nodes ≤ 2 * s'.nodes + 2)

  -- a node with none below it
  leaf_small : (s : State) (u v : TypedPattern) (s' : State) → u ≡ v → typed_depth v ≤ 1 → typed_nodes v ≤ 1 → s' ≡ s → NodeSmall s u s'
  leaf_small s u v s' is deep size same =
      let d = ap typed_depth is in let n = ap typed_nodes is in let e = ap (λ (z : State). z.nodes) same in (omega arith, omega arith)

  -- a repaired or put in pattern
  deeper_small : (t : PatternTree) (ty : ℕ) (s : State) (u : TypedPattern) (s' : State) → R t ty s u s' → NodeSmall s u s'
  deeper_small t ty s u s' h = let deep = c.depth t ty s u s' h in let size = c.nodes t ty s u s' h in (omega arith, omega arith)

  taken_small : (term : Signature) (number : ℕ) (template : Option PatternTree) (args : PatternTrees) (ty : ℕ) (s : State) (u : TypedPattern)
      (s' : State) → TakesApart R term number template args ty s u s' → NodeSmall s u s'
  taken_small term number None args ty s u s' h =
      let each = each_small args term.args s h.0 s' h.1 in let below = each.0 in let size = each.1 in
      let d = ap typed_depth h.2 in let n = ap typed_nodes h.2 in (omega arith, omega arith)
  taken_small term number (Some template) args ty s u s' h = deeper_small h.0 ty s u s' h.2

  node_small : (declared : Declared) (t : PatternTree) (ty : ℕ) (s : State) (u : TypedPattern) (s' : State)
      → PatternNode declared R t ty s u s' → NodeSmall s u s'
  node_small declared (pattern_var name pos) ty s u s' (inl h) =
      let d = ap typed_depth h.1 in let n = ap typed_nodes h.1 in let e = ap (λ (z : State). z.nodes) h.2 in (omega arith, omega arith)
  node_small declared (pattern_var name pos) ty s u s' (inr h) = leaf_small s u _ s' h.3 (omega arith) (omega arith) h.4
  node_small declared (pattern_bind name below pos) ty s u s' h =
      let deep = c.depth below ty s h.0 h.1 h.2 in let size = c.nodes below ty s h.0 h.1 h.2 in
      let d = ap typed_depth h.4 in let n = ap typed_nodes h.4 in let e = ap (λ (z : State). z.nodes) h.5 in (omega arith, omega arith)
  node_small declared (pattern_bool val pos) ty s u s' h = leaf_small s u _ s' h.1 (omega arith) (omega arith) h.2
  node_small declared (pattern_int val big pos) ty s u s' h = leaf_small s u _ s' h.1 (omega arith) (omega arith) h.2
  node_small declared (pattern_prim name pos) ty s u s' h = leaf_small s u _ s' h.1 (omega arith) (omega arith) h.2
  node_small declared (pattern_term name args pos) ty s u s' h = elim h.4 [
    | inl k ↦ taken_small h.1 h.0 (put_in_for declared h.1) args ty s u s' k.taken
    | inr k ↦ deeper_small _ ty s u s' k.repaired
  ]
  node_small declared (pattern_wildcard pos) ty s u s' h = leaf_small s u _ s' h.0 (omega arith) (omega arith) h.1
  node_small declared (pattern_and below pos) ty s u s' h =
      let each = each_small below (each_at ty below) s h.0 s' h.1 in let inside = each.0 in let size = each.1 in
      let d = ap typed_depth h.2 in let n = ap typed_nodes h.2 in (omega arith, omega arith)
  node_small declared (pattern_macro_arg place pos) ty s u s' h = absurd h

-- what a pattern stands for in so many levels
pub patterns_small : (declared : Declared) (levels : ℕ) → MakesSmall (levels + 1) (Elaborates declared levels)
patterns_small declared zero = record { depth = λ t ty s u s' h. absurd h; nodes = λ t ty s u s' h. absurd h }
patterns_small declared (suc levels) = record {
  depth = λ t ty s u s' h.
      let small = node_small (levels + 1) (omega arith) (Elaborates declared levels) (patterns_small declared levels) declared t ty (counted s) u
      s' h in
      let deep = small.0 in omega arith;
  nodes = λ t ty s u s' h.
      let small = node_small (levels + 1) (omega arith) (Elaborates declared levels) (patterns_small declared levels) declared t ty (counted s) u
      s' h in
      let size = small.1 in omega arith;
}

-- a judgement makes expressions at most so deep, with at most one node for each that is counted
pub record BuildsSmall (limit : ℕ) (R : ExprJudgement) : Type 0 where
  pub depth : (t : ExprTree) (want : Option ℕ) (s : State) (u : TypedExpr) (s' : State) → R t want s u s' → built_depth u ≤ limit
  pub nodes : (t : ExprTree) (want : Option ℕ) (s : State) (u : TypedExpr) (s' : State) → R t want s u s'
      → built_nodes u + s.nodes ≤ s'.nodes

module _ (limit : ℕ) (R : ExprJudgement) (c : BuildsSmall limit R) where
  -- the deepest of expressions, and their nodes
  each_built : (ts : ExprTrees) (tys : List ℕ) (s : State) (us : TypedExprs) (s' : State) → EachExpr R ts tys s us s'
      → (deepest_built us ≤ limit) × (nodes_of_built us + s.nodes ≤ s'.nodes)
  each_built no_exprs [] s us s' h =
      let d = ap deepest_built h.0 in let n = ap nodes_of_built h.0 in let e = ap (λ (z : State). z.nodes) h.1 in
      (omega arith, omega arith)
  each_built no_exprs (ty ∷ tys) s us s' h = absurd h
  each_built (more_exprs t ts) [] s us s' h = absurd h
  each_built (more_exprs t ts) (ty ∷ tys) s us s' h =
      let deep = c.depth t (Some ty) s h.0 h.1 h.3 in let size = c.nodes t (Some ty) s h.0 h.1 h.3 in
      let others = each_built ts tys h.1 h.2 s' h.4 in let below = others.0 in let rest = others.1 in
      let d = ap deepest_built h.5 in let n = ap nodes_of_built h.5 in
      (omega arith, omega arith)

  -- the deepest value of a `let`, and the nodes of its values
  values_built : (types : Environment) (defs : LetTrees) (s : State) (bs : TypedBindings) (s' : State) → Binds types R defs s bs s'
      → (deepest_value bs ≤ limit) × (nodes_of_values bs + s.nodes ≤ s'.nodes)
  values_built types no_lets s bs s' h =
      let d = ap deepest_value h.0 in let n = ap nodes_of_values h.0 in let e = ap (λ (z : State). z.nodes) h.1 in
      (omega arith, omega arith)
  values_built types (more_lets var of_type val pos others) s bs s' h =
      let deep = c.depth val (Some h.0) s h.1 h.2 h.5 in let size = c.nodes val (Some h.0) s h.1 h.2 h.5 in
      let more = values_built types others _ h.3 s' h.6 in let below = more.0 in let rest = more.1 in
      let d = ap deepest_value h.7 in let n = ap nodes_of_values h.7 in
      (omega arith, omega arith)

  -- one node, which is counted before it
  abbrev NodeBuilt : State → TypedExpr → State → Type 0
  NodeBuilt s u s' = (built_depth u ≤ limit + 1) × (built_nodes u + s.nodes ≤ s'.nodes + 1)

  -- a node with none below it
  leaf_built : (s : State) (u v : TypedExpr) (s' : State) → u ≡ v → built_depth v ≤ 1 → built_nodes v ≤ 1 → s' ≡ s → NodeBuilt s u s'
  leaf_built s u v s' is deep size same =
      let d = ap built_depth is in let n = ap built_nodes is in let e = ap (λ (z : State). z.nodes) same in (omega arith, omega arith)

  -- a repaired expression
  deeper_built : (t : ExprTree) (want : Option ℕ) (s : State) (u : TypedExpr) (s' : State) → R t want s u s' → NodeBuilt s u s'
  deeper_built t want s u s' h = let deep = c.depth t want s u s' h in let size = c.nodes t want s u s' h in (omega arith, omega arith)

  node_built : (declared : Declared) (caller : Flags) (t : ExprTree) (want : Option ℕ) (s : State) (u : TypedExpr) (s' : State)
      → ExprNode declared caller R t want s u s' → NodeBuilt s u s'
  node_built declared caller (expr_int val big pos) want s u s' h = leaf_built s u _ s' h.3 (omega arith) (omega arith) h.4
  node_built declared caller (expr_bool val pos) want s u s' h = leaf_built s u _ s' h.1 (omega arith) (omega arith) h.2
  node_built declared caller (expr_prim name pos) want s u s' h = leaf_built s u _ s' h.3 (omega arith) (omega arith) h.4
  node_built declared caller (expr_var name pos) want s u s' h = elim h.2 [
    | inl k ↦ leaf_built s u _ s' k.1 (omega arith) (omega arith) k.2
    | inr k ↦ deeper_built _ want s u s' k.repaired
  ]
  node_built declared caller (expr_term name args pos) want s u s' h = elim h.4 [
    | inl k ↦ let each = each_built args h.1.args s k.values s' k.each in let below = each.0 in let size = each.1 in
        let d = ap built_depth k.made in let n = ap built_nodes k.made in (omega arith, omega arith)
    | inr k ↦ deeper_built _ want s u s' k.repaired
  ]
  node_built declared caller (expr_let defs body pos) want s u s' h =
      let values = values_built declared.types defs s h.0 h.1 h.4 in let below = values.0 in let sizes = values.1 in
      let deep = c.depth body want h.1 h.2 h.3 h.5 in let size = c.nodes body want h.1 h.2 h.3 h.5 in
      let d = ap built_depth h.6 in let n = ap built_nodes h.6 in let e = ap (λ (z : State). z.nodes) h.7 in (omega arith, omega arith)

-- what an expression stands for in so many levels
pub exprs_small : (declared : Declared) (caller : Flags) (levels : ℕ) → BuildsSmall levels (Builds declared caller levels)
exprs_small declared caller zero = record { depth = λ t want s u s' h. absurd h; nodes = λ t want s u s' h. absurd h }
exprs_small declared caller (suc levels) = record {
  depth = λ t want s u s' h.
      let small = node_built levels (Builds declared caller levels) (exprs_small declared caller levels) declared caller t want (counted s) u s' h in
      let deep = small.0 in omega arith;
  nodes = λ t want s u s' h.
      let small = node_built levels (Builds declared caller levels) (exprs_small declared caller levels) declared caller t want (counted s) u s' h in
      let size = small.1 in omega arith;
}

-- what conditions stand for
conditions_small : (declared : Declared) (caller : Flags) (levels : ℕ) (trees : List IfLet) (s : State) (us : List TypedIfLet) (s' : State)
    → Conditions declared caller levels trees s us s'
    → (deepest_condition us ≤ levels + 1) × (nodes_of_conditions us + 2 * s.nodes ≤ 2 * s'.nodes)
conditions_small declared caller levels [] s us s' h =
    let d = ap deepest_condition h.0 in let n = ap nodes_of_conditions h.0 in let e = ap (λ (z : State). z.nodes) h.1 in
    (omega arith, omega arith)
conditions_small declared caller levels (first ∷ others) s us s' h =
    let exprs = exprs_small declared caller levels in
    let patterns = patterns_small declared levels in
    let value_depth = exprs.depth _ None s h.0 h.1 h.5 in
    let value_size = exprs.nodes _ None s h.0 h.1 h.5 in
    let pattern_depth = patterns.depth _ _ h.1 h.2 h.3 h.6 in
    let pattern_size = patterns.nodes _ _ h.1 h.2 h.3 h.6 in
    let more = conditions_small declared caller levels others h.3 h.4 s' h.7 in let below = more.0 in let rest = more.1 in
    let d = ap deepest_condition h.8 in let n = ap nodes_of_conditions h.8 in
    (omega arith, omega arith)

-- what a rule stands for
pub rule_small : (declared : Declared) (levels max : ℕ) (tree : Rule) (typed : TypedRule) → ElaboratesRule declared levels max tree typed
    → IsWithinSizes levels max typed
rule_small declared levels max tree typed h =
    let args = each_small (levels + 1) (omega arith) (Elaborates declared levels) (patterns_small declared levels) h.args h.term.args start
    typed.args h.matched h.left in
    let iflets = conditions_small declared (on_lhs h.flags) levels tree.iflets h.matched typed.iflets h.met h.conditions in
    let right_depth = (exprs_small declared h.flags levels).depth _ _ h.met typed.right h.done h.right in
    let right_size = (exprs_small declared h.flags levels).nodes _ _ h.met typed.right h.done h.right in
    let args_size = args.1 in let iflets_size = iflets.1 in let within = h.within in
    record { args = args.0; iflets = iflets.0; right = omega arith; nodes = omega arith }
