-- What is ill typed is so at a position of the trees: at the node's own, and for a variable of a `let` at its type's.
use Rattle.std.proofs.Common.{◌≡◌, ℕ, zero, suc, inl, inr, true, false, List, [], ◌∷◌, Option, None, Some, refl, sym, subst, slice_get}
use Rattle.std.proofs.Common.{option_map, cond, Bool}
use Rattle.std.specs.Prelude.{All}
use Rattle.std.proofs.lemmas.Option.{none-some, same_Some}
use Rattle.std.proofs.lemmas.List.Elements.{All-head, All-tail}
use Rattle.isle_ast.specs.declared.ast.IfLet.{IfLet}
use Rattle.isle_ast.specs.declared.ast.Rule.{Rule}
use Rattle.isle_ast.specs.declared.pos.Pos.{Pos}
use Rattle.isle_ast.specs.Positions.DefPositions.{PatternTreeAt, PatternTreesAt, ExprTreeAt, ExprTreesAt, LetTreesAt, IfLetAt, RuleAt}
use Rattle.isle_ast.specs.Trees.PatternTree.{PatternTree, PatternTrees, pattern_var, pattern_bind, pattern_bool, pattern_int, pattern_prim}
use Rattle.isle_ast.specs.Trees.PatternTree.{pattern_term, pattern_wildcard, pattern_and, pattern_macro_arg, no_patterns, more_patterns}
use Rattle.isle_ast.specs.Trees.PatternTree.{pattern_pos}
use Rattle.isle_ast.specs.Trees.PatternShape.{pattern_of}
use Rattle.isle_ast.specs.Trees.ExprTree.{ExprTree, ExprTrees, LetTrees, expr_term, expr_var, expr_bool, expr_int, expr_prim, expr_let}
use Rattle.isle_ast.specs.Trees.ExprTree.{no_exprs, more_exprs, no_lets, more_lets, expr_pos}
use Rattle.isle_ast.specs.Trees.ExprShape.{expr_of}
use Rattle.isle_ast.specs.Trees.Templates.{filled, all_filled, more_given}
use Rattle.isle_types.specs.Environment.{Environment}
use Rattle.isle_rules.specs.Signatures.{Flags, Signature, Declared, template_of, put_in_for}
use Rattle.isle_rules.specs.Elaboration.{State, counted, bound, listed, each_at, PatternJudgement, Elaborates, ExprJudgement, Builds, on_lhs}
use Rattle.isle_terms.specs.Reaching.{PatternFact, ExprFact, SomePattern, TakenApart, BelowPattern, ReachesPattern, SomeExpr, SomeValue, BelowExpr}
use Rattle.isle_terms.specs.Reaching.{ReachesExpr}
use Rattle.isle_terms.specs.IllTyped.{IsIllPattern, HasUnknownType, IsIllExpr}
use Rattle.isle_terms.specs.RuleReaching.{HasRoot, SomeCondition, ReachesInRule, in_argument, in_condition, in_right, IllPatternAt, IllExprAt}
use Rattle.isle_terms.specs.RuleReaching.{IsIllRule, other_number_of_arguments, priority_of_multi, ill_node}

-- an ill-typed pattern is so where it stands
pub ill_pattern_pos : (declared : Declared) (R : PatternJudgement) (at : Pos) (t : PatternTree) (ty : ℕ) (s : State)
    → IsIllPattern declared R at t ty s → at ≡ pattern_pos t
ill_pattern_pos declared R at (pattern_var name pos) ty s h = h.3
ill_pattern_pos declared R at (pattern_bind name below pos) ty s h = h.4
ill_pattern_pos declared R at (pattern_bool val pos) ty s h = h.1
ill_pattern_pos declared R at (pattern_int val big pos) ty s h = h.1
ill_pattern_pos declared R at (pattern_prim name pos) ty s h = h.1
ill_pattern_pos declared R at (pattern_term name args pos) ty s h = h.1
ill_pattern_pos declared R at (pattern_wildcard pos) ty s h = absurd h
ill_pattern_pos declared R at (pattern_and below pos) ty s h = absurd h
ill_pattern_pos declared R at (pattern_macro_arg place pos) ty s h = h

module _ (At : Pos → Type 0) where
  -- the positions in the templates of terms
  abbrev pub TemplatesAt : Declared → Type 0
  TemplatesAt declared = (number : ℕ) (term : Signature) (template : PatternTree) → slice_get declared.terms number ≡ Some term
      → template_of term.form ≡ Some template → PatternTreeAt At template

  -- where a pattern stands
  pub pattern_pos_at : (t : PatternTree) → PatternTreeAt At t → At (pattern_pos t)
  pattern_pos_at (pattern_var name pos) h = h.1
  pattern_pos_at (pattern_bind name below pos) h = h.2
  pattern_pos_at (pattern_bool val pos) h = h
  pattern_pos_at (pattern_int val big pos) h = h
  pattern_pos_at (pattern_prim name pos) h = h.1
  pattern_pos_at (pattern_term name args pos) h = h.2
  pattern_pos_at (pattern_wildcard pos) h = h
  pattern_pos_at (pattern_and below pos) h = h.1
  pattern_pos_at (pattern_macro_arg place pos) h = h

  -- those of a list's patterns
  listed_at : (ts : PatternTrees) → PatternTreesAt At ts → (place : ℕ) (t : PatternTree) → slice_get (listed ts) place ≡ Some t → PatternTreeAt At t
  listed_at no_patterns h place t is = absurd (none-some t is)
  listed_at (more_patterns first others) h zero t is = subst (PatternTreeAt At) (same_Some first t is) h.0
  listed_at (more_patterns first others) h (suc place) t is = listed_at others h.1 place t is

  -- a body that is put in is made of its template and its arguments
  module _ (given : List PatternTree) (each : (place : ℕ) (t : PatternTree) → slice_get given place ≡ Some t → PatternTreeAt At t) where
    -- each position of what is filled is such a one
    abbrev FilledAt : Option PatternTree → Type 0
    FilledAt o = (body : PatternTree) → o ≡ Some body → PatternTreeAt At body

    -- the same of several
    abbrev AllFilledAt : Option PatternTrees → Type 0
    AllFilledAt o = (bodies : PatternTrees) → o ≡ Some bodies → PatternTreesAt At bodies

    -- a node that stays
    as_it_is : (t : PatternTree) → PatternTreeAt At t → FilledAt (Some t)
    as_it_is t h body is = subst (PatternTreeAt At) (same_Some t body is) h

    -- a node around one that is filled
    around : (o : Option PatternTree) (f : PatternTree → PatternTree) → FilledAt o → ((t : PatternTree) → PatternTreeAt At t → PatternTreeAt At (f t))
        → FilledAt (option_map f o)
    around None f h put body is = absurd (none-some body is)
    around (Some t) f h put body is = subst (PatternTreeAt At) (same_Some (f t) body is) (put t (h t refl))

    -- a node around several that are filled
    around_all : (o : Option PatternTrees) (f : PatternTrees → PatternTree) → AllFilledAt o
        → ((ts : PatternTrees) → PatternTreesAt At ts → PatternTreeAt At (f ts)) → FilledAt (option_map f o)
    around_all None f h put body is = absurd (none-some body is)
    around_all (Some ts) f h put body is = subst (PatternTreeAt At) (same_Some (f ts) body is) (put ts (h ts refl))

    -- one more that is filled
    one_more : (o : Option PatternTree) (os : Option PatternTrees) → FilledAt o → AllFilledAt os → AllFilledAt (more_given o os)
    one_more None os h k bodies is = absurd (none-some bodies is)
    one_more (Some t) None h k bodies is = absurd (none-some bodies is)
    one_more (Some t) (Some ts) h k bodies is = subst (PatternTreesAt At) (same_Some (more_patterns t ts) bodies is) (h t refl, k ts refl)

    -- a filled template
    mutual
      filled_at : (template : PatternTree) → PatternTreeAt At template → FilledAt (filled given template)
      filled_at (pattern_var name pos) h = as_it_is (pattern_var name pos) h
      filled_at (pattern_bind name below pos) h =
          around (filled given below) (λ t. pattern_bind name t pos) (filled_at below h.1) (λ t k. (h.0, k, h.2))
      filled_at (pattern_bool val pos) h = as_it_is (pattern_bool val pos) h
      filled_at (pattern_int val big pos) h = as_it_is (pattern_int val big pos) h
      filled_at (pattern_prim name pos) h = as_it_is (pattern_prim name pos) h
      filled_at (pattern_term name args pos) h =
          around_all (all_filled given args) (λ ts. pattern_term name ts pos) (all_filled_at args h.1) (λ ts k. (h.0, k, h.2))
      filled_at (pattern_wildcard pos) h = as_it_is (pattern_wildcard pos) h
      filled_at (pattern_and below pos) h =
          around_all (all_filled given below) (λ ts. pattern_and ts pos) (all_filled_at below h.0) (λ ts k. (k, h.1))
      filled_at (pattern_macro_arg place pos) h = each place

      all_filled_at : (templates : PatternTrees) → PatternTreesAt At templates → AllFilledAt (all_filled given templates)
      all_filled_at no_patterns h = λ bodies is. subst (PatternTreesAt At) (same_Some no_patterns bodies is) tt
      all_filled_at (more_patterns first others) h =
          one_more (filled given first) (all_filled given others) (filled_at first h.0) (all_filled_at others h.1)

  -- an ill-typed node below a pattern stands at a position of its trees
  module _ (declared : Declared) (templates : TemplatesAt declared) (at : Pos) (R : PatternJudgement) (P : PatternFact)
      (there : (t : PatternTree) (ty : ℕ) (s : State) → PatternTreeAt At t → P t ty s → At at) where
    -- in one of some patterns
    pub some_pattern_at : (ts : PatternTrees) (tys : List ℕ) (s : State) → PatternTreesAt At ts → SomePattern R P ts tys s → At at
    some_pattern_at no_patterns tys s all h = absurd h
    some_pattern_at (more_patterns t ts) [] s all h = absurd h
    some_pattern_at (more_patterns t ts) (ty ∷ tys) s all (inl h) = there t ty s all.0 h
    some_pattern_at (more_patterns t ts) (ty ∷ tys) s all (inr h) = some_pattern_at ts tys h.1 all.1 h.3

    -- in a part of a use
    taken_at : (term : Signature) (template : Option PatternTree) (args : PatternTrees) (ty : ℕ) (s : State)
        → ((t : PatternTree) → template ≡ Some t → PatternTreeAt At t) → PatternTreesAt At args → TakenApart R P term template args ty s → At at
    taken_at term None args ty s made all h = some_pattern_at args term.args s all h
    taken_at term (Some template) args ty s made all h =
        there h.0 ty s (filled_at (listed args) (listed_at args all) template (made template refl) h.0 h.1) h.2

    -- the template that is put in is the term's
    put_in_at : (expands : Bool) (o : Option PatternTree) → ((t : PatternTree) → o ≡ Some t → PatternTreeAt At t) → (t : PatternTree)
        → cond expands o None ≡ Some t → PatternTreeAt At t
    put_in_at true o made t is = made t is
    put_in_at false o made t is = absurd (none-some t is)

    -- in what stands one level below
    below_pattern_at : (t : PatternTree) (ty : ℕ) (s : State) → PatternTreeAt At t → BelowPattern declared R P t ty s → At at
    below_pattern_at (pattern_var name pos) ty s all h = absurd h
    below_pattern_at (pattern_bind name below pos) ty s all h = there below ty s all.1 h
    below_pattern_at (pattern_bool val pos) ty s all h = absurd h
    below_pattern_at (pattern_int val big pos) ty s all h = absurd h
    below_pattern_at (pattern_prim name pos) ty s all h = absurd h
    below_pattern_at (pattern_term name args pos) ty s all h = elim h.4 [
      | inl part ↦ taken_at h.1 (put_in_for declared h.1) args ty s
          (put_in_at declared.expands (template_of h.1.form) (λ t is. templates h.0 h.1 t h.3 is)) all.1 part.3
      | inr part ↦ there (pattern_term (part.0, pos) (more_patterns (pattern_term name args pos) no_patterns) pos) ty s
          (all.2, (all, tt), all.2) part.5
    ]
    below_pattern_at (pattern_wildcard pos) ty s all h = absurd h
    below_pattern_at (pattern_and below pos) ty s all h = some_pattern_at below (each_at ty below) s all.0 h
    below_pattern_at (pattern_macro_arg place pos) ty s all h = absurd h

  -- where a pattern is ill typed is a position of its trees
  pub ill_pattern_at : (declared : Declared) → TemplatesAt declared → (at : Pos) (levels : ℕ) (t : PatternTree) (ty : ℕ) (s : State)
      → PatternTreeAt At t → ReachesPattern declared (IllPatternAt declared at) levels t ty s → At at
  ill_pattern_at declared templates at zero t ty s all h = absurd h
  ill_pattern_at declared templates at (suc levels) t ty s all (inl h) =
      subst At (sym (ill_pattern_pos declared (Elaborates declared levels) at t ty (counted s) h)) (pattern_pos_at t all)
  ill_pattern_at declared templates at (suc levels) t ty s all (inr h) =
      below_pattern_at declared templates at (Elaborates declared levels) (ReachesPattern declared (IllPatternAt declared at) levels)
      (λ t ty s. ill_pattern_at declared templates at levels t ty s) t ty (counted s) all h

  -- the type of a variable is unknown where it stands
  unknown_type_at : (types : Environment) (R : ExprJudgement) (at : Pos) (defs : LetTrees) (s : State) → LetTreesAt At defs
      → HasUnknownType types R at defs s → At at
  unknown_type_at types R at no_lets s all h = absurd h
  unknown_type_at types R at (more_lets var of_type val pos others) s all (inl h) = subst At (sym h.1) all.1
  unknown_type_at types R at (more_lets var of_type val pos others) s all (inr h) =
      unknown_type_at types R at others (bound h.2 var.0 h.0) all.4 h.5

  -- an ill-typed expression is so where it stands, or at the type of one of its variables
  pub ill_expr_node_at : (declared : Declared) (caller : Flags) (R : ExprJudgement) (at : Pos) (e : ExprTree) (want : Option ℕ) (s : State)
      → ExprTreeAt At e → IsIllExpr declared caller R at e want s → At at
  ill_expr_node_at declared caller R at (expr_int val big pos) want s all h = subst At (sym h.1) all
  ill_expr_node_at declared caller R at (expr_bool val pos) want s all h = subst At (sym h.1) all
  ill_expr_node_at declared caller R at (expr_prim name pos) want s all h = subst At (sym h.1) all.1
  ill_expr_node_at declared caller R at (expr_var name pos) want s all h = subst At (sym h.1) all.1
  ill_expr_node_at declared caller R at (expr_term name args pos) want s all h = subst At (sym h.1) all.2
  ill_expr_node_at declared caller R at (expr_let defs body pos) want s all h = unknown_type_at declared.types R at defs s all.0 h

  -- an ill-typed node below an expression stands at a position of its trees
  module _ (declared : Declared) (caller : Flags) (at : Pos) (R : ExprJudgement) (P : ExprFact)
      (there : (e : ExprTree) (want : Option ℕ) (s : State) → ExprTreeAt At e → P e want s → At at) where
    -- in one of some expressions
    some_expr_at : (ts : ExprTrees) (tys : List ℕ) (s : State) → ExprTreesAt At ts → SomeExpr R P ts tys s → At at
    some_expr_at no_exprs tys s all h = absurd h
    some_expr_at (more_exprs t ts) [] s all h = absurd h
    some_expr_at (more_exprs t ts) (ty ∷ tys) s all (inl h) = there t (Some ty) s all.0 h
    some_expr_at (more_exprs t ts) (ty ∷ tys) s all (inr h) = some_expr_at ts tys h.1 all.1 h.3

    -- in one of a `let`'s values
    some_value_at : (types : Environment) (defs : LetTrees) (s : State) → LetTreesAt At defs → SomeValue types R P defs s → At at
    some_value_at types no_lets s all h = absurd h
    some_value_at types (more_lets var of_type val pos others) s all h = elim h.2 [
      | inl here ↦ there val (Some h.0) s all.2 here
      | inr later ↦ some_value_at types others (bound later.1 var.0 h.0) all.4 later.3
    ]

    -- in what stands one level below
    below_expr_at : (e : ExprTree) (want : Option ℕ) (s : State) → ExprTreeAt At e → BelowExpr declared caller R P e want s → At at
    below_expr_at (expr_int val big pos) want s all h = absurd h
    below_expr_at (expr_bool val pos) want s all h = absurd h
    below_expr_at (expr_prim name pos) want s all h = absurd h
    below_expr_at (expr_var name pos) want s all h =
        let part = h.2 in
        there (expr_term (part.1, pos) (more_exprs (expr_var name pos) no_exprs) pos) want s (all.1, (all, tt), all.1) part.7
    below_expr_at (expr_term name args pos) want s all h = elim h.4 [
      | inl part ↦ some_expr_at args h.1.args s all.1 part.4
      | inr part ↦ there (expr_term (part.1, pos) (more_exprs (expr_term name args pos) no_exprs) pos) want s (all.2, (all, tt), all.2) part.7
    ]
    below_expr_at (expr_let defs body pos) want s all (inl h) = some_value_at declared.types defs s all.0 h
    below_expr_at (expr_let defs body pos) want s all (inr h) = there body want h.1 all.1 h.3

  -- where an expression is ill typed is a position of its trees
  pub ill_expr_at : (declared : Declared) (caller : Flags) (at : Pos) (levels : ℕ) (e : ExprTree) (want : Option ℕ) (s : State)
      → ExprTreeAt At e → ReachesExpr declared caller (IllExprAt declared at caller) levels e want s → At at
  ill_expr_at declared caller at zero e want s all h = absurd h
  ill_expr_at declared caller at (suc levels) e want s all (inl h) =
      ill_expr_node_at declared caller (Builds declared caller levels) at e want (counted s) all h
  ill_expr_at declared caller at (suc levels) e want s all (inr h) =
      below_expr_at declared caller at (Builds declared caller levels) (ReachesExpr declared caller (IllExprAt declared at caller) levels)
      (λ e want s. ill_expr_at declared caller at levels e want s) e want (counted s) all h

  -- where a condition is ill typed is a position of it
  ill_condition_at : (declared : Declared) → TemplatesAt declared → (caller : Flags) (at : Pos) (levels : ℕ) (trees : List IfLet) (s : State)
      → All (IfLetAt At) trees → SomeCondition declared caller (IllPatternAt declared at) (IllExprAt declared at caller) levels trees s → At at
  ill_condition_at declared templates caller at levels [] s all h = absurd h
  ill_condition_at declared templates caller at levels (first ∷ others) s all h =
      let here = All-head (IfLetAt At) first others all in
      elim h [
        | inl value ↦ ill_expr_at declared caller at levels (expr_of first.expr) None s here.expr value
        | inr later ↦ elim later.3 [
          | inl pattern ↦ ill_pattern_at declared templates at levels (pattern_of first.pattern) _ later.1 here.pattern pattern
          | inr rest ↦ ill_condition_at declared templates caller at levels others rest.1 (All-tail (IfLetAt At) first others all) rest.3
        ]
      ]

  -- the positions in a rule's arguments
  args_at : (declared : Declared) (tree : Rule) (term : Signature) (flags : Flags) (args : PatternTrees) → HasRoot declared tree term flags args
      → RuleAt At tree → PatternTreesAt At args
  args_at declared tree term flags args root all = let parts = subst (PatternTreeAt At) root.shape all.pattern in parts.1

  -- where a rule's node is ill typed
  ill_node_at : (declared : Declared) → TemplatesAt declared → (levels : ℕ) (tree : Rule) (at : Pos) → RuleAt At tree
      → ReachesInRule declared (IllPatternAt declared at) (IllExprAt declared at) levels tree → At at
  ill_node_at declared templates levels tree at all (in_argument term flags args root h) =
      some_pattern_at declared templates at (Elaborates declared levels) (ReachesPattern declared (IllPatternAt declared at) levels)
      (λ t ty s. ill_pattern_at declared templates at levels t ty s) args term.args _ (args_at declared tree term flags args root all) h
  ill_node_at declared templates levels tree at all (in_condition term flags args us matched root left h) =
      ill_condition_at declared templates (on_lhs flags) at levels tree.iflets matched all.iflets h
  ill_node_at declared templates levels tree at all (in_right term flags args us matched iflets met root left asked h) =
      ill_expr_at declared flags at levels (expr_of tree.expr) (Some term.ret) met all.expr h

  -- where a rule is ill typed is a position of it, or of a template
  pub ill_rule_at : (declared : Declared) → TemplatesAt declared → (levels : ℕ) (tree : Rule) (at : Pos) → RuleAt At tree
      → IsIllRule declared levels tree at → At at
  ill_rule_at declared templates levels tree _ all (other_number_of_arguments term flags args root other) =
      pattern_pos_at (pattern_of tree.pattern) all.pattern
  ill_rule_at declared templates levels tree _ all (priority_of_multi term flags args root multi prio) = all.pos
  ill_rule_at declared templates levels tree at all (ill_node _ h) = ill_node_at declared templates levels tree at all h
