-- A completion that answers every pure call covers what has pure calls alone in its if-lets.
use Rattle.std.proofs.Common.{◌≡◌, ◌≢◌, ℕ, zero, suc, List, [], ◌∷◌, Bool, true, false, refl}
use Rattle.isle_rules.specs.TypedRules.{TypedPattern, typed_bind, typed_var, typed_bool, typed_int, typed_prim, typed_term, typed_wildcard}
use Rattle.isle_rules.specs.TypedRules.{typed_and, TypedPatterns, no_typed, more_typed, TypedExpr, built_var, built_bool, built_int}
use Rattle.isle_rules.specs.TypedRules.{built_prim, built_term, built_let, TypedExprs, no_built, more_built, TypedBindings, no_typed_bindings}
use Rattle.isle_rules.specs.TypedRules.{more_typed_bindings, TypedIfLet, TypedRule}
use Rattle.isle_meaning.specs.Facts.{TermShape, variant_shape, struct_shape, declared_shape, TermFacts}
use Rattle.isle_meaning.specs.Got.{Got, unknown, fails, gives}
use Rattle.isle_meaning.specs.Values.{Value, Values}
use Rattle.isle_meaning.specs.Answers.{Completion}
use Rattle.isle_meaning.specs.Sites.{Site, bool_site, int_site, prim_site, argument, extractor_call, constructor_call, iterator}
use Rattle.isle_meaning.specs.Sites.{make_variant, match_variant, make_struct, extract_struct, make_some, match_some, match_tuple}
use Rattle.isle_meaning.specs.Sites.{Sites, no_sites, more_sites}
use Rattle.isle_meaning.specs.Held.{several_of, extract_held, construct_held, IsAnswered, AreAnswered}
use Rattle.isle_meaning.specs.Demands.{args_bound}
use Rattle.isle_meaning.specs.Scopes.{Covers}
use Rattle.isle_meaning.specs.Laws.Calls.{CallOf, ExprCalls, ExprsCall, BindingsCall, PatternCalls, PatternsCall, IfLetsCall, IsTotal}
use Rattle.isle_meaning.proofs.Chains.Knowing.{extracted_known, constructed_known}
use Rattle.isle_meaning.proofs.Chains.Asks.{HaveNoSteps, Asks, AskAll, rule_asks, calls_all_map, iflets_map}

-- any term
abbrev pub any_term : ℕ → Type 0
any_term t = Unit {0}

module _ (facts : TermFacts) where
  -- a call is of any term
  any_call : (shape : TermShape) (t : ℕ) → CallOf any_term shape t
  any_call (variant_shape k) t = tt
  any_call struct_shape t = tt
  any_call declared_shape t = tt

  mutual
    -- so are those of an expression
    pub any_expr : (e : TypedExpr) → ExprCalls facts any_term e
    any_expr (built_var ty k) = tt
    any_expr (built_bool ty b) = tt
    any_expr (built_int ty n) = tt
    any_expr (built_prim ty n) = tt
    any_expr (built_term ty t es) = (any_call (facts.shape t) t, any_exprs es)
    any_expr (built_let ty bs body) = (any_bindings bs, any_expr body)

    -- of expressions
    any_exprs : (es : TypedExprs) → ExprsCall facts any_term es
    any_exprs no_built = tt
    any_exprs (more_built e es) = (any_expr e, any_exprs es)

    -- of bindings
    any_bindings : (bs : TypedBindings) → BindingsCall facts any_term bs
    any_bindings no_typed_bindings = tt
    any_bindings (more_typed_bindings k ty e bs) = (any_expr e, any_bindings bs)

  mutual
    -- a pattern takes values apart by any term
    any_pattern : (p : TypedPattern) → PatternCalls facts any_term p
    any_pattern (typed_bind ty k p) = any_pattern p
    any_pattern (typed_var ty k) = tt
    any_pattern (typed_bool ty b) = tt
    any_pattern (typed_int ty n) = tt
    any_pattern (typed_prim ty n) = tt
    any_pattern (typed_term ty t ps) = (any_call (facts.shape t) t, any_patterns ps)
    any_pattern (typed_wildcard ty) = tt
    any_pattern (typed_and ty ps) = any_patterns ps

    -- so do patterns
    pub any_patterns : (ps : TypedPatterns) → PatternsCall facts any_term ps
    any_patterns no_typed = tt
    any_patterns (more_typed p ps) = (any_pattern p, any_patterns ps)

  -- so do if-lets
  pub any_iflets : (xs : List TypedIfLet) → IfLetsCall facts any_term any_term xs
  any_iflets [] = tt
  any_iflets (x ∷ xs) = (any_expr x.value, any_pattern x.pattern, any_iflets xs)

  module _ (c : Completion) (total : IsTotal c) (args : Values) where
    -- known answers of a multi call are held
    several_known : (g : Got (List Values)) → g ≢ unknown → several_of g ≢ unknown
    several_known unknown h = λ e. h refl
    several_known fails h = λ e. cc
    several_known (gives l) h = λ e. cc

    -- an extractor's call is answered
    extract_known : (t : ℕ) (v : Value) → extract_held facts c t v ≢ unknown
    extract_known t v = go (facts.multi t) refl
      where
        go : (b : Bool) → facts.multi t ≡ b → extract_held facts c t v ≢ unknown
        go true e = rw e (several_known (c.extracts t v) (total.extracts t v))
        go false e = rw e (extracted_known (facts.infallible t) (c.extract t v) (total.extract t v))

    -- so is a constructor's
    construct_known : (t : ℕ) (vs : Values) → construct_held facts c [] t zero vs ≢ unknown
    construct_known t vs = go (facts.multi t) refl
      where
        go : (b : Bool) → facts.multi t ≡ b → construct_held facts c [] t zero vs ≢ unknown
        go true e = rw e (several_known (c.constructs t vs) (total.constructs t vs))
        go false e = rw e (constructed_known (facts.partial t) (c.construct t vs) (total.construct t vs))

    mutual
      -- what a site asks is answered
      total_site : (s : Site) → Asks any_term any_term s → IsAnswered facts c args [] s
      total_site (bool_site b ty) a = tt
      total_site (int_site n ty) a = tt
      total_site (prim_site n) a = tt
      total_site (argument i) a = tt
      total_site (extractor_call t s) a = (total_site s (a.1), λ v e. extract_known t v)
      total_site (constructor_call t ss zero) a = (total_sites ss (a.1), λ vs e. construct_known t vs)
      total_site (constructor_call t ss (suc i)) a = absurd a
      total_site (iterator s) a = total_site s a
      total_site (make_variant ty k ss) a = total_sites ss a
      total_site (match_variant s k i) a = total_site s a
      total_site (make_struct ty ss) a = total_sites ss a
      total_site (extract_struct s i) a = total_site s a
      total_site (make_some s) a = total_site s a
      total_site (match_some s) a = total_site s a
      total_site (match_tuple s i) a = total_site s a

      -- so is what sites ask
      total_sites : (ss : Sites) → AskAll any_term any_term ss → AreAnswered facts c args [] ss
      total_sites no_sites a = tt
      total_sites (more_sites s ss) a = (total_site s (a.0), total_sites ss (a.1))

    -- A total completion covers a rule whose if-lets are pure.
    pub total_rule : (rule : TypedRule) → HaveNoSteps facts rule.iflets → Covers facts c args rule
    total_rule rule h =
        let asked = rule_asks facts any_term any_term rule (any_patterns rule.args) h (any_iflets rule.iflets) in (
          calls_all_map facts _ _ total_site rule.args _ (asked.0),
          iflets_map facts _ _ total_site rule.iflets (args_bound facts rule) (asked.1),
        )
