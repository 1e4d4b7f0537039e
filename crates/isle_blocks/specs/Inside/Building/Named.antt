-- Typed rules by their interned trees, where symbols have these names.
use Rattle.std.specs.Prelude.{◌≡◌, ℕ, List, [], ◌∷◌, length, map, Some, slice_get}
use Rattle.isle_types.specs.declared.ids.Sym.{Sym}
use Rattle.isle_rules.specs.declared.rules.IfLet.{IfLet}
use Rattle.isle_rules.specs.declared.rules.Rule.{Rule}
use Rattle.isle_rules.specs.declared.terms.Term.{Term}
use Rattle.isle_rules.specs.Signatures.{flags_of}
use Rattle.isle_rules.specs.Shown.ShownTerms.{form_shown}
use Rattle.isle_rules.specs.TypedRules.{TypedPattern, TypedPatterns, typed_bind, typed_var, typed_bool, typed_int, typed_prim, typed_term}
use Rattle.isle_rules.specs.TypedRules.{typed_wildcard, typed_and, no_typed, more_typed, TypedExpr, TypedExprs, TypedBindings, built_term}
use Rattle.isle_rules.specs.TypedRules.{built_var, built_bool, built_int, built_prim, built_let, no_built, more_built}
use Rattle.isle_rules.specs.TypedRules.{no_typed_bindings, more_typed_bindings, TypedIfLet, TypedRule}
use Rattle.isle_rules.specs.Visits.InternedTrees.{InternedPattern, InternedPatterns, bind_pattern, var_pattern, bool_pattern, int_pattern}
use Rattle.isle_rules.specs.Visits.InternedTrees.{prim_pattern, term_pattern, wildcard_pattern, and_pattern, no_patterns, more_patterns}
use Rattle.isle_rules.specs.Visits.InternedTrees.{InternedExpr, InternedExprs, InternedBindings, term_expr, var_expr, bool_expr, int_expr}
use Rattle.isle_rules.specs.Visits.InternedTrees.{prim_expr, let_expr, no_exprs, more_exprs, no_bindings, more_bindings}
use Rattle.isle_rules.specs.Visits.InternedTrees.{listed_patterns, pattern_of, expr_of}
use Rattle.isle_meaning.specs.Words.{steps_of}
use Rattle.isle_meaning.specs.Facts.{TermFacts, patterns, shape_of_form, never_fails}

abbrev mutual
  -- a pattern, where symbols have these names
  pub named_pattern : (Sym → List ℕ) → InternedPattern → TypedPattern
  named_pattern name (bind_pattern ty var p) = typed_bind ty.0 var.0 (named_pattern name p)
  named_pattern name (var_pattern ty var) = typed_var ty.0 var.0
  named_pattern name (bool_pattern ty val) = typed_bool ty.0 val
  named_pattern name (int_pattern ty val) = typed_int ty.0 val
  named_pattern name (prim_pattern ty val) = typed_prim ty.0 (name val)
  named_pattern name (term_pattern ty id ps) = typed_term ty.0 id.0 (named_patterns name ps)
  named_pattern name (wildcard_pattern ty) = typed_wildcard ty.0
  named_pattern name (and_pattern ty ps) = typed_and ty.0 (named_patterns name ps)

  pub named_patterns : (Sym → List ℕ) → InternedPatterns → TypedPatterns
  named_patterns name no_patterns = no_typed
  named_patterns name (more_patterns p ps) = more_typed (named_pattern name p) (named_patterns name ps)

abbrev mutual
  -- an expression, where symbols have these names
  pub named_expr : (Sym → List ℕ) → InternedExpr → TypedExpr
  named_expr name (term_expr ty id es) = built_term ty.0 id.0 (named_exprs name es)
  named_expr name (var_expr ty var) = built_var ty.0 var.0
  named_expr name (bool_expr ty val) = built_bool ty.0 val
  named_expr name (int_expr ty val) = built_int ty.0 val
  named_expr name (prim_expr ty val) = built_prim ty.0 (name val)
  named_expr name (let_expr ty bs body) = built_let ty.0 (named_bindings name bs) (named_expr name body)

  pub named_exprs : (Sym → List ℕ) → InternedExprs → TypedExprs
  named_exprs name no_exprs = no_built
  named_exprs name (more_exprs e es) = more_built (named_expr name e) (named_exprs name es)

  pub named_bindings : (Sym → List ℕ) → InternedBindings → TypedBindings
  named_bindings name no_bindings = no_typed_bindings
  named_bindings name (more_bindings var ty e bs) = more_typed_bindings var.0 ty.0 (named_expr name e) (named_bindings name bs)

-- what is said of a term's number is what the term is
pub record IsKnownTerm (names : List (List ℕ)) (facts : TermFacts) (number : ℕ) (term : Term) : Type 0 where
  pub shape : facts.shape number ≡ shape_of_form (form_shown names term.kind)
  pub pure : facts.pure number ≡ (flags_of (form_shown names term.kind)).pure
  pub partial : facts.partial number ≡ (flags_of (form_shown names term.kind)).partial
  pub multi : facts.multi number ≡ (flags_of (form_shown names term.kind)).multi
  pub infallible : facts.infallible number ≡ never_fails (form_shown names term.kind)
  pub takes : length (facts.inputs number) ≡ length term.arg_tys

-- so of each term
abbrev pub AreKnownTerms : List (List ℕ) → TermFacts → List Term → Type 0
AreKnownTerms names facts terms = (number : ℕ) (term : Term) → slice_get terms number ≡ Some term → IsKnownTerm names facts number term

abbrev mutual
  -- each term of a pattern has as many parts as it takes arguments
  pub IsFilled : TermFacts → TypedPattern → Type 0
  IsFilled facts (typed_bind ty k p) = IsFilled facts p
  IsFilled facts (typed_var ty k) = Unit {0}
  IsFilled facts (typed_bool ty b) = Unit {0}
  IsFilled facts (typed_int ty n) = Unit {0}
  IsFilled facts (typed_prim ty n) = Unit {0}
  IsFilled facts (typed_term ty t ps) = (patterns ps ≡ length (facts.inputs t)) × AreFilled facts ps
  IsFilled facts (typed_wildcard ty) = Unit {0}
  IsFilled facts (typed_and ty ps) = AreFilled facts ps

  pub AreFilled : TermFacts → TypedPatterns → Type 0
  AreFilled facts no_typed = Unit {0}
  AreFilled facts (more_typed p ps) = IsFilled facts p × AreFilled facts ps

-- a condition, where symbols have these names
abbrev pub named_iflet : (Sym → List ℕ) → IfLet → TypedIfLet
named_iflet name i = record { pattern = named_pattern name (pattern_of i.lhs); value = named_expr name (expr_of i.rhs) }

-- so are the terms of conditions' patterns
abbrev pub IfLetsAreFilled : TermFacts → List TypedIfLet → Type 0
IfLetsAreFilled facts [] = Unit {0}
IfLetsAreFilled facts (first ∷ others) = IsFilled facts first.pattern × IfLetsAreFilled facts others

-- conditions' expressions call nothing impure
abbrev pub CallNothingImpure : TermFacts → List TypedIfLet → Type 0
CallNothingImpure facts [] = Unit {0}
CallNothingImpure facts (first ∷ others) = (steps_of facts first.value ≡ []) × CallNothingImpure facts others

-- the arguments, conditions and right side of a typed rule, where symbols have these names
pub record IsNamedRule (name : Sym → List ℕ) (typed : TypedRule) (rule : Rule) : Type 0 where
  pub args : typed.args ≡ named_patterns name (listed_patterns (map pattern_of rule.args))
  pub iflets : typed.iflets ≡ map (named_iflet name) rule.iflets
  pub right : typed.right ≡ named_expr name (expr_of rule.rhs)
