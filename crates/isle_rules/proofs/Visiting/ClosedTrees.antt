-- Typed trees that use only variables bound before, and terms that can be used so.
use Rattle.std.proofs.Common.{subst, ◌≡◌, ◌⊎◌, ℕ, ◌+◌, ◌<◌, ◌≤◌, inl, inr, Bool, true, List, [], ◌∷◌, length, Some, slice_get}
use Rattle.isle_rules.specs.TypedRules.{TypedPattern, TypedPatterns, typed_bind, typed_var, typed_bool, typed_int, typed_prim, typed_term}
use Rattle.isle_rules.specs.TypedRules.{typed_wildcard, typed_and, no_typed, more_typed, TypedExpr, TypedExprs, TypedBindings, built_term}
use Rattle.isle_rules.specs.TypedRules.{built_var, built_bool, built_int, built_prim, built_let, no_built, more_built, no_typed_bindings, more_typed_bindings}
use Rattle.isle_rules.specs.TypedRules.{TypedIfLet, TypedRule}
use Rattle.isle_rules.specs.Signatures.{TermForm, Signature, has_extractor_form, has_constructor_form}

-- a variable is one of these
abbrev pub IsOneOf : List ℕ → ℕ → Type 0
IsOneOf [] var = ⊥
IsOneOf (first ∷ others) var = (first ≡ var) ⊎ IsOneOf others var

abbrev mutual
  -- the variables that are bound after a pattern, where these were before it
  pub after : TypedPattern → List ℕ → List ℕ
  after (typed_bind ty var below) vars = after below (var ∷ vars)
  after (typed_var ty var) vars = vars
  after (typed_bool ty val) vars = vars
  after (typed_int ty val) vars = vars
  after (typed_prim ty val) vars = vars
  after (typed_term ty term below) vars = after_all below vars
  after (typed_wildcard ty) vars = vars
  after (typed_and ty below) vars = after_all below vars

  pub after_all : TypedPatterns → List ℕ → List ℕ
  after_all no_typed vars = vars
  after_all (more_typed first others) vars = after_all others (after first vars)

-- the variables that are bound after those of a `let`
abbrev pub after_bindings : TypedBindings → List ℕ → List ℕ
after_bindings no_typed_bindings vars = vars
after_bindings (more_typed_bindings var ty val others) vars = after_bindings others (var ∷ vars)

-- how many patterns there are
abbrev pub typed_count : TypedPatterns → ℕ
typed_count no_typed = 0
typed_count (more_typed first others) = typed_count others + 1

-- how many expressions there are
abbrev pub built_count : TypedExprs → ℕ
built_count no_built = 0
built_count (more_built first others) = built_count others + 1

-- the term of a number is of such a form, and takes so many arguments at least
pub record CanBeUsed (terms : List Signature) (number : ℕ) (usable : TermForm → Bool) (count : ℕ) : Type 0 where
  pub term : Signature
  pub known : slice_get terms number ≡ Some term
  pub form : usable term.form ≡ true
  pub enough : count ≤ length term.args

abbrev mutual
  -- a pattern binds variables below `count`, and uses variables bound before and terms that can be used in patterns
  pub Closed : List Signature → (count : ℕ) → TypedPattern → List ℕ → Type 0
  Closed terms count (typed_bind ty var below) vars = (var < count) × Closed terms count below (var ∷ vars)
  Closed terms count (typed_var ty var) vars = IsOneOf vars var
  Closed terms count (typed_bool ty val) vars = Unit {0}
  Closed terms count (typed_int ty val) vars = Unit {0}
  Closed terms count (typed_prim ty val) vars = Unit {0}
  Closed terms count (typed_term ty number below) vars =
      CanBeUsed terms number has_extractor_form (typed_count below) × AllClosed terms count below vars
  Closed terms count (typed_wildcard ty) vars = Unit {0}
  Closed terms count (typed_and ty below) vars = AllClosed terms count below vars

  pub AllClosed : List Signature → (count : ℕ) → TypedPatterns → List ℕ → Type 0
  AllClosed terms count no_typed vars = Unit {0}
  AllClosed terms count (more_typed first others) vars = Closed terms count first vars × AllClosed terms count others (after first vars)

abbrev mutual
  -- an expression uses variables bound before and terms that can be used in expressions
  pub ClosedExpr : List Signature → TypedExpr → List ℕ → Type 0
  ClosedExpr terms (built_term ty number below) vars =
      CanBeUsed terms number has_constructor_form (built_count below) × ClosedExprs terms below vars
  ClosedExpr terms (built_var ty var) vars = IsOneOf vars var
  ClosedExpr terms (built_bool ty val) vars = Unit {0}
  ClosedExpr terms (built_int ty val) vars = Unit {0}
  ClosedExpr terms (built_prim ty val) vars = Unit {0}
  ClosedExpr terms (built_let ty bindings body) vars = ClosedBindings terms bindings vars × ClosedExpr terms body (after_bindings bindings vars)

  pub ClosedExprs : List Signature → TypedExprs → List ℕ → Type 0
  ClosedExprs terms no_built vars = Unit {0}
  ClosedExprs terms (more_built first others) vars = ClosedExpr terms first vars × ClosedExprs terms others vars

  pub ClosedBindings : List Signature → TypedBindings → List ℕ → Type 0
  ClosedBindings terms no_typed_bindings vars = Unit {0}
  ClosedBindings terms (more_typed_bindings var ty val others) vars = ClosedExpr terms val vars × ClosedBindings terms others (var ∷ vars)

-- the variables that are bound after conditions
abbrev pub after_iflets : List TypedIfLet → List ℕ → List ℕ
after_iflets [] vars = vars
after_iflets (first ∷ others) vars = after_iflets others (after first.pattern vars)

-- conditions whose expressions and patterns are such
abbrev pub ClosedIfLets : List Signature → (count : ℕ) → List TypedIfLet → List ℕ → Type 0
ClosedIfLets terms count [] vars = Unit {0}
ClosedIfLets terms count (first ∷ others) vars =
    ClosedExpr terms first.value vars × Closed terms count first.pattern vars × ClosedIfLets terms count others (after first.pattern vars)

-- a rule whose arguments, conditions and right side are such
pub record ClosedRule (terms : List Signature) (rule : TypedRule) : Type 0 where
  pub root : Signature
  pub known : slice_get terms rule.root ≡ Some root
  pub enough : typed_count rule.args ≤ length root.args
  pub args : AllClosed terms (length rule.variables) rule.args []
  pub iflets : ClosedIfLets terms (length rule.variables) rule.iflets (after_all rule.args [])
  pub right : ClosedExpr terms rule.right (after_iflets rule.iflets (after_all rule.args []))

mutual
  -- what was bound before a pattern is bound after it
  pub after_keeps : (p : TypedPattern) (vars : List ℕ) (var : ℕ) → IsOneOf vars var → IsOneOf (after p vars) var
  after_keeps (typed_bind ty own below) vars var h = after_keeps below (own ∷ vars) var (inr h)
  after_keeps (typed_var ty own) vars var h = h
  after_keeps (typed_bool ty val) vars var h = h
  after_keeps (typed_int ty val) vars var h = h
  after_keeps (typed_prim ty val) vars var h = h
  after_keeps (typed_term ty term below) vars var h = all_keep below vars var h
  after_keeps (typed_wildcard ty) vars var h = h
  after_keeps (typed_and ty below) vars var h = all_keep below vars var h

  all_keep : (ps : TypedPatterns) (vars : List ℕ) (var : ℕ) → IsOneOf vars var → IsOneOf (after_all ps vars) var
  all_keep no_typed vars var h = h
  all_keep (more_typed first others) vars var h = all_keep others (after first vars) var (after_keeps first vars var h)

-- all of these variables are below a number
abbrev pub AreBelow : ℕ → List ℕ → Type 0
AreBelow count vars = (var : ℕ) → IsOneOf vars var → var < count

-- one more variable is below a number, and these are
below_more : (count own : ℕ) (vars : List ℕ) → own < count → AreBelow count vars → AreBelow count (own ∷ vars)
below_more count own vars n k var (inl e) = subst (λ z. z < count) e n
below_more count own vars n k var (inr h) = k var h

mutual
  -- variables below a number are still so after a closed pattern
  pub below_after : (terms : List Signature) (count : ℕ) (p : TypedPattern) (vars : List ℕ) → Closed terms count p vars → AreBelow count vars
      → AreBelow count (after p vars)
  below_after terms count (typed_bind ty own below) vars c k = below_after terms count below (own ∷ vars) c.1 (below_more count own vars c.0 k)
  below_after terms count (typed_var ty own) vars c k = k
  below_after terms count (typed_bool ty val) vars c k = k
  below_after terms count (typed_int ty val) vars c k = k
  below_after terms count (typed_prim ty val) vars c k = k
  below_after terms count (typed_term ty term below) vars c k = below_all terms count below vars c.1 k
  below_after terms count (typed_wildcard ty) vars c k = k
  below_after terms count (typed_and ty below) vars c k = below_all terms count below vars c k

  pub below_all : (terms : List Signature) (count : ℕ) (ps : TypedPatterns) (vars : List ℕ) → AllClosed terms count ps vars → AreBelow count vars
      → AreBelow count (after_all ps vars)
  below_all terms count no_typed vars c k = k
  below_all terms count (more_typed first others) vars c k =
      below_all terms count others (after first vars) c.1 (below_after terms count first vars c.0 k)

-- so are they after conditions
pub below_iflets : (terms : List Signature) (count : ℕ) (iflets : List TypedIfLet) (vars : List ℕ) → ClosedIfLets terms count iflets vars
    → AreBelow count vars → AreBelow count (after_iflets iflets vars)
below_iflets terms count [] vars c k = k
below_iflets terms count (first ∷ others) vars c k =
    below_iflets terms count others (after first.pattern vars) c.2 (below_after terms count first.pattern vars c.1 k)
