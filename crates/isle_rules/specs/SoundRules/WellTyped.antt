-- Types: each term, literal, constant and variable is used at its own type.
use Rattle.std.specs.Prelude.{◌≡◌, ℕ, ℤ, pos, Bool, true, List, [], ◌∷◌, slice_get, Option, None, Some}
use Rattle.isle_types.specs.Environment.{Environment, constant_in}
use Rattle.isle_rules.specs.TypedRules.{TypedPattern, TypedPatterns, typed_bind, typed_var, typed_bool, typed_int, typed_prim, typed_term}
use Rattle.isle_rules.specs.TypedRules.{typed_wildcard, typed_and, no_typed, more_typed, TypedExpr, TypedExprs, TypedBindings, built_term}
use Rattle.isle_rules.specs.TypedRules.{built_var, built_bool, built_int, built_prim, built_let, no_built, more_built, no_typed_bindings, more_typed_bindings}
use Rattle.isle_rules.specs.TypedRules.{built_at, Variable, TypedIfLet, TypedRule}
use Rattle.isle_rules.specs.Signatures.{Flags, ExtractorForm, by_rules, declared_form, Signature, Declared, has_constructor_form, has_extractor_form}
use Rattle.isle_rules.specs.Signatures.{flags_of, put_in_for}
use Rattle.isle_rules.specs.Elaboration.{bool_number, IsLiteralOf, may_call, on_lhs}

-- the variable of a number has a type
abbrev pub HasType : List Variable → (var ty : ℕ) → Type 0
HasType variables var ty = (variable : Variable) × (slice_get variables var ≡ Some variable) × (variable.type ≡ ty)

-- a number can stand at a type as a literal
abbrev pub IsTypedLiteral : Environment → (ty : ℕ) → ℤ → Type 0
IsTypedLiteral types ty val = (big : Bool) × IsLiteralOf types ty val big

-- a type for each of some patterns, all the same
abbrev pub same_for_each : ℕ → TypedPatterns → List ℕ
same_for_each ty no_typed = []
same_for_each ty (more_typed _ others) = ty ∷ same_for_each ty others

-- the term of a number takes values of a type apart, by no template that is to be put in for it, and its arguments' types fit
pub record MatchesTerm (declared : Declared) (ty number : ℕ) (Fit : List ℕ → Type 0) : Type 0 where
  pub term : Signature
  pub known : slice_get declared.terms number ≡ Some term
  pub type : term.ret ≡ ty
  pub usable : has_extractor_form term.form ≡ true
  pub whole : put_in_for declared term ≡ None
  pub args : Fit term.args

-- the term of a number makes values of a type, may be called, and its arguments' types fit
pub record CallsTerm (declared : Declared) (caller : Flags) (ty number : ℕ) (Fit : List ℕ → Type 0) : Type 0 where
  pub term : Signature
  pub known : slice_get declared.terms number ≡ Some term
  pub type : term.ret ≡ ty
  pub usable : has_constructor_form term.form ≡ true
  pub allowed : may_call caller (flags_of term.form) ≡ true
  pub args : Fit term.args

abbrev mutual
  -- a pattern is well typed at a type, in a rule of these variables
  pub IsTypedPattern : Declared → List Variable → (ty : ℕ) → TypedPattern → Type 0
  IsTypedPattern declared variables ty (typed_bind own var below) =
      (own ≡ ty) × HasType variables var ty × IsTypedPattern declared variables ty below
  IsTypedPattern declared variables ty (typed_var own var) = (own ≡ ty) × HasType variables var ty
  IsTypedPattern declared variables ty (typed_bool own val) = (own ≡ ty) × (ty ≡ bool_number)
  IsTypedPattern declared variables ty (typed_int own val) = (own ≡ ty) × IsTypedLiteral declared.types ty val
  IsTypedPattern declared variables ty (typed_prim own name) = (own ≡ ty) × (constant_in declared.types.constants name ≡ Some ty)
  IsTypedPattern declared variables ty (typed_term own number below) =
      (own ≡ ty) × MatchesTerm declared ty number (λ tys. AreTypedPatterns declared variables tys below)
  IsTypedPattern declared variables ty (typed_wildcard own) = own ≡ ty
  IsTypedPattern declared variables ty (typed_and own below) = (own ≡ ty) × AreTypedPatterns declared variables (same_for_each ty below) below

  -- there are as many patterns as types, each well typed at its type
  pub AreTypedPatterns : Declared → List Variable → List ℕ → TypedPatterns → Type 0
  AreTypedPatterns declared variables [] no_typed = Unit {0}
  AreTypedPatterns declared variables [] (more_typed first others) = ⊥
  AreTypedPatterns declared variables (ty ∷ tys) no_typed = ⊥
  AreTypedPatterns declared variables (ty ∷ tys) (more_typed first others) =
      IsTypedPattern declared variables ty first × AreTypedPatterns declared variables tys others

abbrev mutual
  -- an expression is well typed at a type, where what calls has these flags
  pub IsTypedExpr : Declared → List Variable → (caller : Flags) → (ty : ℕ) → TypedExpr → Type 0
  IsTypedExpr declared variables caller ty (built_term own number below) =
      (own ≡ ty) × CallsTerm declared caller ty number (λ tys. AreTypedExprs declared variables caller tys below)
  IsTypedExpr declared variables caller ty (built_var own var) = (own ≡ ty) × HasType variables var ty
  IsTypedExpr declared variables caller ty (built_bool own val) = (own ≡ ty) × (ty ≡ bool_number)
  IsTypedExpr declared variables caller ty (built_int own val) = (own ≡ ty) × IsTypedLiteral declared.types ty val
  IsTypedExpr declared variables caller ty (built_prim own name) = (own ≡ ty) × (constant_in declared.types.constants name ≡ Some ty)
  IsTypedExpr declared variables caller ty (built_let own bindings body) =
      (own ≡ ty) × AreTypedBindings declared variables caller bindings × IsTypedExpr declared variables caller ty body

  -- there are as many expressions as types, each well typed at its type
  pub AreTypedExprs : Declared → List Variable → (caller : Flags) → List ℕ → TypedExprs → Type 0
  AreTypedExprs declared variables caller [] no_built = Unit {0}
  AreTypedExprs declared variables caller [] (more_built first others) = ⊥
  AreTypedExprs declared variables caller (ty ∷ tys) no_built = ⊥
  AreTypedExprs declared variables caller (ty ∷ tys) (more_built first others) =
      IsTypedExpr declared variables caller ty first × AreTypedExprs declared variables caller tys others

  -- each variable of a `let` has a type, and its value is well typed at it
  pub AreTypedBindings : Declared → List Variable → (caller : Flags) → TypedBindings → Type 0
  AreTypedBindings declared variables caller no_typed_bindings = Unit {0}
  AreTypedBindings declared variables caller (more_typed_bindings var ty val others) =
      HasType variables var ty × IsTypedExpr declared variables caller ty val × AreTypedBindings declared variables caller others

-- each condition's expression is well typed, and its pattern is at that expression's type
abbrev pub AreTypedIfLets : Declared → List Variable → (caller : Flags) → List TypedIfLet → Type 0
AreTypedIfLets declared variables caller [] = Unit {0}
AreTypedIfLets declared variables caller (first ∷ others) =
    IsTypedExpr declared variables caller (built_at first.value) first.value
    × IsTypedPattern declared variables (built_at first.value) first.pattern × AreTypedIfLets declared variables caller others

-- a rule is well typed: it has a pattern for each argument of its root, a declared term with rules, and its right side is
-- one of the root's values; in its conditions only what is pure is called. It has no priority where the root is `multi`
pub record IsTypedRule (declared : Declared) (rule : TypedRule) : Type 0 where
  pub root : Signature
  pub flags : Flags
  pub known : slice_get declared.terms rule.root ≡ Some root
  pub ruled : (extractor : Option ExtractorForm) × (root.form ≡ declared_form flags (Some by_rules) extractor)
  pub args : AreTypedPatterns declared rule.variables root.args rule.args
  pub iflets : AreTypedIfLets declared rule.variables (on_lhs flags) rule.iflets
  pub right : IsTypedExpr declared rule.variables flags root.ret rule.right
  pub unordered : flags.multi ≡ true → rule.priority ≡ pos 0
