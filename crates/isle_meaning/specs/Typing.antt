-- Typed rules: every part is of the type that it stands at.
use Rattle.std.specs.Prelude.{◌≡◌, ℕ, List, [], ◌∷◌}
use Rattle.isle_rules.specs.TypedRules.{TypedPattern, typed_bind, typed_var, typed_bool, typed_int, typed_prim, typed_term, typed_wildcard}
use Rattle.isle_rules.specs.TypedRules.{typed_and, TypedPatterns, no_typed, more_typed, TypedExpr, built_var, built_bool, built_int}
use Rattle.isle_rules.specs.TypedRules.{built_prim, built_term, built_let, TypedExprs, no_built, more_built, TypedBindings, no_typed_bindings}
use Rattle.isle_rules.specs.TypedRules.{more_typed_bindings, TypedIfLet, TypedRule}
use Rattle.isle_meaning.specs.Facts.{TermShape, variant_shape, struct_shape, declared_shape, TermFacts}

-- the types of a term's parts
abbrev pub part_types : TermFacts → TermShape → ℕ → ℕ → List ℕ
part_types facts (variant_shape k) ty t = facts.variant_fields ty k
part_types facts struct_shape ty t = facts.struct_fields ty
part_types facts declared_shape ty t = facts.inputs t

-- A pattern is typed, where the variables have these types.
abbrev mutual
  pub IsTyped : TermFacts → (ℕ → ℕ) → TypedPattern → ℕ → Type 0
  IsTyped facts G (typed_bind ty k p) u = (ty ≡ u) × (G k ≡ u) × IsTyped facts G p u
  IsTyped facts G (typed_var ty k) u = (ty ≡ u) × (G k ≡ u)
  IsTyped facts G (typed_bool ty b) u = ty ≡ u
  IsTyped facts G (typed_int ty n) u = ty ≡ u
  IsTyped facts G (typed_prim ty n) u = (ty ≡ u) × (facts.constant_type n ≡ u)
  IsTyped facts G (typed_term ty t ps) u = (ty ≡ u) × (facts.type_of t ≡ u) × AllTyped facts G ps (part_types facts (facts.shape t) ty t)
  IsTyped facts G (typed_wildcard ty) u = ty ≡ u
  IsTyped facts G (typed_and ty ps) u = (ty ≡ u) × EachTyped facts G ps u

  pub AllTyped : TermFacts → (ℕ → ℕ) → TypedPatterns → List ℕ → Type 0
  AllTyped facts G no_typed [] = Unit {0}
  AllTyped facts G no_typed (u ∷ us) = ⊥
  AllTyped facts G (more_typed p ps) [] = ⊥
  AllTyped facts G (more_typed p ps) (u ∷ us) = IsTyped facts G p u × AllTyped facts G ps us

  pub EachTyped : TermFacts → (ℕ → ℕ) → TypedPatterns → ℕ → Type 0
  EachTyped facts G no_typed u = Unit {0}
  EachTyped facts G (more_typed p ps) u = IsTyped facts G p u × EachTyped facts G ps u

-- An expression is typed.
abbrev mutual
  pub ExprTyped : TermFacts → (ℕ → ℕ) → TypedExpr → ℕ → Type 0
  ExprTyped facts G (built_var ty k) u = (ty ≡ u) × (G k ≡ u)
  ExprTyped facts G (built_bool ty b) u = ty ≡ u
  ExprTyped facts G (built_int ty n) u = ty ≡ u
  ExprTyped facts G (built_prim ty n) u = (ty ≡ u) × (facts.constant_type n ≡ u)
  ExprTyped facts G (built_term ty t es) u =
      (ty ≡ u) × (facts.type_of t ≡ u) × ExprsTyped facts G es (part_types facts (facts.shape t) ty t)
  ExprTyped facts G (built_let ty bs body) u = BindingsTyped facts G bs × ExprTyped facts G body u

  pub ExprsTyped : TermFacts → (ℕ → ℕ) → TypedExprs → List ℕ → Type 0
  ExprsTyped facts G no_built [] = Unit {0}
  ExprsTyped facts G no_built (u ∷ us) = ⊥
  ExprsTyped facts G (more_built e es) [] = ⊥
  ExprsTyped facts G (more_built e es) (u ∷ us) = ExprTyped facts G e u × ExprsTyped facts G es us

  pub BindingsTyped : TermFacts → (ℕ → ℕ) → TypedBindings → Type 0
  BindingsTyped facts G no_typed_bindings = Unit {0}
  BindingsTyped facts G (more_typed_bindings k ty e bs) = (G k ≡ ty) × ExprTyped facts G e ty × BindingsTyped facts G bs

abbrev pub IfLetsTyped : TermFacts → (ℕ → ℕ) → List TypedIfLet → Type 0
IfLetsTyped facts G [] = Unit {0}
IfLetsTyped facts G (x ∷ xs) = ((u : ℕ) × ExprTyped facts G x.value u × IsTyped facts G x.pattern u) × IfLetsTyped facts G xs

-- a rule of a term that takes these types and gives that one, whose variables have these types
pub record RuleIsTyped (facts : TermFacts) (tys : List ℕ) (result_type : ℕ) (G : ℕ → ℕ) (rule : TypedRule) : Type 0 where
  pub args : AllTyped facts G rule.args tys
  pub iflets : IfLetsTyped facts G rule.iflets
  pub right : ExprTyped facts G rule.right result_type
