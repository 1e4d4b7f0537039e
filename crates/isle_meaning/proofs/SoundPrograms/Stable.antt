-- What is known of a checked program by a fact of which only that it holds is known: its rules and its data are sound. Each part of that
-- is an equation of numbers and texts, follows by cases, or can be computed.
use Rattle.std.proofs.Common.{◌≡◌, ◌⊎◌, inl, inr, ◌<◌, ◌≤◌, ◌^◌, ◌-◌, ℕ, suc, ℤ, pos, negsuc, Bool, true, false, List, [], ◌∷◌, length}
use Rattle.std.proofs.Common.{Option, None, Some, refl, sym, ◌∙◌, ap, subst, arith, T}
use Rattle.std.specs.Prelude.{FitsSigned, ◌≤ℤ◌}
use Rattle.std.specs.Int.{w128, cast_signed}
use Rattle.std.specs.Str.{bytes_eq}
use Rattle.std.proofs.Math.Logic.{∥∥₁_elim}
use Rattle.std.proofs.Math.Bool.{Bool-set}
use Rattle.std.proofs.Math.Decide.{ℕ_discrete}
use Rattle.std.proofs.Math.Dec.{T_prop}
use Rattle.std.proofs.Math.Nat.{ℕ_set}
use Rattle.std.proofs.lemmas.Bool.{cases_lt, le-ltb}
use Rattle.std.proofs.lemmas.Int.{to_z-of_z}
use Rattle.std.proofs.lemmas.Slice.Eq.{bytes_eq-Decides}
use Rattle.isle_types.specs.declared.types.IntType.{IntType}
use Rattle.isle_types.specs.declared.types.IntType.TheVariants.{U8, U16, U32, U64, U128, USize, I8, I16, I32, I64, I128, ISize}
use Rattle.isle_types.specs.IntTypes.{HasNumber, least_of, greatest_of}
use Rattle.isle_rules.specs.Values.{ValueTree, bool_tree, int_tree, big_tree}
use Rattle.isle_rules.specs.Values.{const_tree, opaque_tree, data_tree}
use Rattle.isle_rules.specs.TypedRules.{TypedPattern, typed_bind, typed_var, typed_bool, typed_int, typed_prim, typed_term, typed_wildcard}
use Rattle.isle_rules.specs.TypedRules.{typed_and, TypedPatterns, no_typed, more_typed, TypedExpr, built_var, built_bool, built_int}
use Rattle.isle_rules.specs.TypedRules.{built_prim, built_term, built_let, TypedExprs, no_built, more_built, TypedBindings, no_typed_bindings}
use Rattle.isle_rules.specs.TypedRules.{more_typed_bindings, TypedIfLet, TypedRule, typed_at}
use Rattle.isle_meaning.specs.Facts.{TermShape, variant_shape, struct_shape, declared_shape, TermFacts, patterns}
use Rattle.isle_meaning.specs.Values.{Value, Values, bool_value, int_value, constant_value, opaque_value, made_variant, made_struct}
use Rattle.isle_meaning.specs.ValueTypes.{ValueFacts, TypeKind, truth_kind, integer_kind, primitive_kind, data_kind, no_kind, IsIntOf}
use Rattle.isle_meaning.specs.ValueTypes.{IsBigOf, HasConstants, IsOfType}
use Rattle.isle_meaning.specs.GroundValues.{IsValueOf, data_of_shape, value_of}
use Rattle.isle_meaning.specs.Scopes.{scope, scope_all, iflets_scope, let_scope, none, scope_of, IsWellOpened, IsWellScoped, AreWellScoped}
use Rattle.isle_meaning.specs.Scopes.{IsSingle, ReadsExpr, ReadExprs, ReadsLets, IfLetsAreWellScoped, IsWellScopedRule}
use Rattle.isle_meaning.specs.Typing.{part_types, IsTyped, AllTyped, EachTyped, ExprTyped, ExprsTyped, BindingsTyped, IfLetsTyped, RuleIsTyped}
use Rattle.isle_meaning.specs.Inside.Variables.{var_type}
use Rattle.isle_meaning.specs.Words.{Step, steps_of}
use Rattle.isle_meaning.specs.Worlds.{CheckedProgram}
use Rattle.isle_meaning.specs.SoundPrograms.{IsSoundExpr, AreSoundExprs, AreSoundBindings, AreSoundIfLets, AskNothingImpure, IsSoundRule}
use Rattle.isle_meaning.specs.SoundPrograms.{HasSoundData}

-- ---- which variables are bound

-- of each variable it is decided whether it is among these
abbrev pub IsDecided : (ℕ → Type 0) → Type 0
IsDecided S = (k : ℕ) → S k ⊎ (S k → ⊥)

-- one more
added : (j : ℕ) (S : ℕ → Type 0) → IsDecided S → IsDecided (λ k. (k ≡ j) ⊎ S k)
added j S D k = elim (ℕ_discrete k j) [
  | yes e ↦ inl (inl e)
  | no d ↦ elim (D k) [
    | inl s ↦ inl (inr s)
    | inr n ↦ inr (λ h. elim h [ inl e ↦ d e | inr s ↦ n s ])
  ]
]

none_decided : IsDecided none
none_decided k = inr (λ h. h)

mutual
  scope_decided : (p : TypedPattern) (S : ℕ → Type 0) → IsDecided S → IsDecided (scope p S)
  scope_decided (typed_bind ty j p) S D = added j (scope p S) (scope_decided p S D)
  scope_decided (typed_var ty j) S D = D
  scope_decided (typed_bool ty b) S D = D
  scope_decided (typed_int ty n) S D = D
  scope_decided (typed_prim ty n) S D = D
  scope_decided (typed_term ty t ps) S D = scope_all_decided ps S D
  scope_decided (typed_wildcard ty) S D = D
  scope_decided (typed_and ty ps) S D = scope_all_decided ps S D

  scope_all_decided : (ps : TypedPatterns) (S : ℕ → Type 0) → IsDecided S → IsDecided (scope_all ps S)
  scope_all_decided no_typed S D = D
  scope_all_decided (more_typed p ps) S D = scope_all_decided ps (scope p S) (scope_decided p S D)

iflets_decided : (xs : List TypedIfLet) (S : ℕ → Type 0) → IsDecided S → IsDecided (iflets_scope xs S)
iflets_decided [] S D = D
iflets_decided (x ∷ xs) S D = iflets_decided xs (scope x.pattern S) (scope_decided x.pattern S D)

lets_decided : (bs : TypedBindings) (S : ℕ → Type 0) → IsDecided S → IsDecided (let_scope bs S)
lets_decided no_typed_bindings S D = D
lets_decided (more_typed_bindings k ty e bs) S D = lets_decided bs (λ j. (j ≡ k) ⊎ S j) (added k S D)

-- ---- which trees stand for a value

-- a value is data
abbrev IsMade : Value → Type 0
IsMade (bool_value b) = ⊥
IsMade (int_value n) = ⊥
IsMade (constant_value name) = ⊥
IsMade (opaque_value n) = ⊥
IsMade (made_variant ty k vs) = Unit {0}
IsMade (made_struct ty vs) = Unit {0}

data_is_made : (o : Option TermShape) (ty : ℕ) (vs : Values) → IsMade (data_of_shape o ty vs)
data_is_made None ty vs = tt
data_is_made (Some (variant_shape k)) ty vs = tt
data_is_made (Some struct_shape) ty vs = tt
data_is_made (Some declared_shape) ty vs = tt

module _ (facts : ValueFacts) (ty : ℕ) where
  -- a truth value's type is `bool`
  truth_kinds : (b : Bool) → IsValueOf facts (bool_value b) ty → facts.kind ty ≡ truth_kind
  truth_kinds b is = go is.tree is.typed is.stands
    where
      go : (t : ValueTree) → IsOfType facts t ty → value_of facts t ≡ bool_value b → facts.kind ty ≡ truth_kind
      go (bool_tree c) typed e = typed
      go (int_tree m) typed e = absurd cc
      go (big_tree m) typed e = absurd cc
      go (const_tree name) typed e = absurd cc
      go (opaque_tree m) typed e = absurd cc
      go (data_tree name fields) typed e = absurd (subst IsMade e (data_is_made (facts.shape_named name) _ _))

  -- a constant is of its type
  constant_types : (name : List ℕ) → IsValueOf facts (constant_value name) ty → (facts.constant name ≡ Some ty) × HasConstants (facts.kind ty)
  constant_types name is = go is.tree is.typed is.stands
    where
      go : (t : ValueTree) → IsOfType facts t ty → value_of facts t ≡ constant_value name
          → (facts.constant name ≡ Some ty) × HasConstants (facts.kind ty)
      go (bool_tree c) typed e = absurd cc
      go (int_tree m) typed e = absurd cc
      go (big_tree m) typed e = absurd cc
      go (const_tree other) typed e =
          let same : other ≡ name = cc in (ap facts.constant (sym same) ∙ typed.0, typed.1)
      go (opaque_tree m) typed e = absurd cc
      go (data_tree other fields) typed e = absurd (subst IsMade e (data_is_made (facts.shape_named other) _ _))

  -- an integer is one by itself, or by its bits
  integer_types : (n : ℤ) → IsValueOf facts (int_value n) ty
      → IsIntOf n (facts.kind ty) ⊎ ((m : ℕ) × IsBigOf m (facts.kind ty) × (cast_signed w128 m ≡ n))
  integer_types n is = go is.tree is.typed is.stands
    where
      go : (t : ValueTree) → IsOfType facts t ty → value_of facts t ≡ int_value n
          → IsIntOf n (facts.kind ty) ⊎ ((m : ℕ) × IsBigOf m (facts.kind ty) × (cast_signed w128 m ≡ n))
      go (bool_tree c) typed e = absurd cc
      go (int_tree m) typed e = let same : m ≡ n = cc in inl (subst (λ (z : ℤ). IsIntOf z (facts.kind ty)) same typed)
      go (big_tree m) typed e = let same : cast_signed w128 m ≡ n = cc in inr (m, typed, same)
      go (const_tree other) typed e = absurd cc
      go (opaque_tree m) typed e = absurd cc
      go (data_tree other fields) typed e = absurd (subst IsMade e (data_is_made (facts.shape_named other) _ _))

-- the bits of a number from 2^127 on are those of a negative one
big_bits : (m : ℕ) → 2 ^ 127 ≤ m → cast_signed w128 m ≡ negsuc (2 ^ 128 - suc m)
big_bits m low = rw (le-ltb m (2 ^ 127) low) refl

-- whether an integer type is `u128`
is_widest : (int : IntType) → (int ≡ U128) ⊎ (int ≡ U128 → ⊥)
is_widest U8 = inr (λ e. absurd cc)
is_widest U16 = inr (λ e. absurd cc)
is_widest U32 = inr (λ e. absurd cc)
is_widest U64 = inr (λ e. absurd cc)
is_widest U128 = inl refl
is_widest USize = inr (λ e. absurd cc)
is_widest I8 = inr (λ e. absurd cc)
is_widest I16 = inr (λ e. absurd cc)
is_widest I32 = inr (λ e. absurd cc)
is_widest I64 = inr (λ e. absurd cc)
is_widest I128 = inr (λ e. absurd cc)
is_widest ISize = inr (λ e. absurd cc)

-- ---- the type at which a pattern is typed

type_is : (facts : TermFacts) (G : ℕ → ℕ) (p : TypedPattern) (u : ℕ) → IsTyped facts G p u → typed_at p ≡ u
type_is facts G (typed_bind ty k p) u h = h.0
type_is facts G (typed_var ty k) u h = h.0
type_is facts G (typed_bool ty b) u h = h
type_is facts G (typed_int ty n) u h = h
type_is facts G (typed_prim ty n) u h = h.0
type_is facts G (typed_term ty t ps) u h = h.0
type_is facts G (typed_wildcard ty) u h = h
type_is facts G (typed_and ty ps) u h = h.0

module _ (K : Type 0) (known : ∥ K ∥₁) where
  -- ---- numbers and texts

  -- what can't be isn't
  pub never : (K → ⊥) → ⊥
  never f = ∥∥₁_elim known (hlevel) f

  -- numbers that are the same are
  pub same_number : (a b : ℕ) → (K → a ≡ b) → a ≡ b
  same_number a b f = ∥∥₁_elim known (ℕ_set a b) f

  -- truth values that are the same are
  pub same_truth : (a b : Bool) → (K → a ≡ b) → a ≡ b
  same_truth a b f = ∥∥₁_elim known (Bool-set a b) f

  -- texts that are the same are
  pub same_text : (a b : List ℕ) → (K → a ≡ b) → a ≡ b
  same_text a b f = (bytes_eq-Decides a b).0 (same_truth (bytes_eq a b) true (λ k. (bytes_eq-Decides a b).1 (f k)))

  -- a number that is below another is
  below : (a b : ℕ) → (K → a < b) → a < b
  below a b f = elim (cases_lt a b) [
    | inl less ↦ less
    | inr more ↦ absurd (never (λ k. let less = f k in omega (arith, less, more)))
  ]

  -- a test that is passed is
  passed : (b : Bool) → (K → T b) → T b
  passed b f = ∥∥₁_elim known (T_prop b) f

  at_most : (a b : ℤ) → (K → a ≤ℤ b) → a ≤ℤ b
  at_most a b f = record { le = passed _ (λ k. (f k).le) }

  -- a list that is empty is
  no_steps : (steps : List Step) → (K → steps ≡ []) → steps ≡ []
  no_steps [] f = refl
  no_steps (step ∷ steps) f = absurd (never (λ k. let h = f k in absurd cc))

  -- a variable that is among those of which it is decided is
  among : (S : ℕ → Type 0) → IsDecided S → (k : ℕ) → (K → S k) → S k
  among S D k f = elim (D k) [
    | inl s ↦ s
    | inr n ↦ absurd (never (λ x. n (f x)))
  ]

  -- a type that is found is
  found_type : (o : Option ℕ) (ty : ℕ) → (K → o ≡ Some ty) → o ≡ Some ty
  found_type None ty f = absurd (never (λ k. let h = f k in absurd cc))
  found_type (Some u) ty f = ap Some (same_number u ty (λ k. let h = f k in cc))

  -- a shape that is found is
  found_shape : (o : Option TermShape) (shape : TermShape) → (K → o ≡ Some shape) → o ≡ Some shape
  found_shape None shape f = absurd (never (λ k. let h = f k in absurd cc))
  found_shape (Some (variant_shape j)) (variant_shape i) f =
      ap (λ (n : ℕ). Some (variant_shape n)) (same_number j i (λ k. let h = f k in cc))
  found_shape (Some (variant_shape j)) struct_shape f = absurd (never (λ k. let h = f k in absurd cc))
  found_shape (Some (variant_shape j)) declared_shape f = absurd (never (λ k. let h = f k in absurd cc))
  found_shape (Some struct_shape) (variant_shape i) f = absurd (never (λ k. let h = f k in absurd cc))
  found_shape (Some struct_shape) struct_shape f = refl
  found_shape (Some struct_shape) declared_shape f = absurd (never (λ k. let h = f k in absurd cc))
  found_shape (Some declared_shape) (variant_shape i) f = absurd (never (λ k. let h = f k in absurd cc))
  found_shape (Some declared_shape) struct_shape f = absurd (never (λ k. let h = f k in absurd cc))
  found_shape (Some declared_shape) declared_shape f = refl

  -- data that is found is
  found_data : (o : Option (ℕ × List ℕ)) (ty : ℕ) (types : List ℕ) → (K → o ≡ Some (ty, types)) → o ≡ Some (ty, types)
  found_data None ty types f = absurd (never (λ k. let h = f k in absurd cc))
  found_data (Some made) ty types f =
      let type = same_number made.0 ty (λ k. let h = f k in let same : made ≡ (ty, types) = cc in ap (λ (x : ℕ × List ℕ). x.0) same) in
      let own = same_text made.1 types (λ k. let h = f k in let same : made ≡ (ty, types) = cc in ap (λ (x : ℕ × List ℕ). x.1) same) in
      (λ i. Some (type i, own i))

  -- ---- scopes

  module _ (facts : TermFacts) where
    opened_told : (shape : TermShape) (t n : ℕ) → (K → IsWellOpened facts shape t n) → IsWellOpened facts shape t n
    opened_told (variant_shape j) t n f = tt
    opened_told struct_shape t n f = tt
    opened_told declared_shape t n f =
        (same_number n (length (facts.inputs t)) (λ k. (f k).0), same_truth (facts.multi t) false (λ k. (f k).1))

    single_told : (shape : TermShape) (t : ℕ) → (K → IsSingle facts shape t) → IsSingle facts shape t
    single_told (variant_shape j) t f = tt
    single_told struct_shape t f = tt
    single_told declared_shape t f = same_truth (facts.multi t) false f

    mutual
      scoped_told : (p : TypedPattern) (S : ℕ → Type 0) → IsDecided S → (K → IsWellScoped facts p S) → IsWellScoped facts p S
      scoped_told (typed_bind ty j p) S D f = (scoped_told p S D (λ k. (f k).0), λ s. never (λ k. (f k).1 s))
      scoped_told (typed_var ty j) S D f = among S D j f
      scoped_told (typed_bool ty b) S D f = tt
      scoped_told (typed_int ty n) S D f = tt
      scoped_told (typed_prim ty n) S D f = tt
      scoped_told (typed_term ty t ps) S D f =
          (opened_told (facts.shape t) t (patterns ps) (λ k. (f k).0), all_scoped_told ps S D (λ k. (f k).1))
      scoped_told (typed_wildcard ty) S D f = tt
      scoped_told (typed_and ty ps) S D f = all_scoped_told ps S D f

      all_scoped_told : (ps : TypedPatterns) (S : ℕ → Type 0) → IsDecided S → (K → AreWellScoped facts ps S) → AreWellScoped facts ps S
      all_scoped_told no_typed S D f = tt
      all_scoped_told (more_typed p ps) S D f =
          (scoped_told p S D (λ k. (f k).0), all_scoped_told ps (scope p S) (scope_decided p S D) (λ k. (f k).1))

    mutual
      reads_told : (e : TypedExpr) (S : ℕ → Type 0) → IsDecided S → (K → ReadsExpr facts e S) → ReadsExpr facts e S
      reads_told (built_var ty j) S D f = among S D j f
      reads_told (built_bool ty b) S D f = tt
      reads_told (built_int ty n) S D f = tt
      reads_told (built_prim ty n) S D f = tt
      reads_told (built_term ty t es) S D f =
          (single_told (facts.shape t) t (λ k. (f k).0), all_read_told es S D (λ k. (f k).1))
      reads_told (built_let ty bs body) S D f =
          (lets_read_told bs S D (λ k. (f k).0), reads_told body (let_scope bs S) (lets_decided bs S D) (λ k. (f k).1))

      all_read_told : (es : TypedExprs) (S : ℕ → Type 0) → IsDecided S → (K → ReadExprs facts es S) → ReadExprs facts es S
      all_read_told no_built S D f = tt
      all_read_told (more_built e es) S D f = (reads_told e S D (λ k. (f k).0), all_read_told es S D (λ k. (f k).1))

      lets_read_told : (bs : TypedBindings) (S : ℕ → Type 0) → IsDecided S → (K → ReadsLets facts bs S) → ReadsLets facts bs S
      lets_read_told no_typed_bindings S D f = tt
      lets_read_told (more_typed_bindings j ty e bs) S D f =
          (reads_told e S D (λ k. (f k).0), lets_read_told bs (λ i. (i ≡ j) ⊎ S i) (added j S D) (λ k. (f k).1))

    iflets_scoped_told : (xs : List TypedIfLet) (S : ℕ → Type 0) → IsDecided S → (K → IfLetsAreWellScoped facts xs S)
        → IfLetsAreWellScoped facts xs S
    iflets_scoped_told [] S D f = tt
    iflets_scoped_told (x ∷ xs) S D f = (
      reads_told x.value S D (λ k. (f k).0),
      scoped_told x.pattern S D (λ k. (f k).1),
      iflets_scoped_told xs (scope x.pattern S) (scope_decided x.pattern S D) (λ k. (f k).2),
    )

    -- a well scoped rule is
    pub well_told : (rule : TypedRule) → (K → IsWellScopedRule facts rule) → IsWellScopedRule facts rule
    well_told rule f =
        let D = scope_all_decided rule.args none none_decided in
        record {
          args = all_scoped_told rule.args none none_decided (λ k. (f k).args);
          iflets = iflets_scoped_told rule.iflets (scope_all rule.args none) D (λ k. (f k).iflets);
          right = reads_told rule.right (scope_of rule) (iflets_decided rule.iflets (scope_all rule.args none) D) (λ k. (f k).right);
        }

    -- ---- types

    module _ (G : ℕ → ℕ) where
      mutual
        typed_told : (p : TypedPattern) (u : ℕ) → (K → IsTyped facts G p u) → IsTyped facts G p u
        typed_told (typed_bind ty j p) u f =
            (same_number ty u (λ k. (f k).0), same_number (G j) u (λ k. (f k).1), typed_told p u (λ k. (f k).2))
        typed_told (typed_var ty j) u f = (same_number ty u (λ k. (f k).0), same_number (G j) u (λ k. (f k).1))
        typed_told (typed_bool ty b) u f = same_number ty u f
        typed_told (typed_int ty n) u f = same_number ty u f
        typed_told (typed_prim ty n) u f =
            (same_number ty u (λ k. (f k).0), same_number (facts.constant_type n) u (λ k. (f k).1))
        typed_told (typed_term ty t ps) u f = (
          same_number ty u (λ k. (f k).0),
          same_number (facts.type_of t) u (λ k. (f k).1),
          all_typed_told ps (part_types facts (facts.shape t) ty t) (λ k. (f k).2),
        )
        typed_told (typed_wildcard ty) u f = same_number ty u f
        typed_told (typed_and ty ps) u f = (same_number ty u (λ k. (f k).0), each_typed_told ps u (λ k. (f k).1))

        all_typed_told : (ps : TypedPatterns) (us : List ℕ) → (K → AllTyped facts G ps us) → AllTyped facts G ps us
        all_typed_told no_typed [] f = tt
        all_typed_told no_typed (u ∷ us) f = never f
        all_typed_told (more_typed p ps) [] f = never f
        all_typed_told (more_typed p ps) (u ∷ us) f = (typed_told p u (λ k. (f k).0), all_typed_told ps us (λ k. (f k).1))

        each_typed_told : (ps : TypedPatterns) (u : ℕ) → (K → EachTyped facts G ps u) → EachTyped facts G ps u
        each_typed_told no_typed u f = tt
        each_typed_told (more_typed p ps) u f = (typed_told p u (λ k. (f k).0), each_typed_told ps u (λ k. (f k).1))

      mutual
        expr_typed_told : (e : TypedExpr) (u : ℕ) → (K → ExprTyped facts G e u) → ExprTyped facts G e u
        expr_typed_told (built_var ty j) u f = (same_number ty u (λ k. (f k).0), same_number (G j) u (λ k. (f k).1))
        expr_typed_told (built_bool ty b) u f = same_number ty u f
        expr_typed_told (built_int ty n) u f = same_number ty u f
        expr_typed_told (built_prim ty n) u f =
            (same_number ty u (λ k. (f k).0), same_number (facts.constant_type n) u (λ k. (f k).1))
        expr_typed_told (built_term ty t es) u f = (
          same_number ty u (λ k. (f k).0),
          same_number (facts.type_of t) u (λ k. (f k).1),
          exprs_typed_told es (part_types facts (facts.shape t) ty t) (λ k. (f k).2),
        )
        expr_typed_told (built_let ty bs body) u f = (bindings_typed_told bs (λ k. (f k).0), expr_typed_told body u (λ k. (f k).1))

        exprs_typed_told : (es : TypedExprs) (us : List ℕ) → (K → ExprsTyped facts G es us) → ExprsTyped facts G es us
        exprs_typed_told no_built [] f = tt
        exprs_typed_told no_built (u ∷ us) f = never f
        exprs_typed_told (more_built e es) [] f = never f
        exprs_typed_told (more_built e es) (u ∷ us) f = (expr_typed_told e u (λ k. (f k).0), exprs_typed_told es us (λ k. (f k).1))

        bindings_typed_told : (bs : TypedBindings) → (K → BindingsTyped facts G bs) → BindingsTyped facts G bs
        bindings_typed_told no_typed_bindings f = tt
        bindings_typed_told (more_typed_bindings j ty e bs) f =
            (same_number (G j) ty (λ k. (f k).0), expr_typed_told e ty (λ k. (f k).1), bindings_typed_told bs (λ k. (f k).2))

      -- a condition's type is its pattern's
      iflets_typed_told : (xs : List TypedIfLet) → (K → IfLetsTyped facts G xs) → IfLetsTyped facts G xs
      iflets_typed_told [] f = tt
      iflets_typed_told (x ∷ xs) f =
          let u = typed_at x.pattern in (
            (
              u,
              expr_typed_told x.value u (λ k. let h = (f k).0 in
                  subst (ExprTyped facts G x.value) (sym (type_is facts G x.pattern h.0 h.2)) h.1),
              typed_told x.pattern u (λ k. let h = (f k).0 in
                  subst (IsTyped facts G x.pattern) (sym (type_is facts G x.pattern h.0 h.2)) h.2),
            ),
            iflets_typed_told xs (λ k. (f k).1),
          )

      -- a typed rule is
      pub rule_typed_told : (tys : List ℕ) (u : ℕ) (rule : TypedRule) → (K → RuleIsTyped facts tys u G rule) → RuleIsTyped facts tys u G rule
      rule_typed_told tys u rule f = record {
        args = all_typed_told rule.args tys (λ k. (f k).args);
        iflets = iflets_typed_told rule.iflets (λ k. (f k).iflets);
        right = expr_typed_told rule.right u (λ k. (f k).right);
      }

  -- ---- values of types

  truth_told : (kind : TypeKind) → (K → kind ≡ truth_kind) → kind ≡ truth_kind
  truth_told truth_kind f = refl
  truth_told (integer_kind int) f = absurd (never (λ k. let h = f k in absurd cc))
  truth_told primitive_kind f = absurd (never (λ k. let h = f k in absurd cc))
  truth_told data_kind f = absurd (never (λ k. let h = f k in absurd cc))
  truth_told no_kind f = absurd (never (λ k. let h = f k in absurd cc))

  constants_told : (kind : TypeKind) → (K → HasConstants kind) → HasConstants kind
  constants_told truth_kind f = tt
  constants_told (integer_kind int) f = tt
  constants_told primitive_kind f = tt
  constants_told data_kind f = never f
  constants_told no_kind f = never f

  fits_told : (n : ℤ) → (K → FitsSigned w128 n) → FitsSigned w128 n
  fits_told n f = record { sfits = below _ _ (λ k. (f k).sfits) }

  number_told : (int : IntType) (n : ℤ) → (K → HasNumber int n) → HasNumber int n
  number_told int n f =
      record { low = at_most (least_of int) n (λ k. (f k).low); high = at_most n (greatest_of int) (λ k. (f k).high) }

  int_told : (n : ℤ) (kind : TypeKind) → (K → IsIntOf n kind) → IsIntOf n kind
  int_told n truth_kind f = never f
  int_told n (integer_kind int) f = (number_told int n (λ k. (f k).0), fits_told n (λ k. (f k).1))
  int_told n primitive_kind f = fits_told n f
  int_told n data_kind f = never f
  int_told n no_kind f = never f

  module _ (facts : ValueFacts) (ty : ℕ) where
    bool_value_told : (b : Bool) → (K → IsValueOf facts (bool_value b) ty) → IsValueOf facts (bool_value b) ty
    bool_value_told b f =
        record { tree = bool_tree b; typed = truth_told (facts.kind ty) (λ k. truth_kinds facts ty b (f k)); stands = refl }

    constant_value_told : (name : List ℕ) → (K → IsValueOf facts (constant_value name) ty) → IsValueOf facts (constant_value name) ty
    constant_value_told name f = record {
      tree = const_tree name;
      typed = (
        found_type (facts.constant name) ty (λ k. (constant_types facts ty name (f k)).0),
        constants_told (facts.kind ty) (λ k. (constant_types facts ty name (f k)).1),
      );
      stands = refl;
    }

    -- an integer that isn't one by its bits
    plain_told : (n : ℤ) → ((m : ℕ) → IsBigOf m (facts.kind ty) → cast_signed w128 m ≡ n → ⊥) → (K → IsValueOf facts (int_value n) ty)
        → IsValueOf facts (int_value n) ty
    plain_told n other f = record {
      tree = int_tree n;
      typed = int_told n (facts.kind ty) (λ k. elim (integer_types facts ty n (f k)) [
        | inl is ↦ is
        | inr (m, big, e) ↦ absurd (other m big e)
      ]);
      stands = refl;
    }

    -- an integer of `u128`
    widest_told : (n : ℤ) → facts.kind ty ≡ integer_kind U128 → (K → IsValueOf facts (int_value n) ty) → IsValueOf facts (int_value n) ty
    widest_told (pos n) e f = plain_told (pos n) (λ m big is. let bits = big_bits m big.1 in absurd cc) f
    widest_told (negsuc n) e f =
        let low : n < 2 ^ 127 = below n (2 ^ 127) (λ k. elim (integer_types facts ty (negsuc n) (f k)) [
          | inl is ↦ absurd ((subst (IsIntOf (negsuc n)) e is).0.low.le)
          | inr (m, big, is) ↦ (let bits = big_bits m big.1 in
              let same : 2 ^ 128 - suc m ≡ n = cc in
              let from : 2 ^ 127 ≤ m = big.1 in
              omega (arith, same, from))
        ]) in
        record {
          tree = big_tree (2 ^ 128 - suc n);
          typed = (
            e,
            (let h : 2 ^ 127 ≤ 2 ^ 128 - suc n = omega (arith, low) in h),
            (let h : 2 ^ 128 - suc n < 2 ^ 128 = omega (arith, low) in h),
          );
          stands = ap int_value (to_z-of_z w128 (negsuc n) (record { sfits = low }));
        }

    int_value_told : (n : ℤ) → (K → IsValueOf facts (int_value n) ty) → IsValueOf facts (int_value n) ty
    int_value_told n f = go (facts.kind ty) refl
      where
        go : (kind : TypeKind) → facts.kind ty ≡ kind → IsValueOf facts (int_value n) ty
        go truth_kind e = plain_told n (λ m big is. let h = big.0 in absurd cc) f
        go (integer_kind int) e = elim (is_widest int) [
          | inl same ↦ widest_told n (e ∙ ap integer_kind same) f
          | inr not ↦ plain_told n (λ m big is. let h = big.0 in let same : int ≡ U128 = cc in not same) f
        ]
        go primitive_kind e = plain_told n (λ m big is. let h = big.0 in absurd cc) f
        go data_kind e = plain_told n (λ m big is. let h = big.0 in absurd cc) f
        go no_kind e = plain_told n (λ m big is. let h = big.0 in absurd cc) f

  -- ---- rules

  module _ (p : CheckedProgram) (R : ℕ → Type 0) (may : (t : ℕ) → (K → R t) → R t) where
    mutual
      expr_told : (e : TypedExpr) → (K → IsSoundExpr p R e) → IsSoundExpr p R e
      expr_told (built_var ty j) f = tt
      expr_told (built_bool ty b) f = bool_value_told p.values ty b f
      expr_told (built_int ty n) f = int_value_told p.values ty n f
      expr_told (built_prim ty name) f = constant_value_told p.values ty name f
      expr_told (built_term ty t es) f = (λ ruled. may t (λ k. (f k).0 ruled), exprs_told es (λ k. (f k).1))
      expr_told (built_let ty bs body) f = (bindings_told bs (λ k. (f k).0), expr_told body (λ k. (f k).1))

      exprs_told : (es : TypedExprs) → (K → AreSoundExprs p R es) → AreSoundExprs p R es
      exprs_told no_built f = tt
      exprs_told (more_built e es) f = (expr_told e (λ k. (f k).0), exprs_told es (λ k. (f k).1))

      bindings_told : (bs : TypedBindings) → (K → AreSoundBindings p R bs) → AreSoundBindings p R bs
      bindings_told no_typed_bindings f = tt
      bindings_told (more_typed_bindings j ty e bs) f = (expr_told e (λ k. (f k).0), bindings_told bs (λ k. (f k).1))

    iflets_told : (xs : List TypedIfLet) → (K → AreSoundIfLets p R xs) → AreSoundIfLets p R xs
    iflets_told [] f = tt
    iflets_told (x ∷ xs) f = (expr_told x.value (λ k. (f k).0), iflets_told xs (λ k. (f k).1))

    pure_iflets_told : (xs : List TypedIfLet) → (K → AskNothingImpure p xs) → AskNothingImpure p xs
    pure_iflets_told [] f = tt
    pure_iflets_told (x ∷ xs) f = (no_steps (steps_of p.terms x.value) (λ k. (f k).0), pure_iflets_told xs (λ k. (f k).1))

    -- a sound rule is, if it is typed where each variable has its type
    pub sound_rule_told : (rule : TypedRule) → (K → IsSoundRule p R rule)
        → (K → RuleIsTyped p.terms (p.terms.inputs rule.root) (p.terms.type_of rule.root) (var_type rule.variables) rule)
        → IsSoundRule p R rule
    sound_rule_told rule f typed = record {
      well = well_told p.terms rule (λ k. (f k).well);
      var_types = var_type rule.variables;
      typed = rule_typed_told p.terms (var_type rule.variables) (p.terms.inputs rule.root) (p.terms.type_of rule.root) rule typed;
      iflets = iflets_told rule.iflets (λ k. (f k).iflets);
      right = expr_told rule.right (λ k. (f k).right);
      pure_iflets = pure_iflets_told rule.iflets (λ k. (f k).pure_iflets);
      pure_right = λ pure. no_steps (steps_of p.terms rule.right) (λ k. (f k).pure_right pure);
    }

  -- ---- data

  -- sound data is, if the name of each variant and struct is known
  module _ (p : CheckedProgram) (variant_called : ℕ → ℕ → List ℕ) (struct_called : ℕ → List ℕ)
      (variants : (name : List ℕ) (k ty : ℕ) (types : List ℕ) → p.values.shape_named name ≡ Some (variant_shape k)
      → p.values.data_named name ≡ Some (ty, types) → variant_called ty k ≡ name)
      (structs : (name : List ℕ) (ty : ℕ) (types : List ℕ) → p.values.shape_named name ≡ Some struct_shape
      → p.values.data_named name ≡ Some (ty, types) → struct_called ty ≡ name) where
    shaped_told : (o : Option TermShape) → (K → ((j : ℕ) × (o ≡ Some (variant_shape j))) ⊎ (o ≡ Some struct_shape))
        → ((j : ℕ) × (o ≡ Some (variant_shape j))) ⊎ (o ≡ Some struct_shape)
    shaped_told None f = absurd (never (λ k. elim (f k) [ inl (j, e) ↦ absurd cc | inr e ↦ absurd cc ]))
    shaped_told (Some (variant_shape j)) f = inl (j, refl)
    shaped_told (Some struct_shape) f = inr refl
    shaped_told (Some declared_shape) f = absurd (never (λ k. elim (f k) [ inl (j, e) ↦ absurd cc | inr e ↦ absurd cc ]))

    pub sound_data_told : (K → HasSoundData p) → HasSoundData p
    sound_data_told f = record {
      variant_name = λ t j e.
          (let ty = p.terms.type_of t in
          let name = variant_called ty j in
          let own : (k : K) → ((f k).variant_name t j e).0 ≡ name =
          λ k. (let (called, shaped, fielded) = (f k).variant_name t j e in sym (variants called j ty _ shaped fielded)) in (
            name,
            found_shape (p.values.shape_named name) (variant_shape j)
                (λ k. ap p.values.shape_named (sym (own k)) ∙ ((f k).variant_name t j e).1),
            found_data (p.values.data_named name) ty (p.terms.variant_fields ty j)
                (λ k. ap p.values.data_named (sym (own k)) ∙ ((f k).variant_name t j e).2),
          ));
      struct_name = λ t e.
          (let ty = p.terms.type_of t in
          let name = struct_called ty in
          let own : (k : K) → ((f k).struct_name t e).0 ≡ name =
          λ k. (let (called, shaped, fielded) = (f k).struct_name t e in sym (structs called ty _ shaped fielded)) in (
            name,
            found_shape (p.values.shape_named name) struct_shape
                (λ k. ap p.values.shape_named (sym (own k)) ∙ ((f k).struct_name t e).1),
            found_data (p.values.data_named name) ty (p.terms.struct_fields ty)
                (λ k. ap p.values.data_named (sym (own k)) ∙ ((f k).struct_name t e).2),
          ));
      variant_fields = λ name j ty types s d. same_text types (p.terms.variant_fields ty j) (λ k. (f k).variant_fields name j ty types s d);
      struct_fields = λ name ty types s d. same_text types (p.terms.struct_fields ty) (λ k. (f k).struct_fields name ty types s d);
      shaped = λ name ty types d. shaped_told (p.values.shape_named name) (λ k. (f k).shaped name ty types d);
      one_name = λ name other shape ty types others s t d e.
          same_text name other (λ k. (f k).one_name name other shape ty types others s t d e);
    }
