-- What typing gives of a checked program's rules, for the terms that are run.
use Rattle.std.specs.Prelude.{◌≡◌, ◌⊎◌, ℕ, true, List, [], ◌∷◌, Some, slice_get}
use Rattle.isle_rules.specs.TypedRules.{TypedExpr, built_var, built_bool, built_int, built_prim, built_term, built_let, TypedExprs}
use Rattle.isle_rules.specs.TypedRules.{no_built, more_built, TypedBindings, no_typed_bindings, more_typed_bindings, TypedIfLet, TypedRule}
use Rattle.isle_meaning.specs.Facts.{TermShape, variant_shape, struct_shape}
use Rattle.isle_meaning.specs.Values.{bool_value, int_value, constant_value}
use Rattle.isle_meaning.specs.GroundValues.{IsValueOf}
use Rattle.isle_meaning.specs.Typing.{RuleIsTyped}
use Rattle.isle_meaning.specs.Words.{steps_of}
use Rattle.isle_meaning.specs.Scopes.{IsWellScopedRule}
use Rattle.isle_meaning.specs.Worlds.{CheckedProgram}

-- an expression's literals are of their types, and of the terms with rules it calls only these
abbrev mutual
  pub IsSoundExpr : CheckedProgram → (ℕ → Type 0) → TypedExpr → Type 0
  IsSoundExpr p R (built_var ty k) = Unit {0}
  IsSoundExpr p R (built_bool ty b) = IsValueOf p.values (bool_value b) ty
  IsSoundExpr p R (built_int ty n) = IsValueOf p.values (int_value n) ty
  IsSoundExpr p R (built_prim ty name) = IsValueOf p.values (constant_value name) ty
  IsSoundExpr p R (built_term ty t es) = (p.has_rules t ≡ true → R t) × AreSoundExprs p R es
  IsSoundExpr p R (built_let ty bs body) = AreSoundBindings p R bs × IsSoundExpr p R body

  pub AreSoundExprs : CheckedProgram → (ℕ → Type 0) → TypedExprs → Type 0
  AreSoundExprs p R no_built = Unit {0}
  AreSoundExprs p R (more_built e es) = IsSoundExpr p R e × AreSoundExprs p R es

  pub AreSoundBindings : CheckedProgram → (ℕ → Type 0) → TypedBindings → Type 0
  AreSoundBindings p R no_typed_bindings = Unit {0}
  AreSoundBindings p R (more_typed_bindings k ty e bs) = IsSoundExpr p R e × AreSoundBindings p R bs

-- so are those of if-lets
abbrev pub AreSoundIfLets : CheckedProgram → (ℕ → Type 0) → List TypedIfLet → Type 0
AreSoundIfLets p R [] = Unit {0}
AreSoundIfLets p R (x ∷ xs) = IsSoundExpr p R x.value × AreSoundIfLets p R xs

-- if-lets make no impure calls
abbrev pub AskNothingImpure : CheckedProgram → List TypedIfLet → Type 0
AskNothingImpure p [] = Unit {0}
AskNothingImpure p (x ∷ xs) = (steps_of p.terms x.value ≡ []) × AskNothingImpure p xs

-- a rule reads its variables where they are bound, is typed, and calls only these of the terms with rules; its if-lets make no impure
-- calls, nor does the right side of one of a pure term
pub record IsSoundRule (p : CheckedProgram) (R : ℕ → Type 0) (rule : TypedRule) : Type 0 where
  pub well : IsWellScopedRule p.terms rule
  pub var_types : ℕ → ℕ
  pub typed : RuleIsTyped p.terms (p.terms.inputs rule.root) (p.terms.type_of rule.root) var_types rule
  pub iflets : AreSoundIfLets p R rule.iflets
  pub right : IsSoundExpr p R rule.right
  pub pure_iflets : AskNothingImpure p rule.iflets
  pub pure_right : p.terms.pure rule.root ≡ true → steps_of p.terms rule.right ≡ []

-- what is said of data by name is what is said of it by number
pub record HasSoundData (p : CheckedProgram) : Type 0 where
  -- a variant's term has a name, by which its values are made
  pub variant_name : (t k : ℕ) → p.terms.shape t ≡ variant_shape k → (name : List ℕ) × (p.values.shape_named name ≡ Some (variant_shape k))
      × (p.values.data_named name ≡ Some (p.terms.type_of t, p.terms.variant_fields (p.terms.type_of t) k))
  pub struct_name : (t : ℕ) → p.terms.shape t ≡ struct_shape → (name : List ℕ) × (p.values.shape_named name ≡ Some struct_shape)
      × (p.values.data_named name ≡ Some (p.terms.type_of t, p.terms.struct_fields (p.terms.type_of t)))
  -- data of a name has the fields of its variant or struct
  pub variant_fields : (name : List ℕ) (k ty : ℕ) (types : List ℕ) → p.values.shape_named name ≡ Some (variant_shape k)
      → p.values.data_named name ≡ Some (ty, types) → types ≡ p.terms.variant_fields ty k
  pub struct_fields : (name : List ℕ) (ty : ℕ) (types : List ℕ) → p.values.shape_named name ≡ Some struct_shape
      → p.values.data_named name ≡ Some (ty, types) → types ≡ p.terms.struct_fields ty
  -- data is a variant or a struct
  pub shaped : (name : List ℕ) (ty : ℕ) (types : List ℕ) → p.values.data_named name ≡ Some (ty, types)
      → ((k : ℕ) × (p.values.shape_named name ≡ Some (variant_shape k))) ⊎ (p.values.shape_named name ≡ Some struct_shape)
  -- a shape of a type has one name
  pub one_name : (name other : List ℕ) (shape : TermShape) (ty : ℕ) (types others : List ℕ) → p.values.shape_named name ≡ Some shape
      → p.values.shape_named other ≡ Some shape → p.values.data_named name ≡ Some (ty, types)
      → p.values.data_named other ≡ Some (ty, others)
      → name ≡ other

-- a program whose rules of these terms are typed, read what is bound, and call only these of the terms with rules
pub record IsSound (p : CheckedProgram) (R : ℕ → Type 0) : Type 0 where
  pub rules : (i : ℕ) (rule : TypedRule) → slice_get p.rules i ≡ Some rule → R rule.root → IsSoundRule p R rule
  pub rooted : (i : ℕ) (rule : TypedRule) → slice_get p.rules i ≡ Some rule → p.has_rules rule.root ≡ true
  pub ruled : (t : ℕ) → R t → p.has_rules t ≡ true
  pub data_sound : HasSoundData p
