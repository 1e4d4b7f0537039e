-- The terms of variants and structs that definitions make take exactly their fields.
use Rattle.std.proofs.Common.{◌≡◌, ◌+◌, ◌⊎◌, inl, inr, ℕ, zero, suc, List, [], ◌∷◌, ◌++◌, map, length, Bool, Some, slice_get, unwrap_or}
use Rattle.std.proofs.Common.{refl, sym, ◌∙◌, ap, subst, arith}
use Rattle.std.specs.List.{AllZip}
use Rattle.std.specs.Option.{option_map}
use Rattle.std.proofs.lemmas.List.{length-map}
use Rattle.std.proofs.lemmas.Option.{slice_get-map, same_Some, none-some}
use Rattle.isle_types.specs.IntTypes.{builtin_names}
use Rattle.isle_types.specs.Environment.{NamedType, NamedVariant, TypeShape, primitive, enum, struct, numbers_in, Environment}
use Rattle.isle_ast.specs.declared.ast.Def.{Def}
use Rattle.isle_rules.specs.Signatures.{Signature, variant_form, struct_form, declared_form}
use Rattle.isle_rules.specs.Definitions.{variant_terms, terms_of_shape, terms_of_types, declarations, IsDeclaration, TermEnvironment, declared_by, MakesTerms}
use Rattle.isle_meaning.specs.Facts.{type_shape, variant_types, struct_types, fields_of_variant, TakesFields}
use Rattle.isle_meaning.specs.Laws.Matching.{MadeTermsTakeTheirFields, RulesOfDefinitionsFit}
use Rattle.isle_rules.specs.SoundRules.KeptScopes.{KeepsScopes}
use Rattle.isle_types.proofs.Zipped.{all_at}
use Rattle.isle_rules.proofs.Sound.RuleScopes.{rules_keep_scopes}
use Rattle.isle_meaning.specs.Laws.Elaborated.{DefinitionsAreElaborated}
use Rattle.isle_meaning.proofs.Matching.Bridging.{elaborated_rules_fit, typed_rules_are_elaborated}

-- Where an item of two lists stands.
pub either_list : {X : Type 0} (xs ys : List X) (i : ℕ) (x : X) → slice_get (xs ++ ys) i ≡ Some x
    → (slice_get xs i ≡ Some x) ⊎ ((j : ℕ) × (i ≡ length xs + j) × (slice_get ys j ≡ Some x))
either_list [] ys i x h = inr (i, omega arith, h)
either_list (y ∷ xs) ys zero x h = inl h
either_list (y ∷ xs) ys (suc i) x h = elim (either_list xs ys i x h) [
  | inl g ↦ inl g
  | inr (j, e, g) ↦ inr (j, omega arith, g)
]

after_first : {X : Type 0} (xs ys : List X) (j : ℕ) → slice_get (xs ++ ys) (length xs + j) ≡ slice_get ys j
after_first {X} [] ys j = ap (slice_get ys) (none (length {A = X} []) refl)
  where
    none : (n : ℕ) → n ≡ 0 → n + j ≡ j
    none n e = omega arith
after_first (x ∷ xs) ys j = ap (slice_get (x ∷ (xs ++ ys))) (more (length (x ∷ xs)) refl) ∙ after_first xs ys j
  where
    more : (n : ℕ) → n ≡ suc (length xs) → n + j ≡ suc (length xs + j)
    more n e = omega arith

-- a term of a type's variants
pub record OfVariant (ty number : ℕ) (variants : List NamedVariant) (term : Signature) : Type 0 where
  pub place : ℕ
  pub variant : NamedVariant
  pub at : slice_get variants place ≡ Some variant
  pub form : term.form ≡ variant_form (number + place)
  pub args : term.args ≡ numbers_in variant.fields
  pub ret : term.ret ≡ ty

of_variant : (ty : ℕ) (type : List ℕ) (number : ℕ) (variants : List NamedVariant) (i : ℕ) (term : Signature)
    → slice_get (variant_terms ty type number variants) i ≡ Some term → OfVariant ty number variants term
of_variant ty type number [] i term h = absurd cc
of_variant ty type number (v ∷ vs) zero term h =
    record {
      place = 0;
      variant = v;
      at = refl;
      form = ap (λ (t : Signature). t.form) (told h) ∙ ap variant_form (omega arith);
      args =
          ap (λ (t : Signature). t.args) (told h);
      ret = ap (λ (t : Signature). t.ret) (told h);
    }
  where
    told : {a b : Signature} → Some a ≡ Some b → b ≡ a
    told e = cc
of_variant ty type number (v ∷ vs) (suc i) term h =
    let r = of_variant ty type (suc number) vs i term h in
    record { place = suc r.place; variant = r.variant; at = r.at; form = r.form ∙ ap variant_form (omega arith); args = r.args; ret = r.ret }

-- a term of a type
pub data OfShape (ty : ℕ) (term : Signature) : TypeShape → Type 0 where
  of_enum : {variants : List NamedVariant} → OfVariant ty 0 variants term → OfShape ty term (enum variants)
  of_struct : {members : _} → term.form ≡ struct_form → term.args ≡ numbers_in members → term.ret ≡ ty → OfShape ty term (struct members)

of_shape : (ty : ℕ) (type : NamedType) (shape : TypeShape) (i : ℕ) (term : Signature) → slice_get (terms_of_shape ty type shape) i ≡ Some term
    → OfShape ty term shape
of_shape ty type (primitive n) i term h = absurd cc
of_shape ty type (enum variants) i term h = of_enum (of_variant ty type.name 0 variants i term h)
of_shape ty type (struct members) zero term h =
    of_struct (ap (λ (t : Signature). t.form) (told h)) (ap (λ (t : Signature). t.args) (told h)) (ap (λ (t : Signature). t.ret) (told h))
  where
    told : {a b : Signature} → Some a ≡ Some b → b ≡ a
    told e = cc
of_shape ty type (struct members) (suc i) term h = absurd cc

-- a term of types that count from a number on
pub record OfTypes (first : ℕ) (types : List NamedType) (term : Signature) : Type 0 where
  pub place : ℕ
  pub type : NamedType
  pub at : slice_get types place ≡ Some type
  pub shape : OfShape (first + place) term type.shape

pub of_types : (first : ℕ) (types : List NamedType) (i : ℕ) (term : Signature) → slice_get (terms_of_types first types) i ≡ Some term
    → OfTypes first types term
of_types first [] i term h = absurd cc
of_types first (t ∷ ts) i term h = elim (either_list (terms_of_shape first t t.shape) (terms_of_types (suc first) ts) i term h) [
  | inl g ↦ record {
    place = 0;
    type = t;
    at = refl;
    shape = subst (λ n. OfShape n term t.shape) (omega arith) (of_shape first t t.shape i term g);
  }
  | inr (j, e, g) ↦ later (of_types (suc first) ts j term g)
]
  where
    later : OfTypes (suc first) ts term → OfTypes first (t ∷ ts) term
    later r = record {
      place = suc r.place;
      type = r.type;
      at = r.at;
      shape = subst (λ n. OfShape n term r.type.shape) (omega arith) r.shape;
    }

-- what an item at a place comes from
paired_at : {A B : Type 0} (R : A → B → Type 0) (xs : List A) (ys : List B) → AllZip R xs ys → (i : ℕ) (y : B) → slice_get ys i ≡ Some y
    → (x : A) × R x y
paired_at R [] [] each i y h = absurd (none-some y h)
paired_at R [] (z ∷ ys) each i y h = absurd each
paired_at R (x ∷ xs) [] each i y h = absurd each
paired_at R (x ∷ xs) (z ∷ ys) each zero y h = (x, subst (R x) (same_Some z y h) each.0)
paired_at R (x ∷ xs) (z ∷ ys) each (suc i) y h = paired_at R xs ys each.1 i y h

module _ (types : Environment) (expands : Bool) (levels max : ℕ) (defs : List Def) (environment : TermEnvironment)
    (made : MakesTerms types expands levels max defs environment) where
  abbrev builtin : ℕ
  builtin = length builtin_names

  shape_at : (k : ℕ) (type : NamedType) → slice_get types.types k ≡ Some type → type_shape types (builtin + k) ≡ type.shape
  shape_at k type h =
      let p = ap (λ n. slice_get (map primitive builtin_names ++ map (λ (t : NamedType). t.shape) types.types) (n + k))
      (sym (length-map builtin_names primitive)) in
      let q = after_first (map primitive builtin_names) (map (λ (t : NamedType). t.shape) types.types) k in
      let r = slice_get-map (λ (t : NamedType). t.shape) types.types k ∙ ap (option_map (λ (t : NamedType). t.shape)) h in
      ap (λ o. unwrap_or o (primitive [])) (p ∙ q ∙ r)

  from_types : (i : ℕ) (term : Signature) → slice_get environment.terms i ≡ Some term
      → ((c : _) (e : _) (f : _) → term.form ≡ declared_form f c e → ⊥)
      → OfTypes builtin types.types term
  from_types i term h other =
      let are = made.terms in
      elim (either_list are.declared (terms_of_types builtin types.types) i term (subst (λ l. slice_get l i ≡ Some term) are.all h)) [
        | inl g ↦ let (decl, d) = paired_at (IsDeclaration types defs) (declarations defs) are.declared are.each i term g in
            absurd (other _ _ _ d.form)
        | inr (j, e, g) ↦ of_types builtin types.types j term g
      ]

  takes : TakesFields (declared_by types expands environment)
  takes = record {
    variant = λ i place term h f. let r = from_types i term h (λ c e g p. absurd cc) in
        variant_of r.place r.type r.at place f r.type.shape refl r.shape;
    struct = λ i term h f. let r = from_types i term h (λ c e g p. absurd cc) in struct_of r.place r.type r.at f r.type.shape refl r.shape;
  }
    where
      variant_of : {term : Signature} (k : ℕ) (type : NamedType) → slice_get types.types k ≡ Some type → (place : ℕ) → term.form ≡ variant_form place
          → (shape : TypeShape) → type.shape ≡ shape → OfShape (builtin + k) term shape → variant_types (type_shape types term.ret) place ≡ term.args
      variant_of k type at place f (primitive n) s o = elim o [ ]
      variant_of k type at place f (enum variants) s (of_enum v) =
          let p : place ≡ v.place = same (sym f ∙ v.form) ∙ omega arith in
          let q : type_shape types (builtin + k) ≡ enum variants = shape_at k type at ∙ s in
          ap (λ n. variant_types (type_shape types n) place) v.ret ∙ ap (λ x. variant_types x place) q
          ∙ ap (λ n. fields_of_variant (slice_get variants n)) p ∙ ap fields_of_variant v.at ∙ sym v.args
        where
          same : {a b : ℕ} → variant_form a ≡ variant_form b → a ≡ b
          same e = cc
      variant_of k type at place f (struct members) s (of_struct g a r) = let e = sym f ∙ g in absurd cc

      struct_of : {term : Signature} (k : ℕ) (type : NamedType) → slice_get types.types k ≡ Some type → term.form ≡ struct_form
          → (shape : TypeShape) → type.shape ≡ shape → OfShape (builtin + k) term shape → struct_types (type_shape types term.ret) ≡ term.args
      struct_of k type at f (primitive n) s o = elim o [ ]
      struct_of k type at f (enum variants) s (of_enum v) = let e = sym f ∙ v.form in absurd cc
      struct_of k type at f (struct members) s (of_struct g a r) =
          ap (λ n. struct_types (type_shape types n)) r ∙ ap struct_types (shape_at k type at ∙ s) ∙ sym a

pub made_terms_take_their_fields : MadeTermsTakeTheirFields
made_terms_take_their_fields types expands levels max defs environment made = takes types expands levels max defs environment made

pub rules_of_definitions_fit : RulesOfDefinitionsFit
rules_of_definitions_fit types expands levels max defs environment made place rule h typed one takes_one =
    elaborated_rules_fit (declared_by types expands environment) rule typed
    (all_at KeepsScopes environment.rules (rules_keep_scopes types expands levels max defs environment made) place rule h)
    (takes types expands levels max defs environment made) one takes_one

pub definitions_are_elaborated : DefinitionsAreElaborated
definitions_are_elaborated types expands levels max defs environment made place rule h typed =
    typed_rules_are_elaborated (declared_by types expands environment) rule typed
    (all_at KeepsScopes environment.rules (rules_keep_scopes types expands levels max defs environment made) place rule h)
    (takes types expands levels max defs environment made)
