-- Which terms the variants and structs of types are.
use Rattle.std.proofs.Common.{◌≡◌, ◌+◌, ◌⊎◌, inl, inr, ℕ, zero, suc, List, [], ◌∷◌, ◌++◌, length, Some, slice_get, codes}
use Rattle.std.proofs.Common.{refl, sym, ◌∙◌, ap, subst, arith}
use Rattle.std.specs.List.{AllZip}
use Rattle.std.proofs.lemmas.Option.{same_Some, none-some}
use Rattle.isle_ast.specs.declared.ast.Def.{Def}
use Rattle.isle_types.specs.IntTypes.{builtin_names}
use Rattle.isle_types.specs.Environment.{Environment, NamedType, NamedVariant, FieldList, TypeShape, primitive, enum, struct}
use Rattle.isle_rules.specs.Signatures.{Signature, variant_form, struct_form, declared_form}
use Rattle.isle_rules.specs.Definitions.{variant_terms, terms_of_shape, terms_of_types, declarations, IsDeclaration, AreTerms}

-- where an item of two lists stands
either_list : {X : Type 0} (xs ys : List X) (i : ℕ) (x : X) → slice_get (xs ++ ys) i ≡ Some x
    → (slice_get xs i ≡ Some x) ⊎ ((j : ℕ) × (slice_get ys j ≡ Some x))
either_list [] ys i x h = inr (i, h)
either_list (y ∷ xs) ys zero x h = inl h
either_list (y ∷ xs) ys (suc i) x h = either_list xs ys i x h

-- the term of a variant
record IsOfVariant (ty number : ℕ) (type : List ℕ) (variants : List NamedVariant) (term : Signature) : Type 0 where
  place : ℕ
  variant : NamedVariant
  at : slice_get variants place ≡ Some variant
  form : term.form ≡ variant_form (number + place)
  name : term.name ≡ type ++ codes "." ++ variant.name
  ret : term.ret ≡ ty

of_variant : (ty : ℕ) (type : List ℕ) (number : ℕ) (variants : List NamedVariant) (i : ℕ) (term : Signature)
    → slice_get (variant_terms ty type number variants) i ≡ Some term → IsOfVariant ty number type variants term
of_variant ty type number [] i term h = absurd (none-some term h)
of_variant ty type number (v ∷ vs) zero term h =
    let same = sym (same_Some _ term h) in
    record {
      place = 0;
      variant = v;
      at = refl;
      form = ap (λ (t : Signature). t.form) same ∙ ap variant_form (omega arith);
      name = ap (λ (t : Signature). t.name) same;
      ret = ap (λ (t : Signature). t.ret) same;
    }
of_variant ty type number (v ∷ vs) (suc i) term h =
    let r = of_variant ty type (suc number) vs i term h in
    record {
      place = suc r.place;
      variant = r.variant;
      at = r.at;
      form = r.form ∙ ap variant_form (omega arith);
      name = r.name;
      ret = r.ret;
    }

-- a term of types that count from a number on: a variant's, or a struct's
pub data IsMadeOf (first : ℕ) (types : List NamedType) (term : Signature) : Type 0 where
  variant_made : (place k : ℕ) (type : NamedType) (variants : List NamedVariant) (variant : NamedVariant)
      → slice_get types place ≡ Some type
      → type.shape ≡ enum variants → slice_get variants k ≡ Some variant → term.form ≡ variant_form k → term.ret ≡ first + place
      → term.name ≡ type.name ++ codes "." ++ variant.name → IsMadeOf first types term
  struct_made : (place : ℕ) (type : NamedType) (members : FieldList) → slice_get types place ≡ Some type → type.shape ≡ struct members
      → term.form ≡ struct_form → term.ret ≡ first + place → term.name ≡ type.name → IsMadeOf first types term

of_shape : (ty : ℕ) (type : NamedType) (types : List NamedType) (shape : TypeShape) (i : ℕ) (term : Signature) → type.shape ≡ shape
    → slice_get (terms_of_shape ty type shape) i ≡ Some term → IsMadeOf ty (type ∷ types) term
of_shape ty type types (primitive n) i term is h = absurd (none-some term h)
of_shape ty type types (enum variants) i term is h =
    let r = of_variant ty type.name 0 variants i term h in
    variant_made 0 r.place type variants r.variant refl is r.at (r.form ∙ ap variant_form (omega arith)) (r.ret ∙ omega arith) r.name
of_shape ty type types (struct members) zero term is h =
    let same = sym (same_Some _ term h) in
    struct_made 0 type members refl is (ap (λ (t : Signature). t.form) same) (ap (λ (t : Signature). t.ret) same ∙ omega arith)
    (ap (λ (t : Signature). t.name) same)
of_shape ty type types (struct members) (suc i) term is h = absurd (none-some term h)

-- one type before
later : (first : ℕ) (type : NamedType) (types : List NamedType) (term : Signature) → IsMadeOf (suc first) types term
    → IsMadeOf first (type ∷ types) term
later first type types term (variant_made place k own variants variant at shape there form ret name) =
    variant_made (suc place) k own variants variant at shape there form (ret ∙ omega arith) name
later first type types term (struct_made place own members at shape form ret name) =
    struct_made (suc place) own members at shape form (ret ∙ omega arith) name

of_types : (first : ℕ) (types : List NamedType) (i : ℕ) (term : Signature) → slice_get (terms_of_types first types) i ≡ Some term
    → IsMadeOf first types term
of_types first [] i term h = absurd (none-some term h)
of_types first (t ∷ ts) i term h = elim (either_list (terms_of_shape first t t.shape) (terms_of_types (suc first) ts) i term h) [
  | inl g ↦ of_shape first t ts t.shape i term refl g
  | inr (j, g) ↦ later first t ts term (of_types (suc first) ts j term g)
]

-- a declared term has a declaration's form
declared_at : (types : Environment) (defs : List Def) (decls : List _) (terms : List Signature)
    → AllZip (IsDeclaration types defs) decls terms
    → (i : ℕ) (term : Signature) → slice_get terms i ≡ Some term → ((f : _) (c : _) (e : _) → term.form ≡ declared_form f c e → ⊥) → ⊥
declared_at types defs [] [] each i term at other = none-some term at
declared_at types defs [] (t ∷ terms) each i term at other = each
declared_at types defs (d ∷ decls) [] each i term at other = each
declared_at types defs (d ∷ decls) (t ∷ terms) each zero term at other =
    other _ _ _ (ap (λ (s : Signature). s.form) (sym (same_Some t term at)) ∙ each.0.form)
declared_at types defs (d ∷ decls) (t ∷ terms) each (suc i) term at other = declared_at types defs decls terms each.1 i term at other

-- a term that isn't declared is a type's
pub made_at : (types : Environment) (defs : List Def) (terms : List Signature) → AreTerms types defs terms → (i : ℕ) (term : Signature)
    → slice_get terms i ≡ Some term → ((f : _) (c : _) (e : _) → term.form ≡ declared_form f c e → ⊥)
    → IsMadeOf (length builtin_names) types.types term
made_at types defs terms are i term at other =
    let there = subst (λ l. slice_get l i ≡ Some term) are.all at in
    elim (either_list are.declared (terms_of_types (length builtin_names) types.types) i term there) [
      | inl g ↦ absurd (declared_at types defs (declarations defs) are.declared are.each i term g other)
      | inr (j, g) ↦ of_types (length builtin_names) types.types j term g
    ]
