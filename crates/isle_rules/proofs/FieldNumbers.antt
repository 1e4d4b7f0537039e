-- The numbers of the types of fields.
use Rattle.std.proofs.Common.{◌≡◌, ℕ, List}
use Rattle.std.proofs.Common.{[], ◌∷◌, map, refl, ap, ◌∙◌}
use Rattle.std.specs.List.{AllZip}
use Rattle.isle_types.specs.declared.types.StructField.{StructField}
use Rattle.isle_types.specs.declared.types.TupleField.{TupleField}
use Rattle.isle_types.specs.declared.types.Fields.{Fields}
use Rattle.isle_types.specs.declared.types.Fields.TheVariants.{Unit as NoFields, Struct as NamedFields, Tuple as UnnamedFields}
use Rattle.isle_types.specs.Types.{field_types}
use Rattle.isle_types.specs.Environment.{FieldList, no_fields, named_fields, tuple_fields, numbers_in}
use Rattle.isle_types.specs.TypeEnvs.{IsShownField, IsShownTupleField, AreShownFields}
use Rattle.isle_rules.specs.Shown.ShownTerms.{numbers_of}

-- the numbers of the types of named fields
named_numbers : (names : List (List ℕ)) (fields : List (List ℕ × ℕ)) (made : List StructField) → AllZip (IsShownField names) fields made
    → numbers_of (map (λ (field : StructField). field.ty) made) ≡ map (λ (field : List ℕ × ℕ). field.1) fields
named_numbers names [] [] each = refl
named_numbers names (x ∷ xs) [] each = absurd each
named_numbers names [] (y ∷ ys) each = absurd each
named_numbers names (x ∷ xs) (y ∷ ys) each =
    ap (λ n. n ∷ numbers_of (map (λ (field : StructField). field.ty) ys)) each.0.type ∙ ap (λ ns. x.1 ∷ ns) (named_numbers names xs ys each.1)

-- the numbers of the types of fields without names
tuple_numbers : (numbers : List ℕ) (made : List TupleField) → AllZip IsShownTupleField numbers made
    → numbers_of (map (λ (field : TupleField). field.ty) made) ≡ numbers
tuple_numbers [] [] each = refl
tuple_numbers (x ∷ xs) [] each = absurd each
tuple_numbers [] (y ∷ ys) each = absurd each
tuple_numbers (x ∷ xs) (y ∷ ys) each =
    ap (λ n. n ∷ numbers_of (map (λ (field : TupleField). field.ty) ys)) each.0 ∙ ap (λ ns. x ∷ ns) (tuple_numbers xs ys each.1)

-- the numbers of the types of fields
pub fields_numbers : (names : List (List ℕ)) (fields : FieldList) (made : Fields) → AreShownFields names fields made
    → numbers_of (field_types made) ≡ numbers_in fields
fields_numbers names no_fields NoFields shown = refl
fields_numbers names no_fields (NamedFields made) shown = absurd shown
fields_numbers names no_fields (UnnamedFields made) shown = absurd shown
fields_numbers names (named_fields fields) NoFields shown = absurd shown
fields_numbers names (named_fields fields) (NamedFields made) shown = named_numbers names fields made.fields shown.0
fields_numbers names (named_fields fields) (UnnamedFields made) shown = absurd shown
fields_numbers names (tuple_fields numbers) NoFields shown = absurd shown
fields_numbers names (tuple_fields numbers) (NamedFields made) shown = absurd shown
fields_numbers names (tuple_fields numbers) (UnnamedFields made) shown = tuple_numbers numbers made.fields shown.0
