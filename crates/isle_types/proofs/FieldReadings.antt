-- Fields as they are read one after another.
use Rattle.std.proofs.Common.{◌≡◌, ℕ, suc, ◌+◌, List, [], ◌∷◌, ◌++◌, length, take, Option, Some, None, refl, ap, sym, subst, ◌∙◌, arith, add-zero}
use Rattle.std.proofs.Common.{zero-add, slice_get}
use Rattle.std.specs.Option.{option_map}
use Rattle.std.specs.List.{AllZip}
use Rattle.std.proofs.lemmas.Option.{same_Some, none-some}
use Rattle.std.proofs.lemmas.Slice.Zip.{all_zipped_more}
use Rattle.isle_ast.specs.declared.pos.Pos.{Pos}
use Rattle.isle_ast.specs.declared.ast.StructField.{StructField as StructFieldTree}
use Rattle.isle_ast.specs.declared.ast.TupleField.{TupleField as TupleFieldTree}
use Rattle.isle_ast.specs.declared.error.Error.{Error}
use Rattle.isle_ast.specs.declared.error.Error.TheVariants.{ParseError, TypeError, UnreachableError, OverlapError, ShadowedError, SizeError}
use Rattle.isle_types.specs.declared.ids.TypeId.{TypeId}
use Rattle.isle_types.specs.declared.types.StructField.{StructField}
use Rattle.isle_types.specs.declared.types.TupleField.{TupleField}
use Rattle.isle_types.specs.TypeTables.{TypeTables}
use Rattle.isle_types.specs.Names.{position_of, KeepsNames}
use Rattle.isle_types.specs.Environment.{IsField, IsTupleField}
use Rattle.isle_types.specs.TypeFaults.{IsTypeFault}
use Rattle.isle_types.specs.TypeEnvs.{type_of_name, type_at, CountUp, IsShownField, IsShownTupleField, HasMoreNames}
use Rattle.isle_types.specs.Inside.Readings.{HasTypeNames, ReadsFields, ReadsTupleFields, IsTypeErrorAt}
use Rattle.isle_containers.proofs.Lists.{taken_more, AllZip-weaker}
use Rattle.isle_types.proofs.NamePlaces.{place_found}
use Rattle.isle_types.proofs.ShownTypes.{field_kept}

-- items that count up, and one more
pub count_more : {X : Type 0} (number : X → ℕ) (n : ℕ) (xs : List X) (x : X) → CountUp number n xs → number x ≡ n + length xs
    → CountUp number n (xs ++ x ∷ [])
count_more number n [] x counted is = (is ∙ add-zero n, tt)
count_more number n (y ∷ xs) x counted is =
    (counted.0, count_more number (suc n) xs x counted.1 (is ∙ omega arith))

-- the place of a type that is known
pub known_place : (env : TypeTables) (known : List (List ℕ)) (name : List ℕ) (type : TypeId) → HasTypeNames env known
    → type_of_name env name ≡ Some type → slice_get known type.0 ≡ Some name
known_place env known name type named is =
    through (position_of known name) refl (sym (named name) ∙ is)
  where
    through : (o : Option ℕ) → position_of known name ≡ o → option_map type_at o ≡ Some type → slice_get known type.0 ≡ Some name
    through None at same = absurd (none-some type same)
    through (Some i) at same =
        subst (λ (t : TypeId). slice_get known t.0 ≡ Some name) (same_Some (type_at i) type same) (place_found known name i at)

-- a type that isn't known has no place
pub unknown_place : (env : TypeTables) (known : List (List ℕ)) (name : List ℕ) → HasTypeNames env known → type_of_name env name ≡ None
    → position_of known name ≡ None
unknown_place env known name named is =
    through (position_of known name) (sym (named name) ∙ is)
  where
    through : (o : Option ℕ) → option_map type_at o ≡ None → o ≡ None
    through None same = refl
    through (Some i) same = absurd (none-some (type_at i) (sym same))

-- a type error at a position where a rule is broken
pub fault_at : (Broken : Pos → Type 0) (here : Pos) → Broken here → (error : Error) → IsTypeErrorAt here error → IsTypeFault Broken error
fault_at Broken here broken (TypeError message span) at = subst Broken (sym at) broken
fault_at Broken here broken (ParseError _ _) at = at
fault_at Broken here broken (UnreachableError _ _) at = at
fault_at Broken here broken (OverlapError _ _) at = at
fault_at Broken here broken (ShadowedError _ _) at = at
fault_at Broken here broken (SizeError _ _) at = at

-- fields without names, and one more
pub tuple_field_more : (known : List (List ℕ)) (trees : List TupleFieldTree) (made : List TupleField) (place : ℕ) (tree : TupleFieldTree)
    (field : TupleField) → ReadsTupleFields known (take place trees) made → slice_get trees place ≡ Some tree
    → slice_get known field.ty.0 ≡ Some tree.ty.0 → field.id.0 ≡ length made
    → ReadsTupleFields known (take (place + 1) trees) (made ++ field ∷ [])
tuple_field_more known trees made place tree field read at type id = record {
  numbers = read.numbers ++ field.ty.0 ∷ [];
  meant = subst (λ ts. AllZip (IsTupleField known) ts (read.numbers ++ field.ty.0 ∷ [])) (sym (taken_more trees place tree at))
      (all_zipped_more (IsTupleField known) (take place trees) read.numbers tree field.ty.0 read.meant type);
  shown = all_zipped_more IsShownTupleField read.numbers made field.ty.0 field read.shown refl;
  counted = count_more (λ (f : TupleField). f.id.0) 0 made field read.counted (id ∙ sym (zero-add (length made)));
}

-- named fields, and one more, whose name is interned behind the others
pub field_more : (known names more : List (List ℕ)) (trees : List StructFieldTree) (made : List StructField) (place : ℕ) (tree : StructFieldTree)
    (field : StructField) → KeepsNames names more → ReadsFields known names (take place trees) made → slice_get trees place ≡ Some tree
    → slice_get more field.name.0 ≡ Some tree.name.0 → slice_get known field.ty.0 ≡ Some tree.ty.0 → field.id.0 ≡ length made
    → ReadsFields known more (take (place + 1) trees) (made ++ field ∷ [])
field_more known names more trees made place tree field keeps read at name type id =
    let here : List ℕ × ℕ = (tree.name.0, field.ty.0) in
    record {
      fields = read.fields ++ here ∷ [];
      meant = subst (λ ts. AllZip (IsField known) ts (read.fields ++ here ∷ [])) (sym (taken_more trees place tree at))
          (all_zipped_more (IsField known) (take place trees) read.fields tree here read.meant (record { name = refl; type = type }));
      shown = all_zipped_more (IsShownField more) read.fields made here field
          (AllZip-weaker (IsShownField names) (IsShownField more) (field_kept names more keeps) read.fields made read.shown)
          (record { name = name; type = refl });
      counted = count_more (λ (f : StructField). f.id.0) 0 made field read.counted (id ∙ sym (zero-add (length made)));
    }

-- the names of types, when tables are the same
pub named_kept : (old new : TypeTables) (known : List (List ℕ)) → HasMoreNames old new → HasTypeNames old known → HasTypeNames new known
named_kept old new known more named = λ name. ap (λ (env : TypeTables). type_of_name env name) more.same ∙ named name
