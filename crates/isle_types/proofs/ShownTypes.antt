-- What an environment shows stays so when names are interned.
use Rattle.std.proofs.Common.{◌≡◌, ℕ, List, [], ◌++◌, Bool, Some, ap, sym, subst, ◌∙◌, slice_get, codes}
use Rattle.isle_types.specs.declared.types.StructField.{StructField}
use Rattle.isle_types.specs.declared.types.Fields.{Fields}
use Rattle.isle_types.specs.declared.types.Fields.TheVariants.{Unit as NoFields, Struct as NamedFields, Tuple as UnnamedFields}
use Rattle.isle_types.specs.declared.types.Variant.{Variant}
use Rattle.isle_types.specs.declared.types.«Type».{«Type» as KnownType}
use Rattle.isle_types.specs.declared.types.«Type».TheVariants.{Builtin, Primitive, Enum, Struct}
use Rattle.isle_types.specs.declared.ids.Sym.{Sym}
use Rattle.isle_types.specs.TypeTables.{TypeTables}
use Rattle.isle_types.specs.Names.{KeepsNames}
use Rattle.isle_types.specs.Environment.{Environment, NamedType, NamedVariant, FieldList, no_fields, named_fields, tuple_fields, TypeShape}
use Rattle.isle_types.specs.Environment.{primitive, enum, struct}
use Rattle.isle_types.specs.TypeEnvs.{IsShownField, AreShownFields, IsShownVariant, IsShownAs, IsShownShape, IsShown, Shows, HasMoreNames}
use Rattle.isle_types.specs.TypeEnvs.{CountUp, type_of_name, type_of_constant}
use Rattle.isle_types.specs.Types.{id_of}
use Rattle.isle_containers.proofs.Lists.{AllZip-weaker}

pub field_kept : (old new : List (List ℕ)) → KeepsNames old new → (field : List ℕ × ℕ) (made : StructField) → IsShownField old field made
    → IsShownField new field made
field_kept old new keeps field made shown = record {
  name = keeps made.name.0 field.0 shown.name;
  type = shown.type;
}

pub fields_kept : (old new : List (List ℕ)) → KeepsNames old new → (fields : FieldList) (made : Fields) → AreShownFields old fields made
    → AreShownFields new fields made
fields_kept old new keeps no_fields NoFields shown = tt
fields_kept old new keeps (named_fields fields) (NamedFields made) shown =
    (AllZip-weaker (IsShownField old) (IsShownField new) (field_kept old new keeps) fields made.fields shown.0, shown.1)
fields_kept old new keeps (tuple_fields numbers) (UnnamedFields made) shown = shown
fields_kept old new keeps no_fields (NamedFields made) shown = absurd shown
fields_kept old new keeps no_fields (UnnamedFields made) shown = absurd shown
fields_kept old new keeps (named_fields fields) NoFields shown = absurd shown
fields_kept old new keeps (named_fields fields) (UnnamedFields made) shown = absurd shown
fields_kept old new keeps (tuple_fields numbers) NoFields shown = absurd shown
fields_kept old new keeps (tuple_fields numbers) (NamedFields made) shown = absurd shown

pub variant_kept : (old new : List (List ℕ)) (type : List ℕ) → KeepsNames old new → (variant : NamedVariant) (made : Variant)
    → IsShownVariant old type variant made → IsShownVariant new type variant made
variant_kept old new type keeps variant made shown = record {
  name = keeps made.name.0 variant.name shown.name;
  fullname = keeps made.fullname.0 (type ++ codes "." ++ variant.name) shown.fullname;
  fields = fields_kept old new keeps variant.fields made.fields shown.fields;
  pos = shown.pos;
}

as_kept : (old new : List (List ℕ)) → KeepsNames old new → (type : NamedType) (symbol : Sym) (is_extern is_nodebug : Bool)
    → IsShownAs old type symbol is_extern is_nodebug → IsShownAs new type symbol is_extern is_nodebug
as_kept old new keeps type symbol is_extern is_nodebug shown = record {
  name = keeps symbol.0 type.name shown.name;
  is_extern = shown.is_extern;
  is_nodebug = shown.is_nodebug;
}

shape_kept : (old new : List (List ℕ)) → KeepsNames old new → (type : NamedType) (shape : TypeShape) (made : KnownType)
    → IsShownShape old type shape made → IsShownShape new type shape made
shape_kept old new keeps type (primitive host) (Primitive id symbol pos) shown = keeps symbol.0 host shown
shape_kept old new keeps type (enum variants) (Enum symbol id is_extern is_nodebug made pos) shown = (
  as_kept old new keeps type symbol is_extern is_nodebug shown.0,
  (
    AllZip-weaker (IsShownVariant old type.name) (IsShownVariant new type.name)
        (variant_kept old new type.name keeps) variants made shown.1.0,
    shown.1.1,
  ),
)
shape_kept old new keeps type (struct fields) (Struct symbol id is_extern is_nodebug made pos) shown =
    (as_kept old new keeps type symbol is_extern is_nodebug shown.0, fields_kept old new keeps fields made shown.1)
shape_kept old new keeps type (primitive host) (Builtin builtin) shown = absurd shown
shape_kept old new keeps type (primitive host) (Enum symbol id is_extern is_nodebug made pos) shown = absurd shown
shape_kept old new keeps type (primitive host) (Struct symbol id is_extern is_nodebug made pos) shown = absurd shown
shape_kept old new keeps type (enum variants) (Builtin builtin) shown = absurd shown
shape_kept old new keeps type (enum variants) (Primitive id symbol pos) shown = absurd shown
shape_kept old new keeps type (enum variants) (Struct symbol id is_extern is_nodebug made pos) shown = absurd shown
shape_kept old new keeps type (struct _) (Builtin builtin) shown = absurd shown
shape_kept old new keeps type (struct _) (Primitive id symbol pos) shown = absurd shown
shape_kept old new keeps type (struct _) (Enum symbol id is_extern is_nodebug made pos) shown = absurd shown

pub type_kept : (old new : List (List ℕ)) → KeepsNames old new → (type : NamedType) (made : KnownType) → IsShown old type made → IsShown new type made
type_kept old new keeps type made shown = record {
  shape = shape_kept old new keeps type type.shape made shown.shape;
  pos = shown.pos;
}

-- an environment still shows what it showed, when names have come and errors have changed
pub shows_kept : (old new : TypeTables) (e : Environment) → KeepsNames old.names new.names
    → new ≡ record old { names = new.names; errors = new.errors } → Shows old e → Shows new e
shows_kept old new e kept same shows = record {
  made = shows.made;
  all = types ∙ shows.all;
  types = AllZip-weaker (IsShown old.names) (IsShown new.names) (type_kept old.names new.names kept) e.types shows.made shows.types;
  counted = subst (CountUp (λ (type : KnownType). (id_of type).0) 0) (sym types) shows.counted;
  named = λ name. ap (λ (env : TypeTables). type_of_name env name) same ∙ shows.named name;
  constants = λ name. ap (λ (env : TypeTables). type_of_constant env name) same ∙ shows.constants name;
}
  where
    types : new.types ≡ old.types
    types = ap (λ (env : TypeTables). env.types) same

-- so it does when names have come
pub shows_with_names : (old new : TypeTables) (e : Environment) → HasMoreNames old new → Shows old e → Shows new e
shows_with_names old new e more =
    shows_kept old new e more.kept (more.same ∙ ap (λ (env : TypeTables). record old { names = new.names; errors = env.errors }) (sym more.same))

-- and when errors are taken out
pub shows_cleared : (old new : TypeTables) (e : Environment) → new ≡ record old { errors = [] } → Shows old e → Shows new e
shows_cleared old new e cleared =
    shows_kept old new e (λ place name is. subst (λ (env : TypeTables). slice_get env.names place ≡ Some name) (sym cleared) is)
    (cleared ∙ ap (λ (env : TypeTables). record old { names = env.names; errors = env.errors }) (sym cleared))
