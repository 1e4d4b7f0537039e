-- Definitions make one environment at most.
use Rattle.std.proofs.Common.{◌≡◌, ℕ, List, [], ◌∷◌, refl, ap, sym, ◌∙◌}
use Rattle.std.specs.List.{AllZip}
use Rattle.isle_ast.specs.declared.ast.Ident.{Ident}
use Rattle.isle_ast.specs.declared.ast.StructField.{StructField}
use Rattle.isle_ast.specs.declared.ast.Fields.{Fields}
use Rattle.isle_ast.specs.declared.ast.Fields.TheVariants.{Unit as no_field_trees, Struct as struct_field_trees, Tuple as tuple_field_trees}
use Rattle.isle_ast.specs.declared.ast.Variant.{Variant}
use Rattle.isle_ast.specs.declared.ast.TypeValue.{TypeValue}
use Rattle.isle_ast.specs.declared.ast.TypeValue.TheVariants.{Primitive, Enum, Struct}
use Rattle.isle_ast.specs.declared.ast.«Type».{«Type» as TypeTree}
use Rattle.isle_ast.specs.declared.ast.Def.{Def}
use Rattle.isle_types.specs.Names.{AreDistinct}
use Rattle.isle_types.specs.Environment.{FieldList, no_fields, named_fields, tuple_fields, NamedVariant, TypeShape, primitive, enum, struct}
use Rattle.isle_types.specs.Environment.{NamedType, Environment, IsField, IsTupleField, AreFields, IsVariant, IsShape, IsType, IsConstant, Makes}
use Rattle.isle_types.specs.Environment.{type_definitions, constant_definitions, type_names}

-- lists are one where each pair of items is
zipped_one : {A B : Type 0} (R : A → B → Type 0) → ((x : A) (y z : B) → R x y → R x z → y ≡ z) → (xs : List A) (ys zs : List B) → AllZip R xs ys
    → AllZip R xs zs → ys ≡ zs
zipped_one R one [] [] [] is other = refl
zipped_one R one [] (y ∷ ys) zs is other = absurd is
zipped_one R one [] [] (z ∷ zs) is other = absurd other
zipped_one R one (x ∷ xs) [] zs is other = absurd is
zipped_one R one (x ∷ xs) (y ∷ ys) [] is other = absurd other
zipped_one R one (x ∷ xs) (y ∷ ys) (z ∷ zs) is other =
    ap (λ head. head ∷ ys) (one x y z is.0 other.0) ∙ ap (λ tail. z ∷ tail) (zipped_one R one xs ys zs is.1 other.1)

same_pair : (a b : List ℕ × ℕ) → a.0 ≡ b.0 → a.1 ≡ b.1 → a ≡ b
same_pair a b first second = λ i. (first i, second i)

same_variant : (a b : NamedVariant) → a.name ≡ b.name → a.fields ≡ b.fields → a.pos ≡ b.pos → a ≡ b
same_variant a b name fields pos = λ i. record { name = name i; fields = fields i; pos = pos i }

same_type : (a b : NamedType) → a.name ≡ b.name → a.is_extern ≡ b.is_extern → a.is_nodebug ≡ b.is_nodebug → a.shape ≡ b.shape → a.pos ≡ b.pos → a ≡ b
same_type a b name is_extern is_nodebug shape pos =
    λ i. record { name = name i; is_extern = is_extern i; is_nodebug = is_nodebug i; shape = shape i; pos = pos i }

module _ (known : List (List ℕ)) (once : AreDistinct known) where
  one_field : (tree : StructField) (a b : List ℕ × ℕ) → IsField known tree a → IsField known tree b → a ≡ b
  one_field tree a b is other = same_pair a b (is.name ∙ sym other.name) (once tree.ty.0 a.1 b.1 is.type other.type)

  one_field_list : (fields : Fields) (a b : FieldList) → AreFields known fields a → AreFields known fields b → a ≡ b
  one_field_list no_field_trees no_fields no_fields is other = refl
  one_field_list (struct_field_trees trees) (named_fields a) (named_fields b) is other =
      ap named_fields (zipped_one (IsField known) one_field trees.fields a b is.0 other.0)
  one_field_list (tuple_field_trees trees) (tuple_fields a) (tuple_fields b) is other =
      ap tuple_fields (zipped_one (IsTupleField known) (λ tree i j at_i at_j. once tree.ty.0 i j at_i at_j) trees.fields a b is other)
  one_field_list no_field_trees (named_fields a) b is other = absurd is
  one_field_list no_field_trees (tuple_fields a) b is other = absurd is
  one_field_list no_field_trees no_fields (named_fields b) is other = absurd other
  one_field_list no_field_trees no_fields (tuple_fields b) is other = absurd other
  one_field_list (struct_field_trees trees) no_fields b is other = absurd is
  one_field_list (struct_field_trees trees) (tuple_fields a) b is other = absurd is
  one_field_list (struct_field_trees trees) (named_fields a) no_fields is other = absurd other
  one_field_list (struct_field_trees trees) (named_fields a) (tuple_fields b) is other = absurd other
  one_field_list (tuple_field_trees trees) no_fields b is other = absurd is
  one_field_list (tuple_field_trees trees) (named_fields a) b is other = absurd is
  one_field_list (tuple_field_trees trees) (tuple_fields a) no_fields is other = absurd other
  one_field_list (tuple_field_trees trees) (tuple_fields a) (named_fields b) is other = absurd other

  one_variant : (tree : Variant) (a b : NamedVariant) → IsVariant known tree a → IsVariant known tree b → a ≡ b
  one_variant tree a b is other =
      same_variant a b (is.name ∙ sym other.name) (one_field_list tree.fields a.fields b.fields is.fields other.fields) (is.pos ∙ sym other.pos)

  one_shape : (tree : TypeValue) (a b : TypeShape) → IsShape known tree a → IsShape known tree b → a ≡ b
  one_shape (Primitive host keyword) (primitive a) (primitive b) is other = ap primitive (is ∙ sym other)
  one_shape (Enum trees keyword) (enum a) (enum b) is other = ap enum (zipped_one (IsVariant known) one_variant trees a b is.0 other.0)
  one_shape (Struct trees keyword) (struct a) (struct b) is other = ap struct (one_field_list trees a b is other)
  one_shape (Primitive host keyword) (enum a) b is other = absurd is
  one_shape (Primitive host keyword) (struct a) b is other = absurd is
  one_shape (Primitive host keyword) (primitive a) (enum b) is other = absurd other
  one_shape (Primitive host keyword) (primitive a) (struct b) is other = absurd other
  one_shape (Enum trees keyword) (primitive a) b is other = absurd is
  one_shape (Enum trees keyword) (struct a) b is other = absurd is
  one_shape (Enum trees keyword) (enum a) (primitive b) is other = absurd other
  one_shape (Enum trees keyword) (enum a) (struct b) is other = absurd other
  one_shape (Struct trees keyword) (primitive a) b is other = absurd is
  one_shape (Struct trees keyword) (enum a) b is other = absurd is
  one_shape (Struct trees keyword) (struct a) (primitive b) is other = absurd other
  one_shape (Struct trees keyword) (struct a) (enum b) is other = absurd other

  one_type : (tree : TypeTree) (a b : NamedType) → IsType known tree a → IsType known tree b → a ≡ b
  one_type tree a b is other =
      same_type a b (is.name ∙ sym other.name) (is.is_extern ∙ sym other.is_extern) (is.is_nodebug ∙ sym other.is_nodebug)
      (one_shape tree.ty a.shape b.shape is.shape other.shape) (is.pos ∙ sym other.pos)

  one_constant : (tree : Ident × Ident) (a b : List ℕ × ℕ) → IsConstant known tree a → IsConstant known tree b → a ≡ b
  one_constant tree a b is other = same_pair a b (is.name ∙ sym other.name) (once tree.1.0 a.1 b.1 is.type other.type)

-- definitions make one environment at most
pub one_environment : (defs : List Def) (a b : Environment) → Makes defs a → Makes defs b → a ≡ b
one_environment defs a b makes other =
    let types = zipped_one (IsType (type_names defs)) (one_type (type_names defs) makes.names)
    (type_definitions defs) a.types b.types makes.types other.types in
    let constants = zipped_one (IsConstant (type_names defs)) (one_constant (type_names defs) makes.names)
    (constant_definitions defs) a.constants b.constants makes.constants other.constants in
    λ i. record { types = types i; constants = constants i }
