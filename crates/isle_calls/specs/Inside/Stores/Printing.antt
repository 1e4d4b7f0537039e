-- The values that the numbers of a store are printed to.
use Rattle.std.specs.Prelude.{◌≡◌, ℕ, ℤ, pos, negsuc, List, [], ◌∷◌}
use Rattle.std.specs.Int.{w128, cast_unsigned}
use Rattle.isle_types.specs.declared.types.IntType.{IntType}
use Rattle.isle_types.specs.declared.types.IntType.TheVariants.{U8, U16, U32, U64, U128, USize, I8, I16, I32, I64, I128, ISize}
use Rattle.isle_types.specs.TypeTables.{TypeTables}
use Rattle.isle_types.specs.TypeEnvs.{type_at}
use Rattle.isle_rules.specs.Values.{ValueTree, ValueTrees, bool_tree, int_tree, big_tree}
use Rattle.isle_rules.specs.Values.{const_tree, opaque_tree, data_tree, no_trees}
use Rattle.isle_rules.specs.Values.{more_trees}
use Rattle.isle_meaning.specs.Values.{Value, Values, bool_value, int_value, constant_value, opaque_value, made_variant, made_struct}
use Rattle.isle_meaning.specs.Values.{no_values, more_values}
use Rattle.isle_meaning.specs.ValueTypes.{ValueFacts, TypeKind, truth_kind, integer_kind, primitive_kind, data_kind, no_kind}
use Rattle.isle_calls.specs.declared.store.Stored.{Stored}
use Rattle.isle_calls.specs.declared.store.printing.Step.{Step}
use Rattle.isle_calls.specs.declared.store.printing.Step.TheVariants.{Number, Data}
use Rattle.isle_values.specs.Values.Nodes.{first_values, later_values}
use Rattle.isle_values.specs.Values.Settled.{field_types}
use Rattle.isle_calls.specs.Stores.Values.{Stands}
pub use Rattle.isle_program.specs.Tables.{fullname_of, variant_name, struct_name}

-- the integer of 128 bits as an unsigned one
abbrev pub printed_unsigned : ℤ → ValueTree
printed_unsigned (pos n) = int_tree (pos n)
printed_unsigned (negsuc n) = big_tree (cast_unsigned w128 (negsuc n))

-- an integer of 128 bits at an integer type
abbrev pub printed_sized : ℤ → IntType → ValueTree
printed_sized n U8 = int_tree n
printed_sized n U16 = int_tree n
printed_sized n U32 = int_tree n
printed_sized n U64 = int_tree n
printed_sized n U128 = printed_unsigned n
printed_sized n USize = int_tree n
printed_sized n I8 = int_tree n
printed_sized n I16 = int_tree n
printed_sized n I32 = int_tree n
printed_sized n I64 = int_tree n
printed_sized n I128 = int_tree n
printed_sized n ISize = int_tree n

-- an integer of 128 bits at a kind of type
abbrev pub printed_int : ℤ → TypeKind → ValueTree
printed_int n truth_kind = int_tree n
printed_int n (integer_kind int) = printed_sized n int
printed_int n primitive_kind = int_tree n
printed_int n data_kind = int_tree n
printed_int n no_kind = int_tree n

-- a value at a type, and values at types one each; those that are left over are of type 0
abbrev mutual
  pub printed : ValueFacts → TypeTables → Value → ℕ → ValueTree
  printed facts env (bool_value b) ty = bool_tree b
  printed facts env (int_value n) ty = printed_int n (facts.kind ty)
  printed facts env (constant_value name) ty = const_tree name
  printed facts env (opaque_value n) ty = opaque_tree n
  printed facts env (made_variant of k vs) ty =
      data_tree (variant_name env of k) (printed_all facts env vs (field_types (facts.data_named (variant_name env of k))))
  printed facts env (made_struct of vs) ty =
      data_tree (struct_name env of) (printed_all facts env vs (field_types (facts.data_named (struct_name env of))))

  pub printed_all : ValueFacts → TypeTables → Values → List ℕ → ValueTrees
  printed_all facts env no_values types = no_trees
  printed_all facts env (more_values v vs) [] = more_trees (printed facts env v 0) (printed_all facts env vs [])
  printed_all facts env (more_values v vs) (ty ∷ types) = more_trees (printed facts env v ty) (printed_all facts env vs types)

-- the steps that are left, the next first, make of these values those
abbrev pub Leads : ValueFacts → TypeTables → List Stored → List Step → ValueTrees → ValueTrees → Type 0
Leads facts env stored [] laid made = laid ≡ made
Leads facts env stored (Number n ty ∷ steps) laid made =
    (v : Value) × Stands stored v n × Leads facts env stored steps (more_trees (printed facts env v ty.0) laid) made
Leads facts env stored (Data name fields ∷ steps) laid made =
    Leads facts env stored steps (more_trees (data_tree name (first_values fields laid)) (later_values fields laid)) made

-- the steps that lay out fields at types, the first field's first; those that are left over are of type 0
abbrev pub field_steps : List ℕ → List ℕ → List Step
field_steps [] types = []
field_steps (n ∷ ns) [] = Number n (type_at 0) ∷ field_steps ns []
field_steps (n ∷ ns) (ty ∷ types) = Number n (type_at ty) ∷ field_steps ns types
