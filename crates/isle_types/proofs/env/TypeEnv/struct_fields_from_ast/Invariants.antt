use Rattle.std.proofs.Common.{◌≡◌, ℕ, List, Some, take, slice_get}
use Rattle.std.specs.List.{AllZip}
use Rattle.isle_ast.specs.declared.ast.StructField.{StructField as StructFieldTree}
use Rattle.isle_types.specs.declared.types.StructField.{StructField}
use Rattle.isle_types.specs.TypeEnvs.{HasMoreNames}
use Rattle.isle_types.specs.Inside.Readings.{HasTypeNames, ReadsFields}
use Rattle.isle_types.proofs.env.TypeEnv.struct_fields_from_ast.Given as goal

abbrev pub invariant-loop-field : goal.invariant-loop-field
invariant-loop-field l = record {
  same : HasMoreNames l.initial.self l.self;
  named : AllZip (λ (tree : StructFieldTree) (field : StructField). slice_get l.self.names field.name.0 ≡ Some tree.name.0)
      (take l.field-index l.fields) l.made.items;
  read : (known : List (List ℕ)) → HasTypeNames l.initial.self known → ReadsFields known l.self.names (take l.field-index l.fields) l.made.items;
}
