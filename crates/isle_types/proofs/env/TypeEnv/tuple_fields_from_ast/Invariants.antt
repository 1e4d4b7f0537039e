use Rattle.std.proofs.Common.{ℕ, List, take}
use Rattle.isle_types.specs.Inside.Readings.{HasTypeNames, ReadsTupleFields}
use Rattle.isle_types.proofs.env.TypeEnv.tuple_fields_from_ast.Given as goal

abbrev pub invariant-loop-field : goal.invariant-loop-field
invariant-loop-field l = record {
  read : (known : List (List ℕ)) → HasTypeNames l.self known → ReadsTupleFields known (take l.field-index l.fields) l.made.items;
}
