use Rattle.std.proofs.Common.{◌≡◌, ◌++◌, map, take}
use Rattle.isle_layout.specs.DefSpellings.{struct_field_sexpr}
use Rattle.isle_layout.proofs.to_sexpr.types.add_struct_fields.Given as goal

abbrev pub invariant-loop-field : goal.invariant-loop-field
invariant-loop-field l = l.longer ≡ l.initial.longer ++ map struct_field_sexpr (take l.field-index l.fields)
