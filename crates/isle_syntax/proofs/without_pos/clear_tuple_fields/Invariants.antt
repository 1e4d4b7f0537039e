use Rattle.std.proofs.Common.{◌≡◌, map}
use Rattle.isle_ast.specs.Trees.WithoutPos.{tuple_field_without_pos}
use Rattle.isle_syntax.proofs.without_pos.clear_tuple_fields.Given as goal

abbrev pub invariant-loop-field : goal.invariant-loop-field
invariant-loop-field l = l.all.items ≡ map tuple_field_without_pos l.yielded
