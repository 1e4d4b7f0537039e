use Rattle.std.proofs.Common.{◌≡◌, map}
use Rattle.isle_ast.specs.Trees.WithoutPos.{ident_without_pos}
use Rattle.isle_syntax.proofs.without_pos.clear_idents.Given as goal

abbrev pub invariant-loop-name : goal.invariant-loop-name
invariant-loop-name l = l.all.items ≡ map ident_without_pos l.yielded
