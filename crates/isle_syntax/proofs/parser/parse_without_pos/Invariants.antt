use Rattle.std.proofs.Common.{◌≡◌, map}
use Rattle.isle_ast.specs.Trees.WithoutPos.{def_without_pos}
use Rattle.isle_syntax.proofs.parser.parse_without_pos.Given as goal

abbrev pub invariant-loop-def : goal.invariant-loop-def
invariant-loop-def l = l.defs.items ≡ map def_without_pos l.yielded
