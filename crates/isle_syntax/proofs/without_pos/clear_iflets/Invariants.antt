use Rattle.std.proofs.Common.{◌≡◌, map}
use Rattle.isle_ast.specs.Trees.WithoutPos.{iflet_without_pos}
use Rattle.isle_syntax.proofs.without_pos.clear_iflets.Given as goal

abbrev pub invariant-loop-iflet : goal.invariant-loop-iflet
invariant-loop-iflet l = l.all.items ≡ map iflet_without_pos l.yielded
