use Rattle.std.proofs.Common.{◌≡◌, map}
use Rattle.isle_ast.specs.Trees.WithoutPos.{variant_without_pos}
use Rattle.isle_syntax.proofs.without_pos.clear_variants.Given as goal

abbrev pub invariant-loop-variant : goal.invariant-loop-variant
invariant-loop-variant l = l.all.items ≡ map variant_without_pos l.yielded
