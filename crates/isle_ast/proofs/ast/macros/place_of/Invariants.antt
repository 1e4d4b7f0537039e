use Rattle.std.proofs.Common.{◌≡◌, ◌+◌, drop}
use Rattle.std.specs.Option.{option_map}
use Rattle.isle_ast.specs.Trees.Templates.{position_of_name}
use Rattle.isle_ast.proofs.ast.macros.place_of.Given as goal

abbrev pub invariant-loop-i : goal.invariant-loop-i
invariant-loop-i l =
    position_of_name l.names l.name.0 ≡ option_map (λ k. k + l.i) (position_of_name (drop l.i l.names) l.name.0)
