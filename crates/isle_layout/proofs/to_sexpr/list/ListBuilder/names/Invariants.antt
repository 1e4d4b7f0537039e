use Rattle.std.proofs.Common.{◌≡◌, ◌++◌, map, take}
use Rattle.isle_layout.specs.Spellings.{name_sexpr}
use Rattle.isle_layout.proofs.to_sexpr.list.ListBuilder.names.Given as goal

abbrev pub invariant-loop-name : goal.invariant-loop-name
invariant-loop-name l = l.list ≡ l.initial.list ++ map name_sexpr (take l.name-index l.names)
