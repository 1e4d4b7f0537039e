use Rattle.std.proofs.Common.{◌≡◌, map}
use Rattle.isle_ast.specs.Positions.Files.{source_file}
use Rattle.isle_ast.proofs.files.Files.from_names_and_contents.Given as goal

abbrev pub invariant-loop-name : goal.invariant-loop-name
invariant-loop-name l = l.files.items ≡ map source_file l.yielded
