-- What the files so far spell.
use Rattle.std.specs.List.{All}
use Rattle.std.proofs.Common.{take}
use Rattle.isle_ast.specs.Positions.Printable.{IsPrintablePos}
use Rattle.isle_ast.specs.Positions.DefPositions.{DefAt}
use Rattle.isle_ast.specs.Trees.MacroArgs.{HasNoMacroArgs}
use Rattle.isle_program.specs.Compiled.{AreSpelt}
use Rattle.isle_program.proofs.compiler.parse_files.Given as goal

abbrev pub invariant-loop-file : goal.invariant-loop-file
invariant-loop-file l = record {
  no_macro_args : All HasNoMacroArgs l.defs.items;
  placed : All (DefAt (IsPrintablePos l.files)) l.defs.items;
  spelt : AreSpelt 0 (take l.file l.files) l.defs.items;
}
