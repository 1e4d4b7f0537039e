use Rattle.std.proofs.Common.{◌≡◌, false, take, string_bytes}
use Rattle.std.specs.List.{list_any}
use Rattle.isle_layout.specs.DefSpellings.{def_has_macro_arg}
use Rattle.isle_layout.specs.Prints.{print_of}
use Rattle.isle_layout.proofs.printer.print.Given as goal

abbrev pub invariant-loop-def : goal.invariant-loop-def
invariant-loop-def l = record {
  printed : string_bytes l.text ≡ print_of l.width (take l.def-index l.defs);
  no_macro_arg : list_any def_has_macro_arg (take l.def-index l.defs) ≡ false;
}
