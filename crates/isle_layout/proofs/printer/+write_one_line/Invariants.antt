use Rattle.std.proofs.Common.{◌≡◌, ◌++◌, codes, drop, string_bytes}
use Rattle.isle_layout.specs.SExprShape.{sexprs_of}
use Rattle.isle_layout.specs.Layout.{joined, one_lines}
use Rattle.isle_layout.proofs.Layouts.Joined.{rest_joined}
use Rattle.isle_layout.proofs.printer.+write_one_line.Given as goal

abbrev pub invariant-write_list_on_one_line-loop-i : goal.invariant-write_list_on_one_line-loop-i
invariant-write_list_on_one_line-loop-i l =
    string_bytes l.out ++ rest_joined l.i (codes " ") (one_lines (sexprs_of (drop l.i l.items))) ≡ string_bytes l.initial.out
    ++ joined (codes " ") (one_lines (sexprs_of l.items))
