use Rattle.std.proofs.Common.{◌≡◌, ℕ, ◌+◌, ◌++◌, drop}
use Rattle.isle_layout.specs.SExprTree.{sexpr_list}
use Rattle.isle_layout.specs.SExprShape.{sexprs_of}
use Rattle.isle_layout.specs.Layout.{one_line_length, fits_of_all, within}
use Rattle.isle_layout.proofs.Layouts.Lengths.{lengths}
use Rattle.isle_layout.proofs.printer.+measure.Given as goal

abbrev pub invariant-measure_list-loop-item : goal.invariant-measure_list-loop-item
invariant-measure_list-loop-item l = record {
  counted : (n : ℕ) × (l.length ≡ within l.width n)
      × (n + lengths (sexprs_of (drop l.item-index l.items)) ≡ one_line_length (sexpr_list (sexprs_of l.items)));
  marked : l.fits.items ++ fits_of_all l.width (sexprs_of (drop l.item-index l.items)) ≡ l.initial.fits.items
      ++ fits_of_all l.width (sexprs_of l.items);
}
