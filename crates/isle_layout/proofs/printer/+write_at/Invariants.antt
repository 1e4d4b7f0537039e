use Rattle.std.proofs.Common.{◌≡◌, ◌++◌, ℕ, List, Bool, drop, replicate, string_bytes}
use Rattle.std.specs.Slice.Iter.{iter_rest}
use Rattle.isle_layout.specs.SExprShape.{sexprs_of}
use Rattle.isle_layout.specs.Layout.{joined, line, layouts, fits_of_all}
use Rattle.isle_layout.proofs.Layouts.Joined.{rest_joined}
use Rattle.isle_layout.proofs.printer.+write_at.Given as goal

abbrev pub invariant-write_broken_list-loop-i : goal.invariant-write_broken_list-loop-i
invariant-write_broken_list-loop-i l = record {
  kept : string_bytes l.margin ≡ string_bytes l.initial.margin;
  written : (width inner : ℕ) (rest : List Bool) → string_bytes l.initial.margin ≡ replicate inner 32
      → iter_rest l.initial.fits ≡ fits_of_all width (sexprs_of l.items) ++ rest
      → (string_bytes l.out ++ rest_joined l.i (line inner) (layouts width inner (sexprs_of (drop l.i l.items))) ≡ string_bytes l.initial.out
      ++ joined (line inner) (layouts width inner (sexprs_of l.items)))
      × (iter_rest l.fits ≡ fits_of_all width (sexprs_of (drop l.i l.items)) ++ rest);
}
