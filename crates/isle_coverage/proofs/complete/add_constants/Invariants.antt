use Rattle.std.proofs.Common.{◌≡◌, ◌<◌, ℕ, List, Some}
use Rattle.std.specs.Prelude.{Contains}
use Rattle.isle_types.specs.declared.ids.Sym.{Sym}
use Rattle.isle_types.specs.TypeEnvs.{sym_named, type_of_constant}
use Rattle.isle_blocks.specs.declared.constraint.Constraint.TheVariants as tests
use Rattle.isle_coverage.specs.Inside.Complete.{KeepsTests}
use Rattle.isle_coverage.proofs.complete.add_constants.Given as goal

-- those of the symbols so far are there
abbrev pub invariant-loop-number : goal.invariant-loop-number
invariant-loop-number l = record {
  there : (name : List ℕ) (sym : Sym) → sym_named l.types name ≡ Some sym → type_of_constant l.types name ≡ Some l.ty → sym.0 < l.number
      → Contains l.tests.items (tests.ConstPrim sym);
  kept : KeepsTests l.initial.tests.items l.tests.items;
}
