use Rattle.std.proofs.Common.{map, take}
use Rattle.isle_types.specs.Names.{AreDistinct}
use Rattle.isle_terms.specs.TermFaults.{names_of, IsTaken}
use Rattle.isle_terms.specs.Inside.Collecting.Checks.{Checks}
use Rattle.isle_terms.specs.Inside.Collecting.NameTables.{IsTableOf}
use Rattle.isle_terms.specs.Inside.Collecting.NamedItems.{named_shown}
use Rattle.isle_terms.proofs.env.naming.name_all.Given as goal

abbrev pub invariant-loop-i : goal.invariant-loop-i
invariant-loop-i l =
    IsTableOf (names_of (take l.i (map named_shown l.named))) l.table
    × Checks (IsTaken (map named_shown l.named)) (AreDistinct (names_of (take l.i (map named_shown l.named)))) l.initial.errors.items l.errors.items
