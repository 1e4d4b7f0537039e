use Rattle.std.proofs.Common.{◌≡◌, ◌++◌, take}
use Rattle.std.specs.List.{flat_map}
use Rattle.isle_coverage.specs.Inside.Rows.{same_demands}
use Rattle.isle_coverage.proofs.rows.add_equalities.Given as goal

-- the sites of the sets so far are compared
abbrev pub invariant-loop-set : goal.invariant-loop-set
invariant-loop-set l = l.demands.items ≡ l.initial.demands.items ++ flat_map same_demands (take l.set-index l.set-items)
