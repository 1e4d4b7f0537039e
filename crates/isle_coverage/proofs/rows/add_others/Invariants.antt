use Rattle.std.proofs.Common.{◌≡◌, ◌++◌, map, take}
use Rattle.isle_missing.specs.Demands.{equals}
use Rattle.isle_blocks.specs.declared.ids.BindingId.{BindingId}
use Rattle.isle_coverage.proofs.rows.add_others.Given as goal

-- the sites so far are compared
abbrev pub invariant-loop-other : goal.invariant-loop-other
invariant-loop-other l =
    l.demands.items ≡ l.initial.demands.items ++ map (λ (other : BindingId). equals l.first.0 other.0) (take l.other-index l.others)
