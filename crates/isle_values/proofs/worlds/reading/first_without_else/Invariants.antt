use Rattle.std.proofs.Common.{◌<◌}
use Rattle.isle_types.specs.declared.ids.TermId.{TermId}
use Rattle.isle_values.specs.Worlds.Reading.{MissesElse}
use Rattle.isle_values.proofs.worlds.reading.first_without_else.Given as goal

-- no term so far misses one
abbrev pub invariant-loop-i : goal.invariant-loop-i
invariant-loop-i l = (other : TermId) → other.0 < l.i → MissesElse l.program l.world other → ⊥
