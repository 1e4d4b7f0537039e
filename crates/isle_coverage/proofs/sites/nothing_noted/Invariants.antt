use Rattle.std.proofs.Common.{◌≡◌, All, None, Option}
use Rattle.isle_types.specs.declared.ids.TypeId.{TypeId}
use Rattle.isle_coverage.proofs.sites.nothing_noted.Given as goal

-- nothing so far
abbrev pub invariant-loop : goal.invariant-loop
invariant-loop l = All (λ (at : Option TypeId). at ≡ None) l.noted.items
