use Rattle.std.proofs.Common.{take}
use Rattle.std.specs.List.{AllZip}
use Rattle.isle_coverage.specs.Inside.Types.{IsSiteOf}
use Rattle.isle_coverage.proofs.sites.sites_by.Given as goal

-- what is known of the sites so far
abbrev pub invariant-loop-number : goal.invariant-loop-number
invariant-loop-number l = AllZip (IsSiteOf l.types l.singles) (take l.number l.noted) l.sites.items
