use Rattle.isle_coverage.specs.Inside.Sites.{AreNoted}
use Rattle.isle_coverage.proofs.sites.noted_types.Given as goal

-- what is noted so far is so
abbrev pub invariant-loop-rule : goal.invariant-loop-rule
invariant-loop-rule l = AreNoted l.set.rules l.noted.items
