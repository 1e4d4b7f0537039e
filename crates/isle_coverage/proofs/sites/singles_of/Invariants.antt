use Rattle.isle_coverage.specs.Inside.Sites.{AreSingles}
use Rattle.isle_coverage.proofs.sites.singles_of.Given as goal

-- those so far are
abbrev pub invariant-loop-number : goal.invariant-loop-number
invariant-loop-number l = AreSingles l.table l.singles.items
