use Rattle.std.proofs.Common.{◌+◌, ◌*◌, ◌≤◌}
use Rattle.isle_missing.specs.Inside.Rounds.{IsLeftOf, AreBefore}
use Rattle.isle_missing.proofs.search.+search.Given as goal

abbrev pub decreases-accept : goal.decreases-accept
decreases-accept l = 3 * l.steps.now + 3

abbrev pub decreases-round : goal.decreases-round
decreases-round l = 3 * l.steps.now + 1

abbrev pub decreases-search : goal.decreases-search
decreases-search l = 3 * l.steps.now + 2

-- what is left of the rules, and of the facts known before
abbrev pub invariant-search-loop-rows : goal.invariant-search-loop-rows
invariant-search-loop-rows l = record {
  left : IsLeftOf l.sites l.initial.facts.items l.initial.rows.items l.facts.items l.rows.items;
  before : AreBefore l.initial.facts.items l.facts.items;
  fewer : l.steps ≤ l.initial.steps;
}

abbrev pub decreases-search-loop-rows : goal.decreases-search-loop-rows
decreases-search-loop-rows l = l.steps
