-- What a search for a call without a rule finds.
use Rattle.std.specs.Prelude.{List}
use Rattle.isle_missing.specs.declared.demand.Demand.{Demand}
use Rattle.isle_missing.specs.declared.facts.Fact.{Fact}
use Rattle.isle_missing.specs.declared.search.Coverage.{Coverage}
use Rattle.isle_missing.specs.declared.search.Coverage.TheVariants as found
use Rattle.isle_missing.specs.Sites.{Sites}
use Rattle.isle_missing.specs.Demands.{World, SomeMatches, AllFit}
use Rattle.isle_missing.specs.Facts.{AreSo}
use Rattle.isle_missing.specs.Possible.{CanBe}

-- In no world where these facts are so a rule matches.
abbrev pub MissesUnder : List Fact → List (List Demand) → Type 0
MissesUnder facts rows = (w : World) → AreSo w facts → SomeMatches w rows → ⊥

-- Some rule matches in each world in which each site has a value where a rule comes to it.
abbrev pub MatchesAlways : Sites → List (List Demand) → Type 0
MatchesAlways sites rows = (w : World) → AllFit w sites rows → SomeMatches w rows

-- Some world of these facts leaves each site a value, and in none of these facts one of the rules matches.
abbrev pub IsExample : Sites → List (List Demand) → List Fact → Type 0
IsExample sites rows facts = CanBe sites rows facts × MissesUnder facts rows

-- What is told of rules: in each world where each site has a value to which a rule comes, one of them matches; or there is such a world
-- of these facts, and in none one does.
abbrev pub CoverageIs : Sites → List (List Demand) → Coverage → Type 0
CoverageIs sites rows found.Covered = MatchesAlways sites rows
CoverageIs sites rows (found.Missing facts) = IsExample sites rows facts.items
CoverageIs sites rows found.Undecided = Unit {0}
