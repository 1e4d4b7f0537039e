-- What is told of numbered rules.
use Rattle.std.specs.Prelude.{◌≡◌, ℕ, true, false, List, Some, slice_get}
use Rattle.std.specs.List.{AllZip}
use Rattle.isle_missing.specs.Demands.{equals, passes}
use Rattle.isle_missing.specs.declared.facts.Fact.{Fact}
use Rattle.isle_missing.specs.Search.{MatchesAlways, MissesUnder}
use Rattle.isle_blocks.specs.declared.constraint.Constraint.{Constraint}
use Rattle.isle_coverage.specs.declared.numbered.Numbered.{Numbered}
use Rattle.isle_coverage.specs.declared.verdict.Told.{Told}
use Rattle.isle_coverage.specs.declared.verdict.Told.TheVariants.{Passes, Fails, Differ}
use Rattle.isle_coverage.specs.declared.verdict.Verdict.{Verdict}
use Rattle.isle_coverage.specs.declared.verdict.Verdict.TheVariants.{Covered, Missing, Undecided}

-- what a fact of numbers says
abbrev pub IsToldOf : List Constraint → Fact → Told → Type 0
IsToldOf table fact (Passes site test) = (t : ℕ) × (slice_get table t ≡ Some test) × (fact ≡ record { demand = passes site.0 t; holds = true })
IsToldOf table fact (Fails site test) = (t : ℕ) × (slice_get table t ≡ Some test) × (fact ≡ record { demand = passes site.0 t; holds = false })
IsToldOf table fact (Differ first second) = fact ≡ record { demand = equals first.0 second.0; holds = false }

-- what facts say, one after the other
abbrev pub AreToldOf : List Constraint → List Fact → List Told → Type 0
AreToldOf table facts told = AllZip (IsToldOf table) facts told

-- the rules are covered, or none matches where facts are so of which this is told
abbrev pub IsJudgement : Numbered → Verdict → Type 0
IsJudgement numbered Covered = MatchesAlways numbered.sites.items numbered.rows.items
IsJudgement numbered (Missing told) = (facts : List Fact) × MissesUnder facts numbered.rows.items × AreToldOf numbered.table facts told.items
IsJudgement numbered Undecided = Unit {0}
