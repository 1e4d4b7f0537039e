-- What the rounds of a search say.
use Rattle.std.specs.Prelude.{◌≡◌, ◌⊎◌, ℕ, Bool, true, false, List, ◌++◌, Option, Some, None}
use Rattle.isle_missing.specs.declared.demand.Demand.{Demand}
use Rattle.isle_missing.specs.declared.demand.Demand.TheVariants.{Passes, Same}
use Rattle.isle_missing.specs.declared.facts.Fact.{Fact}
use Rattle.isle_missing.specs.declared.search.Answer.{Answer}
use Rattle.isle_missing.specs.declared.search.Answer.TheVariants.{Covered, Missing, Undecided}
use Rattle.isle_missing.specs.Sites.{Sites, all_tests}
use Rattle.isle_missing.specs.Demands.{World, SomeMatches, FitsAt, AllFit}
use Rattle.isle_missing.specs.Facts.{AreSo}
use Rattle.isle_missing.specs.Inside.Facts.{AreOpen, IsPassed}
use Rattle.isle_missing.specs.Search.{MissesUnder}

-- Some rule matches in each world where these facts are so, and each site has a value where a rule comes to it.
abbrev pub CoversUnder : Sites → List Fact → List (List Demand) → Type 0
CoversUnder sites facts rows = (w : World) → AreSo w facts → AllFit w sites rows → SomeMatches w rows

-- the first facts are so where the second are
abbrev pub Extends : List Fact → List Fact → Type 0
Extends new old = (w : World) → AreSo w new → AreSo w old

-- what an answer says of rules where some facts were known, and of those known in the end
abbrev pub AnswerIs : Sites → List (List Demand) → List Fact → List Fact → Answer → Type 0
AnswerIs sites rows old new Covered = CoversUnder sites old rows
AnswerIs sites rows old new Missing = MissesUnder new rows × Extends new old
AnswerIs sites rows old new Undecided = Unit {0}

-- Rules and facts that are left of others. In a world of the old facts some old rule matches, or the new facts are so, and if one
-- of the new rules matches, one of the old does. In a world of the new facts the old are so, and if one of
-- the old rules matches, one of the new does.
pub record IsLeftOf (sites : Sites) (old : List Fact) (rows : List (List Demand)) (new : List Fact) (left : List (List Demand)) : Type 0 where
  pub on : (w : World) → AreSo w old → AllFit w sites rows
      → SomeMatches w rows ⊎ (AreSo w new × AllFit w sites left × (SomeMatches w left → SomeMatches w rows))
  pub back : (w : World) → AreSo w new → AreSo w old × (SomeMatches w rows → SomeMatches w left)

-- the old facts stand before the new
abbrev pub AreBefore : List Fact → List Fact → Type 0
AreBefore old new = (more : List Fact) × (new ≡ old ++ more)

-- what a round says: an answer, or what is left
abbrev pub RoundIs : Sites → List Fact → List (List Demand) → List Fact → List (List Demand) → Option Answer → Type 0
RoundIs sites old rows new left None = IsLeftOf sites old rows new left × AreBefore old new
RoundIs sites old rows new left (Some Covered) = CoversUnder sites old rows × AreBefore old new
RoundIs sites old rows new left (Some Missing) = MissesUnder new rows × Extends new old
RoundIs sites old rows new left (Some Undecided) = Unit {0}

-- what an answer says of the worlds in which a demand holds; where rules are covered there, the facts are as they were
abbrev pub BranchIs : Sites → List (List Demand) → Demand → List Fact → List Fact → Answer → Type 0
BranchIs sites rows d old new Covered =
    ((w : World) → AreSo w old → w.holds d ≡ true → AllFit w sites rows → SomeMatches w rows) × (new ≡ old)
BranchIs sites rows d old new Missing = MissesUnder new rows × Extends new old
BranchIs sites rows d old new Undecided = Unit {0}

-- The last open test of those of which each value of a site passes one is told to pass: two of them haven't failed, or one passes.
abbrev pub IsForced : Sites → List Fact → Demand → Type 0
IsForced sites facts (Passes s t) = (ts : List ℕ) → all_tests sites s.0 ≡ Some ts → AreOpen facts s.0 ts ⊎ IsPassed facts s.0
IsForced sites facts (Same a b) = Unit {0}

-- What is left where a demand fails whose site has a value: nothing, where that can't be.
abbrev pub RefusalIs : Sites → Demand → List Fact → List (List Demand) → List Fact → List (List Demand) → Bool → Type 0
RefusalIs sites d old rows new left false =
    ((w : World) → AreSo w old → FitsAt w sites d → w.holds d ≡ false → ⊥) × AreBefore old new
RefusalIs sites d old rows new left true =
    ((w : World) → AreSo w old → FitsAt w sites d → w.holds d ≡ false
    → AreSo w new × (AllFit w sites rows → AllFit w sites left) × (SomeMatches w left → SomeMatches w rows))
    × ((w : World) → AreSo w new → AreSo w old × (SomeMatches w rows → SomeMatches w left))
    × AreBefore old new
    × IsForced sites new d
