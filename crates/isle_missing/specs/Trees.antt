-- Numbered rules that stand for the rules of a tree.
use Rattle.std.specs.Prelude.{◌≡◌, ◌≢◌, ℕ, Bool, true, false, List, ◌∷◌, ◌++◌, Option, Some, None, Contains}
use Rattle.isle_trees.specs.Got.{Got, gives}
use Rattle.isle_trees.specs.Answers.{Answers}
use Rattle.isle_trees.specs.Choice.{NoneMatches}
use Rattle.isle_trees.specs.Premises.{AreExact, Respects, KnowsAsked}
use Rattle.isle_trees.specs.Rules.{has, one_value, Source, Rules, Elem, Matches, passes_got, alike_got}
use Rattle.isle_missing.specs.declared.demand.Demand.{Demand}
use Rattle.isle_missing.specs.declared.demand.Demand.TheVariants.{Passes, Same}
use Rattle.isle_missing.specs.declared.facts.Fact.{Fact}
use Rattle.isle_missing.specs.Sites.{Sites, all_tests, is_single}
use Rattle.isle_missing.specs.Demands.{World, passes, equals}
use Rattle.isle_missing.specs.Facts.{AreSo}
use Rattle.isle_missing.specs.Search.{MatchesAlways, MissesUnder}

-- the test of each number, the same at each site
abbrev pub Numbering : Type 0 → Type 0
Numbering C = ℕ → Option C

-- a number stands for a test: what has the number is passed by the same values
abbrev pub IsNumber : {C V : Type 0} → Rules C V → Numbering C → C → ℕ → Type 0
IsNumber {C} {V} R test c t = (d : C) × (test t ≡ Some d) × ((x : V) → R.tests.passes d x ≡ R.tests.passes c x)

-- whether what is known of a site passes a test; where there is none it doesn't
abbrev pub passes_numbered : {C V : Type 0} → Rules C V → Option C → Got V → Bool
passes_numbered R None g = false
passes_numbered R (Some c) g = passes_got R c g

-- whether a demand holds under answers
abbrev pub holds_by : {C V : Type 0} → Rules C V → Numbering C → Answers V → Demand → Bool
holds_by R test v (Passes s t) = passes_numbered R (test t.0) (v s.0)
holds_by R test v (Same a b) = alike_got R (v a.0) (v b.0)

-- in a world a demand holds where it does under answers
abbrev pub IsWorldOf : {C V : Type 0} → Rules C V → Numbering C → Answers V → World → Type 0
IsWorldOf R test v w = (d : Demand) → w.holds d ≡ holds_by R test v d

-- no value passes two numbered tests
abbrev pub AreApart : {C V : Type 0} → Rules C V → Numbering C → Type 0
AreApart {C} {V} R test = (t u : ℕ) (c d : C) (x : V) → test t ≡ Some c → test u ≡ Some d → R.tests.passes c x ≡ true
    → R.tests.passes d x ≡ true → t ≡ u

-- Where tests of a site are known of which each value passes one, what it holds does: of the site's type this holds by typing.
abbrev pub AreTyped : {C V : Type 0} → Rules C V → Numbering C → Sites → Answers V → Type 0
AreTyped {C} {V} R test sites v = (s : ℕ) (ts : List ℕ) (x : V) → all_tests sites s ≡ Some ts → v s ≡ gives x
    → (t : ℕ) × Contains ts t × (c : C) × (test t ≡ Some c) × (R.tests.passes c x ≡ true)

-- Where it is said that only one value passes a test, only one does.
abbrev pub AreSingle : {C V : Type 0} → Rules C V → Numbering C → Sites → Type 0
AreSingle {C} {V} R test sites = (s t : ℕ) (c : C) (x y : V) → is_single sites s t ≡ true → test t ≡ Some c
    → R.tests.passes c x ≡ true → R.tests.passes c y ≡ true → x ≡ y

-- a rule that wants two sites to be equal wants it in both directions
abbrev pub AreMutual : {C V : Type 0} → Rules C V → Type 0
AreMutual R = (i a b : ℕ) → R.joins i a b ≡ true → R.joins i b a ≡ true

-- two sites are one by some pairs that a rule demands
pub data IsLinked (row : List Demand) : ℕ → ℕ → Type 0 where
  by_pair : (a b : ℕ) → Contains row (equals a b) → IsLinked row a b
  turned : (a b : ℕ) → IsLinked row a b → IsLinked row b a
  over : (a b c : ℕ) → IsLinked row a b → IsLinked row b c → IsLinked row a c

-- a site has a value where these demands hold: its own test is among them, or it is made of sites that have values
pub data IsReady {C V : Type 0} (R : Rules C V) (test : Numbering C) (front : List Demand) : ℕ → Type 0 where
  by_test : (s : ℕ) (m : Source C) (c : C) (t : ℕ) → R.made s ≡ Some m → m.want ≡ has c → IsNumber R test c t → Contains front (passes m.site t)
      → IsReady R test front s
  by_parts : (s : ℕ) → R.made s ≡ None → ((p : ℕ) → Elem p (R.parts s) → IsReady R test front p) → IsReady R test front s

-- A list of demands says what a rule wants, in an order in which each site has a value where what stands before holds.
pub record StandsFor {C V : Type 0} (R : Rules C V) (test : Numbering C) (i : ℕ) (row : List Demand) : Type 0 where
  pub wants : (s : ℕ) (c : C) → R.at i s ≡ Some (has c) → (t : ℕ) × IsNumber R test c t × Contains row (passes s t)
  pub wanted : (s t : ℕ) → Contains row (passes s t) → (c : C) × IsNumber R test c t × (R.at i s ≡ Some (has c))
  pub joins : (a b : ℕ) → R.joins i a b ≡ true → a ≢ b → IsLinked row a b
  pub joined : (a b : ℕ) → Contains row (equals a b) → (R.joins i a b ≡ true) × (a ≢ b)
  pub single : (s : ℕ) → R.at i s ≢ Some one_value
  pub ready : (s t : ℕ) (front back : List Demand) → row ≡ front ++ passes s t ∷ back → IsReady R test front s
  pub both_ready : (a b : ℕ) (front back : List Demand) → row ≡ front ++ equals a b ∷ back → IsReady R test front a × IsReady R test front b

-- these lists stand for the rules left
pub record Shows {C V : Type 0} (R : Rules C V) (test : Numbering C) (left : List ℕ) (rows : List (List Demand)) : Type 0 where
  pub apart : AreApart R test
  pub from_rules : (row : List Demand) → Contains rows row → (i : ℕ) × Elem i left × StandsFor R test i row
  pub to_rules : (i : ℕ) → Elem i left → (row : List Demand) × Contains rows row × StandsFor R test i row

-- Where rules are covered, one of those left matches, whatever is answered of the sites' types.
abbrev pub CoveredRulesMatch : (C V : Type 0) → Type 0
CoveredRulesMatch C V = (R : Rules C V) (left : List ℕ) (test : Numbering C) (sites : Sites) (rows : List (List Demand)) (v : Answers V)
    → AreExact R.tests → AreMutual R → Shows R test left rows → MatchesAlways sites rows → Respects R v → KnowsAsked R v
    → AreTyped R test sites v → AreSingle R test sites → (i : ℕ) × Elem i left × Matches R v i

-- Where facts are missing and are so by answers, none of the rules left matches.
abbrev pub MissingRulesFail : (C V : Type 0) → Type 0
MissingRulesFail C V = (R : Rules C V) (left : List ℕ) (test : Numbering C) (rows : List (List Demand)) (facts : List Fact) (v : Answers V)
    (w : World) → AreExact R.tests → Shows R test left rows → MissesUnder facts rows → IsWorldOf R test v w → AreSo w facts → NoneMatches R v left
