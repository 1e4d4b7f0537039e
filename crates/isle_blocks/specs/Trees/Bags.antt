-- What the rule sets of `multi` terms give to the theory of trees: the bag of their rules.
use Rattle.std.specs.Prelude.{Option, ◌≡◌, ◌⊎◌, ◌↔◌, ℕ, List, length, true, Some, slice_get}
use Rattle.isle_types.specs.declared.ids.Sym.{Sym}
use Rattle.isle_rules.specs.declared.rules.Rule as source
use Rattle.isle_rules.specs.TypedRules.{TypedRule}
use Rattle.isle_rules.specs.Shown.TermTables.{TermTables}
use Rattle.isle_meaning.specs.Got.{Got}
use Rattle.isle_meaning.specs.Values.{Value, Values, count}
use Rattle.isle_meaning.specs.AboutSites.Functions.{AreFiniteFunctions, AreAsFunctions}
use Rattle.isle_meaning.specs.Elaborated.{OpensItsMultiCalls}
use Rattle.isle_meaning.specs.Facts.{TermFacts}
use Rattle.isle_meaning.specs.Answers.{Completion}
use Rattle.isle_meaning.specs.Held.{Held, value}
use Rattle.isle_meaning.specs.Holds.{Holds, IsProper, Respects}
use Rattle.isle_meaning.specs.Demands.{Demand, constrained, equal}
use Rattle.isle_meaning.specs.Derived.{Derived}
use Rattle.isle_meaning.specs.Sites.{Site}
use Rattle.isle_meaning.specs.Numbered.{At}
use Rattle.isle_meaning.specs.Demands.{DemandOf}
use Rattle.isle_blocks.specs.declared.constraint.Constraint.{Constraint}
use Rattle.isle_blocks.specs.AddedRules.{IsMultiCall}
use Rattle.isle_blocks.specs.DefinedSets.{AreDefined, IsSetOf, name_of, facts_by, rules_by}
use Rattle.isle_blocks.specs.Rows.{rows_of}
use Rattle.isle_blocks.specs.Trees.Functions.{functions_of, lists_of, functions_model, items_of, HasItem, TakesItsPlaces}
use Rattle.isle_blocks.specs.RuleSets.{RulesOverSites}
use Rattle.isle_blocks.specs.Trees.Choices.{HavePriorities}
use Rattle.isle_blocks.specs.Trees.Deciding.{matches_here}
use Rattle.isle_blocks.specs.Trees.ElaboratedSets.{IsElaboratedSet, IsMultiTerm}
use Rattle.isle_blocks.specs.Trees.View.{rules_of}
use Rattle.isle_trees.specs.Answers.{Answers, HasValue}
use Rattle.isle_trees.specs.Bag.{Picks, Model, Round, ways, IsMany, IsSameBag, walk_all, bag}
use Rattle.isle_trees.specs.Builds.{Builds}
use Rattle.isle_trees.specs.Calls.{AreFunctions}
use Rattle.isle_trees.specs.Premises.{IsWellMade}
use Rattle.isle_trees.specs.Reads.{IsListed}
use Rattle.isle_trees.specs.Rules.{Elem, Matches}
use Rattle.isle_trees.specs.Scopes.{nothing_known}
use Rattle.isle_trees.specs.Rules.{below}
use Rattle.isle_trees.specs.Tree.{Steps}

-- what holds of each rule set whose rules are as elaboration makes them
abbrev pub OfElaborated : ((name : Sym → List ℕ) (facts : TermFacts) (sources : List source.Rule) (rules : List TypedRule) (term : ℕ)
    (set : RulesOverSites) → IsElaboratedSet name facts sources rules term set → Type 0) → Type 0
OfElaborated P = (name : Sym → List ℕ) (facts : TermFacts) (sources : List source.Rule) (rules : List TypedRule) (term : ℕ)
    (set : RulesOverSites) (h : IsElaboratedSet name facts sources rules term set) → P name facts sources rules term set h

-- They are well made.
abbrev pub ElaboratedAreWellMade : Type 0
ElaboratedAreWellMade = OfElaborated (λ name facts sources rules term set h. IsWellMade (rules_of name set))

-- The fields of each test are listed, and the value of each multi call.
abbrev pub ElaboratedAreListed : Type 0
ElaboratedAreListed = OfElaborated (λ name facts sources rules term set h. IsListed (rules_of name set))

-- Those of `multi` terms are as the bag asks: no priorities, and all that a rule has, has its tests and its multi calls.
abbrev pub MultiSetsAreMany : Type 0
MultiSetsAreMany = OfElaborated (λ name facts sources rules term set h. IsMultiTerm facts rules term → HavePriorities sources rules
    → IsMany (rules_of name set))

-- Calls that are functions, and what they list, are as the bag asks.
abbrev pub FunctionsAreFunctions : Type 0
FunctionsAreFunctions = OfElaborated (λ name facts sources rules term set h. (c : Completion) (args : Values)
    → AreFunctions (rules_of name set) (functions_of name set facts c args) (lists_of name set facts c args) (λ p. true))

-- a demand speaks of the site
abbrev pub IsSpokenOf : Demand → Site → Type 0
IsSpokenOf (constrained t c) s = s ≡ t
IsSpokenOf (equal t u) s = (s ≡ t) ⊎ (s ≡ u)

-- what follows from a rule's demands speaks of the site, or it is a multi call of the rule
abbrev pub IsAskedSite : TermFacts → TypedRule → Site → Type 0
IsAskedSite facts rule s =
    ((d : Demand) × Derived (DemandOf facts rule) d × IsSpokenOf d s) ⊎ IsMultiCall facts (facts.partial rule.root) rule s

-- A rule of the set matches exactly where what its typed rule demands holds of what the sites hold, and each multi call that it uses has a
-- list.
abbrev pub RulesMatchByNumbers : Type 0
RulesMatchByNumbers = OfElaborated (λ name facts sources rules term set h. (v : Answers Held) (val : Site → Got Held) → Respects val
    → (i p : ℕ) (rule : TypedRule) → slice_get h.is.places i ≡ Some p → slice_get rules p ≡ Some rule
    → ((s : Site) (k : ℕ) → At (rows_of name set.sites) s k → IsAskedSite facts rule s → val s ≡ v k)
    → Matches (rules_of name set) v i
    ↔ (((d : Demand) → DemandOf facts rule d → IsProper d → Holds val d)
    × ((s : Site) → IsMultiCall facts (facts.partial rule.root) rule s → HasValue (val s))))

-- Whether a rule of the set matches is decided by its tests, its multi calls and its classes.
abbrev pub MatchingIsDecided : Type 0
MatchingIsDecided = OfElaborated (λ name facts sources rules term set h. (v : Answers Held) (i : ℕ)
    → (matches_here name set v i ≡ true) ↔ Matches (rules_of name set) v i)

-- A rule of the term of which all that it demands holds is one of the set.
abbrev pub MatchingRulesAreListed : Type 0
MatchingRulesAreListed = OfElaborated (λ name facts sources rules term set h. (val : Site → Got Held) → Respects val → (place : ℕ)
    (rule : TypedRule) → slice_get rules place ≡ Some rule → rule.root ≡ term
    → ((d : Demand) → DemandOf facts rule d → IsProper d → Holds val d) → (i : ℕ) × (slice_get h.is.places i ≡ Some place))

-- the bag of a set's rules: for each rule, and each way to take one item of each multi call that it has, one answer where it matches then
abbrev pub bag_of : (Sym → List ℕ) → RulesOverSites → Model Held → Picks Held → List (Round Held)
bag_of name set M p = bag (rules_of name set) M (λ q i. matches_here name set (M.values q) i) p (below (length set.rules))

-- The walk of a `multi` term's tree answers the bag of its rules.
abbrev pub WalksMakeBags : Type 0
WalksMakeBags = OfElaborated (λ name facts sources rules term set h. IsMultiTerm facts rules term → HavePriorities sources rules
    → (c : Completion) (args : Values) (T : Steps Constraint) → Builds (rules_of name set) (below (length set.rules)) nothing_known T
    → (p : Picks Held)
    → IsSameBag (walk_all (rules_of name set) (functions_model name set facts c args) T p)
    (bag_of name set (functions_model name set facts c args) p))

-- Where of each multi call that a site is made of the item at its place is taken, and impure calls were answered as functions answer them,
-- the site is what it holds, and a multi call lists the items that it holds.
abbrev pub SitesHoldTheirValues : Type 0
SitesHoldTheirValues = OfElaborated (λ name facts sources rules term set h. (c : Completion) (args : Values) (done : List (Option Value))
    → AreFiniteFunctions facts c → count args ≡ length h.types → (p : Picks Held) (s : Site) (k : ℕ) → At (rows_of name set.sites) s k
    → TakesItsPlaces name set facts c args done p s → AreAsFunctions facts c args done s
    → ((functions_model name set facts c args).values p k ≡ value facts c args done s)
    × ((functions_model name set facts c args).many p k ≡ items_of (value facts c args done s)))

-- Each way that a rule has takes of each of its multi calls one of the items that this lists.
abbrev pub WaysTakeItems : Type 0
WaysTakeItems = OfElaborated (λ name facts sources rules term set h. (c : Completion) (args : Values) (i : ℕ) (p g : Picks Held)
    → Elem g (ways (functions_model name set facts c args) ((rules_of name set).loops i) p) → (k : ℕ) → Elem k ((rules_of name set).loops i)
    → Elem (g k) ((functions_model name set facts c args).many g k))

-- So a rule of a `multi` term matches, where of each of its multi calls the item at its place is taken, exactly where what its typed rule
-- demands holds of what its sites hold.
abbrev pub RulesMatchAtPlaces : Type 0
RulesMatchAtPlaces = OfElaborated (λ name facts sources rules term set h. IsMultiTerm facts rules term → (c : Completion) (args : Values)
    (done : List (Option Value)) → AreFiniteFunctions facts c → count args ≡ length h.types → (p : Picks Held) (i place : ℕ)
    (rule : TypedRule) → slice_get h.is.places i ≡ Some place → slice_get rules place ≡ Some rule
    → ((s : Site) (k : ℕ) → IsMultiCall facts (facts.partial rule.root) rule s → At (rows_of name set.sites) s k
    → HasItem (value facts c args done s) (c.place s) (p k))
    → ((s : Site) → IsAskedSite facts rule s → AreAsFunctions facts c args done s)
    → Matches (rules_of name set) ((functions_model name set facts c args).values p) i
    ↔ ((d : Demand) → DemandOf facts rule d → IsProper d → Holds (value facts c args done) d))

-- The rule set of definitions for any term is such a set.
abbrev pub BuiltSetsAreElaborated : Type 0
BuiltSetsAreElaborated = (env : TermTables) (d : AreDefined env) (term : ℕ) (set : RulesOverSites)
    → IsSetOf (name_of env d) (facts_by env d) env.rules (rules_by env d) term set
    → IsElaboratedSet (name_of env d) (facts_by env d) env.rules (rules_by env d) term set

-- Of definitions the rules of a `multi` term have no priority, and their right sides call nothing partial.
abbrev pub BuiltMultiTerms : Type 0
BuiltMultiTerms = (env : TermTables) (d : AreDefined env) (term : ℕ) → (facts_by env d).multi term ≡ true
    → ((i : ℕ) (rule : TypedRule) → slice_get (rules_by env d) i ≡ Some rule → rule.root ≡ term → OpensItsMultiCalls (facts_by env d) rule)
    → IsMultiTerm (facts_by env d) (rules_by env d) term
