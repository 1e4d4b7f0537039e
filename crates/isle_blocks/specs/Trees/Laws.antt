-- What the theory of trees asks of a rule set and of answers, and what walks mean for typed rules.
use Rattle.std.specs.Prelude.{◌≡◌, ◌<◌, ◌↔◌, ℕ, List, [], map, length, Option, Some, None, slice_get}
use Rattle.std.specs.Option.{option_map}
use Rattle.isle_types.specs.Names.{AreDistinct}
use Rattle.isle_types.specs.declared.ids.Sym.{Sym}
use Rattle.isle_rules.specs.declared.rules.Rule as source
use Rattle.isle_rules.specs.TypedRules.{TypedRule}
use Rattle.isle_rules.specs.Shown.TermTables.{TermTables}
use Rattle.isle_meaning.specs.Values.{Value, Values, count}
use Rattle.isle_meaning.specs.Facts.{TermFacts}
use Rattle.isle_meaning.specs.Answers.{Completion, IsAllowed}
use Rattle.isle_meaning.specs.AboutSites.Agreeing.{IsOpenCall}
use Rattle.isle_meaning.specs.Matching as matching
use Rattle.isle_meaning.specs.Laws.Matching.{Settles}
use Rattle.isle_blocks.specs.declared.ids.BindingId.{BindingId}
use Rattle.isle_blocks.specs.declared.binding.Binding.{Binding}
use Rattle.isle_blocks.specs.declared.constraint.Constraint.{Constraint}
use Rattle.isle_blocks.specs.Tables.{IsTable}
use Rattle.isle_blocks.specs.Constraints.{bindings_made}
use Rattle.isle_blocks.specs.DefinedSets.{AreDefined, IsSetOf, name_of, facts_by, rules_by}
use Rattle.isle_blocks.specs.RuleSets.{RulesOverSites}
use Rattle.isle_blocks.specs.Rows.{IsInjective}
use Rattle.isle_blocks.specs.Tables.{IsFound}
use Rattle.isle_blocks.specs.Trees.View.{id_of, place_of, rules_of}
use Rattle.isle_blocks.specs.Trees.SiteTrees.{tree_of, held_by}
use Rattle.isle_blocks.specs.Trees.Makes.{makes_of, AllowsDone}
use Rattle.isle_blocks.specs.Trees.Premises.{IsRunnableTerm, IsRunnableSet}
use Rattle.isle_blocks.specs.Trees.Choices.{HavePriorities, AreAllLeft, CoversTerm, MayBothBe, SaysOf}
use Rattle.isle_trees.specs.Answers.{Agree}
use Rattle.isle_trees.specs.Builds.{Builds}
use Rattle.isle_trees.specs.Choice.{IsOpen}
use Rattle.isle_trees.specs.Machine.{IsMadeBy, run}
use Rattle.isle_trees.specs.Premises.{IsWellMade, IsSingle, UsesNoMulti, HasItsTests, Respects, KnowsAsked, IsStrict}
use Rattle.isle_trees.specs.Reads.{IsListed}
use Rattle.isle_trees.specs.Rules.{has, Elem, Matches}
use Rattle.isle_trees.specs.Scopes.{nothing_known}
use Rattle.isle_trees.specs.Search.{IsBuildable}
use Rattle.isle_trees.specs.Rules.{below}
use Rattle.isle_trees.specs.Tree.{Steps}
use Rattle.isle_trees.specs.Walk.{walk}

-- a tree can be built of the set's rules over its sites
abbrev pub CanBeBuilt : (Sym → List ℕ) → RulesOverSites → Type 0
CanBeBuilt name set = IsBuildable (rules_of name set) (length set.sites) (below (length set.rules))

-- A tree can be built of each rule set of a term, whatever terms its rules call.
abbrev pub SetsCanBeBuilt : Type 0
SetsCanBeBuilt = (name : Sym → List ℕ) (facts : TermFacts) (sources : List source.Rule) (rules : List TypedRule) (term : ℕ)
    (set : RulesOverSites) → IsInjective name → IsSetOf name facts sources rules term set → CanBeBuilt name set

-- so of each that `check` gives
abbrev pub EachCanBeBuilt : (env : TermTables) → AreDefined env → RulesOverSites → Type 0
EachCanBeBuilt env d set = CanBeBuilt (name_of env d) set

-- ---- any terms

-- what holds of each table of sites, under each arguments and answers
abbrev pub OfEachTable : ((Sym → List ℕ) → RulesOverSites → TermFacts → Completion → Values → List (Option Value) → Type 0) → Type 0
OfEachTable P = (name : Sym → List ℕ) (set : RulesOverSites) → IsTable set.sites → (facts : TermFacts) (c : Completion) (args : Values)
    (done : List (Option Value)) → P name set facts c args done

-- What has a value is made of what has.
abbrev pub AnswersAreStrict : Type 0
AnswersAreStrict = OfEachTable (λ name set facts c args done. IsStrict (rules_of name set) (held_by name set.sites facts c args done))

-- A site holds what is made of what its parts hold.
abbrev pub AnswersAreMadeByParts : Type 0
AnswersAreMadeByParts = OfEachTable (λ name set facts c args done.
    IsMadeBy (rules_of name set) (makes_of name set.sites facts c args done) (held_by name set.sites facts c args done))

-- A site that isn't answered, though its parts have values, is a call that isn't.
abbrev pub OpenSitesAreCalls : Type 0
OpenSitesAreCalls = OfEachTable (λ name set facts c args done. (s : ℕ) → IsOpen (rules_of name set) (held_by name set.sites facts c args done) s
    → IsOpenCall facts c args done (tree_of name set.sites s))

-- ---- terms that ask no `multi` term

-- what holds of each rule set of a runnable term
abbrev pub OfEach : ((name : Sym → List ℕ) (facts : TermFacts) (sources : List source.Rule) (rules : List TypedRule) (term : ℕ) (set : RulesOverSites)
    → IsRunnableSet name facts sources rules term set → Type 0) → Type 0
OfEach P = (name : Sym → List ℕ) (facts : TermFacts) (sources : List source.Rule) (rules : List TypedRule) (term : ℕ) (set : RulesOverSites)
    (h : IsRunnableSet name facts sources rules term set) → P name facts sources rules term set h

-- They are well made: tests are exact, parts stand before what is made of them, and joined sites have no test.
abbrev pub SetsAreWellMade : Type 0
SetsAreWellMade = OfEach (λ name facts sources rules term set h. IsWellMade (rules_of name set))

-- What their tests ask has its tests and no impure call, and impure calls stand before what is made of them, each once.
abbrev pub SetsAreSingle : Type 0
SetsAreSingle = OfEach (λ name facts sources rules term set h. IsSingle (rules_of name set))

-- None of their rules uses a multi call.
abbrev pub SetsUseNoMulti : Type 0
SetsUseNoMulti = OfEach (λ name facts sources rules term set h. (left : List ℕ) → UsesNoMulti (rules_of name set) left)

-- The fields of each test are listed.
abbrev pub SetsAreListed : Type 0
SetsAreListed = OfEach (λ name facts sources rules term set h. IsListed (rules_of name set))

-- What a rule has, has its tests, contents of constructors' calls aside.
abbrev pub SetsHaveTheirTests : Type 0
SetsHaveTheirTests = OfEach (λ name facts sources rules term set h. HasItsTests (rules_of name set))

-- The fields of a test that a rule has are what the test makes, each looked up among the sites.
abbrev pub FieldsAreLookedUp : Type 0
FieldsAreLookedUp = OfEach (λ name facts sources rules term set h. (i s : ℕ) (c : Constraint) → (rules_of name set).at i s ≡ Some (has c)
    → (rules_of name set).fields s c ≡ map (λ (b : Binding). place_of b set.sites) (bindings_made c (id_of s)))

-- What a look-up of a site finds is its place in the table.
abbrev pub FoundSitesArePlaces : Type 0
FoundSitesArePlaces = (table : List Binding) (b : Binding) (o : Option BindingId) → AreDistinct table → IsFound table b o
    → option_map (λ (id : BindingId). id.0) o ≡ place_of b table

-- ---- answers

-- Answers keep to fields and calls, where arguments are as many as the term's.
abbrev pub AnswersRespect : Type 0
AnswersRespect = OfEach (λ name facts sources rules term set h. (c : Completion) (args : Values) (done : List (Option Value)) → IsAllowed facts c
    → count args ≡ length h.runnable.types → AllowsDone name set.sites facts done
    → Respects (rules_of name set) (held_by name set.sites facts c args done))

-- Under completions that agree what both know is the same.
abbrev pub AnswersAgree : Type 0
AnswersAgree = OfEach (λ name facts sources rules term set h. (c d : Completion) (args : Values) (done : List (Option Value)) → MayBothBe facts c d
    → Agree (held_by name set.sites facts c args done) (held_by name set.sites facts d args done))

-- Under a completion that covers the term all that its tests ask is known.
abbrev pub AnswersKnowWhatIsAsked : Type 0
AnswersKnowWhatIsAsked = OfEach (λ name facts sources rules term set h. (c : Completion) (args : Values) (done : List (Option Value))
    → CoversTerm facts c args rules term → KnowsAsked (rules_of name set) (held_by name set.sites facts c args done))

-- A rule of the set matches exactly where the typed rule at its place does.
abbrev pub RulesMatchAsTyped : Type 0
RulesMatchAsTyped = OfEach (λ name facts sources rules term set h. (c : Completion) (args : Values) (i p : ℕ) (rule : TypedRule)
    → slice_get h.is.places i ≡ Some p → slice_get rules p ≡ Some rule → Settles facts c args rule
    → Matches (rules_of name set) (held_by name set.sites facts c args []) i ↔ matching.Matches facts c args rule)

-- The outcome of a run under its own answers says what the typed rules choose, under any answers that agree and cover the term.
abbrev pub WalksChooseAsTyped : Type 0
WalksChooseAsTyped = OfEach (λ name facts sources rules term set h. HavePriorities sources rules → (left : List ℕ) → AreAllLeft set left
    → ((i : ℕ) → Elem i left → i < length set.rules) → (T : Steps Constraint) → Builds (rules_of name set) left nothing_known T
    → (c d : Completion) (args : Values) → MayBothBe facts c d → count args ≡ length h.runnable.types → CoversTerm facts d args rules term
    → SaysOf facts d args rules term h.is.places (walk (rules_of name set) (held_by name set.sites facts c args []) T))

-- A machine that keeps only what it bound does as the walk of what sites hold.
abbrev pub MachinesWalk : Type 0
MachinesWalk = OfEach (λ name facts sources rules term set h. (left : List ℕ) (T : Steps Constraint) → Builds (rules_of name set) left nothing_known T
    → (c : Completion) (args : Values) → IsAllowed facts c → count args ≡ length h.runnable.types
    → run (rules_of name set) (makes_of name set.sites facts c args []) T (λ s. None)
    ≡ walk (rules_of name set) (held_by name set.sites facts c args []) T)

-- ---- which sets these are

-- The rule set of definitions for a term that asks no `multi` term is such a set.
abbrev pub BuiltSetsAreRunnable : Type 0
BuiltSetsAreRunnable = (env : TermTables) (d : AreDefined env) (term : ℕ) (set : RulesOverSites)
    → IsRunnableTerm (facts_by env d) (rules_by env d) term
    → IsSetOf (name_of env d) (facts_by env d) env.rules (rules_by env d) term set
    → IsRunnableSet (name_of env d) (facts_by env d) env.rules (rules_by env d) term set

-- Rules of definitions have the priorities of the typed rules.
abbrev pub DefinitionsHavePriorities : Type 0
DefinitionsHavePriorities = (env : TermTables) (d : AreDefined env) → HavePriorities env.rules (rules_by env d)
