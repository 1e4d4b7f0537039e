-- The rule sets of the terms of definitions.
use Rattle.std.specs.Prelude.{◌≡◌, ◌<◌, ◌≤◌, ◌⊎◌, ◌↔◌, ◌++◌, ◌∷◌, [], ℕ, All, List, length, Contains, Some, slice_get, slice_index_or}
use Rattle.std.specs.List.{AllZip}
use Rattle.isle_ast.specs.declared.ast.Def.{Def}
use Rattle.isle_types.specs.declared.ids.Sym.{Sym}
use Rattle.isle_types.specs.declared.ids.TermId.{TermId}
use Rattle.isle_types.specs.Environment.{Environment, Makes, AreWithinSizes}
use Rattle.isle_types.specs.Names.{AreDistinct}
use Rattle.isle_types.specs.TypeTables.{TypeTables}
use Rattle.isle_rules.specs.declared.rules.Rule as source
use Rattle.isle_rules.specs.TypedRules.{TypedRule}
use Rattle.isle_rules.specs.Definitions.{declared_by}
use Rattle.isle_rules.specs.Shown.TermTables.{TermTables}
use Rattle.isle_rules.specs.Shown.RulesShown.{ShowsTerms}
use Rattle.isle_meaning.specs.Facts.{TermFacts, facts_of}
use Rattle.isle_meaning.specs.Sites.{Site}
use Rattle.isle_meaning.specs.Demands.{impure_of}
use Rattle.isle_meaning.specs.Derived.{FieldOf}
use Rattle.isle_meaning.specs.Demands.{DemandOf}
use Rattle.isle_meaning.specs.Needs.{needs_of, IsNeeded}
use Rattle.isle_meaning.specs.Numbered.{Row, At}
use Rattle.isle_blocks.specs.declared.binding.Binding.{Binding}
use Rattle.isle_blocks.specs.declared.rule.Rule.{Rule}
use Rattle.isle_blocks.specs.AddedRules.{IsMultiCall, needs_in_order}
use Rattle.isle_blocks.specs.RuleSets.{IsToldOf}
use Rattle.isle_blocks.specs.Building.Naming.{name_by, HaveFewArguments}
use Rattle.isle_blocks.specs.Building.Standing.{StandEach, NumbersBehind}
use Rattle.isle_blocks.specs.Closure.{Stands}
use Rattle.isle_blocks.specs.ClosedRules.{IsClosedRule, AreNumbersOf}
use Rattle.isle_blocks.specs.Tables.{IsTable}
use Rattle.isle_blocks.specs.Rows.{rows_of}
use Rattle.isle_blocks.specs.RuleFaults.{MayMatchAt, SitesStand, own_result}
use Rattle.isle_blocks.specs.RuleSets.{RulesOverSites}

-- an environment of terms shows definitions: each name stands once, and no term has more than 255 arguments
pub record AreDefined (env : TermTables) : Type 0 where
  pub tyenv : TypeTables
  pub types : Environment
  pub levels : ℕ
  pub max : ℕ
  pub defs : List Def
  pub once : AreDistinct tyenv.names
  pub shows : ShowsTerms tyenv env types levels max defs
  pub few : HaveFewArguments env.terms

-- No term that definitions within the sizes make has more than 255 arguments.
abbrev pub TermsHaveFewArguments : Type 0
TermsHaveFewArguments = (tyenv : TypeTables) (env : TermTables) (types : Environment) (levels max : ℕ) (defs : List Def)
    → Makes defs types → AreWithinSizes defs → ShowsTerms tyenv env types levels max defs → HaveFewArguments env.terms

-- the names of its symbols, what its declarations say of terms, and its typed rules
abbrev pub name_of : (env : TermTables) → AreDefined env → Sym → List ℕ
name_of env d = name_by d.tyenv.names

abbrev pub facts_by : (env : TermTables) → AreDefined env → TermFacts
facts_by env d = facts_of (declared_by d.types env.expands d.shows.environment)

abbrev pub rules_by : (env : TermTables) → AreDefined env → List TypedRule
rules_by env d = d.shows.environment.rules

-- the numbers with P, each once, in ascending order
pub record ListsNumbers (P : ℕ → Type 0) (numbers : List ℕ) : Type 0 where
  pub all : (i : ℕ) → Contains numbers i ↔ P i
  pub ascending : (k l d : ℕ) → k < l → l < length numbers → slice_index_or numbers k d < slice_index_or numbers l d

-- a rule of a rule set is that at a place of a term's rules: it may match, and is what follows from its demands over the table
pub record IsMadeAt (name : Sym → List ℕ) (facts : TermFacts) (sources : List source.Rule) (rules : List TypedRule) (term : ℕ)
    (table : List Binding) (i : ℕ) (made : Rule) : Type 0 where
  pub source : source.Rule
  pub source_at : slice_get sources i ≡ Some source
  pub reached : MayMatchAt facts rules term i
  pub told : IsToldOf source made
  pub closed : IsClosedRule name (rows_of name table) (DemandOf facts reached.rule) made
  pub calls : AreNumbersOf (rows_of name table) (IsMultiCall facts (facts.partial reached.rule.root) reached.rule) made.iterators
  pub stand : SitesStand facts (rows_of name table) reached.rule
  pub value : At (rows_of name table) (own_result facts reached.rule) made.result.0
  pub effects : StandEach (rows_of name table) made.impure (impure_of facts reached.rule)

-- a site of a term's rule that may match: the rule needs it, or it is its result, or a field that its demands open
pub record IsSiteOf (facts : TermFacts) (rules : List TypedRule) (term : ℕ) (s : Site) : Type 0 where
  pub place : ℕ
  pub reached : MayMatchAt facts rules term place
  pub from : IsNeeded (needs_of facts reached.rule) s ⊎ (s ≡ own_result facts reached.rule) ⊎ ((t : Site) × FieldOf (DemandOf facts reached.rule) t s)

-- Rules at places in turn: what each needs is numbered in the order in which it first needs it, behind what stood, and behind
-- that the fields that its demands open, those of the least site first.
pub data AreNumberedInOrder (facts : TermFacts) (rules : List TypedRule) : List ℕ → List Row → Type 0 where
  none_numbered : AreNumberedInOrder facts rules [] []
  rule_numbered : {places : List ℕ} {old : List Row} (i : ℕ) (rule : TypedRule) (new : List Row) → AreNumberedInOrder facts rules places old
      → slice_get rules i ≡ Some rule → NumbersBehind old (needs_in_order facts (facts.partial rule.root) rule) (DemandOf facts rule) new
      → AreNumberedInOrder facts rules (places ++ i ∷ []) new

-- The rule set of a term: its rules that may match, in the order of the source, over their sites, each once, and no others.
pub record IsSetOf (name : Sym → List ℕ) (facts : TermFacts) (sources : List source.Rule) (rules : List TypedRule) (term : ℕ) (set : RulesOverSites)
    : Type 0 where
  pub places : List ℕ
  pub listed : ListsNumbers (MayMatchAt facts rules term) places
  pub made : AllZip (IsMadeAt name facts sources rules term set.sites) places set.rules
  pub table : IsTable set.sites
  pub few : length set.sites ≤ 65536
  pub explained : (s : Site) → Stands (rows_of name set.sites) s → IsSiteOf facts rules term s
  pub order : AreNumberedInOrder facts rules places (rows_of name set.sites)

-- a term is the root of a rule
pub record HasRules (rules : List TypedRule) (term : ℕ) : Type 0 where
  pub place : ℕ
  pub rule : TypedRule
  pub at : slice_get rules place ≡ Some rule
  pub of_term : rule.root ≡ term

-- a term with rules, and its rule set
abbrev pub IsTermSet : (env : TermTables) → AreDefined env → TermId × RulesOverSites → Type 0
IsTermSet env d pair =
    HasRules (rules_by env d) pair.0.0 × IsSetOf (name_of env d) (facts_by env d) env.rules (rules_by env d) pair.0.0 pair.1

-- Each term with rules and its rule set, ascending by the term's number.
pub record AreSetsOf (env : TermTables) (d : AreDefined env) (sets : List (TermId × RulesOverSites)) : Type 0 where
  pub each : All (IsTermSet env d) sets
  pub ascending : (i j : ℕ) (one other : TermId × RulesOverSites) → slice_get sets i ≡ Some one → slice_get sets j ≡ Some other
      → i < j → one.0.0 < other.0.0
  pub all : (term : ℕ) → HasRules (rules_by env d) term → (set : RulesOverSites) × Contains sets (record { 0 = term }, set)
