-- How the rules of terms are gathered into their rule sets.
use Rattle.std.specs.Prelude.{◌≡◌, ◌<◌, ◌⊎◌, ◌↔◌, ℕ, Bool, true, false, List, [], ◌∷◌, ◌++◌, length, Contains, Some, slice_get}
use Rattle.isle_types.specs.declared.ids.TermId.{TermId}
use Rattle.isle_rules.specs.declared.rules.Rule as source
use Rattle.isle_rules.specs.TypedRules.{TypedRule}
use Rattle.isle_rules.specs.Shown.TermTables.{TermTables}
use Rattle.isle_meaning.specs.Faults.{IsUnreachable}
use Rattle.isle_meaning.specs.Demands.{DemandOf}
use Rattle.isle_blocks.specs.declared.rule.Rule.{Rule}
use Rattle.isle_blocks.specs.AddedRules.{IsDefinedRule, IsAddedRule, HasRoomAlone, name_in, facts_in}
use Rattle.isle_blocks.specs.RuleSets.{IsToldOf}
use Rattle.isle_blocks.specs.Inside.Building.Contents.{Marked}
use Rattle.isle_blocks.specs.DefinedSets.{AreDefined, name_of, facts_by, rules_by, IsTermSet, HasRules}
use Rattle.isle_blocks.specs.RuleFaults.{NeverMatches, FitsAlone, IsUnreachableAt}
use Rattle.isle_blocks.specs.RuleSets.{RulesOverSites, no_rules}

-- a rule is added to a rule set: behind the others, or not at all where it never matches, and has room alone
abbrev pub IsAddedTo : (env : TermTables) (rule : source.Rule) → IsDefinedRule env rule → Bool → RulesOverSites → RulesOverSites → Bool → Type 0
IsAddedTo env rule d partial old new true =
    (made : Rule) × IsAddedRule (name_in env rule d) (facts_in env rule d) partial d.typed old.sites new.sites made
    × IsToldOf rule made × (new.rules ≡ old.rules ++ made ∷ [])
IsAddedTo env rule d partial old new false =
    IsUnreachable (DemandOf (facts_in env rule d) d.typed) × HasRoomAlone (facts_in env rule d) partial d.typed × (new ≡ old)

abbrev pub AddsToSet : TermTables → source.Rule → Bool → RulesOverSites → RulesOverSites → Bool → Type 0
AddsToSet env rule partial old new added = (d : IsDefinedRule env rule) → IsAddedTo env rule d partial old new added

-- the rule at a place has this term
pub record IsOfTerm (sources : List source.Rule) (term i : ℕ) : Type 0 where
  pub rule : source.Rule
  pub at : slice_get sources i ≡ Some rule
  pub of_term : rule.root_term.0 ≡ term

-- a rule at a place has the term, and these are the places of the rules before it that have it
pub record AreRulesUpTo (sources : List source.Rule) (term : ℕ) (before : List ℕ) (place : ℕ) : Type 0 where
  pub here : IsOfTerm sources term place
  pub earlier : (i : ℕ) → Contains before i ↔ ((i < place) × IsOfTerm sources term i)

-- Rules at places are added to a rule set in turn, from nothing.
pub data GathersRules (env : TermTables) (d : AreDefined env) : List ℕ → RulesOverSites → Type 0 where
  none_gathered : GathersRules env d [] no_rules
  one_added : {places : List ℕ} {old : RulesOverSites} (i : ℕ) (rule : source.Rule) (typed : TypedRule) (made : Rule) (new : RulesOverSites)
      → GathersRules env d places old → slice_get env.rules i ≡ Some rule → slice_get (rules_by env d) i ≡ Some typed
      → IsAddedRule (name_of env d) (facts_by env d) ((facts_by env d).partial typed.root) typed old.sites new.sites made
      → IsToldOf rule made → new.rules ≡ old.rules ++ made ∷ [] → GathersRules env d (places ++ i ∷ []) new
  one_dropped : {places : List ℕ} {old : RulesOverSites} (i : ℕ) (typed : TypedRule) → GathersRules env d places old
      → slice_get (rules_by env d) i ≡ Some typed → NeverMatches (facts_by env d) typed → FitsAlone (facts_by env d) typed
      → GathersRules env d (places ++ i ∷ []) old

-- more marks: those of the numbers with P
pub record MarksThose (P : ℕ → Type 0) (old new : List Bool) : Type 0 where
  pub fits : length new ≡ length old
  pub marked : (i : ℕ) → Marked new i ↔ (Marked old i ⊎ P i)

-- the rules among these places that never match
abbrev pub AreLost : (env : TermTables) → AreDefined env → List ℕ → ℕ → Type 0
AreLost env d places i = Contains places i × IsUnreachableAt (facts_by env d) (rules_by env d) i

-- the rules of terms below a bound that never match
pub record IsLostBelow (env : TermTables) (d : AreDefined env) (bound i : ℕ) : Type 0 where
  pub unreachable : IsUnreachableAt (facts_by env d) (rules_by env d) i
  pub below : unreachable.rule.root < bound

-- the terms below a bound with their rule sets, ascending
pub record AreSetsBelow (env : TermTables) (d : AreDefined env) (limit : ℕ) (sets : List (TermId × RulesOverSites)) : Type 0 where
  pub each : (i : ℕ) (pair : TermId × RulesOverSites) → slice_get sets i ≡ Some pair → IsTermSet env d pair × (pair.0.0 < limit)
  pub ascending : (i j : ℕ) (one other : TermId × RulesOverSites) → slice_get sets i ≡ Some one → slice_get sets j ≡ Some other
      → i < j → one.0.0 < other.0.0
  pub all : (term : ℕ) → HasRules (rules_by env d) term → term < limit → (set : RulesOverSites) × Contains sets (record { 0 = term }, set)
