-- What a rule means, and what is derived from its demands.
use Rattle.std.specs.Prelude.{◌≡◌, ◌<ℤ◌, ◌⊎◌, ◌↔◌, ℕ, ℤ, Bool, false, List, [], Option, Some, slice_get}
use Rattle.isle_ast.specs.declared.ast.Def.{Def}
use Rattle.isle_types.specs.Environment.{Environment}
use Rattle.isle_meaning.specs.Values.{Value, Values, count}
use Rattle.isle_rules.specs.TypedRules.{TypedRule}
use Rattle.isle_meaning.specs.Facts.{TermFacts, patterns, facts_of, TakesFields}
use Rattle.isle_meaning.specs.Answers.{Completion, IsAllowed}
use Rattle.isle_meaning.specs.Matching.{Matches}
use Rattle.isle_meaning.specs.Held.{value}
use Rattle.isle_meaning.specs.Numbered.{Row, Recorded, AreRecorded}
use Rattle.isle_meaning.specs.Demands.{Constraint, Demand, Among, demands_of, vars_of, impure_of, DemandOf}
use Rattle.isle_meaning.specs.Holds.{Holds, AllHold, AllHoldProper, IsReflexive, Respects}
use Rattle.isle_meaning.specs.Derived.{Derived, Closed}
use Rattle.isle_meaning.specs.Faults.{IsUnreachable, Differ, MayOverlap, IsFree, IsWithin, Shadows}
use Rattle.isle_meaning.specs.Sorts.{AllSuit}
use Rattle.isle_meaning.specs.Words.{word_of}
use Rattle.isle_meaning.specs.Sites.{site_of}
use Rattle.isle_meaning.specs.Needs.{visit, no_log, needs_of, IsNeeded, FieldsAreNeeded}
use Rattle.isle_meaning.specs.Tested.{IsTested, SpeaksOfTested}
use Rattle.isle_meaning.specs.Scopes.{IsWellScopedRule, RuleTakesOne, Covers, scope_of}
use Rattle.isle_rules.specs.Signatures.{Declared}
use Rattle.isle_rules.specs.Definitions.{TermEnvironment, declared_by, MakesTerms}
use Rattle.isle_rules.specs.SoundRules.WellTyped.{IsTypedRule}
use Rattle.isle_rules.specs.SoundRules.KeptScopes.{KeepsScopes}
use Rattle.isle_meaning.specs.Typing.{RuleIsTyped}

-- a rule of a term that takes these types, as elaboration makes it
pub record IsRuleOfTypes (facts : TermFacts) (tys : List ℕ) (rule : TypedRule) : Type 0 where
  pub well : IsWellScopedRule facts rule
  pub result_type : ℕ
  pub var_types : ℕ → ℕ
  pub typed : RuleIsTyped facts tys result_type var_types rule

-- these arguments and answers settle whether the rule matches
pub record Settles (facts : TermFacts) (c : Completion) (args : Values) (rule : TypedRule) : Type 0 where
  pub allowed : IsAllowed facts c
  pub takes : count args ≡ patterns rule.args
  pub covers : Covers facts c args rule

-- A rule matches exactly where its demands hold of the sites' values.
abbrev pub MatchesByDemands : Type 0
MatchesByDemands = (facts : TermFacts) (c : Completion) (args : Values) (rule : TypedRule) → IsWellScopedRule facts rule
    → Settles facts c args rule
    → Matches facts c args rule ↔ AllHold (value facts c args []) (demands_of facts rule)

-- Equalities of a site with itself say nothing more.
abbrev pub MatchesByProper : Type 0
MatchesByProper = (facts : TermFacts) (c : Completion) (args : Values) (rule : TypedRule) → IsWellScopedRule facts rule
    → Settles facts c args rule
    → Matches facts c args rule ↔ AllHoldProper (value facts c args []) (demands_of facts rule)

-- What a typed rule demands is of its sites' types.
abbrev pub DemandsSuit : Type 0
DemandsSuit = (facts : TermFacts) (tys : List ℕ) (rule : TypedRule) → IsRuleOfTypes facts tys rule → AllSuit facts tys (DemandOf facts rule)

-- A rule matches exactly where its closed demands hold: each derived constraint, and the equalities left.
abbrev pub MatchesByClosed : Type 0
MatchesByClosed = (facts : TermFacts) (tys : List ℕ) (c : Completion) (args : Values) (rule : TypedRule) → IsRuleOfTypes facts tys rule
    → Settles facts c args rule
    → Matches facts c args rule ↔ ((d : Demand) → Closed (DemandOf facts rule) d → Holds (value facts c args []) d)

-- Where a rule matches, all that is derived holds.
abbrev pub MatchesDerived : Type 0
MatchesDerived = (facts : TermFacts) (c : Completion) (args : Values) (rule : TypedRule) → IsWellScopedRule facts rule
    → Matches facts c args rule → (d : Demand) → Derived (DemandOf facts rule) d → Holds (value facts c args []) d

-- An unreachable rule matches nothing.
abbrev pub UnreachableIsDead : Type 0
UnreachableIsDead = (facts : TermFacts) (tys : List ℕ) (c : Completion) (args : Values) (rule : TypedRule) → IsRuleOfTypes facts tys rule
    → IsUnreachable (DemandOf facts rule) → Matches facts c args rule → ⊥

-- Rules of one term of which some site has different constraints never both match.
abbrev pub NeverBoth : Type 0
NeverBoth = (facts : TermFacts) (tys : List ℕ) (c : Completion) (args : Values) (one other : TypedRule) → IsRuleOfTypes facts tys one
    → IsRuleOfTypes facts tys other
    → Differ (DemandOf facts one) (DemandOf facts other) → Matches facts c args one → Matches facts c args other → ⊥

-- A rule without equalities left whose constraints stand in another's matches wherever that one does.
abbrev pub WiderMatches : Type 0
WiderMatches = (facts : TermFacts) (tys : List ℕ) (c : Completion) (args : Values) (wide narrow : TypedRule) → IsRuleOfTypes facts tys wide
    → IsRuleOfTypes facts tys narrow → Settles facts c args wide
    → IsFree (DemandOf facts wide) → IsWithin (DemandOf facts wide) (DemandOf facts narrow) → Matches facts c args narrow
    → Matches facts c args wide

-- A rule that another of higher priority shadows is never the one to choose: that one matches wherever it does.
abbrev pub ShadowedIsNeverChosen : Type 0
ShadowedIsNeverChosen =
    (facts : TermFacts) (tys : List ℕ) (c : Completion) (args : Values) (high low : TypedRule) (p q : ℤ) → IsRuleOfTypes facts tys high
    → IsRuleOfTypes facts tys low → Settles facts c args high
    → Shadows (DemandOf facts high) (DemandOf facts low) p q → Matches facts c args low → Matches facts c args high × (q <ℤ p)

-- Where both match, they may overlap: so of rules of which no two of one priority may overlap, one at most matches at a priority.
abbrev pub BothMatchOverlap : Type 0
BothMatchOverlap = (facts : TermFacts) (tys : List ℕ) (c : Completion) (args : Values) (one other : TypedRule) → IsRuleOfTypes facts tys one
    → IsRuleOfTypes facts tys other
    → Matches facts c args one → Matches facts c args other → MayOverlap (DemandOf facts one) (DemandOf facts other)

-- the second are the first, some equalities of a site with itself left out
pub record LeavesOut (ds es : List Demand) : Type 0 where
  pub sound : (d : Demand) → Among es d → Among ds d
  pub complete : (d : Demand) → Among ds d → Among es d ⊎ IsReflexive d

-- Leaving them out changes neither what is closed nor whether a rule is unreachable.
abbrev pub SelfEqualitiesSayNothing : Type 0
SelfEqualitiesSayNothing = (ds es : List Demand) → LeavesOut ds es
    → ((d : Demand) → Closed (Among ds) d ↔ Closed (Among es) d) × (IsUnreachable (Among ds) ↔ IsUnreachable (Among es))

-- What follows from what is recorded in a table follows from the demands, and the other way round.
abbrev pub NumbersSayDemands : Type 0
NumbersSayDemands = (table : List Row) (has : List (ℕ × Constraint)) (same : List (ℕ × ℕ)) (ds : List Demand)
    → AreRecorded table has same ds
    → ((d : Demand) → Closed (Recorded table has same) d ↔ Closed (Among ds) d)
    × (IsUnreachable (Recorded table has same) ↔ IsUnreachable (Among ds))

-- Each field and each content that a rule's demands speak of is made by a test among them, and so is each in its variables' sites.
abbrev pub DemandsAreTested : Type 0
DemandsAreTested = (facts : TermFacts) (rule : TypedRule) → IsWellScopedRule facts rule
    → ((d : Demand) → DemandOf facts rule d → SpeaksOfTested (DemandOf facts rule) d)
    × ((k : ℕ) → scope_of rule k → IsTested (DemandOf facts rule) (vars_of facts rule k))

-- What is derived speaks of fields and contents alone that derived tests make.
abbrev pub DerivedIsTested : Type 0
DerivedIsTested = (facts : TermFacts) (rule : TypedRule) → IsWellScopedRule facts rule → (d : Demand) → Derived (DemandOf facts rule) d
    → SpeaksOfTested (Derived (DemandOf facts rule)) d

-- The visitor's road over a right side gives its site, and its impure calls in order.
abbrev pub VisitIsWritten : Type 0
VisitIsWritten = (facts : TermFacts) (rule : TypedRule)
    → ((visit facts (vars_of facts rule) no_log rule.right).0 ≡ site_of facts (vars_of facts rule) (word_of facts rule.right))
    × ((visit facts (vars_of facts rule) no_log rule.right).1.impure ≡ impure_of facts rule)

-- All fields of each variant and struct that a rule demands are among the sites that it needs.
abbrev pub NeedsHaveFields : Type 0
NeedsHaveFields = (facts : TermFacts) (rule : TypedRule) (d : Demand) → DemandOf facts rule d
    → FieldsAreNeeded (IsNeeded (needs_of facts rule)) d

-- A field site holds exactly the field of what its source holds.
abbrev pub FieldsAreFields : Type 0
FieldsAreFields = (facts : TermFacts) (c : Completion) (args : Values) (done : List (Option Value)) → Respects (value facts c args done)

-- A well typed rule that keeps scopes, of a term that isn't `multi` and with no `multi` extractor, is one that the laws speak of.
abbrev pub ElaboratedRulesFit : Type 0
ElaboratedRulesFit = (declared : Declared) (rule : TypedRule) (typed : IsTypedRule declared rule) → KeepsScopes rule → TakesFields declared
    → typed.flags.multi ≡ false → RuleTakesOne (facts_of declared) rule → IsRuleOfTypes (facts_of declared) typed.root.args rule

-- The terms of variants and structs that definitions make take exactly their fields.
abbrev pub MadeTermsTakeTheirFields : Type 0
MadeTermsTakeTheirFields =
    (types : Environment) (expands : Bool) (levels max : ℕ) (defs : List Def) (environment : TermEnvironment)
    → MakesTerms types expands levels max defs environment → TakesFields (declared_by types expands environment)

-- Each rule of definitions is one that the laws speak of, where its term isn't `multi` and it asks no `multi` extractor.
abbrev pub RulesOfDefinitionsFit : Type 0
RulesOfDefinitionsFit =
    (types : Environment) (expands : Bool) (levels max : ℕ) (defs : List Def) (environment : TermEnvironment)
    → MakesTerms types expands levels max defs environment → (place : ℕ) (rule : TypedRule)
    → slice_get environment.rules place ≡ Some rule → (typed : IsTypedRule (declared_by types expands environment) rule)
    → typed.flags.multi ≡ false → RuleTakesOne (facts_of (declared_by types expands environment)) rule
    → IsRuleOfTypes (facts_of (declared_by types expands environment)) typed.root.args rule
