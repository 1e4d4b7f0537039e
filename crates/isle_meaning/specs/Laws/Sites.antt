-- What sites are and hold, and what that says of what rules need, demand and do.
use Rattle.std.specs.Prelude.{◌≡◌, ◌≢◌, ◌↔◌, ℕ, Bool, List, [], Option}
use Rattle.isle_rules.specs.TypedRules.{TypedRule}
use Rattle.isle_trees.specs.Answers.{HasValue}
use Rattle.isle_meaning.specs.Got.{unknown, gives}
use Rattle.isle_meaning.specs.Values.{Value, Values}
use Rattle.isle_meaning.specs.Facts.{TermFacts}
use Rattle.isle_meaning.specs.Sites.{Site}
use Rattle.isle_meaning.specs.Sorts.{sort}
use Rattle.isle_meaning.specs.AboutSites.Parts.{parts_of, IsOneOf, SpeaksOf}
use Rattle.isle_meaning.specs.Demands.{Demand, result_of, vars_of}
use Rattle.isle_meaning.specs.Derived.{Derived, FieldOf}
use Rattle.isle_meaning.specs.Needs.{needs_of, IsNeeded}
use Rattle.isle_meaning.specs.Answers.{Completion, IsAllowed}
use Rattle.isle_meaning.specs.Held.{Held, value, IsAnswered}
use Rattle.isle_meaning.specs.Matching.{MatchesWith}
use Rattle.isle_meaning.specs.Scopes.{Covers, IsWellScopedRule}
use Rattle.isle_meaning.specs.Worlds.{CheckedProgram, Answers, Event}
use Rattle.isle_meaning.specs.RightSides.{RightOf}
use Rattle.isle_meaning.specs.Calls.{Makes, Means}
use Rattle.isle_meaning.specs.AboutSites.Kinds.{IsKinded, IsOfKind, IsKindedDemand}
use Rattle.isle_meaning.specs.AboutSites.ImpureCalls.{IsPure, IfLetsArePure}
use Rattle.isle_meaning.specs.AboutSites.RuleCalls.{ItsCallsAreHad}
use Rattle.isle_meaning.specs.AboutSites.Agreeing.{AgreeIfKnown, AgreeOnCalls, IsOpenCall}
use Rattle.isle_meaning.specs.AboutSites.Making.{made_of_parts, HoldEach}
use Rattle.isle_meaning.specs.AboutSites.RightSites.{RightOfSites}
use Rattle.isle_meaning.specs.Laws.Matching.{IsRuleOfTypes}
use Rattle.isle_meaning.specs.Demands.{DemandOf}

-- ---- what sites hold

-- what holds under each arguments and answers
abbrev pub UnderEach : (TermFacts → Completion → Values → List (Option Value) → Type 0) → Type 0
UnderEach P = (facts : TermFacts) (c : Completion) (args : Values) (done : List (Option Value)) → P facts c args done

-- What has a value is made of what has.
abbrev pub SitesAreStrict : Type 0
SitesAreStrict = UnderEach (λ facts c args done. (s u : Site) → IsOneOf (parts_of s) u → HasValue (value facts c args done s)
    → HasValue (value facts c args done u))

-- What is known is made of what is known.
abbrev pub KnownIsOfKnown : Type 0
KnownIsOfKnown = UnderEach (λ facts c args done. (s u : Site) → IsOneOf (parts_of s) u → value facts c args done s ≢ unknown
    → value facts c args done u ≢ unknown)

-- A site holds what is made of what its parts hold.
abbrev pub SitesAreMadeByParts : Type 0
SitesAreMadeByParts = UnderEach (λ facts c args done. (s : Site) (hs : List Held) → HoldEach facts c args done (parts_of s) hs
    → value facts c args done s ≡ made_of_parts facts c args done s hs)

-- A site that isn't known, though its parts are, is a call that isn't answered.
abbrev pub UnknownSitesAreOpenCalls : Type 0
UnknownSitesAreOpenCalls = UnderEach (λ facts c args done. (s : Site)
    → ((u : Site) → IsOneOf (parts_of s) u → value facts c args done u ≢ unknown) → value facts c args done s ≡ unknown
    → IsOpenCall facts c args done s)

-- Under completions that agree on each call that both answer, a site that both know holds the same.
abbrev pub CompletionsAgreeOnSites : Type 0
CompletionsAgreeOnSites = (facts : TermFacts) (c d : Completion) (args : Values) (done : List (Option Value)) → AgreeOnCalls c d → (s : Site)
    → AgreeIfKnown (value facts c args done s) (value facts d args done s)

-- A site of its kind holds what is of its kind.
abbrev pub SitesKeepKinds : Type 0
SitesKeepKinds = (facts : TermFacts) (tys : List ℕ) (c : Completion) (args : Values) (done : List (Option Value)) → IsAllowed facts c
    → (s : Site) (h : Held) → IsKinded facts tys s → value facts c args done s ≡ gives h → IsOfKind (sort facts tys s) h

-- ---- the sites of rules

-- The sites that a rule needs, its result, and the fields that its demands open are of their kinds: so none is one value of a multi call.
-- What follows from its demands is of such sites too, with as many fields as its type.
pub record IsKindedRule (facts : TermFacts) (tys : List ℕ) (rule : TypedRule) : Type 0 where
  pub needed : (s : Site) → IsNeeded (needs_of facts rule) s → IsKinded facts tys s
  pub result : (partial : Bool) → IsKinded facts tys (result_of facts partial rule)
  pub fields : (t s : Site) → FieldOf (DemandOf facts rule) t s → IsKinded facts tys s
  pub demands : (d : Demand) → Derived (DemandOf facts rule) d → IsKindedDemand facts tys d

-- So are those of each rule that asks no `multi` term.
abbrev pub RulesAreKinded : Type 0
RulesAreKinded = (facts : TermFacts) (tys : List ℕ) (rule : TypedRule) → IsRuleOfTypes facts tys rule → IsKindedRule facts tys rule

-- What follows from a rule's demands, and what its variables stand for, has no impure call.
abbrev pub DemandsArePure : Type 0
DemandsArePure = (facts : TermFacts) (rule : TypedRule) → IfLetsArePure facts rule.iflets
    → ((d : Demand) → Derived (DemandOf facts rule) d → SpeaksOf IsPure d) × ((k : ℕ) → IsPure (vars_of facts rule k))

-- What follows from a rule's demands is answered under a completion that covers it.
abbrev pub DemandsAreAnswered : Type 0
DemandsAreAnswered = (facts : TermFacts) (c : Completion) (args : Values) (rule : TypedRule) → Covers facts c args rule → (d : Demand)
    → Derived (DemandOf facts rule) d → SpeaksOf (IsAnswered facts c args []) d

-- Each call in what follows from a rule's demands is one that its patterns or if-lets have.
abbrev pub DemandedCallsAreHad : Type 0
DemandedCallsAreHad = (facts : TermFacts) (rule : TypedRule) (d : Demand) → Derived (DemandOf facts rule) d
    → SpeaksOf (ItsCallsAreHad facts rule) d

-- Where a rule matches, its right side is what its sites say: its impure calls in order, each on what its arguments' sites hold after the
-- answers so far, then its result.
abbrev pub RightSidesAreTheirSites : Type 0
RightSidesAreTheirSites = (p : CheckedProgram) (w : Answers) (n : ℕ) (c : Completion) (args : Values) (rule : TypedRule)
    → IsWellScopedRule p.terms rule → (a : ℕ → Value) → MatchesWith p.terms c args rule a → (trace : List Event) (answer : Option Value)
    → RightOf p.terms c (Makes p (Means p w n)) a rule trace answer ↔ RightOfSites p.terms c (Makes p (Means p w n)) args rule trace answer
