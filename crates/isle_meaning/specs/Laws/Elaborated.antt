-- What holds of each rule that elaboration makes, whatever terms it asks.
use Rattle.std.specs.Prelude.{◌≡◌, ℕ, Bool, true, false, List, Some, slice_get}
use Rattle.isle_ast.specs.declared.ast.Def.{Def}
use Rattle.isle_types.specs.Environment.{Environment}
use Rattle.isle_rules.specs.Definitions.{TermEnvironment, declared_by, MakesTerms}
use Rattle.isle_rules.specs.Signatures.{Declared}
use Rattle.isle_rules.specs.SoundRules.KeptScopes.{KeepsScopes}
use Rattle.isle_rules.specs.SoundRules.WellTyped.{IsTypedRule}
use Rattle.isle_rules.specs.TypedRules.{TypedRule}
use Rattle.isle_meaning.specs.Facts.{TermFacts, TakesFields, facts_of}
use Rattle.isle_meaning.specs.Sites.{Site}
use Rattle.isle_meaning.specs.Sorts.{AllSuit}
use Rattle.isle_meaning.specs.Demands.{Demand, result_of}
use Rattle.isle_meaning.specs.Derived.{Derived, FieldOf}
use Rattle.isle_meaning.specs.Needs.{needs_of, IsNeeded}
use Rattle.isle_meaning.specs.AboutSites.Kinds.{HasItsKind, IsOfItsKind}
use Rattle.isle_meaning.specs.Elaborated.{IsElaborated, OpensItsMultiCalls, IfLetsHaveNoLet}
use Rattle.isle_meaning.specs.Demands.{DemandOf}

-- The sites that a rule needs, its result, and the fields that its demands open are of their kinds, so that one value is taken of multi
-- calls alone. What follows from its demands is of such sites and of their types, with as many fields as its type.
pub record HasItsKinds (facts : TermFacts) (tys : List ℕ) (rule : TypedRule) : Type 0 where
  pub needed : (s : Site) → IsNeeded (needs_of facts rule) s → HasItsKind true facts tys s
  pub result : (partial : Bool) → HasItsKind true facts tys (result_of facts partial rule)
  pub fields : (t s : Site) → FieldOf (DemandOf facts rule) t s → HasItsKind true facts tys s
  pub demands : (d : Demand) → Derived (DemandOf facts rule) d → IsOfItsKind true facts tys d
  pub suit : AllSuit facts tys (Derived (DemandOf facts rule))

-- So are those of each rule that elaboration makes.
abbrev pub ElaboratedAreKinded : Type 0
ElaboratedAreKinded = (facts : TermFacts) (tys : List ℕ) (rule : TypedRule) → IsElaborated facts tys rule → HasItsKinds facts tys rule

-- Each well typed rule that keeps scopes is as elaboration makes it.
abbrev pub TypedRulesAreElaborated : Type 0
TypedRulesAreElaborated = (declared : Declared) (rule : TypedRule) (typed : IsTypedRule declared rule) → KeepsScopes rule → TakesFields declared
    → IsElaborated (facts_of declared) typed.root.args rule

-- So is each rule of definitions.
abbrev pub DefinitionsAreElaborated : Type 0
DefinitionsAreElaborated =
    (types : Environment) (expands : Bool) (levels max : ℕ) (defs : List Def) (environment : TermEnvironment)
    → MakesTerms types expands levels max defs environment → (place : ℕ) (rule : TypedRule)
    → slice_get environment.rules place ≡ Some rule → (typed : IsTypedRule (declared_by types expands environment) rule)
    → IsElaborated (facts_of (declared_by types expands environment)) typed.root.args rule

-- No term that definitions make is `multi` and partial.
abbrev pub NoneIsMultiAndPartial : Type 0
NoneIsMultiAndPartial =
    (types : Environment) (expands : Bool) (levels max : ℕ) (defs : List Def) (environment : TermEnvironment)
    → MakesTerms types expands levels max defs environment → (t : ℕ) → (facts_of (declared_by types expands environment)).multi t ≡ true
    → (facts_of (declared_by types expands environment)).partial t ≡ false

-- A rule whose if-lets have no `let` opens its multi calls.
abbrev pub RulesWithoutLetsOpen : Type 0
RulesWithoutLetsOpen = (facts : TermFacts) (rule : TypedRule) → IfLetsHaveNoLet rule.iflets → OpensItsMultiCalls facts rule
