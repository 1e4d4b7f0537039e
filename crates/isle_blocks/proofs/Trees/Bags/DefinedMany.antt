-- The rule sets of definitions, whatever `multi` terms their rules ask.
use Rattle.std.proofs.Common.{◌≡◌, ℕ, pos, true, Option, Some, slice_get, unwrap_or, ap, sym, subst, ◌∙◌}
use Rattle.isle_types.proofs.Zipped.{all_at}
use Rattle.isle_rules.specs.Definitions.{declared_by}
use Rattle.isle_rules.specs.Signatures.{Signature, Declared, flags_of}
use Rattle.isle_rules.specs.SoundRules.WellTyped.{IsTypedRule}
use Rattle.isle_rules.specs.Shown.TermTables.{TermTables}
use Rattle.isle_rules.specs.TypedRules.{TypedRule}
use Rattle.isle_rules.proofs.Sound.RuleTypes.{rules_typed}
use Rattle.isle_meaning.specs.AboutSites.ImpureCalls.{IfLetsArePure}
use Rattle.isle_meaning.specs.Elaborated.{IsElaborated}
use Rattle.isle_meaning.specs.Facts.{TermFacts, no_term, signature_numbered}
use Rattle.isle_meaning.proofs.Chains.Elaborated.{typed_rules_call_well}
use Rattle.isle_meaning.proofs.Matching.MadeFields.{definitions_are_elaborated}
use Rattle.isle_meaning.proofs.Matching.OneAnswer.{none_is_multi_and_partial}
use Rattle.isle_blocks.specs.DefinedSets.{AreDefined, facts_by, rules_by}
use Rattle.isle_blocks.specs.Trees.Bags.{BuiltSetsAreElaborated, BuiltMultiTerms}
use Rattle.isle_blocks.proofs.Building.Naming.{name_by_injective}
use Rattle.isle_blocks.proofs.Trees.Bags.ImpureAnswers.{typed_iflets_pure}

module _ (env : TermTables) (d : AreDefined env) where
  -- what definitions declare
  abbrev declared : Declared
  declared = declared_by d.types env.expands d.shows.environment

  -- what that says of terms
  abbrev facts : TermFacts
  facts = facts_by env d

  -- each rule is well typed
  typed_rule : (i : ℕ) (rule : TypedRule) → slice_get (rules_by env d) i ≡ Some rule → IsTypedRule declared rule
  typed_rule i rule at =
      all_at (IsTypedRule declared) d.shows.environment.rules
      (rules_typed d.types env.expands d.levels d.max d.defs d.shows.environment d.shows.makes) i rule at

  -- its root is the term of its number
  root_is : (rule : TypedRule) (typed : IsTypedRule declared rule) → signature_numbered declared rule.root ≡ typed.root
  root_is rule typed = ap (λ (o : Option Signature). unwrap_or o no_term) typed.known

  -- Each rule of a term is as elaboration makes it.
  pub fit : (term i : ℕ) (rule : TypedRule) → slice_get (rules_by env d) i ≡ Some rule → rule.root ≡ term
      → IsElaborated facts (facts.inputs term) rule
  fit term i rule at of_term =
      let typed = typed_rule i rule at in
      let types : typed.root.args ≡ facts.inputs term = sym (ap (λ (s : Signature). s.args) (root_is rule typed)) ∙ ap facts.inputs of_term in
      subst (λ (tys : _). IsElaborated facts tys rule) types
      (definitions_are_elaborated d.types env.expands d.levels d.max d.defs d.shows.environment d.shows.makes i rule at typed)

  -- one of a `multi` term has no priority
  no_priority : (i : ℕ) (rule : TypedRule) → slice_get (rules_by env d) i ≡ Some rule → facts.multi rule.root ≡ true → rule.priority ≡ pos 0
  no_priority i rule at multi =
      let typed = typed_rule i rule at in
      let flags = ap (λ (s : Signature). (flags_of s.form).multi) (root_is rule typed) ∙ ap (λ f. (flags_of f).multi) typed.ruled.1 in
      typed.unordered (sym flags ∙ multi)

-- The if-lets of a rule make no impure calls.
pub built_iflets_pure : (env : TermTables) (d : AreDefined env) (i : ℕ) (rule : TypedRule) → slice_get (rules_by env d) i ≡ Some rule
    → IfLetsArePure (facts_by env d) rule.iflets
built_iflets_pure env d i rule at =
    let typed = typed_rule env d i rule at in typed_iflets_pure (declared env d) rule.variables typed.flags rule.iflets typed.iflets

pub built_sets_are_elaborated : BuiltSetsAreElaborated
built_sets_are_elaborated env d term set is =
    record { injective = name_by_injective d.tyenv.names d.once; types = (facts_by env d).inputs term; fit = fit env d term; is = is }

pub built_multi_terms : BuiltMultiTerms
built_multi_terms env d term multi opens =
    let facts = facts_by env d in
    let root : (rule : TypedRule) → rule.root ≡ term → facts.multi rule.root ≡ true = λ rule e. ap facts.multi e ∙ multi in
    record {
      multi = multi;
      even = λ i rule at e. no_priority env d i rule at (root rule e);
      whole = λ i rule at e.
          typed_rules_call_well (declared env d) rule (typed_rule env d i rule at)
          (none_is_multi_and_partial d.types env.expands d.levels d.max d.defs d.shows.environment d.shows.makes rule.root (root rule e));
      opens = opens;
    }
