-- The rule sets of terms that ask no `multi` term.
use Rattle.std.specs.Prelude.{◌≡◌, ℕ, List, Some, slice_get}
use Rattle.isle_types.specs.declared.ids.Sym.{Sym}
use Rattle.isle_rules.specs.declared.rules.Rule as source
use Rattle.isle_rules.specs.TypedRules.{TypedRule}
use Rattle.isle_meaning.specs.Facts.{TermFacts}
use Rattle.isle_meaning.specs.AboutSites.ImpureCalls.{IfLetsArePure}
use Rattle.isle_meaning.specs.Laws.Matching.{IsRuleOfTypes}
use Rattle.isle_blocks.specs.DefinedSets.{IsSetOf}
use Rattle.isle_blocks.specs.RuleSets.{RulesOverSites}
use Rattle.isle_blocks.specs.Rows.{IsInjective}

-- each rule of the term is as elaboration makes it where it asks no `multi` term, and its if-lets make no impure calls
pub record IsRunnableTerm (facts : TermFacts) (rules : List TypedRule) (term : ℕ) : Type 0 where
  pub types : List ℕ
  pub fit : (i : ℕ) (rule : TypedRule) → slice_get rules i ≡ Some rule → rule.root ≡ term → IsRuleOfTypes facts types rule
  pub pure : (i : ℕ) (rule : TypedRule) → slice_get rules i ≡ Some rule → rule.root ≡ term → IfLetsArePure facts rule.iflets

-- the rule set of such a term
pub record IsRunnableSet (name : Sym → List ℕ) (facts : TermFacts) (sources : List source.Rule) (rules : List TypedRule) (term : ℕ)
    (set : RulesOverSites) : Type 0 where
  pub injective : IsInjective name
  pub runnable : IsRunnableTerm facts rules term
  pub is : IsSetOf name facts sources rules term set
