-- The rule sets of terms that may be or ask `multi` terms.
use Rattle.std.specs.Prelude.{◌≡◌, ℕ, pos, true, false, List, Some, slice_get}
use Rattle.isle_types.specs.declared.ids.Sym.{Sym}
use Rattle.isle_rules.specs.declared.rules.Rule as source
use Rattle.isle_rules.specs.TypedRules.{TypedRule}
use Rattle.isle_meaning.specs.Facts.{TermFacts}
use Rattle.isle_meaning.specs.Elaborated.{IsElaborated, OpensItsMultiCalls}
use Rattle.isle_meaning.specs.Laws.Calls.{ExprCalls}
use Rattle.isle_blocks.specs.DefinedSets.{IsSetOf}
use Rattle.isle_blocks.specs.RuleSets.{RulesOverSites}
use Rattle.isle_blocks.specs.Rows.{IsInjective}

-- The rule set of a term whose rules are as elaboration makes them, whatever terms they ask.
pub record IsElaboratedSet (name : Sym → List ℕ) (facts : TermFacts) (sources : List source.Rule) (rules : List TypedRule) (term : ℕ)
    (set : RulesOverSites) : Type 0 where
  pub injective : IsInjective name
  pub types : List ℕ
  pub fit : (i : ℕ) (rule : TypedRule) → slice_get rules i ≡ Some rule → rule.root ≡ term → IsElaborated facts types rule
  pub is : IsSetOf name facts sources rules term set

-- The rules of a `multi` term: they have no priority, their right sides call nothing partial, and what the multi calls of their if-lets
-- are made of has its tests.
pub record IsMultiTerm (facts : TermFacts) (rules : List TypedRule) (term : ℕ) : Type 0 where
  pub multi : facts.multi term ≡ true
  pub even : (i : ℕ) (rule : TypedRule) → slice_get rules i ≡ Some rule → rule.root ≡ term → rule.priority ≡ pos 0
  pub whole : (i : ℕ) (rule : TypedRule) → slice_get rules i ≡ Some rule → rule.root ≡ term
      → ExprCalls facts (λ t. facts.partial t ≡ false) rule.right
  pub opens : (i : ℕ) (rule : TypedRule) → slice_get rules i ≡ Some rule → rule.root ≡ term → OpensItsMultiCalls facts rule
