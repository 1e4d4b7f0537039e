-- What the steps of a rule set's tree read, and what its arms bind.
use Rattle.std.specs.Prelude.{◌≡◌, ℕ, false, List, map}
use Rattle.isle_types.specs.declared.ids.Sym.{Sym}
use Rattle.isle_rules.specs.Shown.TermTables.{TermTables}
use Rattle.isle_trees.specs.Asks.{BindsNoField}
use Rattle.isle_trees.specs.Reads.{IsClosed}
use Rattle.isle_trees.specs.Tree.{Steps, done, «match», equal, loop, give, Arms, no_arm, arm}
use Rattle.isle_blocks.specs.declared.binding.Binding.{Binding}
use Rattle.isle_blocks.specs.declared.constraint.Constraint.{Constraint}
use Rattle.isle_blocks.specs.Constraints.{bindings_made}
use Rattle.isle_blocks.specs.DefinedSets.{AreDefined, facts_by, name_of, rules_by}
use Rattle.isle_blocks.specs.RuleSets.{RulesOverSites}
use Rattle.isle_blocks.specs.Trees.Premises.{IsRunnableSet}
use Rattle.isle_blocks.specs.Trees.Shown.{BlockShown}
use Rattle.isle_blocks.specs.Trees.View.{id_of, place_of, rules_of}

-- Each step reads only what is bound before, or computed from what is: the parts of each site that it binds, the sites that it tests, the
-- multi call of which it takes a value, the result that it returns. On one path a site is bound once, but a multi call again.
abbrev pub ReadsWhatIsBound : RulesOverSites → BlockShown → Type 0
ReadsWhatIsBound set block = (name : Sym → List ℕ) → IsClosed (rules_of name set) (λ s. false) block.tree

-- The arms of each match bind the fields that their tests make, in order, each by its number in the table, if it stands there.
abbrev mutual
  pub BindsFields : List Binding → Steps Constraint → Type 0
  BindsFields table done = Unit {0}
  BindsFields table («match» binds s arms next) = ArmsBindFields table s arms × BindsFields table next
  BindsFields table (equal binds a b body next) = BindsFields table body × BindsFields table next
  BindsFields table (loop binds x body next) = BindsFields table body × BindsFields table next
  BindsFields table (give binds i next) = BindsFields table next

  pub ArmsBindFields : List Binding → ℕ → Arms Constraint → Type 0
  ArmsBindFields table s no_arm = Unit {0}
  ArmsBindFields table s (arm c bindings body more) =
      (bindings ≡ map (λ (field : Binding). place_of field table) (bindings_made c (id_of s))) × BindsFields table body
      × ArmsBindFields table s more

abbrev pub BindsItsFields : RulesOverSites → BlockShown → Type 0
BindsItsFields set block = BindsFields set.sites block.tree

-- The set of a term that asks no `multi` term: what a test makes is bound by it alone, but before a return the contents of options that
-- calls give.
abbrev pub BindsFieldsByTests : RulesOverSites → BlockShown → Type 0
BindsFieldsByTests set block = (env : TermTables) (d : AreDefined env) (term : ℕ)
    → IsRunnableSet (name_of env d) (facts_by env d) env.rules (rules_by env d) term set → BindsNoField (rules_of (name_of env d) set) block.tree
