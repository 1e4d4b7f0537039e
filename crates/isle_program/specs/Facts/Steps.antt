-- How many steps the rules of a term take at most.
use Rattle.std.specs.Prelude.{◌==◌, ℕ, List, [], ◌∷◌, Option, None, Some, if◌then◌else◌}
use Rattle.isle_types.specs.declared.ids.TermId.{TermId}
use Rattle.isle_blocks.specs.RuleSets.{RulesOverSites}
pub use Rattle.isle_blocks.specs.Trees.TermTrees.{rule_steps, set_steps}

-- the rule set of a term, if it has rules
abbrev pub set_of : List (TermId × RulesOverSites) → ℕ → Option RulesOverSites
set_of [] term = None
set_of (first ∷ others) term = (if first.0.0 == term then Some first.1 else set_of others term)

-- the steps of the rules of a set, if there is one
abbrev pub steps_of : Option RulesOverSites → ℕ
steps_of None = 0
steps_of (Some set) = set_steps set

-- the steps of the rules of a term
abbrev pub steps_in : List (TermId × RulesOverSites) → ℕ → ℕ
steps_in sets term = steps_of (set_of sets term)
