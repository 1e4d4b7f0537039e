-- Rule sets and their blocks as the machine has them.
use Rattle.std.specs.Prelude.{◌≡◌, ◌+◌, ℕ, Bool, true, List, Some, length, slice_get}
use Rattle.std.specs.List.{sum_by}
use Rattle.isle_containers.specs.JoinedSets.{members}
use Rattle.isle_trees.specs.Counting.{steps_at_most}
use Rattle.isle_trees.specs.Rules.{Elem}
use Rattle.isle_types.specs.declared.ids.Sym.{Sym}
use Rattle.isle_rules.specs.Shown.TermTables.{TermTables}
use Rattle.isle_meaning.specs.Machine.Runs.{TermTree}
use Rattle.isle_meaning.specs.Machine.Trees.{IsTermTree}
use Rattle.isle_meaning.specs.SoundPrograms.{IsSound}
use Rattle.isle_meaning.specs.Worlds.{CheckedProgram}
use Rattle.isle_blocks.specs.declared.constraint.Constraint.{Constraint}
use Rattle.isle_blocks.specs.declared.rule.Rule.{Rule}
use Rattle.isle_blocks.specs.DefinedSets.{AreDefined, IsSetOf, facts_by, name_of, rules_by}
use Rattle.isle_blocks.specs.Rows.{rows_of, test_of}
use Rattle.isle_blocks.specs.RuleSets.{RulesOverSites}
use Rattle.isle_blocks.specs.Trees.Promises.{IsBuilt}
use Rattle.isle_blocks.specs.Trees.Shown.{BlockShown}
use Rattle.isle_blocks.specs.Trees.View.{read_or}

-- what the machine has of a term: the rows of its sites, what its tests ask, the site of each rule's result, and its tree
abbrev pub term_tree : (Sym → List ℕ) → RulesOverSites → BlockShown → TermTree Constraint
term_tree name set block = record {
  sites = rows_of name set.sites;
  test = test_of name;
  result = λ i. read_or (length set.sites) (λ (rule : Rule). rule.result.0) (slice_get set.rules i);
  tree = block.tree;
}

-- each rule of a set is one of these numbers
abbrev pub HaveEachRule : RulesOverSites → List ℕ → Type 0
HaveEachRule set numbers = (i : ℕ) (rule : Rule) → slice_get set.rules i ≡ Some rule → Elem i numbers

-- a rule's steps: one for each site that it tests or that must be equal to others, and one of its own
abbrev pub rule_steps : Rule → ℕ
rule_steps rule = length rule.constraints + length (members rule.equals) + 1

-- the steps of the rules of a set
abbrev pub set_steps : RulesOverSites → ℕ
set_steps set = sum_by rule_steps set.rules

-- A tree is that of a term's rules; each rule of the set is one that is left, and they take as many steps at most as the set says.
abbrev pub IsTreeOfSet : CheckedProgram → (ℕ → Type 0) → ℕ → (Sym → List ℕ) → RulesOverSites → BlockShown → Type 0
IsTreeOfSet p runs term name set block = (is : IsTermTree p runs term (term_tree name set block)) × HaveEachRule set is.left
    × (steps_at_most is.set is.left ≡ set_steps set)

-- The tree that is built of the rule set of a term that a sound program of its definitions runs is such a tree.
abbrev pub TreesAreOfTerms : Type 0
TreesAreOfTerms = (env : TermTables) (d : AreDefined env) (term : ℕ) (set : RulesOverSites) (block : BlockShown)
    → IsSetOf (name_of env d) (facts_by env d) env.rules (rules_by env d) term set → IsBuilt set block
    → (p : CheckedProgram) (run : ℕ → Bool) → p.terms ≡ facts_by env d → p.rules ≡ rules_by env d → IsSound p (λ t. run t ≡ true)
    → run term ≡ true → IsTreeOfSet p (λ t. run t ≡ true) term (name_of env d) set block
