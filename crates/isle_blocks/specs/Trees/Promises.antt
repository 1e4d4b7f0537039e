-- What the tree of a rule set promises.
use Rattle.std.specs.Prelude.{◌≡◌, ◌≤◌, ℕ, List, [], Contains, Some, length, slice_get}
use Rattle.isle_types.specs.declared.ids.Sym.{Sym}
use Rattle.isle_types.specs.declared.ids.TermId.{TermId}
use Rattle.isle_rules.specs.Shown.TermTables.{TermTables}
use Rattle.isle_meaning.specs.Answers.{Completion}
use Rattle.isle_meaning.specs.Held.{Held}
use Rattle.isle_meaning.specs.Values.{Values, count}
use Rattle.isle_trees.specs.Answers.{Answers}
use Rattle.isle_trees.specs.Asks.{Ascends, AsksOnly}
use Rattle.isle_trees.specs.Builds.{Builds}
use Rattle.isle_trees.specs.Counting.{reached, steps_at_most}
use Rattle.isle_trees.specs.Scopes.{nothing_known}
use Rattle.isle_trees.specs.Rules.{below}
use Rattle.isle_trees.specs.Walk.{walk}
use Rattle.isle_blocks.specs.declared.rule.Rule.{Rule}
use Rattle.isle_blocks.specs.DefinedSets.{AreDefined, IsTermSet, facts_by, name_of, rules_by}
use Rattle.isle_blocks.specs.RuleSets.{RulesOverSites}
use Rattle.isle_blocks.specs.Trees.Choices.{CoversTerm, MayBothBe, SaysOf}
use Rattle.isle_blocks.specs.Trees.Premises.{IsRunnableSet}
use Rattle.isle_blocks.specs.Trees.Shown.{BlockShown, Returned}
use Rattle.isle_blocks.specs.Trees.SiteTrees.{held_by}
use Rattle.isle_blocks.specs.Trees.View.{rules_of}

-- a rule set that `check` gives: that of a term of definitions
pub record IsCheckedSet (set : RulesOverSites) : Type 0 where
  pub env : TermTables
  pub defined : AreDefined env
  pub term : TermId
  pub is : IsTermSet env defined (term, set)

-- all rules of a set, by their numbers
abbrev pub all_rules : RulesOverSites → List ℕ
all_rules set = below (length set.rules)

-- The tree is one that the set's rules build, whatever its constants are called: each test is the best one, arms stand in the order of
-- tests, rules return by descending priority, and bound is what is needed.
abbrev pub IsBuilt : RulesOverSites → BlockShown → Type 0
IsBuilt set block = (name : Sym → List ℕ) → Builds (rules_of name set) (all_rules set) nothing_known block.tree

-- a return is that of a rule of the set: its position, and the site of its result
abbrev pub IsReturnOf : RulesOverSites → Returned → Type 0
IsReturnOf set r = (rule : Rule) × (slice_get set.rules r.rule ≡ Some rule) × (rule.pos ≡ r.pos) × (rule.result.0 ≡ r.result)

abbrev pub ReturnsItsRules : RulesOverSites → BlockShown → Type 0
ReturnsItsRules set block = (r : Returned) → Contains block.returns r → IsReturnOf set r

-- The set of a term that asks no `multi` term: under the answers of one completion the walk comes to a rule that matches under each other
-- one that agrees with it and covers the term, with the greatest priority, or ends where none matches.
abbrev pub ChoosesAsRules : RulesOverSites → BlockShown → Type 0
ChoosesAsRules set block = (env : TermTables) (d : AreDefined env) (term : ℕ)
    (h : IsRunnableSet (name_of env d) (facts_by env d) env.rules (rules_by env d) term set)
    (c e : Completion) (args : Values) → MayBothBe (facts_by env d) c e → count args ≡ length h.runnable.types
    → CoversTerm (facts_by env d) e args (rules_by env d) term
    → SaysOf (facts_by env d) e args (rules_by env d) term h.is.places
    (walk (rules_of (name_of env d) set) (held_by (name_of env d) set.sites (facts_by env d) c args []) block.tree)

-- a walk reaches as many steps at most as rules test sites or hold some equal, and one for each rule
abbrev pub IsShort : RulesOverSites → BlockShown → Type 0
IsShort set block = (name : Sym → List ℕ) (held : Answers Held)
    → reached (rules_of name set) held block.tree ≤ steps_at_most (rules_of name set) (all_rules set)

-- before a test nothing is bound but what a rule's tests ask, and before a return nothing but what its rule has
abbrev pub BindsWhatIsAsked : RulesOverSites → BlockShown → Type 0
BindsWhatIsAsked set block = (name : Sym → List ℕ) → AsksOnly (rules_of name set) (all_rules set) block.tree

-- the arms of each match ascend by their tests, and each test has one
abbrev pub HasArmsInOrder : RulesOverSites → BlockShown → Type 0
HasArmsInOrder set block = (name : Sym → List ℕ) → Ascends (rules_of name set) block.tree
