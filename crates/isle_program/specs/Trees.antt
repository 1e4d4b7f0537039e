-- The trees of rule sets, and what the machine has of the terms of a program.
use Rattle.std.specs.Prelude.{◌==◌, ℕ, suc, List, [], ◌∷◌, Option, Some, None, if◌then◌else◌}
use Rattle.std.specs.List.{AllZip}
use Rattle.isle_trees.specs.Tree.{done}
use Rattle.isle_types.specs.TypeTables.{TypeTables}
use Rattle.isle_types.specs.declared.ids.Sym.{Sym}
use Rattle.isle_types.specs.declared.ids.TermId.{TermId}
use Rattle.isle_blocks.specs.Building.Naming.{name_by}
use Rattle.isle_meaning.specs.Machine.Runs.{TermTree}
use Rattle.isle_blocks.specs.declared.constraint.Constraint.{Constraint}
use Rattle.isle_blocks.specs.RuleSets.{RulesOverSites}
use Rattle.isle_blocks.specs.Rows.{test_of}
use Rattle.isle_blocks.specs.Trees.Promises.{IsBuilt, ReturnsItsRules}
use Rattle.isle_blocks.specs.Trees.Shown.{BlockShown}
use Rattle.isle_blocks.specs.Trees.TermTrees.{term_tree}

-- The tree of a rule set: the rules build it, and it returns what they do. What its walks say are laws over that.
pub record IsSetTree (set : RulesOverSites) (tree : BlockShown) : Type 0 where
  pub builds : IsBuilt set tree
  pub returns : ReturnsItsRules set tree

-- each rule set has its tree
abbrev pub AreSetTrees : List (TermId × RulesOverSites) → List BlockShown → Type 0
AreSetTrees sets trees = AllZip (λ (set : TermId × RulesOverSites). IsSetTree set.1) sets trees

-- the place of a term's rule set; the number of rule sets where the term has none
abbrev pub place_of_set : List (TermId × RulesOverSites) → ℕ → ℕ
place_of_set [] term = 0
place_of_set (set ∷ sets) term = if set.0.0 == term then 0 else suc (place_of_set sets term)

-- a term's rule set and its tree, where the term has rules
abbrev pub set_and_tree : List (TermId × RulesOverSites) → List BlockShown → ℕ → Option (RulesOverSites × BlockShown)
set_and_tree [] trees term = None
set_and_tree (set ∷ sets) [] term = None
set_and_tree (set ∷ sets) (tree ∷ trees) term = if set.0.0 == term then Some (set.1, tree) else set_and_tree sets trees term

-- what the machine has of a term, where symbols have these names; of one without rules no sites and no steps
abbrev pub tree_or_none : (Sym → List ℕ) → Option (RulesOverSites × BlockShown) → TermTree Constraint
tree_or_none name None = record { sites = []; test = test_of name; result = λ i. i; tree = done }
tree_or_none name (Some found) = term_tree name found.0 found.1

-- what it has of the terms of tables, with these rule sets and trees
abbrev pub term_trees_by : TypeTables → List (TermId × RulesOverSites) → List BlockShown → ℕ → TermTree Constraint
term_trees_by tyenv sets trees t = tree_or_none (name_by tyenv.names) (set_and_tree sets trees t)
