-- What the trees of a compiled program do.
use Rattle.std.specs.Prelude.{◌≡◌, ℕ, List, Some}
use Rattle.isle_ast.specs.Positions.Files.{SourceFile}
use Rattle.isle_blocks.specs.RuleSets.{RulesOverSites}
use Rattle.isle_blocks.specs.Trees.Shown.{BlockShown}
use Rattle.isle_program.specs.declared.program.Program.{Program}
use Rattle.isle_program.specs.Compiled.{IsProgramOf}
use Rattle.isle_program.specs.Programs.{rule_sets_of, set_trees_of}
use Rattle.isle_program.specs.Trees.{set_and_tree}

-- what holds of the rule set and the tree of each term with rules of a compiled program
abbrev pub OfEachTerm : (RulesOverSites → BlockShown → Type 0) → Type 0
OfEachTerm P = (files : List SourceFile) (program : Program) → IsProgramOf files program
    → (t : ℕ) (set : RulesOverSites) (tree : BlockShown)
    → set_and_tree (rule_sets_of program) (set_trees_of program) t ≡ Some (set, tree) → P set tree
