-- What is drawn of rule sets: a graph in the language of Graphviz.
use Rattle.std.specs.Prelude.{◌≡◌, ℕ, List, ◌++◌, codes}
use Rattle.std.specs.Fmt.{decimal}
use Rattle.isle_ast.specs.Positions.Files.{SourceFile}
use Rattle.isle_types.specs.declared.ids.TermId.{TermId}
use Rattle.isle_blocks.specs.RuleSets.{RulesOverSites}
use Rattle.isle_blocks.specs.Trees.Shown.{BlockShown}
use Rattle.isle_program.specs.declared.program.Program.{Program}
use Rattle.isle_program.specs.Programs.{term_name}
use Rattle.isle_program.specs.Trees.{IsSetTree}
use Rattle.isle_tell.specs.TreeTexts.DotLabels.{quoted}
use Rattle.isle_tell.specs.TreeTexts.DotSteps.{Drawn, start, steps_graph}
use Rattle.isle_tell.specs.TreeTexts.DotTypes.{types_told}
use Rattle.isle_tell.specs.TreeTexts.Names.{AreTexts}
use Rattle.isle_tell.specs.TreeTexts.Sets.{IsTextIf, is_asked, sets_and_trees}

-- the line of a term's node, which is the first of its tree
abbrev pub term_line : Program → TermId → List ℕ
term_line program term = codes "  t" ++ (decimal term.0 ++ (codes "_0 [shape=plaintext, label="
    ++ (quoted (codes "term " ++ (decimal term.0 ++ (codes " " ++ term_name program term))) ++ codes "];\n")))

-- what the tree of a term's rule set is drawn from
abbrev pub drawn_of : Program → List SourceFile → TermId → RulesOverSites → Drawn
drawn_of program files term set = record {
  program = program;
  files = files;
  term = term.0;
  rules = set.rules;
  sites = set.sites;
  types = types_told set.sites set.rules;
}

-- the lines of this tree of a term, which is its rule set's: the node of the term, and those of the steps with the edges to them
pub record IsSetGraph (program : Program) (files : List SourceFile) (term : TermId) (set : RulesOverSites) (tree : BlockShown) (text : List ℕ)
    : Type 0 where
  pub built : IsSetTree set tree
  pub is : text ≡ term_line program term ++ steps_graph (drawn_of program files term set) start 1 tree.tree

-- what is drawn of a term's rule set: its tree if the term is asked for, else nothing
abbrev pub IsEntryGraph : Program → List SourceFile → List TermId → (TermId × RulesOverSites) × BlockShown → List ℕ → Type 0
IsEntryGraph program files asked entry text =
    IsTextIf (is_asked asked entry.0.0) (IsSetGraph program files entry.0.0 entry.0.1 entry.1 text) text

-- the graph of the trees that a program has of its rule sets, of these terms or of all
pub record TellsGraph (program : Program) (files : List SourceFile) (asked : List TermId) (text : List ℕ) : Type 0 where
  pub sets : List ℕ
  pub told : AreTexts (IsEntryGraph program files asked) (sets_and_trees program) sets
  pub is : text ≡ codes "digraph trees {\n" ++ (sets ++ codes "}\n")
