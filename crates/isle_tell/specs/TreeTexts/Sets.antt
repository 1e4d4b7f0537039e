-- What is printed of rule sets and their trees.
use Rattle.std.specs.Prelude.{◌≡◌, ℕ, Bool, true, false, List, [], ◌∷◌, ◌++◌, codes, nat_eq}
use Rattle.std.specs.Fmt.{decimal}
use Rattle.std.specs.List.{list_any, zip}
use Rattle.isle_ast.specs.Positions.Files.{SourceFile}
use Rattle.isle_types.specs.declared.ids.TermId.{TermId}
use Rattle.isle_blocks.specs.RuleSets.{RulesOverSites}
use Rattle.isle_blocks.specs.Trees.Shown.{BlockShown}
use Rattle.isle_program.specs.declared.program.Program.{Program}
use Rattle.isle_program.specs.Programs.{rule_sets_of, set_trees_of, term_name}
use Rattle.isle_program.specs.Trees.{IsSetTree}
use Rattle.isle_tell.specs.TreeTexts.Names.{AreTexts}
use Rattle.isle_tell.specs.TreeTexts.Rules.{IsRuleText}
use Rattle.isle_tell.specs.TreeTexts.Sites.{sites_text}
use Rattle.isle_tell.specs.TreeTexts.Steps.{steps_text}

-- the rule sets that a program has, each beside its tree
abbrev pub sets_and_trees : Program → List ((TermId × RulesOverSites) × BlockShown)
sets_and_trees program = zip (rule_sets_of program) (set_trees_of program)

-- the lines of a term's rule set and of this tree, which is the set's: the term, the sites, the rules, and the steps
pub record IsSetText (program : Program) (files : List SourceFile) (term : TermId) (set : RulesOverSites) (tree : BlockShown) (text : List ℕ)
    : Type 0 where
  pub built : IsSetTree set tree
  pub rules : List ℕ
  pub told : AreTexts (IsRuleText program files) set.rules rules
  pub is : text ≡ codes "term " ++ (decimal term.0 ++ (codes " " ++ (term_name program term ++ (codes "\n  sites\n"
      ++ (sites_text program 0 set.sites ++ (rules ++ (codes "  block\n" ++ steps_text program files set.rules 2 tree.tree)))))))

-- whether a term is asked for; where none is, all are
abbrev pub is_asked : List TermId → TermId → Bool
is_asked [] term = true
is_asked (first ∷ others) term = list_any (λ (other : TermId). nat_eq other.0 term.0) (first ∷ others)

-- the lines of what is printed, and no text of what is not
abbrev pub IsTextIf : Bool → Type 0 → List ℕ → Type 0
IsTextIf true lines text = lines
IsTextIf false lines text = text ≡ []

-- what is printed of a term's rule set and its tree: their lines if the term is asked for, else nothing
abbrev pub IsEntryText : Program → List SourceFile → List TermId → (TermId × RulesOverSites) × BlockShown → List ℕ → Type 0
IsEntryText program files asked entry text =
    IsTextIf (is_asked asked entry.0.0) (IsSetText program files entry.0.0 entry.0.1 entry.1 text) text

-- what is printed of the rule sets and the trees that a program has, of these terms or of all
abbrev pub TellsTrees : Program → List SourceFile → List TermId → List ℕ → Type 0
TellsTrees program files asked text = AreTexts (IsEntryText program files asked) (sets_and_trees program) text
