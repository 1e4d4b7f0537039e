-- What is printed of the rules of a rule set.
use Rattle.std.specs.Prelude.{◌≡◌, ℕ, ◌+◌, List, [], ◌∷◌, ◌++◌, Option, None, Some, codes, length}
use Rattle.std.specs.Fmt.{decimal, signed_decimal}
use Rattle.std.specs.List.{flat_map}
use Rattle.isle_ast.specs.Positions.Files.{SourceFile}
use Rattle.isle_types.specs.declared.ids.Sym.{Sym}
use Rattle.isle_containers.specs.JoinedSets.{members}
use Rattle.isle_blocks.specs.declared.constraint.Constraint.{Constraint}
use Rattle.isle_blocks.specs.declared.ids.BindingId.{BindingId}
use Rattle.isle_blocks.specs.declared.rule.Rule.{Rule}
use Rattle.isle_blocks.specs.ListedSets.{ListsEqualSites}
use Rattle.isle_blocks.specs.Rows.{numbers_of}
use Rattle.isle_program.specs.declared.program.Program.{Program}
use Rattle.isle_tell.specs.TreeTexts.Names.{numbers_text, pos_text, symbol_name}
use Rattle.isle_tell.specs.TreeTexts.Sites.{test_text}

-- the name of a rule, or `-` where it has none
abbrev pub rule_name : Program → Option Sym → List ℕ
rule_name program None = codes "-"
rule_name program (Some sym) = symbol_name program sym

-- the line that heads a rule: its number and place, its name and priority, and how many sites it tests or holds equal
abbrev pub heading_line : Program → List SourceFile → Rule → List ℕ
heading_line program files rule = codes "  rule " ++ (decimal rule.id.0 ++ (codes " at " ++ (pos_text files rule.pos
    ++ (codes " name " ++ (rule_name program rule.name ++ (codes " prio " ++ (signed_decimal rule.prio
    ++ (codes " constraints " ++ (decimal (length rule.constraints + length (members rule.equals)) ++ codes "\n")))))))))

-- the line of a site and its test
abbrev pub test_line : Program → BindingId × Constraint → List ℕ
test_line program entry = codes "    " ++ (decimal entry.0.0 ++ (codes " is " ++ (test_text program entry.1 ++ codes "\n")))

-- the line of sites that must be equal
abbrev pub equal_line : List BindingId → List ℕ
equal_line sites = codes "    equal " ++ (numbers_text (numbers_of sites) ++ codes "\n")

-- a line of a word and sites, and nothing where there are none
abbrev pub sites_line : List ℕ → List BindingId → List ℕ
sites_line word [] = []
sites_line word (site ∷ sites) = codes "    " ++ (word ++ (codes " " ++ (numbers_text (numbers_of (site ∷ sites)) ++ codes "\n")))

-- The lines of a rule: what heads it, its tests, its sets of equal sites, its multi calls, its impure calls, and its result.
pub record IsRuleText (program : Program) (files : List SourceFile) (rule : Rule) (text : List ℕ) : Type 0 where
  pub sets : List (List BindingId)
  pub listed : ListsEqualSites rule.equals sets
  pub is : text ≡ heading_line program files rule ++ (flat_map (test_line program) rule.constraints ++ (flat_map equal_line sets
      ++ (sites_line (codes "iterators") rule.iterators ++ (sites_line (codes "impure") rule.impure
      ++ (codes "    result " ++ (decimal rule.result.0 ++ codes "\n"))))))
