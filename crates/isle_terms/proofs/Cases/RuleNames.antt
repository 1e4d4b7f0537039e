-- Worked cases: what rules are called, and how often names are given.
use Rattle.std.proofs.Common.{◌≡◌, ℕ, pos, true, false, List, [], ◌∷◌, ◌++◌, Option, None, Some, refl, codes}
use Rattle.std.specs.Fmt.{decimal}
use Rattle.isle_ast.specs.declared.pos.Pos.{Pos}
use Rattle.isle_ast.specs.declared.ast.Rule.{Rule as RuleTree}
use Rattle.isle_ast.specs.declared.ast.Def.TheVariants.{Rule}
use Rattle.isle_ast.specs.Trees.PatternTree.{pattern_term, no_patterns}
use Rattle.isle_ast.specs.Trees.PatternShape.{pattern_of}
use Rattle.isle_ast.specs.Positions.Files.{SourceFile}
use Rattle.isle_types.specs.TypeTables.{TypeTables}
use Rattle.isle_rules.specs.TypedRules.{TypedRule, no_typed, built_var}
use Rattle.isle_rules.specs.Definitions.{root_name, times, is_among, name_of_rule, rule_named, rule_names}
use Rattle.isle_terms.specs.Inside.Collecting.RuleNames.{lone_mark, with_names}
use Rattle.isle_rules.specs.Shown.RuleIdentifiers.{name_or_line}

abbrev at : ℕ → Pos
at offset = record { file = 0; offset = offset }

abbrev here : Pos
here = at 0

-- the root of a rule's pattern gives its term's name
root : root_name (pattern_term (codes "f", here) no_patterns here) ≡ Some (codes "f")
root = refl

-- how often a name is given
counts : (times (codes "f") [] ≡ 0) × (times (codes "f") (codes "f" ∷ codes "g" ∷ codes "f" ∷ []) ≡ 2)
    × (times (codes "f") (codes "ff" ∷ []) ≡ 0) × (is_among (codes "g") (codes "f" ∷ codes "g" ∷ []) ≡ true)
    × (is_among (codes "h") (codes "f" ∷ codes "g" ∷ []) ≡ false)
counts = (refl, refl, refl, refl, refl)

-- a name that is given once is marked so; one that isn't given has no mark
marks : (lone_mark 0 ≡ None) × (lone_mark 1 ≡ Some true) × (lone_mark 2 ≡ Some false) × (lone_mark 3 ≡ Some false)
marks = (refl, refl, refl, refl)

-- a written name is the rule's name; without a root and a name it has none
written : (name_of_rule [] (Some (codes "f")) (Some (codes "mine", here)) ≡ Some (codes "mine")) × (name_of_rule [] None None ≡ None)
written = (refl, refl)

-- the only rule of a term has the term's name, one of two has none
lone : (tree : RuleTree) → pattern_of tree.pattern ≡ pattern_term (codes "f", here) no_patterns here
    → name_of_rule (Rule tree ∷ []) (Some (codes "f")) None ≡ Some (codes "f")
lone tree shape = rw shape refl

one_of_two : (tree : RuleTree) → pattern_of tree.pattern ≡ pattern_term (codes "f", here) no_patterns here
    → name_of_rule (Rule tree ∷ Rule tree ∷ []) (Some (codes "f")) None ≡ None
one_of_two tree shape = rw shape refl

abbrev rule_called : Option (List ℕ) → TypedRule
rule_called name = record {
  root = 0;
  args = no_typed;
  iflets = [];
  right = built_var 1 0;
  variables = [];
  priority = pos 0;
  pos = here;
  name = name;
}

abbrev rules : List TypedRule
rules = rule_called (Some (codes "a")) ∷ rule_called None ∷ rule_called (Some (codes "b")) ∷ []

-- the number of a rule of a name is its place
numbers : (rule_named 0 rules (codes "b") ≡ Some 2) × (rule_named 0 rules (codes "a") ≡ Some 0) × (rule_named 0 rules (codes "c") ≡ None)
numbers = (refl, refl, refl)

-- rules without a name give none
names : rule_names rules ≡ codes "a" ∷ codes "b" ∷ []
names = refl

-- rules get their names in order
renamed : with_names (rule_called None ∷ rule_called None ∷ []) (Some (codes "a") ∷ None ∷ []) ≡ rule_called
    (Some (codes "a")) ∷ rule_called None ∷ []
renamed = refl

abbrev types : TypeTables
types = record { names = codes "first" ∷ []; types = []; numbers = []; constants = []; errors = [] }

-- a line and the rest: the offset 3 stands in line 2
abbrev files : List SourceFile
files = record { name = codes "a.isle"; text = codes ";\n(rule" } ∷ []

-- a rule is called by its name, or by its file and line
called : (name_or_line types files (Some (record { 0 = 0 })) (at 3) ≡ Some (codes "first"))
    × (name_or_line types files None (at 3) ≡ Some (codes "a.isle" ++ (codes " line " ++ decimal 2)))
    × (name_or_line types files None (at 0) ≡ Some (codes "a.isle" ++ (codes " line " ++ decimal 1)))
    × (name_or_line types [] None (at 0) ≡ None)
called = (refl, refl, refl, refl)
