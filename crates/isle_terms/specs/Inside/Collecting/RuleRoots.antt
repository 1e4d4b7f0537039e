-- The root of a rule by what is known of names, and what reading a whole rule with its root comes to.
use Rattle.std.specs.Prelude.{ℕ, ℤ, Bool, true, false, Option, None, Some, length, if◌then◌else◌, ◌==◌}
use Rattle.isle_ast.specs.declared.ast.Rule.{Rule}
use Rattle.isle_ast.specs.declared.pos.Pos.{Pos}
use Rattle.isle_ast.specs.Trees.PatternTree.{PatternTree, PatternTrees, pattern_var, pattern_bind, pattern_bool, pattern_int, pattern_prim}
use Rattle.isle_ast.specs.Trees.PatternTree.{pattern_term, pattern_wildcard, pattern_and, pattern_macro_arg}
use Rattle.isle_ast.specs.Trees.PatternShape.{pattern_of}
use Rattle.isle_rules.specs.TypedRules.{TypedRule}
use Rattle.isle_rules.specs.Signatures.{Flags, TermForm, variant_form, struct_form, declared_form, Signature}
use Rattle.isle_rules.specs.Elaboration.{pattern_count}
use Rattle.isle_terms.specs.Inside.Readings.Outcomes.{Outcome, stands_for, ill_at, Known, and_then, only_if}
use Rattle.isle_terms.specs.Inside.Readings.RuleOutcomes.{RuleParts, read_rule}
use Rattle.isle_terms.specs.Inside.Readings.Telling.{rule_of_parts}

-- the root of a rule: a declared term with its number and flags, and the arguments and the position of the rule's pattern
pub record RootParts : Type 0 where
  pub number : ℕ
  pub term : Signature
  pub flags : Flags
  pub args : PatternTrees
  pub at : Pos

-- the flags of a declared term
abbrev pub declared_flags : TermForm → Option Flags
declared_flags (variant_form _) = None
declared_flags struct_form = None
declared_flags (declared_form flags _ _) = Some flags

-- a term with its flags is a root
abbrev pub root_with : ℕ → Signature → PatternTrees → Pos → Option Flags → Option RootParts
root_with number term args at None = None
root_with number term args at (Some flags) = Some (record { number = number; term = term; flags = flags; args = args; at = at })

-- a term is a root where it is declared
abbrev pub root_of_term : ℕ → PatternTrees → Pos → Option Signature → Option RootParts
root_of_term number args at None = None
root_of_term number args at (Some term) = root_with number term args at (declared_flags term.form)

-- the term of a number is a root where it is declared
abbrev pub root_of_number : Known → PatternTrees → Pos → Option ℕ → Option RootParts
root_of_number known args at None = None
root_of_number known args at (Some number) = root_of_term number args at (known.signature number)

-- the root of a rule with this pattern
abbrev pub root_in : Known → PatternTree → Option RootParts
root_in known (pattern_var _ _) = None
root_in known (pattern_bind _ _ _) = None
root_in known (pattern_bool _ _) = None
root_in known (pattern_int _ _ _) = None
root_in known (pattern_prim _ _) = None
root_in known (pattern_term sym args at) = root_of_number known args at (known.term_named sym.0)
root_in known (pattern_wildcard _) = None
root_in known (pattern_and _ _) = None
root_in known (pattern_macro_arg _ _) = None

-- whether a rule of a term of these flags may have this priority: one of a `multi` term has none
abbrev pub may_have_priority : Flags → Option ℤ → Bool
may_have_priority flags None = true
may_have_priority flags (Some _) = if flags.multi then false else true

-- a rule with its root: as many arguments as the term has, a priority only where it may have one, and then its parts
abbrev pub read_rooted : Known → (max levels : ℕ) → RootParts → Rule → Outcome RuleParts
read_rooted known max levels root tree =
    only_if (pattern_count root.args == length root.term.args) root.at
    (only_if (may_have_priority root.flags tree.prio) tree.pos (read_rule known max levels root.term root.flags root.at root.args tree))

-- a rule, where this is its root; a rule without one is ill typed
abbrev pub read_with : Known → (max levels : ℕ) → Option RootParts → Rule → Outcome TypedRule
read_with known max levels None tree = ill_at tree.pos
read_with known max levels (Some root) tree =
    and_then (read_rooted known max levels root tree) (λ parts s. stands_for (rule_of_parts root.number tree parts s) s)

-- what reading a whole rule comes to
abbrev pub read_whole : Known → (max levels : ℕ) → Rule → Outcome TypedRule
read_whole known max levels tree = read_with known max levels (root_in known (pattern_of tree.pattern)) tree
