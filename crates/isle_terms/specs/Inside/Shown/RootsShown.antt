-- The roots of rules, and what is read of rules, where these are the interned names.
use Rattle.std.specs.Prelude.{ℕ, List}
use Rattle.isle_ast.specs.declared.ast.Rule.{Rule as RuleTree}
use Rattle.isle_ast.specs.Trees.PatternShape.{patterns_of}
use Rattle.isle_terms.specs.declared.env.rules.Root.{Root}
use Rattle.isle_terms.specs.declared.env.rules.ReadRule.{ReadRule}
use Rattle.isle_rules.specs.TypedRules.{TypedRule}
use Rattle.isle_terms.specs.Inside.Readings.Telling.{rule_of_parts}
use Rattle.isle_rules.specs.Shown.ShownTerms.{flags_shown, term_shown}
use Rattle.isle_terms.specs.Inside.Collecting.RuleRoots.{RootParts}
use Rattle.isle_terms.specs.Inside.Shown.PartsShown.{parts_shown}

-- the root of a rule
abbrev pub root_shown : List (List ℕ) → Root → RootParts
root_shown names root = record {
  number = root.id.0;
  term = term_shown names root.term.now;
  flags = flags_shown root.flags;
  args = patterns_of root.args.now;
  at = root.pos;
}

-- the typed rule of what is read of a rule
abbrev pub rule_read : List (List ℕ) → RuleTree → ReadRule → TypedRule
rule_read names tree read = rule_of_parts read.root.0 tree (parts_shown names read.parts) read.bindings
