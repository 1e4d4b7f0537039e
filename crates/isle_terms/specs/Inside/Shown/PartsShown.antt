-- What the parts of a rule show, and below what their symbols are.
use Rattle.std.specs.Prelude.{ℕ, max, List, map}
use Rattle.isle_terms.specs.declared.translate.rules.Parts.{Parts}
use Rattle.isle_terms.specs.Inside.Readings.RuleOutcomes.{RuleParts}
use Rattle.isle_rules.specs.Shown.ShownRules.{typed_list, typed_shown, built_shown, iflet_shown, greatest, pattern_limit, expr_limit}
use Rattle.isle_rules.specs.Shown.RulesShown.{iflet_limit}

-- the typed parts of a rule
abbrev pub parts_shown : List (List ℕ) → Parts → RuleParts
parts_shown names parts = record {
  args = typed_list (map (typed_shown names) parts.args.items);
  iflets = map (iflet_shown names) parts.iflets.items;
  right = built_shown names parts.rhs;
}

-- all symbols of the parts of a rule are below this
abbrev pub parts_limit : Parts → ℕ
parts_limit parts =
    max (greatest (map pattern_limit parts.args.items)) (max (greatest (map iflet_limit parts.iflets.items)) (expr_limit parts.rhs))
