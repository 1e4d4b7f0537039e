use Rattle.std.proofs.Common.{◌≡◌, List, map, take}
use Rattle.std.specs.List.{filter_map}
use Rattle.isle_ast.specs.declared.ast.Def.{Def}
use Rattle.isle_rules.specs.Definitions.{rules_in, name_of}
use Rattle.isle_terms.specs.Inside.Collecting.NamedItems.{name_shown, named_shown}
use Rattle.isle_terms.proofs.Collections.RuleNames.{placed_name}
use Rattle.isle_terms.proofs.env.rule_names.placed_names.Given as goal

abbrev pub invariant-loop-i : goal.invariant-loop-i
invariant-loop-i l = (defs : List Def) → map (λ rule. rule.now) l.rules ≡ rules_in defs
    → map name_shown l.names ≡ map (name_of defs) (rules_in defs)
    → map named_shown l.placed.items ≡ filter_map (placed_name defs) (take l.i (rules_in defs))
