use Rattle.std.proofs.Common.{◌≡◌, List, map, take}
use Rattle.isle_ast.specs.declared.ast.Def.{Def}
use Rattle.isle_rules.specs.Definitions.{rules_in, name_of}
use Rattle.isle_terms.specs.Inside.Collecting.NamedItems.{name_shown}
use Rattle.isle_terms.proofs.env.rule_names.names_of_rules.Given as goal

abbrev pub invariant-loop-rule : goal.invariant-loop-rule
invariant-loop-rule l = (defs : List Def) → map (λ rule. rule.now) l.rules ≡ rules_in defs
    → map name_shown l.names.items ≡ map (name_of defs) (take l.rule-index (rules_in defs))
