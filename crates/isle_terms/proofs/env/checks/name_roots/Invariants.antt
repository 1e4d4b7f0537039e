use Rattle.std.proofs.Common.{◌≡◌, ◌≤◌, map, take, length}
use Rattle.isle_rules.specs.Definitions.{roots_of}
use Rattle.isle_terms.specs.Inside.Collecting.NameTables.{IsTableOf}
use Rattle.isle_terms.proofs.env.checks.name_roots.Given as goal

abbrev pub invariant-loop-rule : goal.invariant-loop-rule
invariant-loop-rule l =
    IsTableOf (roots_of (take l.rule-index (map (λ rule. rule.now) l.rules))) l.roots
    × (l.count ≡ length (roots_of (take l.rule-index (map (λ rule. rule.now) l.rules))))
    × (l.count ≤ l.rule-index)
