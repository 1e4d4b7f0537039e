use Rattle.std.proofs.Common.{◌≡◌, ℕ, List, map, take, false}
use Rattle.std.specs.List.{All}
use Rattle.isle_ast.specs.declared.ast.Rule.{Rule as RuleTree}
use Rattle.isle_terms.specs.Inside.Collecting.Checks.{Checks, IsIllAt}
use Rattle.isle_terms.specs.Inside.Collecting.NameTables.{IsTableOf}
use Rattle.isle_terms.specs.Inside.Collecting.DefinitionChecks.{is_ill_root}
use Rattle.isle_terms.proofs.env.checks.check_roots.Given as goal

abbrev pub invariant-loop-rule : goal.invariant-loop-rule
invariant-loop-rule l = (names : List (List ℕ)) → IsTableOf names l.declared
    → Checks (IsIllAt (map (λ rule. rule.now) l.rules) (is_ill_root names) (λ (rule : RuleTree). rule.pos))
    (All (λ x. is_ill_root names x ≡ false) (take l.rule-index (map (λ rule. rule.now) l.rules))) l.initial.errors.items l.errors.items
