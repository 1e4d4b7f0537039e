use Rattle.std.proofs.Common.{◌≡◌, ◌≤◌, List, map, length}
use Rattle.std.specs.List.{AllZip}
use Rattle.isle_types.specs.TypeEnvs.{HasMoreNames, CountUp}
use Rattle.isle_rules.specs.declared.rules.Rule.{Rule}
use Rattle.isle_rules.specs.TypedRules.{TypedRule}
use Rattle.isle_terms.specs.Inside.Collecting.NamedItems.{name_shown}
use Rattle.isle_terms.specs.Inside.Collecting.RuleNames.{with_names}
use Rattle.isle_rules.specs.Shown.RulesShown.{IsShownRule}
use Rattle.isle_terms.proofs.Collections.RuleNames.{AreNumbered}
use Rattle.isle_terms.proofs.env.rule_names.name_rules.Given as goal

abbrev pub invariant-loop-rule : goal.invariant-loop-rule
invariant-loop-rule l = record {
  named : (typed : List TypedRule) → AllZip (IsShownRule l.initial.tyenv.names) typed l.yielded
      → CountUp (λ (rule : Rule). rule.id.0) 0 l.yielded → length l.yielded ≤ length l.names
      → AreNumbered l.tyenv.names (with_names typed (map name_shown l.names)) l.named.items l.numbers;
  same : HasMoreNames l.initial.tyenv l.tyenv;
  many : length l.named.items ≡ length l.yielded;
}
