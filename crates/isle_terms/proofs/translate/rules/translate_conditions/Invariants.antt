use Rattle.std.proofs.Common.{◌≡◌, ◌≤◌, map, drop, length}
use Rattle.isle_terms.specs.Inside.Readings.RuleOutcomes.{read_conditions}
use Rattle.isle_rules.specs.Shown.ShownTerms.{flags_shown}
use Rattle.isle_rules.specs.Shown.ShownRules.{iflet_shown, greatest}
use Rattle.isle_terms.specs.Inside.Readings.Contexts.{known_in}
use Rattle.isle_rules.specs.Shown.RulesShown.{iflet_limit}
use Rattle.isle_terms.proofs.Steps.ConditionSteps.{after_conditions}
use Rattle.isle_terms.proofs.translate.rules.translate_conditions.Given as goal

abbrev pub invariant-loop-i : goal.invariant-loop-i
invariant-loop-i l = record {
  read : read_conditions (known_in l.context) (flags_shown l.caller) l.context.max_nodes l.levels l.trees l.initial.bindings
      ≡ after_conditions (map (iflet_shown l.context.tyenv.now.names) l.all.items)
      (read_conditions (known_in l.context) (flags_shown l.caller) l.context.max_nodes l.levels (drop l.i l.trees) l.bindings);
  symbols : greatest (map iflet_limit l.all.items) ≤ length l.context.tyenv.now.names;
}
