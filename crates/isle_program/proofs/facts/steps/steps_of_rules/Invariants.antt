use Rattle.std.proofs.Common.{◌≡◌, ◌≤◌, ◌*◌, take}
use Rattle.std.specs.List.{sum_by}
use Rattle.isle_program.specs.Facts.Steps.{rule_steps}
use Rattle.isle_program.proofs.facts.steps.steps_of_rules.Given as goal

-- a rule has less than 2^64 constraints
abbrev pub invariant-loop-rule : goal.invariant-loop-rule
invariant-loop-rule l = (l.steps ≡ sum_by rule_steps (take l.rule-index l.rules)) × (l.steps ≤ l.rule-index * 18446744073709551616)
