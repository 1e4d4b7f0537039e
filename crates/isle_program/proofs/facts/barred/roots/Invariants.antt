use Rattle.std.proofs.Common.{ℕ}
use Rattle.std.specs.Prelude.{◌==◌}
use Rattle.isle_rules.specs.declared.rules.Rule.{Rule}
use Rattle.isle_program.proofs.ProgramFacts.MarkedTerms.{AreMarkedBefore}
use Rattle.isle_program.proofs.facts.barred.roots.Given as goal

abbrev pub invariant-loop-rule : goal.invariant-loop-rule
invariant-loop-rule l = AreMarkedBefore l.rule-items (λ (n : ℕ) (rule : Rule). rule.root_term.0 == n) l.initial.marks.items l.rule-index l.marks.items
