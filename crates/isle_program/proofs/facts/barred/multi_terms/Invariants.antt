use Rattle.std.proofs.Common.{◌≡◌, map, take}
use Rattle.isle_rules.specs.declared.terms.Term.{Term}
use Rattle.isle_rules.specs.Shown.TermTables.{is_multi_kind}
use Rattle.isle_program.proofs.facts.barred.multi_terms.Given as goal

abbrev pub invariant-loop-term : goal.invariant-loop-term
invariant-loop-term l = l.marks.items ≡ map (λ (term : Term). is_multi_kind term.kind) (take l.term-index l.terms)
