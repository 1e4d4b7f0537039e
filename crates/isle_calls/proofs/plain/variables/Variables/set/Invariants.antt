use Rattle.std.proofs.Common.{◌≡◌, ℕ, ◌+◌, ◌-◌, length}
use Rattle.isle_calls.specs.Inside.Plain.Fitting.{number_of_variable}
use Rattle.isle_calls.proofs.plain.variables.Variables.set.Given as goal

abbrev pub invariant-loop-self : goal.invariant-loop-self
invariant-loop-self l = record {
  same : (k : ℕ) → number_of_variable l.self k ≡ number_of_variable l.initial.self k;
  unset : l.self.unset
      ≡ l.initial.self.unset;
}

abbrev pub decreases-loop-self : goal.decreases-loop-self
decreases-loop-self l = l.var.0 + 1 - length l.self.numbers.items
