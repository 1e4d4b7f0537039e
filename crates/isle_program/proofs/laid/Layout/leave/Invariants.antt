use Rattle.std.proofs.Common.{◌≡◌, ℕ, length}
use Rattle.isle_program.specs.Inside.Plain.LaidOut.Expressions.{stands_for, undone}
use Rattle.isle_program.proofs.laid.Layout.leave.Given as goal

abbrev pub invariant-loop-var : goal.invariant-loop-var
invariant-loop-var l = record {
  parts : l.self.parts.items ≡ l.initial.self.parts.items;
  calls : l.self.calls.items ≡ l.initial.self.calls.items;
  same : (k : ℕ) → undone l.hidden.items (stands_for l.self.bound.items) k
      ≡ undone l.initial.hidden.items (stands_for l.initial.self.bound.items) k;
}

abbrev pub decreases-loop-var : goal.decreases-loop-var
decreases-loop-var l = length l.hidden.items
