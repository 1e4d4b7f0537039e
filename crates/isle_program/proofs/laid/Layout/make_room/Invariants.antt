use Rattle.std.proofs.Common.{◌≡◌, ◌+◌, ◌-◌, ℕ, length}
use Rattle.isle_program.specs.Inside.Plain.LaidOut.Expressions.{stands_for}
use Rattle.isle_program.proofs.laid.Layout.make_room.Given as goal

abbrev pub invariant-loop-self : goal.invariant-loop-self
invariant-loop-self l = record {
  parts : l.self.parts.items ≡ l.initial.self.parts.items;
  calls : l.self.calls.items ≡ l.initial.self.calls.items;
  same : (k : ℕ) → stands_for l.self.bound.items k ≡ stands_for l.initial.self.bound.items k;
}

abbrev pub decreases-loop-self : goal.decreases-loop-self
decreases-loop-self l = l.index + 1 - length l.self.bound.items
