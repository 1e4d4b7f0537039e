use Rattle.std.proofs.Common.{◌≡◌, ◌<◌, ℕ, length, slice_get, Some}
use Rattle.isle_rules.specs.declared.rules.Rule.{Rule}
use Rattle.isle_program.proofs.program.priority_keys.Given as goal

abbrev pub invariant-loop-place : goal.invariant-loop-place
invariant-loop-place l = record {
  fits : length l.keys.items ≡ l.place;
  keys : (i : ℕ) (rule : Rule) → i < l.place → slice_get l.rules i ≡ Some rule
      → slice_get l.keys.items i ≡ Some (record { 0 = rule.prio }, i);
}
