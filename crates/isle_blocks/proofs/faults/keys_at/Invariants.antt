use Rattle.std.proofs.Common.{◌≡◌, ◌<◌, ℕ, length, slice_get, Some}
use Rattle.isle_blocks.specs.declared.rule.Rule.{Rule}
use Rattle.isle_blocks.specs.Inside.FaultKeys.{test_at}
use Rattle.isle_blocks.proofs.faults.keys_at.Given as goal

abbrev pub invariant-loop-place : goal.invariant-loop-place
invariant-loop-place l = record {
  fits : length l.keys.items ≡ l.place;
  keys : (i : ℕ) (rule : Rule) → i < l.place → slice_get l.rules i ≡ Some rule → slice_get l.keys.items i ≡ Some (test_at l.site rule, i);
}
