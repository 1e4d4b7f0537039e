use Rattle.std.proofs.Common.{◌+◌, ◌-◌, ◌≤◌, length}
use Rattle.isle_layout.proofs.changes.script.before_kept.Given as goal

abbrev pub invariant-loop-removed : goal.invariant-loop-removed
invariant-loop-removed l = record { removed : l.removed ≤ length l.old; added : l.added ≤ length l.new }

abbrev pub decreases-loop-removed : goal.decreases-loop-removed
decreases-loop-removed l = (length l.old - l.removed) + (length l.new - l.added)
