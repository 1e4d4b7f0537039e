use Rattle.std.proofs.Common.{◌≡◌, ◌+◌, ◌≤◌, drop, map}
use Rattle.isle_layout.specs.Changes.Hunks.{hunk_end}
use Rattle.isle_layout.specs.Inside.Changes.{edit_of}
use Rattle.isle_layout.proofs.changes.hunks.hunk_end.Given as goal

abbrev pub invariant-loop-i : goal.invariant-loop-i
invariant-loop-i l = record {
  old : l.end.old ≤ l.fn.place.old + l.i;
  new : l.end.new ≤ l.fn.place.new + l.i;
  end : hunk_end l.fn.place (map edit_of l.steps) ≡ hunk_end l.end (map edit_of (drop l.i l.steps));
}
