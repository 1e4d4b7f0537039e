use Rattle.std.proofs.Common.{◌≡◌, ◌++◌, ◌≤◌, drop, false, map, string_bytes}
use Rattle.isle_layout.specs.Changes.Hunks.{hunks, start}
use Rattle.isle_layout.specs.Inside.Changes.{edit_of}
use Rattle.isle_layout.proofs.changes.hunks.write_hunks.Given as goal

abbrev pub invariant-loop-i : goal.invariant-loop-i
invariant-loop-i l = record {
  old : l.place.old ≤ l.i;
  new : l.place.new ≤ l.i;
  so_far : string_bytes l.out ++ hunks l.was_shown l.place (map edit_of (drop l.i l.steps))
      ≡ string_bytes l.initial.out ++ hunks false start (map edit_of l.steps);
}
