use Rattle.std.proofs.Common.{◌↔◌, ◌≤◌, drop}
use Rattle.isle_layout.specs.Nesting.{iflet_nestings}
use Rattle.isle_layout.proofs.nesting.iflets_fit.Given as goal

abbrev pub invariant-loop-iflet : goal.invariant-loop-iflet
invariant-loop-iflet l =
    (iflet_nestings (drop l.iflet-index l.iflets) ≤ l.depth_left) ↔ (iflet_nestings l.iflets ≤ l.depth_left)
