use Rattle.std.proofs.Common.{◌≡◌, drop, map}
use Rattle.std.specs.List.{list_any}
use Rattle.isle_layout.specs.Changes.Hunks.{is_change}
use Rattle.isle_layout.specs.Inside.Changes.{edit_of}
use Rattle.isle_layout.proofs.changes.hunks.any_change.Given as goal

abbrev pub invariant-loop-step : goal.invariant-loop-step
invariant-loop-step l =
    list_any is_change (map edit_of l.steps) ≡ list_any is_change (map edit_of (drop l.step-index l.steps))
