use Rattle.std.proofs.Common.{◌≡◌, List}
use Rattle.isle_meaning.specs.Worlds.{Event}
use Rattle.isle_blocks.specs.declared.serializer.views.ControlFlow.TheVariants as flows
use Rattle.isle_blocks.specs.Trees.Views.{arm_count, shown_arms}
use Rattle.isle_calls.specs.Inside.Blocks.Frames.{IsChecking}
use Rattle.isle_calls.specs.Calls.Open.{CallOf}
use Rattle.isle_calls.proofs.TreeRoad.Checking.{IsMatching}
use Rattle.isle_calls.proofs.machine.reading.Machine.match_site.Given as goal

-- the arms that are left are matched as all are
abbrev pub invariant-loop-arm : goal.invariant-loop-arm
invariant-loop-arm l = (k : CallOf) (since : List Event) → k.program ≡ l.fn.self.program.now
    → IsChecking k l.fn.self.store l.fn.frame (flows.Match l.fn.source l.fn.arms) l.fn.behind since
    → IsMatching k l.self.store l.frame l.fn.source l.left l.fn.behind l.held since

abbrev pub decreases-loop-arm : goal.decreases-loop-arm
decreases-loop-arm l = arm_count (shown_arms l.left).arms
