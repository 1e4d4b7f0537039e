use Rattle.std.proofs.Common.{ℕ, ◌<◌, []}
use Rattle.isle_terms.specs.Inside.Collecting.Graphs.{IsFinished, IsSearching}
use Rattle.isle_terms.proofs.env.cycles.find_cycle.Given as goal

abbrev pub invariant-loop-root : goal.invariant-loop-root
invariant-loop-root l = record {
  searching : IsSearching l.graph l.marks.items [];
  done : (node : ℕ) → node < l.root → IsFinished l.marks.items node;
}
