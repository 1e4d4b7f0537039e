use Rattle.std.proofs.Common.{◌≡◌, ◌+◌, ◌*◌, map, drop}
use Rattle.isle_terms.specs.Inside.Readings.Outcomes.{each_pattern}
use Rattle.isle_rules.specs.Shown.ShownTerms.{numbers_of}
use Rattle.isle_rules.specs.Shown.ShownRules.{typed_shown}
use Rattle.isle_terms.specs.Inside.Readings.Frames.{trees_given}
use Rattle.isle_terms.specs.Inside.Readings.PatternReading.{reads_in, HaveKnownSymbols}
use Rattle.isle_terms.proofs.Steps.PatternSteps.{after}
use Rattle.isle_terms.proofs.translate.patterns.+pattern.Given as goal

abbrev pub decreases-read_part : goal.decreases-read_part
decreases-read_part l = 5 * l.levels

abbrev pub decreases-read_each : goal.decreases-read_each
decreases-read_each l = 5 * l.levels + 1

abbrev pub decreases-read_repaired : goal.decreases-read_repaired
decreases-read_repaired l = 5 * l.levels + 1

abbrev pub decreases-read_use : goal.decreases-read_use
decreases-read_use l = 5 * l.levels + 2

abbrev pub decreases-read_and : goal.decreases-read_and
decreases-read_and l = 5 * l.levels + 2

abbrev pub decreases-read_term : goal.decreases-read_term
decreases-read_term l = 5 * l.levels + 3

abbrev pub decreases-read_node : goal.decreases-read_node
decreases-read_node l = 5 * l.levels + 4

abbrev pub invariant-read_each-loop-i : goal.invariant-read_each-loop-i
invariant-read_each-loop-i l = record {
  read : each_pattern (reads_in l.context l.levels) l.fn.pos (trees_given l.parts) (numbers_of l.tys) l.initial.bindings
      ≡ after (map (typed_shown l.context.tyenv.now.names) l.all.items)
      (each_pattern (reads_in l.context l.levels) l.fn.pos (trees_given (drop l.i l.parts)) (numbers_of (drop l.i l.tys)) l.bindings);
  symbols : HaveKnownSymbols l.context l.all.items;
}
