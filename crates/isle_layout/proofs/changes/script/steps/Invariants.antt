use Rattle.std.proofs.Common.{◌≤◌, ◌-◌, drop, length, map}
use Rattle.isle_layout.specs.Inside.Changes.{edit_of, text_of}
use Rattle.isle_layout.proofs.ChangesLemmas.ScriptsOf.{LeadsUpTo}
use Rattle.isle_layout.proofs.changes.script.steps.Given as goal

abbrev pub invariant-loop-steps : goal.invariant-loop-steps
invariant-loop-steps l = record {
  from : l.from ≤ length l.old;
  to : l.to ≤ length l.new;
  so_far : LeadsUpTo (map text_of l.old) (map text_of l.new) (map edit_of l.steps.items) (map text_of (drop l.from l.old))
      (map text_of (drop l.to l.new));
}

abbrev pub decreases-loop-steps : goal.decreases-loop-steps
decreases-loop-steps l = length l.old - l.from
