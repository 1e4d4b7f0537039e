-- the files stay
use Rattle.std.proofs.Common.{◌≡◌}
use Rattle.islec.proofs.watch.Watch.keep.Given as goal

abbrev pub invariant-loop-choice : goal.invariant-loop-choice
invariant-loop-choice l = l.self.files.now ≡ l.initial.self.files.now
