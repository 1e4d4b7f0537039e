use Rattle.std.proofs.Common.{◌≡◌, take}
use Rattle.isle_rules.proofs.clone.+clone_pattern.Given as goal

abbrev pub invariant-clone_patterns-loop-pattern : goal.invariant-clone_patterns-loop-pattern
invariant-clone_patterns-loop-pattern l = l.all.items ≡ take l.pattern-index l.patterns
