use Rattle.std.proofs.Common.{◌≡◌, map, take}
use Rattle.isle_rules.specs.Readings.Needs.{needed_of}
use Rattle.isle_rules.proofs.env.needs.needs_of.Given as goal

abbrev pub invariant-loop-term : goal.invariant-loop-term
invariant-loop-term l = l.needs.items ≡ map needed_of (take l.term-index l.terms)
