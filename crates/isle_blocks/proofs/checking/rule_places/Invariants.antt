use Rattle.std.proofs.Common.{◌≡◌, take, map}
use Rattle.isle_blocks.specs.Inside.RivalLists.{place_of}
use Rattle.isle_blocks.proofs.checking.rule_places.Given as goal

abbrev pub invariant-loop-rule : goal.invariant-loop-rule
invariant-loop-rule l = l.places.items ≡ map place_of (take l.rule-index l.rules)
