use Rattle.std.proofs.Common.{◌≡◌, map, take}
use Rattle.isle_blocks.specs.Inside.MovedSites.{new_number, moved_test}
use Rattle.isle_blocks.proofs.moving.move_constraints.Given as goal

-- the first tests
abbrev pub invariant-loop-test : goal.invariant-loop-test
invariant-loop-test l = l.made.items ≡ map (moved_test (new_number l.numbers)) (take l.test-index l.has)
