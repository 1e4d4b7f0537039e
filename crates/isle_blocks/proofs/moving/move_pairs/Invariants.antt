use Rattle.std.proofs.Common.{◌≡◌, map, take}
use Rattle.isle_blocks.specs.Inside.MovedSites.{new_number, moved_pair}
use Rattle.isle_blocks.proofs.moving.move_pairs.Given as goal

-- the first pairs
abbrev pub invariant-loop-pair : goal.invariant-loop-pair
invariant-loop-pair l = l.made.items ≡ map (moved_pair (new_number l.numbers)) (take l.pair-index l.same)
