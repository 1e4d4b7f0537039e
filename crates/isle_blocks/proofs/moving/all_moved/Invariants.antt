use Rattle.std.proofs.Common.{◌≡◌, map, take}
use Rattle.isle_blocks.specs.Inside.MovedSites.{new_number}
use Rattle.isle_blocks.proofs.moving.all_moved.Given as goal

-- the numbers of the first sites
abbrev pub invariant-loop-id : goal.invariant-loop-id
invariant-loop-id l = l.made.items ≡ map (new_number l.numbers) (take l.id-index l.ids)
