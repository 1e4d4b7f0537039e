use Rattle.std.proofs.Common.{take}
use Rattle.isle_blocks.specs.Inside.MovedSites.{MovesSites}
use Rattle.isle_blocks.proofs.moving.move_sites.Given as goal

-- the first sites are moved
abbrev pub invariant-loop-binding : goal.invariant-loop-binding
invariant-loop-binding l = MovesSites l.initial.table (take l.binding-index l.own) l.numbers.items l.table
