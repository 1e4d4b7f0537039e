use Rattle.std.proofs.Common.{◌≡◌, ◌++◌, take, map}
use Rattle.isle_blocks.specs.Inside.RivalLists.{numbered}
use Rattle.isle_blocks.proofs.checking.push_numbered.Given as goal

abbrev pub invariant-loop-pair : goal.invariant-loop-pair
invariant-loop-pair l = l.found.items ≡ l.initial.found.items ++ map (numbered l.rules) (take l.pair-index l.pairs)
