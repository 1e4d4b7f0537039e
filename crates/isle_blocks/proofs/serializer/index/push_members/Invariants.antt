use Rattle.std.proofs.Common.{◌≡◌, ◌++◌, take}
use Rattle.std.specs.List.{flat_map}
use Rattle.isle_trees.specs.Ranking.{AllBelow}
use Rattle.isle_blocks.specs.Rows.{numbers_of}
use Rattle.isle_blocks.proofs.serializer.index.push_members.Given as goal

abbrev pub invariant-loop-class : goal.invariant-loop-class
invariant-loop-class l = record {
  added : numbers_of l.all.items ≡ numbers_of l.initial.all.items ++ flat_map numbers_of (take l.class-index l.classes);
  low : AllBelow (flat_map numbers_of (take l.class-index l.classes)) 65536;
}
