use Rattle.std.proofs.Common.{◌≡◌, ◌++◌, take}
use Rattle.isle_trees.specs.Ranking.{AllBelow}
use Rattle.isle_blocks.specs.Rows.{numbers_of}
use Rattle.isle_blocks.proofs.serializer.index.push_sites.Given as goal

abbrev pub invariant-loop-site : goal.invariant-loop-site
invariant-loop-site l = record {
  added : numbers_of l.all.items ≡ numbers_of l.initial.all.items ++ take l.site-index (numbers_of l.sites);
  low : AllBelow (take l.site-index (numbers_of l.sites)) 65536;
}
