use Rattle.std.proofs.Common.{◌≡◌, drop}
use Rattle.isle_trees.specs.Search.{all_marked}
use Rattle.isle_blocks.specs.Rows.{numbers_of}
use Rattle.isle_blocks.proofs.serializer.known.all_set.Given as goal

abbrev pub invariant-loop-site : goal.invariant-loop-site
invariant-loop-site l = all_marked l.marks (numbers_of (drop l.site-index l.sites)) ≡ all_marked l.marks (numbers_of l.sites)
