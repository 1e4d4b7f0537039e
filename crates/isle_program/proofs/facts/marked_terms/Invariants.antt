use Rattle.std.proofs.Common.{map}
use Rattle.isle_blocks.specs.Inside.Building.Contents.{Marked}
use Rattle.isle_blocks.specs.DefinedSets.{ListsNumbers}
use Rattle.isle_blocks.proofs.Sets.ListedNumbers.{Below}
use Rattle.isle_program.specs.Facts.Asked.{term_number}
use Rattle.isle_program.proofs.facts.marked_terms.Given as goal

abbrev pub invariant-loop-n : goal.invariant-loop-n
invariant-loop-n l = ListsNumbers (Below (Marked l.marks) l.n) (map term_number l.terms.items)
