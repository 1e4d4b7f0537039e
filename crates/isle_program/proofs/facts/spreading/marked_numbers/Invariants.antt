use Rattle.isle_blocks.specs.Inside.Building.Contents.{Marked}
use Rattle.isle_blocks.specs.DefinedSets.{ListsNumbers}
use Rattle.isle_blocks.proofs.Sets.ListedNumbers.{Below}
use Rattle.isle_program.proofs.facts.spreading.marked_numbers.Given as goal

abbrev pub invariant-loop-n : goal.invariant-loop-n
invariant-loop-n l = ListsNumbers (Below (Marked l.marks) l.n) l.numbers.items
