use Rattle.std.specs.Prelude.{◌≡◌, true}
use Rattle.isle_meaning.proofs.Machine.Walkable as its
use Rattle.isle_meaning.proofs.laws.machine.term_trees_are_walkable.Goals as goal

pub returns : goal.returns
returns g c = λ p runs t b tree. its.walkable p (λ u. runs u ≡ true) t b tree
