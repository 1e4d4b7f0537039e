use Rattle.std.proofs.Common.{refl}
use Rattle.isle_trees.proofs.Buildable.{many_buildable}
use Rattle.isle_trees.proofs.ManySample.{many_built, many_functions, many_tells}
use Rattle.isle_trees.proofs.the_multi_sample_meets_the_premises.Goals as goal

pub returns : goal.returns
returns c = record { set = many_built; buildable = many_buildable; functions = many_functions; tells = many_tells; rounds = λ h. refl }
