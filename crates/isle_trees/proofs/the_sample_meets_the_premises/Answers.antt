use Rattle.std.proofs.Common.{refl}
use Rattle.isle_trees.proofs.Buildable.{sample_buildable}
use Rattle.isle_trees.proofs.Samples.{sample_built, sample_reads, sample_is_program, sample_answers}
use Rattle.isle_trees.proofs.the_sample_meets_the_premises.Goals as goal

pub returns : goal.returns
returns c = record {
  set = sample_built;
  fields = sample_reads;
  buildable = sample_buildable;
  program = sample_is_program;
  answers =
      sample_answers;
  unanswered = refl;
  first = refl;
  second = refl;
}
