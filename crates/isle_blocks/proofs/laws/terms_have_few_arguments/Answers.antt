use Rattle.isle_blocks.proofs.FewArguments.{few_arguments}
use Rattle.isle_blocks.proofs.laws.terms_have_few_arguments.Goals as goal

pub returns : goal.returns
returns c = few_arguments
