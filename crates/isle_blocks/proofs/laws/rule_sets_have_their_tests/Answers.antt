use Rattle.isle_blocks.proofs.Trees.Used.{has_its_tests}
use Rattle.isle_blocks.proofs.laws.rule_sets_have_their_tests.Goals as goal

pub returns : goal.returns
returns c = has_its_tests
