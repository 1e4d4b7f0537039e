use Rattle.isle_blocks.proofs.Rows.RowsInjective.{row-injective, test-injective}
use Rattle.isle_blocks.proofs.laws.entries_are_injective.Goals as goal

pub returns-clause-sites : goal.returns-clause-sites
returns-clause-sites c = row-injective

pub returns-clause-tests : goal.returns-clause-tests
returns-clause-tests c = test-injective
