use Rattle.isle_ast.proofs.Trees.Hashes.{positions_apart}
use Rattle.isle_ast.proofs.laws.positions_are_ordered.Goals as goal

pub returns-clause-apart : goal.returns-clause-apart
returns-clause-apart c = positions_apart
