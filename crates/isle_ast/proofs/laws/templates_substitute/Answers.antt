use Rattle.isle_ast.proofs.Trees.Substitution.{substitutes}
use Rattle.isle_ast.proofs.laws.templates_substitute.Goals as goal

pub returns : goal.returns
returns c = substitutes
