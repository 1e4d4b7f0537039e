use Rattle.std.proofs.lemmas.Bool.Decides.{Decides-at}
use Rattle.isle_ast.proofs.Trees.DefEquality.{same_def-decides}
use Rattle.isle_ast.proofs.ast.eq.DefPartialEq.eq.Goals as goal

pub returns-clause-same : goal.returns-clause-same
returns-clause-same c =
    Decides-at c.is_same.result _ c.is_same.ensures (same_def-decides c.args.self.now c.args.other.now)
