use Rattle.isle_trees.proofs.Whole.{whole_asked}
use Rattle.isle_trees.proofs.trees_bind_what_rules_have.Goals as goal

pub returns : goal.returns
returns g c = λ R left T w b. whole_asked R left T w.both b
