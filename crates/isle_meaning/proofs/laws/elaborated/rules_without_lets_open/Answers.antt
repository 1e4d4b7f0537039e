use Rattle.isle_meaning.proofs.Sites.Opened as its
use Rattle.isle_meaning.proofs.laws.elaborated.rules_without_lets_open.Goals as goal

pub returns : goal.returns
returns c = its.rules_without_lets_open
