use Rattle.isle_missing.proofs.Trees.{some_matches}
use Rattle.isle_missing.proofs.laws.covered_rules_match.Goals as goal

pub returns : goal.returns
returns g c = some_matches
