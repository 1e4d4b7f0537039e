use Rattle.isle_missing.proofs.Trees.{none_matches}
use Rattle.isle_missing.proofs.laws.missing_rules_fail.Goals as goal

pub returns : goal.returns
returns g c = none_matches
