use Rattle.isle_trees.proofs.Building.OtherValues.{builds_over}
use Rattle.isle_trees.proofs.building_asks_no_values.Goals as goal

pub returns : goal.returns
returns g c = λ R passes alike left sc T b. builds_over T R passes alike left sc b
