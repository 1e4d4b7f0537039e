use Rattle.isle_values.proofs.GroundValues.Printed.ReadBack.{typed_stays}
use Rattle.isle_run.proofs.laws.typed_values_stay.Goals as goal

pub returns : goal.returns
returns c = λ facts v ty is. typed_stays facts v ty is
