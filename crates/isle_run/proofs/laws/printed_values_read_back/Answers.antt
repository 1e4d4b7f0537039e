use Rattle.isle_values.proofs.GroundValues.Printed.ReadBack.{reads_back}
use Rattle.isle_run.proofs.laws.printed_values_read_back.Goals as goal

pub returns : goal.returns
returns c = λ facts v ty held is spellable. reads_back facts v ty held is spellable
