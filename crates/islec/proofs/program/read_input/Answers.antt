use Rattle.std.proofs.Common.{inl, refl}
use Rattle.islec.proofs.program.read_input.Goals as goal

pub returns-in-Err-clause-refused : goal.returns-in-Err-clause-refused
returns-in-Err-clause-refused g c = inl refl
