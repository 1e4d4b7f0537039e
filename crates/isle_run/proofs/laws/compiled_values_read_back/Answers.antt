use Rattle.isle_run.proofs.Naming.Values.{compiled_values_read_back, strings_are_utf8}
use Rattle.isle_run.proofs.laws.compiled_values_read_back.Goals as goal

pub returns : goal.returns
returns c = record { read_back = compiled_values_read_back; texts = strings_are_utf8 }
