use Rattle.isle_layout.proofs.ReadsBack.Formatted.{spelt_is_writable}
use Rattle.isle_layout.proofs.laws.spelt_is_writable.Goals as goal

pub returns : goal.returns
returns c = spelt_is_writable
