use Rattle.isle_layout.proofs.ReadsBack.Formatted.{formatted_once}
use Rattle.isle_layout.proofs.laws.formatted_is_one.Goals as goal

pub returns : goal.returns
returns c = formatted_once
