use Rattle.isle_meaning.proofs.Matching.Needing as its
use Rattle.isle_meaning.proofs.laws.matching.needs_have_fields.Goals as goal

pub returns : goal.returns
returns c = its.needs_have_fields
