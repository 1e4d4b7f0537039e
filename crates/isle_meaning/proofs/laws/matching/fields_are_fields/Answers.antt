use Rattle.isle_meaning.proofs.Matching.Basics as its
use Rattle.isle_meaning.proofs.laws.matching.fields_are_fields.Goals as goal

pub returns : goal.returns
returns c = its.value_respects
