use Rattle.isle_meaning.proofs.Matching.MadeFields.{made_terms_take_their_fields}
use Rattle.isle_meaning.proofs.laws.matching.made_terms_take_their_fields.Goals as goal

pub returns : goal.returns
returns c = made_terms_take_their_fields
