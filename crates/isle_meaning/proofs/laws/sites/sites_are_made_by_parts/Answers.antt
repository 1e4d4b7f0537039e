use Rattle.isle_meaning.proofs.Sites.Made as its
use Rattle.isle_meaning.proofs.laws.sites.sites_are_made_by_parts.Goals as goal

pub returns : goal.returns
returns c = its.sites_are_made_by_parts
