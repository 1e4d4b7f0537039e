use Rattle.isle_meaning.proofs.Sites.RightSites as its
use Rattle.isle_meaning.proofs.laws.sites.right_sides_are_their_sites.Goals as goal

pub returns : goal.returns
returns c = its.right_sides_are_their_sites
