use Rattle.isle_meaning.proofs.Sites.HeldKinds as its
use Rattle.isle_meaning.proofs.laws.sites.sites_keep_kinds.Goals as goal

pub returns : goal.returns
returns c = its.sites_keep_kinds
