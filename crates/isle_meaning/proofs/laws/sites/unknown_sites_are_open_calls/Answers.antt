use Rattle.isle_meaning.proofs.Sites.Agreeing as its
use Rattle.isle_meaning.proofs.laws.sites.unknown_sites_are_open_calls.Goals as goal

pub returns : goal.returns
returns c = its.unknown_sites_are_open_calls
