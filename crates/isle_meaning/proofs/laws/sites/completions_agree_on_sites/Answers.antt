use Rattle.isle_meaning.proofs.Sites.Agreeing as its
use Rattle.isle_meaning.proofs.laws.sites.completions_agree_on_sites.Goals as goal

pub returns : goal.returns
returns c = its.completions_agree_on_sites
