use Rattle.isle_blocks.proofs.Sets.SetLaws as sets
use Rattle.isle_blocks.proofs.laws.sites_have_terms.Goals as goal

pub returns : goal.returns
returns c = sets.sites_have_terms
