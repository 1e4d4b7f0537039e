use Rattle.isle_meaning.proofs.Sites.Agreeing as its
use Rattle.isle_meaning.proofs.laws.sites.sites_are_strict.Goals as goal

pub returns-clause-values : goal.returns-clause-values
returns-clause-values c = its.sites_are_strict

pub returns-clause-known : goal.returns-clause-known
returns-clause-known c = its.known_is_of_known
