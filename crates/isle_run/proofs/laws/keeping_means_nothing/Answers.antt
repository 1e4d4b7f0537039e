use Rattle.isle_run.proofs.Spelling.Keeping.{kept_alike, kept_accepted, kept_means}
use Rattle.isle_run.proofs.laws.keeping_means_nothing.Goals as goal

pub returns : goal.returns
returns c = record { alike = kept_alike; accepted = kept_accepted; meaning = kept_means }
