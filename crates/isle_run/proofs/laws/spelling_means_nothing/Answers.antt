use Rattle.isle_meaning.proofs.Spelling.Meanings.{alike_means}
use Rattle.isle_run.proofs.Spelling.Whole.{accepted_alike, made_alike}
use Rattle.isle_run.proofs.Spelling.Formatting.{formatted_alike}
use Rattle.isle_run.proofs.laws.spelling_means_nothing.Goals as goal

pub returns : goal.returns
returns c = record { accepted = accepted_alike; programs = made_alike; meaning = alike_means; formatted = formatted_alike }
