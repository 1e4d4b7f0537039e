use Rattle.islec.proofs.EndingLemmas.{status_of}
use Rattle.islec.proofs.program.run.Goals as goal

pub returns-in-Ok-read_words : goal.returns-in-Ok-read_words
returns-in-Ok-read_words g c = record { ends = status_of _ _ _ _ _ _ _ _ _ c.command.ensures.ends }
