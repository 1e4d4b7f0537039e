use Rattle.isle_meaning.proofs.Spelling.Ordered.{order_means_nothing}
use Rattle.isle_run.proofs.Spelling.Ordered.{order_of_texts}
use Rattle.isle_run.proofs.laws.order_means_nothing.Goals as goal

pub returns : goal.returns
returns c = record { checked = order_means_nothing; texts = order_of_texts }
