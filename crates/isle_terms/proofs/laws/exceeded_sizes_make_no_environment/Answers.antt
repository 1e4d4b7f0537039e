use Rattle.isle_terms.proofs.BrokenTyping.{exceeding_typing_makes_none}
use Rattle.isle_terms.proofs.laws.exceeded_sizes_make_no_environment.Goals as goal

pub returns : goal.returns
returns c = λ types expands levels max defs environment at makes exceeds.
    exceeding_typing_makes_none types expands levels max defs environment makes at exceeds
