use Rattle.isle_terms.proofs.BrokenTyping.{broken_typing_makes_none}
use Rattle.isle_terms.proofs.laws.broken_rules_make_no_environment.Goals as goal

pub returns : goal.returns
returns c = λ types expands levels max n defs environment at makes breaks.
    broken_typing_makes_none types expands levels max defs environment makes n at breaks
