use Rattle.isle_terms.proofs.Collections.ExtractorGraphs.{term_none}
use Rattle.isle_terms.proofs.env.recursion.add_target.Goals as goal

pub returns-in-None : goal.returns-in-None
returns-in-None c = term_none c.args.places.now c.args.from c.args.term.now c.args.graph.now c.in-None.ensures
