use Rattle.isle_terms.proofs.Collections.ExtractorGraphs.{extractor_none}
use Rattle.isle_terms.proofs.env.recursion.add_extractor.Goals as goal

pub returns-in-None : goal.returns-in-None
returns-in-None c = extractor_none c.args.places.now c.args.extractor.now c.args.graph.now c.in-None.ensures
