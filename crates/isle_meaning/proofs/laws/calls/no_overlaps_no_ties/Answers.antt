use Rattle.isle_meaning.proofs.Chains.Elaborated as its
use Rattle.isle_meaning.proofs.laws.calls.no_overlaps_no_ties.Goals as goal

pub returns : goal.returns
returns c = its.no_overlaps_no_ties
