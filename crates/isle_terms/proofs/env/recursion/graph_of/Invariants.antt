use Rattle.std.proofs.Common.{[], length, take, replicate}
use Rattle.isle_terms.specs.Inside.Collecting.ExtractorGraphs.{AddsEdges}
use Rattle.isle_terms.proofs.Collections.AddedEdges.{SomeJoins}
use Rattle.isle_terms.proofs.Collections.ExtractorGraphs.{JoinsLent}
use Rattle.isle_terms.proofs.env.recursion.graph_of.Given as goal

abbrev pub invariant-loop-extractor : goal.invariant-loop-extractor
invariant-loop-extractor l =
    AddsEdges (SomeJoins (JoinsLent l.places) (take l.extractor-index l.extractors)) (replicate (length l.extractors) []) l.graph
