use Rattle.std.proofs.Common.{◌≡◌, take}
use Rattle.isle_ast.specs.Trees.PatternShape.{pattern_of}
use Rattle.isle_terms.specs.Inside.Collecting.ExtractorChecks.{named_in}
use Rattle.isle_terms.specs.Inside.Collecting.ExtractorGraphs.{AddsEdges, JoinsTerm}
use Rattle.isle_terms.proofs.Collections.AddedEdges.{SomeJoins}
use Rattle.isle_terms.proofs.env.recursion.add_targets.Given as goal

abbrev pub invariant-loop-term : goal.invariant-loop-term
invariant-loop-term l = record {
  terms : l.term-items ≡ named_in (pattern_of l.body);
  added : AddsEdges (SomeJoins (JoinsTerm l.places l.from) (take l.term-index l.term-items)) l.fn.graph l.graph;
}
