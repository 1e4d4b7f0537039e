use Rattle.std.proofs.Common.{◌≡◌, List, [], length, take, replicate, sym, refl, subst, arith, Bor}
use Rattle.std.proofs.lemmas.List.{take_all}
use Rattle.isle_ast.specs.declared.ast.Extractor.{Extractor as ExtractorTree}
use Rattle.isle_terms.specs.Inside.Collecting.ExtractorGraphs.{AddsEdges}
use Rattle.isle_terms.proofs.Collections.AddedEdges.{SomeJoins, edges_none, edges_more, none_in}
use Rattle.isle_terms.proofs.Collections.ExtractorGraphs.{JoinsLent, place_within, graph_made}
use Rattle.isle_terms.proofs.env.recursion.graph_of.Goals as goal

pub loop-extractor-init : goal.loop-extractor-init
loop-extractor-init c =
    let none = replicate (length c.args.extractors.now) [] in
    let Joins = SomeJoins (JoinsLent c.args.places.now) [] in
    subst (AddsEdges Joins none) (sym c.in_ok-graph.ensures) (edges_none Joins none (none_in (JoinsLent c.args.places.now)))

pub add_extractor-requires : goal.add_extractor-requires
add_extractor-requires c = place_within c.args.extractors.now c.args.places.now (replicate (length c.args.extractors.now) []) c.loop-extractor.graph
    (SomeJoins (JoinsLent c.args.places.now) (take c.loop-extractor.extractor-index c.args.extractors.now)) c.requires refl c.loop-extractor.invariant
    c.extractor-item.result.now.term.0

pub loop-extractor-preserved : goal.loop-extractor-preserved
loop-extractor-preserved c =
    edges_more (JoinsLent c.args.places.now) c.args.extractors.now c.loop-extractor.extractor-index c.extractor-item.result
    (replicate (length c.args.extractors.now) []) c.loop-extractor.graph c.add_extractor.new.graph (omega arith) c.extractor-item.is
    c.loop-extractor.invariant c.in_ok-add_extractor.ensures

pub returns : goal.returns
returns c =
    let extractors = c.args.extractors.now in
    let whole : take c.loop-extractor.extractor-index extractors ≡ extractors = take_all c.loop-extractor.extractor-index extractors (omega arith) in
    graph_made extractors c.args.places.now (replicate (length extractors) []) c.loop-extractor.graph refl
    (subst (λ (done : List (Bor ExtractorTree)). AddsEdges (SomeJoins (JoinsLent c.args.places.now) done) (replicate (length extractors) [])
    c.loop-extractor.graph) whole c.loop-extractor.invariant)
