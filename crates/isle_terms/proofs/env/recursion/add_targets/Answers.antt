use Rattle.std.proofs.Common.{◌≡◌, ◌∙◌, List, take, subst, arith}
use Rattle.std.proofs.lemmas.List.{take_all}
use Rattle.isle_ast.specs.declared.ast.Ident.{Ident}
use Rattle.isle_ast.specs.Trees.PatternShape.{pattern_of}
use Rattle.isle_terms.specs.Inside.Collecting.ExtractorGraphs.{AddsEdges, JoinsTerm}
use Rattle.isle_terms.proofs.Collections.AddedEdges.{SomeJoins, edges_none, edges_more, none_in}
use Rattle.isle_terms.proofs.Collections.ExtractorGraphs.{targets_added}
use Rattle.isle_terms.proofs.env.recursion.add_targets.Goals as goal

pub loop-term-init : goal.loop-term-init
loop-term-init c = record {
  terms = c.deref-term-items.ensures.value ∙ c.in_ok-terms.ensures;
  added = edges_none (SomeJoins (JoinsTerm c.args.places.now c.args.from) (take 0 c.deref-term-items.result.now)) c.args.graph.now
      (none_in (JoinsTerm c.args.places.now c.args.from));
}

pub add_target-requires : goal.add_target-requires
add_target-requires c = let as_many = c.loop-term.invariant.added.one_each in omega arith

pub loop-term-preserved : goal.loop-term-preserved
loop-term-preserved c = record {
  terms = c.loop-term.invariant.terms;
  added = edges_more (JoinsTerm c.args.places.now c.args.from) c.deref-term-items.result.now c.loop-term.term-index c.term-item.result
      c.args.graph.now
      c.loop-term.graph c.add_target.new.graph (omega arith) c.term-item.is c.loop-term.invariant.added c.in_ok-add_target.ensures;
}

pub returns : goal.returns
returns c =
    let terms = c.deref-term-items.result.now in
    let Joins = JoinsTerm c.args.places.now c.args.from in
    let whole : take c.loop-term.term-index terms ≡ terms = take_all c.loop-term.term-index terms (omega arith) in
    targets_added c.args.places.now c.args.from (pattern_of c.args.body.now) terms c.args.graph.now c.loop-term.graph c.loop-term.invariant.terms
    (subst (λ (done : List Ident). AddsEdges (SomeJoins Joins done) c.args.graph.now c.loop-term.graph) whole c.loop-term.invariant.added)
