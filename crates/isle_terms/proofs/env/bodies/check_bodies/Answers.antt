use Rattle.std.proofs.Common.{◌≡◌, List, take, refl, subst, arith, Bor}
use Rattle.std.specs.Prelude.{All}
use Rattle.std.proofs.lemmas.List.{take_all}
use Rattle.std.proofs.lemmas.List.Elements.{All-nil}
use Rattle.isle_ast.specs.declared.ast.Extractor.{Extractor as ExtractorTree}
use Rattle.isle_terms.specs.Inside.Collecting.ExtractorChecks.{Adds}
use Rattle.isle_terms.proofs.Collections.AddedErrors.{SomeBreaks, adds_none, adds_more}
use Rattle.isle_terms.proofs.Collections.ExtractorBodies.{BreaksIn, KeepsIn, bodies_checked}
use Rattle.isle_terms.proofs.env.bodies.check_bodies.Goals as goal

pub loop-extractor-init : goal.loop-extractor-init
loop-extractor-init c = λ names known. adds_none (SomeBreaks (BreaksIn names) c.args.extractors.now)
    (All (KeepsIn names) (take 0 c.args.extractors.now)) c.args.errors.now.items c.args.errors.now.items refl (All-nil (KeepsIn names))

pub loop-extractor-preserved : goal.loop-extractor-preserved
loop-extractor-preserved c = λ names known.
    adds_more (BreaksIn names) (KeepsIn names) c.args.extractors.now c.loop-extractor.extractor-index c.extractor-item.result
    c.args.errors.now.items c.loop-extractor.errors.items c.check_body.new.errors.items (omega arith) c.extractor-item.is
    (c.loop-extractor.invariant names known) (c.in_ok-check_body.ensures names known)

pub returns : goal.returns
returns c = λ names known.
    let extractors = c.args.extractors.now in
    let checked = c.loop-extractor.invariant names known in
    let whole : take c.loop-extractor.extractor-index extractors ≡ extractors = take_all c.loop-extractor.extractor-index extractors (omega arith) in
    bodies_checked extractors names c.args.errors.now.items c.loop-extractor.errors.items
    (subst (λ (done : List (Bor ExtractorTree)). Adds (SomeBreaks (BreaksIn names) extractors) (All (KeepsIn names) done)
    c.args.errors.now.items c.loop-extractor.errors.items) whole checked)
