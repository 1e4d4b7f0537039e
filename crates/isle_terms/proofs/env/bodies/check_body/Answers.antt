use Rattle.std.proofs.Common.{◌≡◌, ◌∙◌, ℕ, List, true, take, refl, subst, arith}
use Rattle.std.specs.Prelude.{All}
use Rattle.std.proofs.lemmas.List.{take_all}
use Rattle.std.proofs.lemmas.List.Elements.{All-nil}
use Rattle.isle_ast.specs.declared.ast.Ident.{Ident}
use Rattle.isle_ast.specs.Trees.PatternShape.{pattern_of}
use Rattle.isle_rules.specs.Definitions.{is_among}
use Rattle.isle_terms.specs.Inside.Collecting.ExtractorChecks.{Adds, IsUnknownAt}
use Rattle.isle_terms.proofs.Collections.AddedErrors.{SomeBreaks, adds_none, adds_more}
use Rattle.isle_terms.proofs.Collections.ExtractorBodies.{body_checked}
use Rattle.isle_terms.proofs.env.bodies.check_body.Goals as goal

abbrev IsKnown : List (List ℕ) → Ident → Type 0
IsKnown names term = is_among term.0 names ≡ true

pub loop-term-init : goal.loop-term-init
loop-term-init c = record {
  terms = c.deref-term-items.ensures.value ∙ c.in_ok-terms.ensures;
  checked = λ names known. adds_none (SomeBreaks (IsUnknownAt names) c.deref-term-items.result.now)
      (All (IsKnown names) (take 0 c.deref-term-items.result.now)) c.args.errors.now.items c.args.errors.now.items refl (All-nil (IsKnown names));
}

pub loop-term-preserved : goal.loop-term-preserved
loop-term-preserved c = record {
  terms = c.loop-term.invariant.terms;
  checked = λ names known. adds_more (IsUnknownAt names) (IsKnown names) c.deref-term-items.result.now c.loop-term.term-index c.term-item.result
      c.args.errors.now.items c.loop-term.errors.items c.check_term.new.errors.items (omega arith) c.term-item.is
      (c.loop-term.invariant.checked names known) (c.in_ok-check_term.ensures names known);
}

pub returns : goal.returns
returns c = λ names known.
    let terms = c.deref-term-items.result.now in
    let checked = c.loop-term.invariant.checked names known in
    let whole : take c.loop-term.term-index terms ≡ terms = take_all c.loop-term.term-index terms (omega arith) in
    body_checked (pattern_of c.args.body.now) names terms c.args.errors.now.items c.loop-term.errors.items c.loop-term.invariant.terms
    (subst (λ (done : List Ident). Adds (SomeBreaks (IsUnknownAt names) terms) (All (IsKnown names) done) c.args.errors.now.items
    c.loop-term.errors.items)
    whole checked)
