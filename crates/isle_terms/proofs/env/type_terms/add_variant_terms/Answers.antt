use Rattle.std.proofs.Common.{ap, ◌∙◌}
use Rattle.isle_types.specs.declared.ids.TermId.{TermId}
use Rattle.isle_terms.proofs.Collections.DeclaredForms.{read_at}
use Rattle.isle_terms.proofs.Collections.TypeTerms.{variant_turn, variants_done}
use Rattle.isle_terms.proofs.env.type_terms.add_variant_terms.Goals as goal

pub loop-variant-preserved : goal.loop-variant-preserved
loop-variant-preserved c = λ names type shown variants.
    variant_turn names c.args.ty.0 type shown c.args.variants.now c.loop-variant.variant-index c.variant-item.result c.in_ok-term.term
    c.args.terms.now.items c.loop-variant.terms.items c.push.new.self.items variants
    (read_at c.args.variants.now c.loop-variant.variant-index c.variant-item.result c.loop-variant-test.true c.variant-item.is)
    (λ one is. c.in_ok-term.ensures.shown names type one is)
    (ap (λ (id : TermId). id.0) c.in_ok-term.ensures.numbered ∙ c.len.ensures ∙ c.loop-variant.terms.ok.0) c.in_ok-push.ensures.items
    (c.loop-variant.invariant names type shown variants)

pub returns : goal.returns
returns c = λ names type shown variants.
    variants_done names c.args.ty.0 type shown c.args.variants.now c.loop-variant.variant-index c.args.terms.now.items c.loop-variant.terms.items
    variants c.loop-variant-test.false (c.loop-variant.invariant names type shown variants)
