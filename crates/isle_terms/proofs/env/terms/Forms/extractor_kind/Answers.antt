use Rattle.std.proofs.Common.{sym, subst, refl, ◌∙◌, ◌-◌, length, get_or, Some, None}
use Rattle.isle_rules.specs.declared.terms.ExtractorKind.TheVariants.{ExternalExtractor}
use Rattle.isle_terms.specs.Inside.Collecting.DeclaredTerms.{AreShownAs, IsShownExtractor}
use Rattle.isle_terms.proofs.Collections.NamedPlaces.{no_extractor_place}
use Rattle.isle_terms.proofs.Collections.DeclaredForms.{plain_here, internal_here, external_here, nothing_here}
use Rattle.isle_terms.proofs.env.terms.Forms.extractor_kind.Goals as goal

pub returns-in_default-clause-made : goal.returns-in_default-clause-made
returns-in_default-clause-made c = λ defs forms.
    subst (λ made. AreShownAs (IsShownExtractor c.args.tyenv.now.names) made None)
    (sym (no_extractor_place defs c.args.name.now (sym (c.place.ensures _ forms.extractor_table) ∙ c.in_default.is))) tt

pub internal_extractor-requires : goal.internal_extractor-requires
internal_extractor-requires c =
    plain_here c.args.self.now.extractors.now (λ extractor. extractor.now) c.in-Some.place c.index-self-place.result c.requires c.if-place-self.true

pub returns-then-place-self-clause-made : goal.returns-then-place-self-clause-made
returns-then-place-self-clause-made c = λ defs forms.
    subst (λ made. AreShownAs (IsShownExtractor c.args.tyenv.now.names) made (Some c.in_ok-internal_extractor.field-0))
    (sym (internal_here defs c.args.name.now c.args.self.now.extractors.now (λ extractor. extractor.now) c.in-Some.place c.index-self-place.result
    (sym (c.place.ensures _ forms.extractor_table) ∙ c.in-Some.is) forms.extractors c.if-place-self.true))
    (c.in_ok-internal_extractor.ensures.made c.args.tyenv.now.names)

pub returns-then-place-self-2-clause-made : goal.returns-then-place-self-2-clause-made
returns-then-place-self-2-clause-made c = λ defs forms.
    subst (λ made. AreShownAs (IsShownExtractor c.args.tyenv.now.names) made None)
    (sym (nothing_here defs c.args.name.now c.args.self.now.extractors.now (λ extractor. extractor.now) c.args.self.now.host_extractors.now
    c.in-Some.place (sym (c.place.ensures _ forms.extractor_table) ∙ c.in-Some.is) forms.extractors forms.host_extractors
    c.if-place-self.false c.if-place-self-2.true)) tt

pub returns-clause-made : goal.returns-clause-made
returns-clause-made c = λ defs forms.
    let host = get_or c.args.self.now.host_extractors.now (c.in-Some.place - length c.args.self.now.extractors.now) c.index-self-place-2.result in
    subst (λ made. AreShownAs (IsShownExtractor c.intern_mut.new.self.names) made
    (Some (ExternalExtractor c.in_ok-intern_mut.field-0 host.infallible host.pos)))
    (sym (external_here defs c.args.name.now c.args.self.now.extractors.now (λ extractor. extractor.now) c.args.self.now.host_extractors.now
    c.in-Some.place c.index-self-place-2.result (sym (c.place.ensures _ forms.extractor_table) ∙ c.in-Some.is) forms.extractors forms.host_extractors
    c.if-place-self.false c.if-place-self-2.false))
    (c.in_ok-intern_mut.ensures.symbol, refl, refl)
