use Rattle.std.proofs.Common.{◌≡◌, ap, sym, subst, ◌∙◌, slice_get, Some, None}
use Rattle.std.specs.Option.{option_map}
use Rattle.isle_terms.specs.declared.env.definitions.HostConstructor.{HostConstructor}
use Rattle.isle_rules.specs.declared.terms.ConstructorKind.TheVariants.{InternalConstructor, ExternalConstructor}
use Rattle.isle_rules.specs.Signatures.{external_constructor}
use Rattle.isle_terms.specs.Inside.Collecting.DeclaredTerms.{AreShownAs, IsShownConstructor}
use Rattle.isle_terms.proofs.Collections.DeclaredForms.{by_rules_form, hosted_form, read_at, none_past}
use Rattle.isle_terms.proofs.env.terms.Forms.constructor_kind.Goals as goal

pub returns-then-has-clause-made : goal.returns-then-has-clause-made
returns-then-has-clause-made c = λ defs forms.
    subst (λ made. AreShownAs (IsShownConstructor c.args.tyenv.now.names) made (Some InternalConstructor))
    (sym (by_rules_form defs c.args.name.now (sym (c.has.ensures _ forms.roots) ∙ c.if-has.true))) tt

pub returns-in_default-clause-made : goal.returns-in_default-clause-made
returns-in_default-clause-made c = λ defs forms.
    subst (λ made. AreShownAs (IsShownConstructor c.args.tyenv.now.names) made None)
    (sym (hosted_form defs c.args.name.now c.args.self.now.constructors.now None (sym (c.has.ensures _ forms.roots) ∙ c.if-has.false)
    forms.constructors (sym (c.place.ensures _ forms.constructor_table) ∙ c.in_default.is))) tt

pub returns-then-place-self-clause-made : goal.returns-then-place-self-clause-made
returns-then-place-self-clause-made c = λ defs forms.
    subst (λ made. AreShownAs (IsShownConstructor c.args.tyenv.now.names) made None)
    (sym (hosted_form defs c.args.name.now c.args.self.now.constructors.now (Some c.in-Some.place)
    (sym (c.has.ensures _ forms.roots) ∙ c.if-has.false) forms.constructors (sym (c.place.ensures _ forms.constructor_table) ∙ c.in-Some.is)
    ∙ ap (option_map (λ (host : HostConstructor). external_constructor host.function.now.0))
    (none_past c.args.self.now.constructors.now c.in-Some.place c.if-place-self.true))) tt

pub returns-clause-made : goal.returns-clause-made
returns-clause-made c = λ defs forms.
    subst (λ made. AreShownAs (IsShownConstructor c.intern_mut.new.self.names) made (Some (ExternalConstructor c.in_ok-intern_mut.field-0)))
    (sym (hosted_form defs c.args.name.now c.args.self.now.constructors.now (Some c.in-Some.place)
    (sym (c.has.ensures _ forms.roots) ∙ c.if-has.false) forms.constructors (sym (c.place.ensures _ forms.constructor_table) ∙ c.in-Some.is)
    ∙ ap (option_map (λ (host : HostConstructor). external_constructor host.function.now.0))
    (read_at c.args.self.now.constructors.now c.in-Some.place _ c.if-place-self.false c.index-self-place.is)))
    (subst (λ (host : HostConstructor). slice_get c.intern_mut.new.self.names c.in_ok-intern_mut.field-0.0 ≡ Some host.function.now.0)
    (sym c.index-self-place.is) c.in_ok-intern_mut.ensures.symbol)
