use Rattle.std.proofs.Common.{◌∙◌, ap, subst, map, Bor}
use Rattle.isle_ast.specs.declared.ast.Decl.{Decl as DeclTree}
use Rattle.isle_ast.specs.declared.ast.Converter.{Converter as ConverterTree}
use Rattle.isle_rules.specs.Definitions.{roots_of, rules_in, external_constructor_names, extractor_names}
use Rattle.isle_terms.specs.Inside.Collecting.Checks.{ChecksEach}
use Rattle.isle_terms.specs.Inside.Collecting.DefinitionChecks.{is_unused}
use Rattle.isle_terms.proofs.Collections.LaterRules.{later_rules_checked}
use Rattle.isle_terms.proofs.env.stages.check_terms.Goals as goal

pub returns : goal.returns
returns c = λ types expands levels defs signatures shows are named made tabled once.
    let decls = ap (map (λ (decl : Bor DeclTree). decl.now)) c.as_slice-decls.ensures.value ∙ are.decls in
    let converters = ap (map (λ (converter : Bor ConverterTree). converter.now)) c.as_slice.ensures.value ∙ are.converters in
    let unused = is_unused (roots_of (rules_in defs)) (external_constructor_names defs) (extractor_names defs) in
    later_rules_checked types expands levels defs signatures made c.in_ok-converters.converters once
    (c.in_ok-check_extractor_rules.ensures types expands levels defs signatures are named made tabled)
    (c.in_ok-converters.ensures types defs signatures shows tabled converters)
    (subst (λ all. ChecksEach all unused (λ (decl : DeclTree). decl.pos) c.collect_converters.new.errors.items c.check_defined.new.errors.items)
    decls (c.in_ok-check_defined.ensures (roots_of (rules_in defs)) (external_constructor_names defs) (extractor_names defs) named.roots
    named.host_constructors named.extractors))
