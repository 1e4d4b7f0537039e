use Rattle.std.proofs.Common.{◌∙◌, ap, subst, map, Bor}
use Rattle.isle_ast.specs.declared.ast.Decl.{Decl as DeclTree}
use Rattle.isle_ast.specs.declared.ast.Extractor.{Extractor as ExtractorTree}
use Rattle.isle_types.specs.TypeFaults.{IsSizeFault}
use Rattle.isle_terms.specs.Inside.Collecting.Checks.{Checks}
use Rattle.isle_terms.specs.Inside.Collecting.DefinitionLists.{host_constructor_shown, host_extractor_shown}
use Rattle.isle_terms.specs.Inside.Collecting.DeclaredTerms.{OneNamesUnknownType, AreDeclaredTerms, IsAlone, IsOneLargeAt}
use Rattle.isle_terms.proofs.Collections.Answered.{value_then, error_then, fault_then}
use Rattle.isle_terms.proofs.Collections.CheckedTyping.{checks_wider}
use Rattle.isle_terms.proofs.Collections.DeclaredFaults.{unknown_types_break, large_is_listed}
use Rattle.isle_terms.proofs.env.stages.declare.Goals as goal

pub returns-clause-made : goal.returns-clause-made
returns-clause-made c = λ types expands levels defs shows are named.
    let decls = ap (map (λ (decl : Bor DeclTree). decl.now)) c.as_slice-4.ensures.value ∙ are.decls in
    value_then c.declared_terms.result
    (λ terms checks. checks_wider (unknown_types_break types expands levels defs) (λ kept. kept)
    (subst (λ all. Checks (OneNamesUnknownType types all) (AreDeclaredTerms types defs c.declared_terms.new.tyenv.names all terms.items)
    c.args.errors.now.items c.declared_terms.new.errors.items) decls checks))
    (c.declared_terms.ensures.made types defs shows (record {
      roots = named.roots;
      constructors = ap (map host_constructor_shown) c.as_slice.ensures.value ∙ are.host_constructors;
      constructor_table = named.host_constructors;
      extractors = ap (map (λ (extractor : Bor ExtractorTree). extractor.now)) c.as_slice-2.ensures.value ∙ are.extractors;
      host_extractors = ap (map host_extractor_shown) c.as_slice-3.ensures.value ∙ are.host_extractors;
      extractor_table = named.extractors;
    }))

pub returns-clause-large : goal.returns-clause-large
returns-clause-large c = λ types expands levels max defs shows are.
    let decls = ap (map (λ (decl : Bor DeclTree). decl.now)) c.as_slice-4.ensures.value ∙ are.decls in
    error_then c.declared_terms.result
    (λ refusal lone. fault_then refusal (λ errors alone. large_is_listed types expands levels max defs errors.items
    (subst (λ all. IsAlone (IsSizeFault (IsOneLargeAt all)) errors.items) decls alone)) lone)
    (c.declared_terms.ensures.large types shows)
