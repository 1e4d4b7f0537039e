use Rattle.std.proofs.Common.{◌∙◌, ap, subst, map, Bor}
use Rattle.isle_ast.specs.declared.ast.Decl.{Decl as DeclTree}
use Rattle.isle_ast.specs.declared.ast.Extractor.{Extractor as ExtractorTree}
use Rattle.isle_rules.specs.Definitions.{ExternalExtractor, declared_names, extractors_in, names_of_terms}
use Rattle.isle_terms.specs.Inside.Collecting.Checks.{Checks, ChecksEach}
use Rattle.isle_terms.specs.Inside.Collecting.DefinitionChecks.{is_ill_extractor, is_ill_name}
use Rattle.isle_terms.specs.Inside.Collecting.DefinitionLists.{host_extractor_shown}
use Rattle.isle_terms.specs.Inside.Collecting.ExtractorChecks.{NamesUnknown, NamesKnown}
use Rattle.isle_terms.specs.Inside.Collecting.ExtractorGraphs.{IsRecursiveAt, IsNotRecursive}
use Rattle.isle_terms.proofs.Collections.Answered.{ok_then}
use Rattle.isle_terms.proofs.Collections.LaterRules.{extractor_rules_checked}
use Rattle.isle_terms.proofs.env.stages.check_extractor_rules.Goals as goal

pub returns : goal.returns
returns c = λ types expands levels defs signatures are named made tabled.
    let decls = ap (map (λ (decl : Bor DeclTree). decl.now)) c.as_slice.ensures.value ∙ are.decls in
    let extractors = ap (map (λ (extractor : Bor ExtractorTree). extractor.now)) c.as_slice-extractors.ensures.value ∙ are.extractors in
    let hosts = ap (map host_extractor_shown) c.as_slice-2.ensures.value ∙ are.host_extractors in
    let names = declared_names defs in
    let known = names_of_terms signatures in
    let internal = subst (λ all. ChecksEach all (is_ill_extractor names (map (λ (decl : Bor DeclTree). decl.now) c.as_slice.result.now))
    (λ (extractor : ExtractorTree). extractor.pos) c.args.errors.now.items c.check_extractors.new.errors.items) extractors
    (c.in_ok-check_extractors.ensures names named.declared) in
    let external = subst (λ all. ChecksEach all (is_ill_name names) (λ (host : ExternalExtractor). host.pos) c.check_extractors.new.errors.items
    c.check_host_extractors.new.errors.items) hosts (c.in_ok-check_host_extractors.ensures names named.declared) in
    let bodies = subst (λ all. Checks (NamesUnknown all known) (NamesKnown all known) c.check_host_extractors.new.errors.items
    c.check_bodies.new.errors.items) extractors (c.in_ok-check_bodies.ensures known tabled) in
    ok_then c.check_recursion.result (λ acyclic. extractor_rules_checked types expands levels defs signatures made
    (subst (λ all. ChecksEach (extractors_in defs) (is_ill_extractor names all) (λ (extractor : ExtractorTree). extractor.pos)
    c.args.errors.now.items c.check_extractors.new.errors.items) decls internal) external bodies
    (subst (λ all. Checks (IsRecursiveAt all) (IsNotRecursive all) c.check_bodies.new.errors.items c.check_recursion.new.errors.items) extractors
    acyclic)) c.check_recursion.ensures
