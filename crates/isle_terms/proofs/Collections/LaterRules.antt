-- What is checked of definitions once their terms are made, one check after the other.
use Rattle.std.proofs.Common.{ℕ, Bool, List, []}
use Rattle.isle_ast.specs.declared.ast.Decl.{Decl as DeclTree}
use Rattle.isle_ast.specs.declared.ast.Extractor.{Extractor as ExtractorTree}
use Rattle.isle_ast.specs.declared.ast.Def.{Def}
use Rattle.isle_ast.specs.declared.error.Error.{Error}
use Rattle.isle_types.specs.declared.ids.TypeId.{TypeId}
use Rattle.isle_types.specs.declared.ids.TermId.{TermId}
use Rattle.isle_types.specs.Environment.{Environment}
use Rattle.isle_types.specs.Names.{AreDistinct}
use Rattle.isle_rules.specs.Signatures.{Signature}
use Rattle.isle_rules.specs.Definitions.{ExternalExtractor, declarations, rules_in, extractors_in, external_extractors, declared_names, roots_of}
use Rattle.isle_rules.specs.Definitions.{extractor_names, external_constructor_names, names_of_terms, AreTerms, KeepExtractorRules}
use Rattle.isle_terms.specs.TermFaults.{IsTaken, named_extractors, ConverterBreaks}
use Rattle.isle_terms.specs.TypingFaults.{BreaksTyping, of_extractors, of_converters, of_no_use}
use Rattle.isle_terms.specs.Inside.Collecting.Checks.{Checks, ChecksEach}
use Rattle.isle_terms.specs.Inside.Collecting.DefinitionChecks.{is_ill_extractor, is_ill_name, is_unused}
use Rattle.isle_terms.specs.Inside.Collecting.ExtractorChecks.{NamesUnknown, NamesKnown}
use Rattle.isle_terms.specs.Inside.Collecting.ExtractorGraphs.{IsRecursiveAt, IsNotRecursive}
use Rattle.isle_terms.specs.Inside.Collecting.MadeTerms.{KeepLaterRules}
use Rattle.isle_terms.specs.Inside.Collecting.ReadConverters.{AreReadConverters}
use Rattle.isle_terms.proofs.Collections.Checking.{check_both}
use Rattle.isle_terms.proofs.Collections.CheckedTyping.{checks_wider}
use Rattle.isle_terms.proofs.Collections.CheckedDefinitions.{ill_extractor_breaks, ill_name_breaks, second_extractor_breaks, unknown_name_breaks}
use Rattle.isle_terms.proofs.Collections.CheckedDefinitions.{recursion_breaks, extractors_kept, unused_breaks, uses_kept}

module _ (types : Environment) (expands : Bool) (levels : ℕ) (defs : List Def) (terms : List Signature) (made : AreTerms types defs terms) where
  -- internal extractors, then external ones, then the terms that bodies name, then that no term comes to itself
  pub extractor_rules_checked : {e0 e1 e2 e3 e4 : List Error}
      → ChecksEach (extractors_in defs) (is_ill_extractor (declared_names defs) (declarations defs)) (λ (extractor : ExtractorTree). extractor.pos)
      e0 e1
      → ChecksEach (external_extractors defs) (is_ill_name (declared_names defs)) (λ (external : ExternalExtractor). external.pos) e1 e2
      → Checks (NamesUnknown (extractors_in defs) (names_of_terms terms)) (NamesKnown (extractors_in defs) (names_of_terms terms)) e2 e3
      → Checks (IsRecursiveAt (extractors_in defs)) (IsNotRecursive (extractors_in defs)) e3 e4
      → Checks (BreaksTyping types expands levels defs) (AreDistinct (extractor_names defs) → KeepExtractorRules defs terms) e0 e4
  extractor_rules_checked internal external known acyclic =
      let one = checks_wider (λ at ill. of_extractors at terms made (ill_extractor_breaks defs terms at ill)) (λ kept. kept) internal in
      let two = checks_wider (λ at ill. of_extractors at terms made (ill_name_breaks defs terms at ill)) (λ kept. kept) external in
      let three = checks_wider (λ at broken. of_extractors at terms made (unknown_name_breaks defs terms at broken)) (λ kept. kept) known in
      let four = checks_wider (λ at broken. of_extractors at terms made (recursion_breaks defs terms at broken)) (λ kept. kept) acyclic in
      checks_wider (λ at broken. broken) (λ all once. extractors_kept defs terms all.0.0.0 all.0.0.1 once all.0.1 all.1)
      (check_both (check_both (check_both one two) three) four)

  -- the names of extractors, then their rules, then converters, then terms without a use
  pub later_rules_checked : {e0 e1 e2 e3 : List Error} (table : List ((TypeId × TypeId) × TermId))
      → Checks (IsTaken (named_extractors defs)) (AreDistinct (extractor_names defs)) [] e0
      → Checks (BreaksTyping types expands levels defs) (AreDistinct (extractor_names defs) → KeepExtractorRules defs terms) e0 e1
      → Checks (ConverterBreaks types defs terms) (AreReadConverters types defs terms table) e1 e2
      → ChecksEach (declarations defs) (is_unused (roots_of (rules_in defs)) (external_constructor_names defs) (extractor_names defs))
      (λ (decl : DeclTree). decl.pos) e2 e3
      → Checks (BreaksTyping types expands levels defs) (KeepLaterRules types defs terms table) [] e3
  later_rules_checked table names extractors converters uses =
      let named = checks_wider (λ at taken. of_extractors at terms made (second_extractor_breaks defs terms at taken)) (λ kept. kept) names in
      let converted = checks_wider (λ at broken. of_converters at terms made broken) (λ kept. kept) converters in
      let used = checks_wider (λ at ill. of_no_use at (unused_breaks defs at ill)) (uses_kept defs) uses in
      checks_wider (λ at broken. broken)
      (λ all. record { extractors = all.0.0.1 all.0.0.0; conversions = all.0.1; defined = all.1 })
      (check_both (check_both (check_both named extractors) converted) used)
