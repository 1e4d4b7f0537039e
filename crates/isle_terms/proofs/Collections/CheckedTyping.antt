-- What the checks of definitions one by one add are faults of typing, whatever the errors before; where they add none, the rules are kept.
use Rattle.std.proofs.Common.{◌≡◌, ℕ, ◌+◌, ◌≤◌, Bool, true, false, List, [], ◌∷◌, ◌++◌, map, take, length, slice_get, Some, refl, sym, subst}
use Rattle.std.specs.Prelude.{All}
use Rattle.std.proofs.lemmas.List.{take_all}
use Rattle.std.proofs.lemmas.List.Elements.{All-push}
use Rattle.isle_ast.specs.declared.ast.Ident.{Ident}
use Rattle.isle_ast.specs.declared.ast.Decl.{Decl as DeclTree}
use Rattle.isle_ast.specs.declared.ast.Rule.{Rule as RuleTree}
use Rattle.isle_ast.specs.declared.ast.Extractor.{Extractor as ExtractorTree}
use Rattle.isle_ast.specs.declared.ast.Def.{Def}
use Rattle.isle_ast.specs.declared.pos.Pos.{Pos}
use Rattle.isle_ast.specs.declared.error.Error.{Error}
use Rattle.isle_ast.specs.declared.error.Error.TheVariants.{TypeError}
use Rattle.isle_ast.specs.Errors.{span_at}
use Rattle.isle_types.specs.Names.{AreDistinct}
use Rattle.isle_types.specs.Environment.{Environment}
use Rattle.isle_containers.proofs.Lists.{taken_more}
use Rattle.isle_rules.specs.Signatures.{Signature}
use Rattle.isle_rules.specs.Definitions.{ExternalExtractor, declarations, rules_in, extractors_in, external_constructors, external_extractors}
use Rattle.isle_rules.specs.Definitions.{roots_of, AreTerms, names_of_terms, IsDefined, extractor_names, external_constructor_names}
use Rattle.isle_rules.specs.Definitions.{KeepExtractorRules, KeepConstructorRules}
use Rattle.isle_terms.specs.TermFaults.{names_of, IsTaken, named_terms, named_extractors, ConverterBreaks, term_twice}
use Rattle.isle_terms.specs.TypingFaults.{BreaksTyping, of_declarations, of_constructors, of_extractors, of_converters, of_no_use}
use Rattle.isle_terms.specs.TypingFaults.{of_rule_names, named_rules}
use Rattle.isle_terms.specs.Inside.Collecting.Checks.{Checks, IsIllAt}
use Rattle.isle_terms.specs.Inside.Collecting.DefinitionChecks.{is_ill_root, is_ill_host, is_ill_extractor, is_ill_name, is_unused, is_ill_marked}
use Rattle.isle_terms.specs.Inside.Collecting.ExtractorChecks.{Adds, NamesUnknown, NamesKnown}
use Rattle.isle_terms.specs.Inside.Collecting.ExtractorGraphs.{IsRecursiveAt, IsNotRecursive}
use Rattle.isle_terms.proofs.Collections.AddedErrors.{adds_one, adds_by, adds_both, adds_checks, checks_adds}
use Rattle.isle_terms.proofs.Collections.CheckedDefinitions.{extractors_named, hosts_named, constructors_kept, extractors_kept}
use Rattle.isle_rules.specs.Definitions.{declared_names}
use Rattle.isle_terms.specs.Inside.Collecting.Parts.{HasRootAmong}
use Rattle.isle_terms.proofs.Collections.CheckedDefinitions.{ill_root_breaks}
use Rattle.isle_terms.proofs.Collections.CheckedDefinitions.{roots_kept, ill_host_breaks, second_host_breaks}
use Rattle.isle_terms.proofs.Collections.CheckedDefinitions.{ill_extractor_breaks, ill_name_breaks, second_extractor_breaks, unknown_name_breaks}
use Rattle.isle_terms.proofs.Collections.CheckedDefinitions.{recursion_breaks, unused_breaks, uses_kept, ill_marks_break, marks_kept}

-- a check by one rule is one by a wider rule, and what it keeps may be said otherwise
pub checks_wider : {Broken Wider : Pos → Type 0} {Kept Then : Type 0} {old new : List Error} → ((at : Pos) → Broken at → Wider at) → (Kept → Then)
    → Checks Broken Kept old new → Checks Wider Then old new
checks_wider {Broken} {Wider} {Kept} {Then} {old} {new} wider more checks =
    adds_checks Wider Then old new (adds_by Broken Wider Kept Then old new wider more (checks_adds Broken Kept old new checks))

-- what a check adds by one rule is added by a wider one, and what it keeps may be said otherwise
pub adds_wider : {Broken Wider : Pos → Type 0} {Kept Then : Type 0} {old new : List Error} → ((at : Pos) → Broken at → Wider at) → (Kept → Then)
    → Adds Broken Kept old new → Adds Wider Then old new
adds_wider {Broken} {Wider} {Kept} {Then} {old} {new} wider more adds = adds_by Broken Wider Kept Then old new wider more adds

-- what each check adds is a fault of typing
module _ (types : Environment) (expands : Bool) (levels : ℕ) (defs : List Def) where
  -- errors that are added are faults of typing; where none is, the rule is kept
  abbrev pub AddsTyping : Type 0 → (old new : List Error) → Type 0
  AddsTyping Kept old new = Adds (BreaksTyping types expands levels defs) Kept old new

  -- what a check adds by a rule of which faults are faults of typing
  adds_typing : (Broken : Pos → Type 0) (Kept : Type 0) (old new : List Error) → ((at : Pos) → Broken at → BreaksTyping types expands levels defs at)
      → Adds Broken Kept old new → AddsTyping Kept old new
  adds_typing Broken Kept old new wider adds =
      adds_by Broken (BreaksTyping types expands levels defs) Kept Kept old new wider (λ kept. kept) adds

  -- where the terms are known, also what the checks of extractors and converters add
  module _ (terms : List Signature) (made : AreTerms types defs terms) where
    -- the check of internal extractors
    pub internal_add : (old new : List Error) (Kept : Type 0)
        → Adds (IsIllAt (extractors_in defs) (is_ill_extractor (declared_names defs) (declarations defs))
        (λ (extractor : ExtractorTree). extractor.pos))
        Kept old new → AddsTyping Kept old new
    internal_add old new Kept adds =
        adds_typing _ Kept old new (λ at ill. of_extractors at terms made (ill_extractor_breaks defs terms at ill)) adds

    -- the check of external extractors
    pub external_add : (old new : List Error) (Kept : Type 0)
        → Adds (IsIllAt (external_extractors defs) (is_ill_name (declared_names defs)) (λ (external : ExternalExtractor). external.pos)) Kept old new
        → AddsTyping Kept old new
    external_add old new Kept adds = adds_typing _ Kept old new (λ at ill. of_extractors at terms made (ill_name_breaks defs terms at ill)) adds

    -- the naming of extractors
    pub extractor_names_add : (old new : List Error) (Kept : Type 0) → Adds (IsTaken (named_extractors defs)) Kept old new → AddsTyping Kept old new
    extractor_names_add old new Kept adds =
        adds_typing _ Kept old new (λ at taken. of_extractors at terms made (second_extractor_breaks defs terms at taken)) adds

    -- the check of bodies
    pub bodies_add : (old new : List Error) (Kept : Type 0) → Adds (NamesUnknown (extractors_in defs) (names_of_terms terms)) Kept old new
        → AddsTyping Kept old new
    bodies_add old new Kept adds =
        adds_typing _ Kept old new (λ at broken. of_extractors at terms made (unknown_name_breaks defs terms at broken)) adds

    -- the check of recursion
    pub recursion_add : (old new : List Error) (Kept : Type 0) → Adds (IsRecursiveAt (extractors_in defs)) Kept old new → AddsTyping Kept old new
    recursion_add old new Kept adds =
        adds_typing _ Kept old new (λ at broken. of_extractors at terms made (recursion_breaks defs terms at broken)) adds

    -- the check of converters
    pub converters_add : (old new : List Error) (Kept : Type 0) → Adds (ConverterBreaks types defs terms) Kept old new → AddsTyping Kept old new
    converters_add old new Kept adds = adds_typing _ Kept old new (λ at broken. of_converters at terms made broken) adds

    -- all that is checked of extractors, one check after the other
    pub extractors_add : (e0 e1 e2 e3 e4 e5 : List Error)
        → Adds (IsIllAt (extractors_in defs) (is_ill_extractor (declared_names defs) (declarations defs))
        (λ (extractor : ExtractorTree). extractor.pos))
        (All (λ (extractor : ExtractorTree). is_ill_extractor (declared_names defs) (declarations defs) extractor ≡ false) (extractors_in defs)) e0 e1
        → Adds (IsIllAt (external_extractors defs) (is_ill_name (declared_names defs)) (λ (external : ExternalExtractor). external.pos))
        (All (λ (external : ExternalExtractor). is_ill_name (declared_names defs) external ≡ false) (external_extractors defs)) e1 e2
        → Adds (IsTaken (named_extractors defs)) (AreDistinct (names_of (named_extractors defs))) e2 e3
        → Adds (NamesUnknown (extractors_in defs) (names_of_terms terms)) (NamesKnown (extractors_in defs) (names_of_terms terms)) e3 e4
        → Adds (IsRecursiveAt (extractors_in defs)) (IsNotRecursive (extractors_in defs)) e4 e5 → AddsTyping (KeepExtractorRules defs terms) e0 e5
    extractors_add e0 e1 e2 e3 e4 e5 internal external once known acyclic =
        let Broken = BreaksTyping types expands levels defs in
        let two = adds_both Broken _ _ e0 e1 e2 (internal_add e0 e1 _ internal) (external_add e1 e2 _ external) in
        let three = adds_both Broken _ _ e0 e2 e3 two (extractor_names_add e2 e3 _ once) in
        let four = adds_both Broken _ _ e0 e3 e4 three (bodies_add e3 e4 _ known) in
        adds_wider (λ _ broken. broken)
        (λ all. extractors_kept defs terms all.0.0.0.0 all.0.0.0.1 (subst AreDistinct (extractors_named defs) all.0.0.1) all.0.1 all.1)
        (adds_both Broken _ _ e0 e4 e5 four (recursion_add e4 e5 _ acyclic))
