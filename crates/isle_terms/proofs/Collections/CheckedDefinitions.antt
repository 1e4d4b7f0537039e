-- What the checks of definitions one by one report breaks a rule of terms; where they report nothing, the rule is kept.
use Rattle.std.proofs.Common.{◌≡◌, ℕ, inl, inr, true, false, cond, List, [], ◌∷◌, ◌++◌, map, Option, None, Some, is_some, refl, ap, sym}
use Rattle.std.proofs.Common.{subst, ◌∙◌, slice_get, bytes_eq}
use Rattle.std.specs.Prelude.{All, unwrap_or, not, ◌&&◌, ◌||◌}
use Rattle.std.specs.Option.{option_map}
use Rattle.std.proofs.lemmas.Bool.{false≢true, true≢false, not-true, not-false, and_parts, and_cases, or_cases, or_parts, or_from, or_left, or_right}
use Rattle.std.proofs.lemmas.List.{map-append}
use Rattle.std.proofs.lemmas.List.Elements.{All-weaker}
use Rattle.isle_ast.specs.declared.ast.Ident.{Ident}
use Rattle.isle_ast.specs.declared.ast.Decl.{Decl as DeclTree}
use Rattle.isle_ast.specs.declared.ast.Rule.{Rule as RuleTree}
use Rattle.isle_ast.specs.declared.ast.Extractor.{Extractor as ExtractorTree}
use Rattle.isle_ast.specs.declared.ast.Def.{Def}
use Rattle.isle_ast.specs.declared.pos.Pos.{Pos}
use Rattle.isle_ast.specs.Trees.PatternShape.{pattern_of}
use Rattle.isle_types.specs.Names.{position_of, AreDistinct}
use Rattle.isle_types.specs.Environment.{Environment}
use Rattle.isle_types.proofs.Zipped.{mapped_at, all_at}
use Rattle.isle_types.proofs.NamePlaces.{place_found}
use Rattle.isle_rules.specs.Signatures.{by_rules, external_constructor, Signature}
use Rattle.isle_rules.specs.Definitions.{IsAmong, ExternalExtractor, declarations, rules_in, extractors_in, external_constructors}
use Rattle.isle_rules.specs.Definitions.{declared_names, external_extractors, root_name, roots_of, is_among, function_for, template_for, external_extractor_for}
use Rattle.isle_rules.specs.Definitions.{first_of, constructor_for, extractor_for, names_of_terms, IsDeclared, IsTerm, term_names}
use Rattle.isle_rules.specs.Definitions.{extractor_names, external_constructor_names, KeepExtractorRules, KeepConstructorRules, IsDefined}
use Rattle.isle_terms.specs.TermFaults.{names_of, IsTaken, DeclarationBreaks, multi_and_partial, IsUndeclared, named_extractors, ExtractorBreaks}
use Rattle.isle_terms.specs.TermFaults.{internal_of_no_declared_term, external_of_no_declared_term, second_extractor, internal_of_multi}
use Rattle.isle_terms.specs.TermFaults.{body_of_unknown_term, recursive, ConstructorBreaks, root_is_no_term, root_is_not_declared}
use Rattle.isle_terms.specs.TermFaults.{external_is_not_declared, external_has_rules, second_external, IsUndefined}
use Rattle.isle_terms.specs.Inside.Collecting.Checks.{IsIllAt}
use Rattle.isle_terms.specs.Inside.Collecting.Parts.{HasRootAmong}
use Rattle.isle_terms.specs.Inside.Collecting.DefinitionChecks.{is_named, is_unknown_root, is_ill_root, is_ill_host, is_multi_at, is_ill_extractor}
use Rattle.isle_terms.specs.Inside.Collecting.DefinitionChecks.{is_ill_name}
use Rattle.isle_terms.specs.Inside.Collecting.DefinitionChecks.{is_unused, is_ill_marked}
use Rattle.isle_terms.specs.Inside.Collecting.ExtractorChecks.{NamesUnknown, NamesKnown}
use Rattle.isle_terms.specs.Inside.Collecting.ExtractorGraphs.{IsRecursiveAt, IsNotRecursive}
use Rattle.isle_terms.proofs.Collections.ExtractorBodies.{among_of_map}
use Rattle.isle_rules.proofs.AmongNames.{found_among, member_is_among, among_is_member}
use Rattle.isle_terms.proofs.Collections.NamedPlaces.{template_form, external_form}

-- a name that is found among names occurs
occurs : (names : List (List ℕ)) (name : List ℕ) → is_named names name ≡ true → IsAmong names name
occurs names name found = among_is_member names name (sym (found_among names name) ∙ found)

-- a name that isn't found doesn't
absent : (names : List (List ℕ)) (name : List ℕ) → is_named names name ≡ false → IsAmong names name → ⊥
absent names name missing among = false≢true (sym missing ∙ found_among names name ∙ member_is_among names name among)

-- no declaration is of a name that isn't found
undeclared : (defs : List Def) (name : List ℕ) → is_named (declared_names defs) name ≡ false → IsUndeclared defs name
undeclared defs name missing = λ decl among same. absent (declared_names defs) name missing
    (subst (IsAmong (declared_names defs)) same (among_of_map (λ (other : DeclTree). other.term.0) (declarations defs) decl among))

-- a declaration is of a name that is found
declared : (defs : List Def) (term : Ident) → is_named (declared_names defs) term.0 ≡ true → IsDeclared defs term (λ _. Unit {0})
declared defs term found =
    let among = occurs (declared_names defs) term.0 found in
    let at = mapped_at (λ (other : DeclTree). other.term.0) (declarations defs) among.0 term.0 among.1 in
    (at.0, (among.0, at.1), at.2, tt)

-- the names of pairs that are made of items
pub names_of_pairs : {X : Type 0} (named : X → List ℕ) (pos_of : X → Pos) (xs : List X) → names_of (map (λ x. (named x, pos_of x)) xs) ≡ map named xs
names_of_pairs named pos_of [] = refl
names_of_pairs named pos_of (x ∷ xs) = ap (λ others. named x ∷ others) (names_of_pairs named pos_of xs)

-- the names that are given to extractors are those of their pairs
pub extractors_named : (defs : List Def) → names_of (named_extractors defs) ≡ extractor_names defs
extractors_named defs =
    let internal = map (λ (extractor : ExtractorTree). (extractor.term.0, extractor.pos)) (extractors_in defs) in
    let external = map (λ (other : ExternalExtractor). (other.term.0, other.pos)) (external_extractors defs) in
    map-append (λ (pair : List ℕ × Pos). pair.0) internal external
    ∙ ap (λ front. front ++ names_of external)
    (names_of_pairs (λ (extractor : ExtractorTree). extractor.term.0) (λ (extractor : ExtractorTree). extractor.pos) (extractors_in defs))
    ∙ ap (λ back. map (λ (extractor : ExtractorTree). extractor.term.0) (extractors_in defs) ++ back)
    (names_of_pairs (λ (other : ExternalExtractor). other.term.0) (λ (other : ExternalExtractor). other.pos) (external_extractors defs))

-- so are those of external constructors
pub hosts_named : (defs : List Def)
    → names_of (map (λ (external : Ident × Ident). (external.0.0, external.0.1)) (external_constructors defs)) ≡ external_constructor_names defs
hosts_named defs =
    names_of_pairs (λ (external : Ident × Ident). external.0.0) (λ (external : Ident × Ident). external.0.1) (external_constructors defs)

-- and those of declarations
pub declarations_named : (defs : List Def)
    → names_of (map (λ (decl : DeclTree). (decl.term.0, decl.pos)) (declarations defs)) ≡ declared_names defs
declarations_named defs = names_of_pairs (λ (decl : DeclTree). decl.term.0) (λ (decl : DeclTree). decl.pos) (declarations defs)

-- a rule that is reported for its root breaks a rule of roots
pub ill_root_breaks : (defs : List Def) (at : Pos)
    → IsIllAt (rules_in defs) (is_ill_root (declared_names defs)) (λ (rule : RuleTree). rule.pos) at → ConstructorBreaks defs at
ill_root_breaks defs at ill = subst (ConstructorBreaks defs) (sym ill.3) (by_root (root_name (pattern_of ill.0.pattern)) refl ill.2)
  where
    by_root : (root : Option (List ℕ)) → root_name (pattern_of ill.0.pattern) ≡ root → is_unknown_root (declared_names defs) root ≡ true
        → ConstructorBreaks defs ill.0.pos
    by_root None is unknown = root_is_no_term ill.0 ill.1 is
    by_root (Some name) is unknown = root_is_not_declared ill.0 name ill.1 is (undeclared defs name (not-true _ unknown))

-- a root that isn't unknown is one of the names
known_root : (names : List (List ℕ)) (rule : RuleTree) (root : Option (List ℕ)) → root_name (pattern_of rule.pattern) ≡ root
    → is_unknown_root names root ≡ false → HasRootAmong names rule
known_root names rule None is known = absurd (true≢false known)
known_root names rule (Some name) is known = (name, is, occurs names name (not-false _ known))

-- where no rule is reported for its root, the roots are declared terms
pub roots_kept : (defs : List Def) → All (λ (rule : RuleTree). is_ill_root (declared_names defs) rule ≡ false) (rules_in defs)
    → All (HasRootAmong (declared_names defs)) (rules_in defs)
roots_kept defs kept =
    All-weaker (λ (rule : RuleTree). is_ill_root (declared_names defs) rule ≡ false) (HasRootAmong (declared_names defs))
    (λ rule well. known_root (declared_names defs) rule (root_name (pattern_of rule.pattern)) refl well) (rules_in defs) kept

-- an external constructor that is reported breaks a rule of constructors
pub ill_host_breaks : (defs : List Def) (at : Pos)
    → IsIllAt (external_constructors defs) (is_ill_host (declared_names defs) (roots_of (rules_in defs))) (λ (host : Ident × Ident). host.0.1) at
    → ConstructorBreaks defs at
ill_host_breaks defs at ill = subst (ConstructorBreaks defs) (sym ill.3)
    (elim (or_cases (not (is_named (declared_names defs) ill.0.0.0)) (is_named (roots_of (rules_in defs)) ill.0.0.0) ill.2) [
      | inl unknown ↦ external_is_not_declared ill.0 ill.1 (undeclared defs ill.0.0.0 (not-true _ unknown))
      | inr ruled ↦ external_has_rules ill.0 ill.1 (occurs (roots_of (rules_in defs)) ill.0.0.0 ruled)
    ])

-- a second external constructor of a term breaks a rule of constructors
pub second_host_breaks : (defs : List Def) (at : Pos)
    → IsTaken (map (λ (external : Ident × Ident). (external.0.0, external.0.1)) (external_constructors defs)) at → ConstructorBreaks defs at
second_host_breaks defs at taken = second_external at taken

-- where no external constructor is reported, the rules of external constructors are kept
pub constructors_kept : (defs : List Def)
    → All (λ (host : Ident × Ident). is_ill_host (declared_names defs) (roots_of (rules_in defs)) host ≡ false) (external_constructors defs)
    → AreDistinct (external_constructor_names defs) → KeepConstructorRules defs
constructors_kept defs kept once = record {
  declared = All-weaker (λ (host : Ident × Ident). is_ill_host (declared_names defs) (roots_of (rules_in defs)) host ≡ false)
      (λ (host : Ident × Ident). IsDeclared defs host.0 (λ _. Unit {0}))
      (λ host well. declared defs host.0 (not-false _ (or_parts _ _ well).0)) (external_constructors defs) kept;
  once = once;
  unruled = λ name among ruled.
      let host = mapped_at (λ (external : Ident × Ident). external.0.0) (external_constructors defs) among.0 name among.1 in
      let well = all_at (λ (host : Ident × Ident). is_ill_host (declared_names defs) (roots_of (rules_in defs)) host ≡ false)
      (external_constructors defs) kept among.0 host.0 host.1 in
      absent (roots_of (rules_in defs)) name
      (ap (is_named (roots_of (rules_in defs))) (sym host.2)
      ∙ (or_parts (not (is_named (declared_names defs) host.0.0.0)) (is_named (roots_of (rules_in defs)) host.0.0.0) well).1) ruled;
}

-- the declaration at a place of an extractor's name
declared_at : (defs : List Def) (term : Ident) (place : ℕ) → position_of (declared_names defs) term.0 ≡ Some place
    → (decl : DeclTree) × (slice_get (declarations defs) place ≡ Some decl) × (decl.term.0 ≡ term.0)
declared_at defs term place found =
    mapped_at (λ (other : DeclTree). other.term.0) (declarations defs) place term.0 (place_found (declared_names defs) term.0 place found)

-- what is read at a place is whether the declaration there is `multi`
multi_there : (decls : List DeclTree) (place : ℕ) (decl : DeclTree) → slice_get decls place ≡ Some decl → is_multi_at decls (Some place) ≡ decl.multi
multi_there decls place decl at = ap (λ o. unwrap_or (option_map (λ (other : DeclTree). other.multi) o) false) at

-- an internal extractor that is reported breaks a rule of extractors
pub ill_extractor_breaks : (defs : List Def) (terms : List Signature) (at : Pos)
    → IsIllAt (extractors_in defs) (is_ill_extractor (declared_names defs) (declarations defs)) (λ (extractor : ExtractorTree). extractor.pos) at
    → ExtractorBreaks defs terms at
ill_extractor_breaks defs terms at ill =
    subst (ExtractorBreaks defs terms) (sym ill.3) (by_place (position_of (declared_names defs) ill.0.term.0) refl ill.2)
  where
    by_place : (o : Option ℕ) → position_of (declared_names defs) ill.0.term.0 ≡ o → is_multi_at (declarations defs) o ≡ true
        → ExtractorBreaks defs terms ill.0.pos
    by_place None missing multi = internal_of_no_declared_term ill.0 ill.1 (undeclared defs ill.0.term.0 (ap is_some missing))
    by_place (Some place) found multi =
        let decl = declared_at defs ill.0.term place found in
        internal_of_multi ill.0 decl.0 ill.1 (place, decl.1) decl.2 (sym (multi_there (declarations defs) place decl.0 decl.1) ∙ multi)

-- an external extractor that is reported breaks a rule of extractors
pub ill_name_breaks : (defs : List Def) (terms : List Signature) (at : Pos)
    → IsIllAt (external_extractors defs) (is_ill_name (declared_names defs)) (λ (external : ExternalExtractor). external.pos) at
    → ExtractorBreaks defs terms at
ill_name_breaks defs terms at ill =
    subst (ExtractorBreaks defs terms) (sym ill.3)
    (external_of_no_declared_term ill.0 ill.1 (undeclared defs ill.0.term.0 (not-true _ ill.2)))

-- a second extractor of a term breaks a rule of extractors
pub second_extractor_breaks : (defs : List Def) (terms : List Signature) (at : Pos) → IsTaken (named_extractors defs) at
    → ExtractorBreaks defs terms at
second_extractor_breaks defs terms at taken = second_extractor at taken

-- a body that names an unknown term breaks a rule of extractors
pub unknown_name_breaks : (defs : List Def) (terms : List Signature) (at : Pos) → NamesUnknown (extractors_in defs) (names_of_terms terms) at
    → ExtractorBreaks defs terms at
unknown_name_breaks defs terms at broken =
    body_of_unknown_term broken.extractor broken.name at broken.among broken.named
    (λ among. false≢true (sym broken.unknown ∙ member_is_among (names_of_terms terms) broken.name among))

-- an extractor that comes to its own term breaks a rule of extractors
pub recursion_breaks : (defs : List Def) (terms : List Signature) (at : Pos) → IsRecursiveAt (extractors_in defs) at → ExtractorBreaks defs terms at
recursion_breaks defs terms at broken =
    subst (ExtractorBreaks defs terms) (sym broken.here) (recursive broken.extractor broken.among broken.recursive)

-- an internal extractor that isn't reported is of a declared term that is not `multi`
well_extractor : (defs : List Def) (extractor : ExtractorTree) → is_ill_extractor (declared_names defs) (declarations defs) extractor ≡ false
    → IsDeclared defs extractor.term (λ flags. flags.multi ≡ false)
well_extractor defs extractor = by_place (position_of (declared_names defs) extractor.term.0) refl
  where
    by_place : (o : Option ℕ) → position_of (declared_names defs) extractor.term.0 ≡ o → is_multi_at (declarations defs) o ≡ false
        → IsDeclared defs extractor.term (λ flags. flags.multi ≡ false)
    by_place None missing well = absurd (true≢false well)
    by_place (Some place) found well =
        let decl = declared_at defs extractor.term place found in
        (decl.0, (place, decl.1), decl.2, sym (multi_there (declarations defs) place decl.0 decl.1) ∙ well)

-- where nothing is reported of extractors, the rules of extractors are kept
pub extractors_kept : (defs : List Def) (terms : List Signature)
    → All (λ (extractor : ExtractorTree). is_ill_extractor (declared_names defs) (declarations defs) extractor ≡ false) (extractors_in defs)
    → All (λ (external : ExternalExtractor). is_ill_name (declared_names defs) external ≡ false) (external_extractors defs)
    → AreDistinct (extractor_names defs) → NamesKnown (extractors_in defs) (names_of_terms terms) → IsNotRecursive (extractors_in defs)
    → KeepExtractorRules defs terms
extractors_kept defs terms internal external once known acyclic = record {
  internal = All-weaker (λ (extractor : ExtractorTree). is_ill_extractor (declared_names defs) (declarations defs) extractor ≡ false)
      (λ (extractor : ExtractorTree). IsDeclared defs extractor.term (λ flags. flags.multi ≡ false)) (well_extractor defs)
      (extractors_in defs) internal;
  external = All-weaker (λ (external : ExternalExtractor). is_ill_name (declared_names defs) external ≡ false)
      (λ (external : ExternalExtractor). IsDeclared defs external.term (λ _. Unit {0}))
      (λ external well. declared defs external.term (not-false _ well)) (external_extractors defs) external;
  once = once;
  known = All-weaker (λ (extractor : ExtractorTree). All (λ (name : List ℕ). is_among name (names_of_terms terms) ≡ true)
      (term_names (pattern_of extractor.template)))
      (λ (extractor : ExtractorTree). All (IsTerm terms) (term_names (pattern_of extractor.template)))
      (λ extractor names. All-weaker (λ (name : List ℕ). is_among name (names_of_terms terms) ≡ true) (IsTerm terms)
      (among_is_member (names_of_terms terms)) (term_names (pattern_of extractor.template)) names) (extractors_in defs) known;
  acyclic = acyclic;
}

-- what is made of something that may be there is there as well
some_mapped : {X Y : Type 0} (f : X → Y) (o : Option X) → is_some (option_map f o) ≡ is_some o
some_mapped f None = refl
some_mapped f (Some x) = refl

-- the first of two is there where either is
some_first : {X : Type 0} (first second : Option X) → is_some (first_of first second) ≡ (is_some first || is_some second)
some_first None second = refl
some_first (Some x) second = refl

-- what is not there is none
none_there : {X : Type 0} (o : Option X) → is_some o ≡ false → o ≡ None
none_there None missing = refl
none_there (Some x) missing = absurd (true≢false missing)

-- a search for the first item of a name finds one where the name is among those of the items
search_finds : {X Y : Type 0} (named : X → List ℕ) (value : X → Y) (name : List ℕ) (search_in : List X → Option Y) → search_in [] ≡ None
    → ((x : X) (xs : List X) → search_in (x ∷ xs) ≡ cond (bytes_eq (named x) name) (Some (value x)) (search_in xs)) → (xs : List X)
    → is_some (search_in xs) ≡ is_among name (map named xs)
search_finds named value name search_in none more [] = ap is_some none
search_finds named value name search_in none more (x ∷ xs) =
    ap is_some (more x xs) ∙ elim (bytes_eq (named x) name) as
    (λ b. is_some (cond b (Some (value x)) (search_in xs)) ≡ cond b true (is_among name (map named xs))) [
      | true ↦ refl
      | false ↦ search_finds named value name search_in none more xs
    ]

-- a name is among two lists of names where it is among either
among_either : (name : List ℕ) (xs ys : List (List ℕ)) → is_among name (xs ++ ys) ≡ (is_among name xs || is_among name ys)
among_either name [] ys = refl
among_either name (x ∷ xs) ys =
    elim (bytes_eq x name) as (λ b. cond b true (is_among name (xs ++ ys)) ≡ (cond b true (is_among name xs) || is_among name ys)) [
      | true ↦ refl
      | false ↦ among_either name xs ys
    ]

-- a declared term has a constructor where its name is that of a root or of an external constructor
pub constructor_found : (defs : List Def) (name : List ℕ)
    → is_some (constructor_for defs name) ≡ (is_named (roots_of (rules_in defs)) name || is_named (external_constructor_names defs) name)
constructor_found defs name =
    elim (is_among name (roots_of (rules_in defs))) as
    (λ b. is_some (cond b (Some by_rules) (option_map external_constructor (function_for (external_constructors defs) name)))
    ≡ (b || is_among name (external_constructor_names defs))) [
      | true ↦ refl
      | false ↦ some_mapped external_constructor (function_for (external_constructors defs) name)
          ∙ search_finds (λ (pair : Ident × Ident). pair.0.0) (λ (pair : Ident × Ident). pair.1.0) name (λ others. function_for others name) refl
          (λ first others. refl) (external_constructors defs)
    ]
    ∙ ap (λ b. b || is_among name (external_constructor_names defs)) (sym (found_among (roots_of (rules_in defs)) name))
    ∙ ap (λ b. is_named (roots_of (rules_in defs)) name || b) (sym (found_among (external_constructor_names defs) name))

-- a declared term has an extractor where its name is that of an internal or external one
pub extractor_found : (defs : List Def) (name : List ℕ) → is_some (extractor_for defs name) ≡ is_named (extractor_names defs) name
extractor_found defs name =
    let internal = map (λ (extractor : ExtractorTree). extractor.term.0) (extractors_in defs) in
    let external = map (λ (external : ExternalExtractor). external.term.0) (external_extractors defs) in
    some_first (template_for (extractors_in defs) name) (external_extractor_for (external_extractors defs) name)
    ∙ ap (λ b. b || is_some (external_extractor_for (external_extractors defs) name))
    (search_finds (λ (extractor : ExtractorTree). extractor.term.0) template_form name (λ others. template_for others name) refl
    (λ first others. refl) (extractors_in defs))
    ∙ ap (λ b. is_among name internal || b)
    (search_finds (λ (other : ExternalExtractor). other.term.0) external_form name (λ others. external_extractor_for others name) refl
    (λ first others. refl) (external_extractors defs))
    ∙ sym (among_either name internal external) ∙ sym (found_among (extractor_names defs) name)

-- a declared term that is reported for having no use is undefined
pub unused_breaks : (defs : List Def) (at : Pos)
    → IsIllAt (declarations defs) (is_unused (roots_of (rules_in defs)) (external_constructor_names defs) (extractor_names defs))
    (λ (decl : DeclTree). decl.pos) at → IsUndefined defs at
unused_breaks defs at ill =
    let name = ill.0.term.0 in
    let parts = and_parts (not (is_named (roots_of (rules_in defs)) name))
    (not (is_named (external_constructor_names defs) name) && not (is_named (extractor_names defs) name)) ill.2 in
    let others = and_parts (not (is_named (external_constructor_names defs) name)) (not (is_named (extractor_names defs) name)) parts.1 in
    record {
      decl = ill.0;
      among = ill.1;
      no_constructor = none_there (constructor_for defs name)
          (constructor_found defs name ∙ or_from _ _ (not-true _ parts.0) (not-true _ others.0));
      no_extractor = none_there (extractor_for defs name) (extractor_found defs name ∙ not-true _ others.1);
      here = ill.3;
    }

-- a declared term that isn't reported can be used
used_defined : (defs : List Def) (decl : DeclTree)
    → is_unused (roots_of (rules_in defs)) (external_constructor_names defs) (extractor_names defs) decl ≡ false → IsDefined defs decl
used_defined defs decl used =
    let name = decl.term.0 in
    let ruled = is_named (roots_of (rules_in defs)) name in
    let hosted = is_named (external_constructor_names defs) name in
    let taken = is_named (extractor_names defs) name in
    elim (and_cases (not ruled) (not hosted && not taken) used) [
      | inl is ↦ inl (constructor_found defs name ∙ or_left ruled hosted (not-false ruled is))
      | inr others ↦ elim (and_cases (not hosted) (not taken) others) [
        | inl is ↦ inl (constructor_found defs name ∙ or_right ruled hosted (not-false hosted is))
        | inr is ↦ inr (extractor_found defs name ∙ not-false taken is)
      ]
    ]

-- where no declared term is reported for having no use, each can be used
pub uses_kept : (defs : List Def)
    → All (λ (decl : DeclTree). is_unused (roots_of (rules_in defs)) (external_constructor_names defs) (extractor_names defs) decl ≡ false)
    (declarations defs) → All (IsDefined defs) (declarations defs)
uses_kept defs kept =
    All-weaker (λ (decl : DeclTree). is_unused (roots_of (rules_in defs)) (external_constructor_names defs) (extractor_names defs) decl ≡ false)
    (IsDefined defs) (used_defined defs) (declarations defs) kept

-- a declaration that is reported for its marks breaks a rule of declarations
pub ill_marks_break : (types : Environment) (defs : List Def) (at : Pos)
    → IsIllAt (declarations defs) is_ill_marked (λ (decl : DeclTree). decl.pos) at → DeclarationBreaks types defs at
ill_marks_break types defs at ill =
    let marks = and_parts ill.0.multi ill.0.partial ill.2 in
    subst (DeclarationBreaks types defs) (sym ill.3) (multi_and_partial ill.0 ill.1 marks.0 marks.1)

-- a declaration that isn't reported has at most one of the marks
one_mark : (decl : DeclTree) → is_ill_marked decl ≡ false → decl.multi ≡ true → decl.partial ≡ false
one_mark decl well multi = elim (and_cases decl.multi decl.partial well) [
  | inl single ↦ absurd (false≢true (sym single ∙ multi))
  | inr total ↦ total
]

-- where no declaration is reported for its marks, none is `multi` and `partial`
pub marks_kept : (defs : List Def) → All (λ (decl : DeclTree). is_ill_marked decl ≡ false) (declarations defs)
    → All (λ (decl : DeclTree). decl.multi ≡ true → decl.partial ≡ false) (declarations defs)
marks_kept defs kept =
    All-weaker (λ (decl : DeclTree). is_ill_marked decl ≡ false) (λ (decl : DeclTree). decl.multi ≡ true → decl.partial ≡ false) one_mark
    (declarations defs) kept
