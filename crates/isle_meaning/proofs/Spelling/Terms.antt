-- Positions decide nothing of what terms, converters and rules definitions make but the positions of what is made.
use Rattle.std.proofs.Common.{◌≡◌, ◌≤◌, ◌⊎◌, ℕ, List, ◌++◌, map, length, Bool, true, false, Option, None, Some, slice_get, is_some}
use Rattle.std.proofs.Common.{refl, sym, ◌∙◌, ap, subst}
use Rattle.std.specs.List.{All, AllZip}
use Rattle.std.specs.Option.{option_map}
use Rattle.isle_ast.specs.declared.ast.Ident.{Ident}
use Rattle.isle_ast.specs.declared.ast.Decl.{Decl as DeclTree}
use Rattle.isle_ast.specs.declared.ast.Rule.{Rule as RuleTree}
use Rattle.isle_ast.specs.declared.ast.Extractor.{Extractor as ExtractorTree}
use Rattle.isle_ast.specs.declared.ast.Converter.{Converter as ConverterTree}
use Rattle.isle_ast.specs.declared.ast.Def.{Def}
use Rattle.isle_ast.specs.Trees.PatternShape.{pattern_of}
use Rattle.isle_ast.specs.Trees.WithoutPos.{no_pos, ident_without_pos, decl_without_pos, rule_without_pos, extractor_without_pos}
use Rattle.isle_ast.specs.Trees.WithoutPos.{converter_without_pos, def_without_pos}
use Rattle.isle_types.specs.IntTypes.{builtin_names}
use Rattle.isle_types.specs.Names.{AreDistinct}
use Rattle.isle_types.specs.Environment.{Environment}
use Rattle.isle_types.proofs.Zipped.{mapped_at}
use Rattle.isle_rules.specs.TypedRules.{TypedRule}
use Rattle.isle_rules.specs.Signatures.{Flags, ExtractorForm, declared_form, Signature, Conversion, Declared}
use Rattle.isle_rules.specs.Definitions.{IsAmong, ExternalExtractor, declarations, rules_in, extractors_in, converters_in, external_constructors}
use Rattle.isle_rules.specs.Definitions.{external_extractors, constructor_for, extractor_for, flags_in, IsTypeNumber, IsDeclaration, terms_of_types}
use Rattle.isle_rules.specs.Definitions.{names_of_terms, AreTerms, IsDeclared, IsTerm, term_names, ComesTo, at_once, further, KeepExtractorRules}
use Rattle.isle_rules.specs.Definitions.{KeepConstructorRules, IsConversion, AreConversions, IsDefined, name_of, IsRuleOf}
use Rattle.isle_rules.specs.Definitions.{TermEnvironment, declared_by, rule_names, MakesTerms}
use Rattle.isle_meaning.specs.Laws.Spelling.{typed_rule_without_pos}
use Rattle.isle_meaning.proofs.Spelling.Bare.{bare, bare_types, bare_form, bare_extractor, bare_term, bare_terms, pattern_bare, term_names_bare}
use Rattle.isle_meaning.proofs.Spelling.Bare.{type_named_bare, there_bare}
use Rattle.isle_meaning.proofs.Spelling.Types.{bare_pair, map_length}
use Rattle.isle_meaning.proofs.Spelling.Rules.{rule_there, rule_back}
use Rattle.isle_meaning.proofs.Spelling.Lists.{bare_external, declarations_bare, rules_bare, extractors_bare, converters_bare}
use Rattle.isle_meaning.proofs.Spelling.Lists.{external_constructors_bare, external_extractors_bare, roots_bare, constructor_bare, extractor_bare}
use Rattle.isle_meaning.proofs.Spelling.Lists.{map_joined, type_terms_bare, pattern_names_bare, extractor_names_bare, constructor_names_bare, name_of_bare}
use Rattle.isle_meaning.proofs.Spelling.Zips.{filter_same, all_mapped, all_unmapped, zip_mapped, zip_first, zip_first_back, zip_back}

module _ (defs : List Def) where
  abbrev bared : List Def
  bared = map def_without_pos defs

  -- declared names
  declared_there : (name : Ident) (P : Flags → Type 0) → IsDeclared defs name P → IsDeclared bared (ident_without_pos name) P
  declared_there name P h = (
    decl_without_pos (h.0),
    (
      h.1.0,
      ap (λ (l : List DeclTree). slice_get l (h.1.0)) (declarations_bare defs)
          ∙ there_bare decl_without_pos (declarations defs) (h.1.0) (h.0) (h.1.1),
    ),
    h.2,
    h.3,
  )

  declared_back : (name : Ident) (P : Flags → Type 0) → IsDeclared bared (ident_without_pos name) P → IsDeclared defs name P
  declared_back name P h =
      let (decl, there, same) = mapped_at decl_without_pos (declarations defs) (h.1.0) (h.0)
      (ap (λ (l : List DeclTree). slice_get l (h.1.0)) (sym (declarations_bare defs)) ∙ h.1.1) in (
        decl,
        (h.1.0, there),
        ap (λ (d : DeclTree). d.term.0) same ∙ h.2,
        subst (λ (d : DeclTree). P (flags_in d)) (sym same) (h.3),
      )

  -- each declaration
  each_declared : (P : DeclTree → Type 0) → ((d : DeclTree) → P d → P (decl_without_pos d)) → All P (declarations defs) → All P (declarations bared)
  each_declared P step h =
      subst (All P) (sym (declarations_bare defs)) (all_mapped P P decl_without_pos step (declarations defs) h)

  each_declared_back : (P : DeclTree → Type 0) → ((d : DeclTree) → P (decl_without_pos d) → P d) → All P (declarations bared)
      → All P (declarations defs)
  each_declared_back P step h =
      all_unmapped P P decl_without_pos step (declarations defs) (subst (All P) (declarations_bare defs) h)

  module _ (types : Environment) where
    -- the number of a type's name
    number_there : (name : Ident) (n : ℕ) → IsTypeNumber types name n → IsTypeNumber (bare_types types) (ident_without_pos name) n
    number_there name n h = type_named_bare types name.0 ∙ h

    number_back : (name : Ident) (n : ℕ) → IsTypeNumber (bare_types types) (ident_without_pos name) n → IsTypeNumber types name n
    number_back name n h = sym (type_named_bare types name.0) ∙ h

    -- a declared term
    term_there : (decl : DeclTree) (term : Signature) → IsDeclaration types defs decl term
        → IsDeclaration (bare_types types) bared (decl_without_pos decl) (bare_term term)
    term_there decl term h = record {
      name = h.name;
      args = zip_first (IsTypeNumber types) (IsTypeNumber (bare_types types)) ident_without_pos number_there decl.arg_tys term.args h.args;
      ret = number_there decl.ret_ty term.ret h.ret;
      form =
          ap bare_form h.form
          ∙ (λ i. declared_form (flags_in decl) (sym (constructor_bare defs decl.term.0) i) (sym (extractor_bare defs decl.term.0) i));
      pos = refl;
    }

    term_back : (decl : DeclTree) (term : Signature) → IsDeclaration (bare_types types) bared (decl_without_pos decl) term
        → (own : Signature) × IsDeclaration types defs decl own × (bare_term own ≡ term)
    term_back decl term h =
        let form = sym h.form in
        let place = sym h.pos in
        let constructor = sym (constructor_bare defs decl.term.0) in
        let extractor = sym (extractor_bare defs decl.term.0) in
        let shaped : declared_form (flags_in decl) (constructor_for defs decl.term.0) (option_map bare_extractor (extractor_for defs decl.term.0))
        ≡ term.form = (λ i. declared_form (flags_in decl) (constructor i) (extractor i)) ∙ form in (
          record {
            name = term.name;
            args = term.args;
            ret = term.ret;
            form = declared_form (flags_in decl) (constructor_for defs decl.term.0) (extractor_for defs decl.term.0);
            pos = decl.pos;
          },
          record {
            name = h.name;
            args = zip_first_back (IsTypeNumber types) (IsTypeNumber (bare_types types)) ident_without_pos number_back decl.arg_tys term.args h.args;
            ret = number_back decl.ret_ty term.ret h.ret;
            form = refl;
            pos = refl;
          },
          (λ i. record { name = term.name; args = term.args; ret = term.ret; form = shaped i; pos = place i }),
        )

    -- all terms
    terms_there : (terms : List Signature) → AreTerms types defs terms → AreTerms (bare_types types) bared (map bare_term terms)
    terms_there terms h = record {
      declared = map bare_term h.declared;
      each = subst (λ (l : List DeclTree). AllZip (IsDeclaration (bare_types types) bared) l (map bare_term h.declared))
          (sym (declarations_bare defs))
          (zip_mapped (IsDeclaration types defs) (IsDeclaration (bare_types types) bared) decl_without_pos bare_term term_there (declarations defs)
          h.declared h.each);
      all =
          ap (map bare_term) h.all ∙ sym (map_joined bare_term h.declared (terms_of_types (length builtin_names) types.types))
          ∙ ap (λ (l : List Signature). map bare_term h.declared ++ l) (sym (type_terms_bare (length builtin_names) types.types));
      distinct = subst AreDistinct (sym (term_names_bare terms)) h.distinct;
      one_answer = each_declared (λ (decl : DeclTree). decl.multi ≡ true → decl.partial ≡ false) (λ d is. is) h.one_answer;
    }

    terms_back : (terms : List Signature) → AreTerms (bare_types types) bared terms
        → (own : List Signature) × AreTerms types defs own × (map bare_term own ≡ terms)
    terms_back terms h =
        let each : AllZip (IsDeclaration (bare_types types) bared) (map decl_without_pos (declarations defs)) h.declared =
        subst (λ (l : List DeclTree). AllZip (IsDeclaration (bare_types types) bared) l h.declared) (declarations_bare defs) h.each in
        let own = zip_back (IsDeclaration types defs) (IsDeclaration (bare_types types) bared) decl_without_pos bare_term term_back
        (declarations defs)
        h.declared each in
        let same : map bare_term (own.0 ++ terms_of_types (length builtin_names) types.types) ≡ terms =
        sym (map_joined bare_term (own.0) (terms_of_types (length builtin_names) types.types))
        ∙ (λ i. own.2 i ++ sym (type_terms_bare (length builtin_names) types.types) i) ∙ sym h.all in (
          own.0 ++ terms_of_types (length builtin_names) types.types,
          record {
            declared = own.0;
            each = own.1;
            all = refl;
            distinct = subst AreDistinct (sym (ap names_of_terms same)
                ∙ term_names_bare (own.0 ++ terms_of_types (length builtin_names) types.types)) h.distinct;
            one_answer = each_declared_back (λ (decl : DeclTree). decl.multi ≡ true → decl.partial ≡ false) (λ d is. is) h.one_answer;
          },
          same,
        )

    -- converters
    converter_there : (terms : List Signature) (tree : ConverterTree) (c : Conversion) → IsConversion types terms tree c
        → IsConversion (bare_types types) (map bare_term terms) (converter_without_pos tree) c
    converter_there terms tree c h = record {
      inner = number_there tree.inner_ty c.inner h.inner;
      outer = number_there tree.outer_ty c.outer h.outer;
      term = h.term;
      known = subst (λ (l : List (List ℕ)). IsAmong l tree.term.0) (sym (term_names_bare terms)) h.known;
    }

    converter_back : (terms : List Signature) (tree : ConverterTree) (c : Conversion)
        → IsConversion (bare_types types) (map bare_term terms) (converter_without_pos tree) c → IsConversion types terms tree c
    converter_back terms tree c h = record {
      inner = number_back tree.inner_ty c.inner h.inner;
      outer = number_back tree.outer_ty c.outer h.outer;
      term = h.term;
      known = subst (λ (l : List (List ℕ)). IsAmong l tree.term.0) (term_names_bare terms) h.known;
    }

    converters_there : (terms : List Signature) (cs : List Conversion) → AreConversions types defs terms cs
        → AreConversions (bare_types types) bared (map bare_term terms) cs
    converters_there terms cs h = record {
      each = subst (λ (l : List ConverterTree). AllZip (IsConversion (bare_types types) (map bare_term terms)) l cs) (sym (converters_bare defs))
          (zip_first (IsConversion types terms) (IsConversion (bare_types types) (map bare_term terms)) converter_without_pos (converter_there terms)
          (converters_in defs) cs h.each);
      once = h.once;
    }

    converters_back : (terms : List Signature) (cs : List Conversion) → AreConversions (bare_types types) bared (map bare_term terms) cs
        → AreConversions types defs terms cs
    converters_back terms cs h = record {
      each = zip_first_back (IsConversion types terms) (IsConversion (bare_types types) (map bare_term terms)) converter_without_pos
          (converter_back terms) (converters_in defs) cs
          (subst (λ (l : List ConverterTree). AllZip (IsConversion (bare_types types) (map bare_term terms)) l cs) (converters_bare defs) h.each);
      once = h.once;
    }

  -- extractors' bodies
  mutual
    comes_there : (from to : List ℕ) → ComesTo (extractors_in defs) from to → ComesTo (extractors_in bared) from to
    comes_there from to (at_once extractor name among stands) =
        at_once (extractor_without_pos extractor) name (
          among.0,
          ap (λ (l : List ExtractorTree). slice_get l (among.0)) (extractors_bare defs)
              ∙ there_bare extractor_without_pos (extractors_in defs) (among.0) extractor (among.1),
        )
        (subst (λ (l : List (List ℕ)). IsAmong l name) (sym (ap term_names (pattern_bare extractor.template)
        ∙ pattern_names_bare (pattern_of extractor.template))) stands)
    comes_there from to (further first middle last one other) =
        further first middle last (comes_there first middle one) (comes_there middle last other)

  mutual
    comes_back : (from to : List ℕ) → ComesTo (extractors_in bared) from to → ComesTo (extractors_in defs) from to
    comes_back from to (at_once extractor name among stands) =
        let (own, there, same) = mapped_at extractor_without_pos (extractors_in defs) (among.0) extractor
        (ap (λ (l : List ExtractorTree). slice_get l (among.0)) (sym (extractors_bare defs)) ∙ among.1) in
        let names : term_names (pattern_of extractor.template) ≡ term_names (pattern_of own.template) =
        ap (λ (e : ExtractorTree). term_names (pattern_of e.template)) (sym same)
        ∙ ap term_names (pattern_bare own.template) ∙ pattern_names_bare (pattern_of own.template) in
        subst (λ (first : List ℕ). ComesTo (extractors_in defs) first name) (ap (λ (e : ExtractorTree). e.term.0) same)
        (at_once own name (among.0, there) (subst (λ (l : List (List ℕ)). IsAmong l name) names stands))
    comes_back from to (further first middle last one other) =
        further first middle last (comes_back first middle one) (comes_back middle last other)

  -- the rules of extractors
  bodies_there : (terms : List Signature) (e : ExtractorTree) → All (IsTerm terms) (term_names (pattern_of e.template))
      → All (IsTerm (map bare_term terms)) (term_names (pattern_of (extractor_without_pos e).template))
  bodies_there terms e h =
      subst (All (IsTerm (map bare_term terms))) (sym (ap term_names (pattern_bare e.template) ∙ pattern_names_bare (pattern_of e.template)))
      (subst (λ (l : List (List ℕ)). All (IsAmong l) (term_names (pattern_of e.template))) (sym (term_names_bare terms)) h)

  bodies_back : (terms : List Signature) (e : ExtractorTree)
      → All (IsTerm (map bare_term terms)) (term_names (pattern_of (extractor_without_pos e).template))
      → All (IsTerm terms) (term_names (pattern_of e.template))
  bodies_back terms e h =
      subst (λ (l : List (List ℕ)). All (IsAmong l) (term_names (pattern_of e.template))) (term_names_bare terms)
      (subst (All (IsTerm (map bare_term terms))) (ap term_names (pattern_bare e.template) ∙ pattern_names_bare (pattern_of e.template)) h)

  abbrev has_one_answer : Flags → Type 0
  has_one_answer flags = flags.multi ≡ false

  abbrev has_any : Flags → Type 0
  has_any flags = Unit {0}

  extractors_there : (terms : List Signature) → KeepExtractorRules defs terms → KeepExtractorRules bared (map bare_term terms)
  extractors_there terms h = record {
    internal = subst (All (λ (e : ExtractorTree). IsDeclared bared e.term has_one_answer)) (sym (extractors_bare defs))
        (all_mapped (λ (e : ExtractorTree). IsDeclared defs e.term has_one_answer) (λ (e : ExtractorTree). IsDeclared bared e.term has_one_answer)
        extractor_without_pos (λ e. declared_there e.term has_one_answer) (extractors_in defs) h.internal);
    external = subst (All (λ (e : ExternalExtractor). IsDeclared bared e.term has_any)) (sym (external_extractors_bare defs))
        (all_mapped (λ (e : ExternalExtractor). IsDeclared defs e.term has_any) (λ (e : ExternalExtractor). IsDeclared bared e.term has_any)
        bare_external (λ e. declared_there e.term has_any) (external_extractors defs) h.external);
    once = subst AreDistinct (sym (extractor_names_bare defs)) h.once;
    known = subst (All (λ (e : ExtractorTree). All (IsTerm (map bare_term terms)) (term_names (pattern_of e.template)))) (sym (extractors_bare defs))
        (all_mapped (λ (e : ExtractorTree). All (IsTerm terms) (term_names (pattern_of e.template)))
        (λ (e : ExtractorTree). All (IsTerm (map bare_term terms)) (term_names (pattern_of e.template))) extractor_without_pos (bodies_there terms)
        (extractors_in defs) h.known);
    acyclic = λ name comes. h.acyclic name (comes_back name name comes);
  }

  extractors_back : (terms : List Signature) → KeepExtractorRules bared (map bare_term terms) → KeepExtractorRules defs terms
  extractors_back terms h = record {
    internal = all_unmapped (λ (e : ExtractorTree). IsDeclared defs e.term has_one_answer)
        (λ (e : ExtractorTree). IsDeclared bared e.term has_one_answer) extractor_without_pos (λ e. declared_back e.term has_one_answer)
        (extractors_in defs) (subst (All (λ (e : ExtractorTree). IsDeclared bared e.term has_one_answer)) (extractors_bare defs) h.internal);
    external = all_unmapped (λ (e : ExternalExtractor). IsDeclared defs e.term has_any) (λ (e : ExternalExtractor). IsDeclared bared e.term has_any)
        bare_external (λ e. declared_back e.term has_any) (external_extractors defs)
        (subst (All (λ (e : ExternalExtractor). IsDeclared bared e.term has_any)) (external_extractors_bare defs) h.external);
    once = subst AreDistinct (extractor_names_bare defs) h.once;
    known = all_unmapped (λ (e : ExtractorTree). All (IsTerm terms) (term_names (pattern_of e.template)))
        (λ (e : ExtractorTree). All (IsTerm (map bare_term terms)) (term_names (pattern_of e.template))) extractor_without_pos (bodies_back terms)
        (extractors_in defs)
        (subst (All (λ (e : ExtractorTree). All (IsTerm (map bare_term terms)) (term_names (pattern_of e.template)))) (extractors_bare defs) h.known);
    acyclic = λ name comes. h.acyclic name (comes_there name name comes);
  }

  -- the rules of external constructors
  constructors_there : KeepConstructorRules defs → KeepConstructorRules bared
  constructors_there h = record {
    declared = subst (All (λ (e : Ident × Ident). IsDeclared bared e.0 has_any)) (sym (external_constructors_bare defs))
        (all_mapped (λ (e : Ident × Ident). IsDeclared defs e.0 has_any) (λ (e : Ident × Ident). IsDeclared bared e.0 has_any) bare_pair
        (λ e. declared_there e.0 has_any) (external_constructors defs) h.declared);
    once = subst AreDistinct (sym (constructor_names_bare defs)) h.once;
    unruled = λ name one other. h.unruled name (subst (λ (l : List (List ℕ)). IsAmong l name) (constructor_names_bare defs) one)
        (subst (λ (l : List (List ℕ)). IsAmong l name) (roots_bare defs) other);
  }

  constructors_back : KeepConstructorRules bared → KeepConstructorRules defs
  constructors_back h = record {
    declared = all_unmapped (λ (e : Ident × Ident). IsDeclared defs e.0 has_any) (λ (e : Ident × Ident). IsDeclared bared e.0 has_any) bare_pair
        (λ e. declared_back e.0 has_any) (external_constructors defs)
        (subst (All (λ (e : Ident × Ident). IsDeclared bared e.0 has_any)) (external_constructors_bare defs) h.declared);
    once = subst AreDistinct (constructor_names_bare defs) h.once;
    unruled = λ name one other. h.unruled name (subst (λ (l : List (List ℕ)). IsAmong l name) (sym (constructor_names_bare defs)) one)
        (subst (λ (l : List (List ℕ)). IsAmong l name) (sym (roots_bare defs)) other);
  }

  -- what can be used
  is_some_bare : (o : Option ExtractorForm) → is_some (option_map bare_extractor o) ≡ is_some o
  is_some_bare None = refl
  is_some_bare (Some x) = refl

  defined_same : (name : List ℕ)
      → ((is_some (constructor_for bared name) ≡ true) ⊎ (is_some (extractor_for bared name) ≡ true))
      ≡ ((is_some (constructor_for defs name) ≡ true) ⊎ (is_some (extractor_for defs name) ≡ true))
  defined_same name =
      let one = ap is_some (constructor_bare defs name) in
      let other = ap is_some (extractor_bare defs name) ∙ is_some_bare (extractor_for defs name) in
      (λ i. (one i ≡ true) ⊎ (other i ≡ true))

  defined_there : All (IsDefined defs) (declarations defs) → All (IsDefined bared) (declarations bared)
  defined_there h =
      subst (All (IsDefined bared)) (sym (declarations_bare defs))
      (all_mapped (IsDefined defs) (IsDefined bared) decl_without_pos (λ d is. subst (λ (P : Type 0). P) (sym (defined_same d.term.0)) is)
      (declarations defs) h)

  defined_back : All (IsDefined bared) (declarations bared) → All (IsDefined defs) (declarations defs)
  defined_back h =
      all_unmapped (IsDefined defs) (IsDefined bared) decl_without_pos (λ d is. subst (λ (P : Type 0). P) (defined_same d.term.0) is)
      (declarations defs) (subst (All (IsDefined bared)) (declarations_bare defs) h)

  -- typed rules
  rule_of_there : (declared : Declared) (levels max : ℕ) (tree : RuleTree) (rule : TypedRule) → IsRuleOf declared defs levels max tree rule
      → IsRuleOf (bare declared) bared levels max (rule_without_pos tree) (typed_rule_without_pos rule)
  rule_of_there declared levels max tree rule h = record {
    written = typed_rule_without_pos h.written;
    typed = rule_there declared levels max tree h.written h.typed;
    same =
        ap typed_rule_without_pos h.same
        ∙ ap (λ (name : Option (List ℕ)). record h.written { pos = no_pos; name = name }) (sym (name_of_bare defs tree));
  }

  rule_of_back : (declared : Declared) (levels max : ℕ) (tree : RuleTree) (rule : TypedRule)
      → IsRuleOf (bare declared) bared levels max (rule_without_pos tree) rule
      → (own : TypedRule) × IsRuleOf declared defs levels max tree own × (typed_rule_without_pos own ≡ rule)
  rule_of_back declared levels max tree rule h =
      let written = h.written in
      let place = sym h.typed.pos in
      let name = sym (name_of_bare defs tree) in
      let moved : record written { pos = no_pos; name = name_of defs tree }
      ≡ record written { name = name_of bared (rule_without_pos tree) } = (λ i. record written { pos = place i; name = name i }) in (
        record written { pos = tree.pos; name = name_of defs tree },
        record { written = record written { pos = tree.pos }; typed = rule_back declared levels max tree written h.typed; same = refl },
        moved ∙ sym h.same,
      )

  rule_names_bare : (rules : List TypedRule) → rule_names (map typed_rule_without_pos rules) ≡ rule_names rules
  rule_names_bare rules = filter_same typed_rule_without_pos (λ (rule : TypedRule). rule.name) (λ rule. refl) rules

  -- few arguments
  few_there : (d : DeclTree) → length d.arg_tys ≤ 255 → length (decl_without_pos d).arg_tys ≤ 255
  few_there d h = subst (λ (n : ℕ). n ≤ 255) (sym (map_length ident_without_pos d.arg_tys)) h

  few_back : (d : DeclTree) → length (decl_without_pos d).arg_tys ≤ 255 → length d.arg_tys ≤ 255
  few_back d h = subst (λ (n : ℕ). n ≤ 255) (map_length ident_without_pos d.arg_tys) h

  -- what definitions make
  pub made_there : (types : Environment) (expands : Bool) (levels max : ℕ) (environment : TermEnvironment)
      → MakesTerms types expands levels max defs environment → MakesTerms (bare_types types) expands levels max bared (bare_terms environment)
  made_there types expands levels max environment h =
      let declared = declared_by types expands environment in
      record {
        terms = terms_there types environment.terms h.terms;
        within = each_declared (λ (d : DeclTree). length d.arg_tys ≤ 255) few_there h.within;
        constructors = constructors_there h.constructors;
        extractors = extractors_there environment.terms h.extractors;
        conversions = converters_there types environment.terms environment.conversions h.conversions;
        defined = defined_there h.defined;
        rules = subst (λ (l : List RuleTree). AllZip (IsRuleOf (bare declared) bared levels max) l (map typed_rule_without_pos environment.rules))
            (sym (rules_bare defs))
            (zip_mapped (IsRuleOf declared defs levels max) (IsRuleOf (bare declared) bared levels max) rule_without_pos typed_rule_without_pos
            (rule_of_there declared levels max) (rules_in defs) environment.rules h.rules);
        names = subst AreDistinct (sym (rule_names_bare environment.rules)) h.names;
      }

  pub made_back : (types : Environment) (expands : Bool) (levels max : ℕ) (environment : TermEnvironment)
      → MakesTerms (bare_types types) expands levels max bared environment
      → (own : TermEnvironment) × MakesTerms types expands levels max defs own × (bare_terms own ≡ environment)
  made_back types expands levels max environment h =
      let (terms, are, same) = terms_back types environment.terms h.terms in
      let declared : Declared = record { types = types; terms = terms; conversions = environment.conversions; expands = expands } in
      let each : AllZip (IsRuleOf (bare declared) bared levels max) (map rule_without_pos (rules_in defs)) environment.rules =
      subst (λ (l : List RuleTree). AllZip (IsRuleOf (bare declared) bared levels max) l environment.rules) (rules_bare defs)
      (subst (λ (l : List Signature). AllZip (IsRuleOf
      (record { types = bare_types types; terms = l; conversions = environment.conversions; expands = expands })
      bared levels max) (rules_in bared) environment.rules) (sym same) h.rules) in
      let rules = zip_back (IsRuleOf declared defs levels max) (IsRuleOf (bare declared) bared levels max) rule_without_pos typed_rule_without_pos
      (rule_of_back declared levels max) (rules_in defs) environment.rules each in
      let typed = rules.2 in (
        record { terms = terms; conversions = environment.conversions; rules = rules.0 },
        record {
          terms = are;
          within = each_declared_back (λ (d : DeclTree). length d.arg_tys ≤ 255) few_back h.within;
          constructors = constructors_back h.constructors;
          extractors = extractors_back terms (subst (KeepExtractorRules bared) (sym same) h.extractors);
          conversions = converters_back types terms environment.conversions
              (subst (λ (l : List Signature). AreConversions (bare_types types) bared l environment.conversions) (sym same) h.conversions);
          defined = defined_back h.defined;
          rules = rules.1;
          names = subst AreDistinct (sym (ap rule_names typed) ∙ rule_names_bare (rules.0)) h.names;
        },
        (λ i. record { terms = same i; conversions = environment.conversions; rules = typed i }),
      )
