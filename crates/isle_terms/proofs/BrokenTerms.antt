-- Definitions that break a rule of terms, extractors, constructors or converters make no environment.
use Rattle.std.proofs.Common.{◌≡◌, ◌⊎◌, ℕ, zero, suc, inl, inr, true, false, List, [], ◌∷◌, ◌++◌, map, None, Some, refl, ap, sym, subst, ◌∙◌}
use Rattle.std.proofs.Common.{arith, length, slice_get}
use Rattle.std.specs.Prelude.{All, is_some}
use Rattle.std.specs.List.{AllZip}
use Rattle.std.proofs.lemmas.Bool.{false≢true}
use Rattle.std.proofs.lemmas.Option.{none-some, same_Some}
use Rattle.isle_ast.specs.declared.ast.Ident.{Ident}
use Rattle.isle_ast.specs.declared.ast.Decl.{Decl as DeclTree}
use Rattle.isle_ast.specs.declared.ast.Extractor.{Extractor as ExtractorTree}
use Rattle.isle_ast.specs.declared.ast.Def.{Def}
use Rattle.isle_ast.specs.declared.pos.Pos.{Pos}
use Rattle.isle_ast.specs.Trees.PatternTree.{PatternTree, PatternTrees, pattern_var, pattern_bind, pattern_bool, pattern_int, pattern_prim}
use Rattle.isle_ast.specs.Trees.PatternTree.{pattern_term, pattern_wildcard, pattern_and, pattern_macro_arg, no_patterns, more_patterns}
use Rattle.isle_ast.specs.Trees.PatternShape.{pattern_of}
use Rattle.isle_types.specs.IntTypes.{builtin_names}
use Rattle.isle_types.specs.Names.{IsDuplicate}
use Rattle.isle_types.specs.Environment.{Environment}
use Rattle.isle_types.proofs.Zipped.{zipped_at, all_at, no_duplicate}
use Rattle.isle_rules.specs.Signatures.{Signature, Conversion}
use Rattle.isle_rules.specs.Elaboration.{type_named}
use Rattle.isle_rules.specs.Definitions.{IsAmong, ExternalExtractor, declarations, extractors_in, converters_in, external_extractors}
use Rattle.isle_rules.specs.Definitions.{IsTypeNumber, IsDeclaration, AreTerms, names_of_terms, terms_of_types, IsTerm, term_names}
use Rattle.isle_rules.specs.Definitions.{all_term_names, KeepExtractorRules, IsConversion, pair_of, AreConversions, IsDefined, IsDeclared}
use Rattle.isle_terms.specs.TermFaults.{named_terms, names_of, DeclarationBreaks, term_twice, multi_and_partial, unknown_type, NamesTerm}
use Rattle.isle_terms.specs.TermFaults.{SomeNamesTerm, ExtractorBreaks, internal_of_no_declared_term, external_of_no_declared_term}
use Rattle.isle_terms.specs.TermFaults.{second_extractor, internal_of_multi, body_of_unknown_term, recursive, ConverterBreaks, unknown_inner_type}
use Rattle.isle_terms.specs.TermFaults.{unknown_outer_type, unknown_converter, second_converter, IsUndefined}

-- a list's first items, then others, at a place
append_at : {A : Type 0} (xs : List A) (x : A) (place : ℕ) → (z : A) → slice_get (xs ++ x ∷ []) place ≡ Some z → (IsAmong xs z) ⊎ (z ≡ x)
append_at [] x zero z is = inr (sym (same_Some _ _ is))
append_at [] x (suc place) z is = absurd (none-some z is)
append_at (first ∷ xs) x zero z is = inl (0, is)
append_at (first ∷ xs) x (suc place) z is = elim (append_at xs x place z is) [ inl k ↦ inl (suc k.0, k.1) | inr k ↦ inr k ]

-- the types of a declaration are known
types_known : (types : Environment) (defs : List Def) (decl : DeclTree) (term : Signature) → IsDeclaration types defs decl term
    → (name : Ident) → IsAmong (decl.arg_tys ++ decl.ret_ty ∷ []) name → type_named types name.0 ≡ None → ⊥
types_known types defs decl term is name at none = elim (append_at decl.arg_tys decl.ret_ty at.0 name at.1) [
  | inl k ↦ (let number = zipped_at (IsTypeNumber types) decl.arg_tys term.args is.args k.0 name k.1 in none-some number.0 (sym none ∙ number.2))
  | inr k ↦ none-some term.ret (sym none ∙ ap (λ (z : Ident). type_named types z.0) k ∙ is.ret)
]

names_appended : (xs ys : List (List ℕ × Pos)) → names_of (xs ++ ys) ≡ names_of xs ++ names_of ys
names_appended [] ys = refl
names_appended (x ∷ xs) ys = ap (λ z. x.0 ∷ z) (names_appended xs ys)

appended_names : (xs ys : List Signature) → names_of_terms (xs ++ ys) ≡ names_of_terms xs ++ names_of_terms ys
appended_names [] ys = refl
appended_names (x ∷ xs) ys = ap (λ z. x.name ∷ z) (appended_names xs ys)

declared_names : (types : Environment) (defs : List Def) (trees : List DeclTree) (terms : List Signature)
    → AllZip (IsDeclaration types defs) trees terms
    → names_of (map (λ (decl : DeclTree). (decl.term.0, decl.pos)) trees) ≡ names_of_terms terms
declared_names types defs [] [] each = refl
declared_names types defs [] (term ∷ terms) each = absurd each
declared_names types defs (tree ∷ trees) [] each = absurd each
declared_names types defs (tree ∷ trees) (term ∷ terms) each =
    ap (λ z. z ∷ names_of (map (λ (decl : DeclTree). (decl.term.0, decl.pos)) trees)) (sym each.0.name)
    ∙ ap (λ zs. term.name ∷ zs) (declared_names types defs trees terms each.1)

typed_names : (terms : List Signature) → names_of (map (λ (term : Signature). (term.name, term.pos)) terms) ≡ names_of_terms terms
typed_names [] = refl
typed_names (term ∷ terms) = ap (λ z. term.name ∷ z) (typed_names terms)

-- declarations that make terms break no rule
pub declarations_keep : (types : Environment) (defs : List Def) (terms : List Signature) → AreTerms types defs terms → (at : Pos)
    → DeclarationBreaks types defs at → ⊥
declarations_keep types defs terms is at (term_twice _ taken) =
    let same : names_of (named_terms types defs) ≡ names_of_terms terms =
    names_appended _ _ ∙ ap (λ z. z ++ names_of
    (map (λ (term : Signature). (term.name, term.pos)) (terms_of_types (length builtin_names) types.types)))
    (declared_names types defs (declarations defs) is.declared is.each)
    ∙ ap (λ z. names_of_terms is.declared ++ z) (typed_names (terms_of_types (length builtin_names) types.types))
    ∙ sym (appended_names is.declared (terms_of_types (length builtin_names) types.types)) ∙ ap names_of_terms (sym is.all) in
    no_duplicate (names_of_terms terms) is.distinct taken.place (subst (λ z. IsDuplicate z taken.place) same taken.taken)
declarations_keep types defs terms is _ (multi_and_partial decl among multi partial) =
    false≢true (sym (all_at (λ (tree : DeclTree). tree.multi ≡ true → tree.partial ≡ false)
    (declarations defs) is.one_answer among.0 decl among.1 multi) ∙ partial)
declarations_keep types defs terms is _ (unknown_type decl name among named none) =
    let made = zipped_at (IsDeclaration types defs) (declarations defs) is.declared is.each among.0 decl among.1 in
    types_known types defs decl made.0 made.2 name named none

appended_at : {A : Type 0} (xs ys : List A) (place : ℕ) (z : A) → slice_get xs place ≡ Some z → slice_get (xs ++ ys) place ≡ Some z
appended_at [] ys place z is = absurd (none-some z is)
appended_at (x ∷ xs) ys zero z is = is
appended_at (x ∷ xs) ys (suc place) z is = appended_at xs ys place z is

among_appended_left : {A : Type 0} (xs ys : List A) (z : A) → IsAmong xs z → IsAmong (xs ++ ys) z
among_appended_left xs ys z h = (h.0, appended_at xs ys h.0 z h.1)

among_appended_right : {A : Type 0} (xs ys : List A) (z : A) → IsAmong ys z → IsAmong (xs ++ ys) z
among_appended_right [] ys z h = h
among_appended_right (x ∷ xs) ys z h = let rest = among_appended_right xs ys z h in (suc rest.0, rest.1)

-- a term that is named in a pattern is among its terms
mutual
  named_among : (name : List ℕ) (at : Pos) (t : PatternTree) → NamesTerm name at t → IsAmong (term_names t) name
  named_among name at (pattern_var _ _) h = absurd h
  named_among name at (pattern_bind _ below _) h = named_among name at below h
  named_among name at (pattern_bool _ _) h = absurd h
  named_among name at (pattern_int _ _ _) h = absurd h
  named_among name at (pattern_prim _ _) h = absurd h
  named_among name at (pattern_term sym_name args pos) (inl h) = (zero, ap Some (sym h.0))
  named_among name at (pattern_term sym_name args pos) (inr h) = let rest = some_named_among name at args h in (suc rest.0, rest.1)
  named_among name at (pattern_wildcard _) h = absurd h
  named_among name at (pattern_and below _) h = some_named_among name at below h
  named_among name at (pattern_macro_arg _ _) h = absurd h

  some_named_among : (name : List ℕ) (at : Pos) (ts : PatternTrees) → SomeNamesTerm name at ts → IsAmong (all_term_names ts) name
  some_named_among name at no_patterns h = absurd h
  some_named_among name at (more_patterns first others) (inl h) = among_appended_left (term_names first) (all_term_names others) name
      (named_among name at first h)
  some_named_among name at (more_patterns first others) (inr h) = among_appended_right (term_names first) (all_term_names others) name
      (some_named_among name at others h)

-- two declarations of one name are one
one_declared : (types : Environment) (defs : List Def) (terms : List Signature) → AreTerms types defs terms → (a b : DeclTree)
    → IsAmong (declarations defs) a → IsAmong (declarations defs) b → a.term.0 ≡ b.term.0 → a ≡ b
one_declared types defs terms is a b at_a at_b same =
    let first = zipped_at (IsDeclaration types defs) (declarations defs) is.declared is.each at_a.0 a at_a.1 in
    let second = zipped_at (IsDeclaration types defs) (declarations defs) is.declared is.each at_b.0 b at_b.1 in
    let place : at_a.0 ≡ at_b.0 = is.distinct a.term.0 at_a.0 at_b.0 (name_at at_a.0 first.0 first.1 a.term.0 first.2.name)
    (name_at at_b.0 second.0 second.1 a.term.0 (second.2.name ∙ sym same)) in
    same_Some _ _ (sym at_a.1 ∙ ap (slice_get (declarations defs)) place ∙ at_b.1)
  where
    mapped : (xs : List Signature) (place : ℕ) (x : Signature) → slice_get xs place ≡ Some x → slice_get (names_of_terms xs) place ≡ Some x.name
    mapped [] place x h = absurd (none-some x h)
    mapped (y ∷ ys) zero x h = ap (λ z. Some z.name) (same_Some _ _ h)
    mapped (y ∷ ys) (suc place) x h = mapped ys place x h

    name_at : (place : ℕ) (x : Signature) → slice_get is.declared place ≡ Some x → (name : List ℕ) → x.name ≡ name
        → slice_get (names_of_terms terms) place ≡ Some name
    name_at place x at name e =
        subst (λ z. slice_get (names_of_terms z) place ≡ Some name) (sym is.all)
        (mapped _ place x (appended_at is.declared (terms_of_types (length builtin_names) types.types) place x at) ∙ ap Some e)

names_of_extractors : (xs : List ExtractorTree)
    → names_of (map (λ (extractor : ExtractorTree). (extractor.term.0, extractor.pos)) xs) ≡ map (λ (extractor : ExtractorTree). extractor.term.0) xs
names_of_extractors [] = refl
names_of_extractors (x ∷ xs) = ap (λ z. x.term.0 ∷ z) (names_of_extractors xs)

names_of_external_extractors : (xs : List ExternalExtractor)
    → names_of (map (λ (external : ExternalExtractor). (external.term.0, external.pos)) xs) ≡ map
    (λ (external : ExternalExtractor). external.term.0) xs
names_of_external_extractors [] = refl
names_of_external_extractors (x ∷ xs) = ap (λ z. x.term.0 ∷ z) (names_of_external_extractors xs)

-- extractors that keep the rules break none
pub extractors_keep : (types : Environment) (defs : List Def) (terms : List Signature) → AreTerms types defs terms
    → KeepExtractorRules defs terms → (at : Pos) → ExtractorBreaks defs terms at → ⊥
extractors_keep types defs terms made is _ (internal_of_no_declared_term extractor among none) =
    let found : IsDeclared defs extractor.term (λ flags. flags.multi ≡ false) = all_at
    (λ (x : ExtractorTree). IsDeclared defs x.term (λ flags. flags.multi ≡ false)) (extractors_in defs) is.internal among.0 extractor among.1 in
    none found.0 found.1 found.2
extractors_keep types defs terms made is _ (external_of_no_declared_term external among none) =
    let found : IsDeclared defs external.term (λ _. Unit {0}) = all_at (λ (x : ExternalExtractor). IsDeclared defs x.term (λ _. Unit {0}))
    (external_extractors defs) is.external among.0 external among.1 in none found.0 found.1 found.2
extractors_keep types defs terms made is at (second_extractor _ taken) =
    let same = names_appended _ _ ∙ ap
    (λ z. z ++ names_of (map (λ (external : ExternalExtractor). (external.term.0, external.pos)) (external_extractors defs)))
    (names_of_extractors (extractors_in defs))
    ∙ ap (λ z. map (λ (extractor : ExtractorTree). extractor.term.0) (extractors_in defs) ++ z)
    (names_of_external_extractors (external_extractors defs)) in
    no_duplicate _ is.once taken.place (subst (λ z. IsDuplicate z taken.place) same taken.taken)
extractors_keep types defs terms made is _ (internal_of_multi extractor decl among declared same multi) =
    let found : IsDeclared defs extractor.term (λ flags. flags.multi ≡ false) = all_at
    (λ (x : ExtractorTree). IsDeclared defs x.term (λ flags. flags.multi ≡ false)) (extractors_in defs) is.internal among.0 extractor among.1 in
    let one = one_declared types defs terms made found.0 decl found.1 declared (found.2 ∙ sym same) in
    false≢true (sym found.3 ∙ ap (λ (z : DeclTree). z.multi) one ∙ multi)
extractors_keep types defs terms made is at (body_of_unknown_term extractor name _ among named unknown) =
    let known = all_at (λ (x : ExtractorTree). All (IsTerm terms) (term_names (pattern_of x.template)))
    (extractors_in defs) is.known among.0 extractor among.1 in
    let place = named_among name at (pattern_of extractor.template) named in
    unknown (all_at (IsTerm terms) (term_names (pattern_of extractor.template)) known place.0 name place.1)
extractors_keep types defs terms made is _ (recursive extractor among comes) = is.acyclic extractor.term.0 comes

pairs_are_names : (xs : List (Ident × Ident))
    → names_of (map (λ (external : Ident × Ident). (external.0.0, external.0.1)) xs) ≡ map (λ (external : Ident × Ident). external.0.0) xs
pairs_are_names [] = refl
pairs_are_names (x ∷ xs) = ap (λ z. x.0.0 ∷ z) (pairs_are_names xs)

-- conversions that are made break no rule
pub converters_keep : (types : Environment) (defs : List Def) (terms : List Signature) (conversions : List Conversion)
    → AreConversions types defs terms conversions → (at : Pos) → ConverterBreaks types defs terms at → ⊥
converters_keep types defs terms conversions is _ (unknown_inner_type tree among none) =
    let made = zipped_at (IsConversion types terms) (converters_in defs) conversions is.each among.0 tree among.1 in
    none-some _ (sym none ∙ made.2.inner)
converters_keep types defs terms conversions is _ (unknown_outer_type tree among none) =
    let made = zipped_at (IsConversion types terms) (converters_in defs) conversions is.each among.0 tree among.1 in
    none-some _ (sym none ∙ made.2.outer)
converters_keep types defs terms conversions is _ (unknown_converter tree among unknown) =
    let made = zipped_at (IsConversion types terms) (converters_in defs) conversions is.each among.0 tree among.1 in unknown made.2.known
converters_keep types defs terms conversions is _ (second_converter place tree here second) =
    let first = zipped_at (IsConversion types terms) (converters_in defs) conversions is.each second.earlier second.first second.at_first in
    let later = zipped_at (IsConversion types terms) (converters_in defs) conversions is.each place second.second second.at_second in
    let inner : first.0.inner ≡ later.0.inner = same_Some _ _ (sym first.2.inner ∙ second.inner ∙ later.2.inner) in
    let outer : first.0.outer ≡ later.0.outer = same_Some _ _ (sym first.2.outer ∙ second.outer ∙ later.2.outer) in
    let pair : pair_of first.0 ≡ pair_of later.0 = λ i. (inner i, outer i) in
    let same : second.earlier ≡ place = is.once (pair_of later.0) second.earlier place
    (mapped conversions second.earlier first.0 first.1 ∙ ap Some pair) (mapped conversions place later.0 later.1) in
    omega (arith, same, second.before)
  where
    mapped : (xs : List Conversion) (place : ℕ) (x : Conversion) → slice_get xs place ≡ Some x → slice_get (map pair_of xs) place ≡ Some (pair_of x)
    mapped [] place x h = absurd (none-some x h)
    mapped (y ∷ ys) zero x h = ap (λ z. Some (pair_of z)) (same_Some _ _ h)
    mapped (y ∷ ys) (suc place) x h = mapped ys place x h

-- declared terms that can be used break no rule
pub defined_keep : (defs : List Def) → All (IsDefined defs) (declarations defs) → (at : Pos) → IsUndefined defs at → ⊥
defined_keep defs is at undefined =
    elim (all_at (IsDefined defs) (declarations defs) is undefined.among.0 undefined.decl undefined.among.1) [
      | inl k ↦ false≢true (ap is_some (sym undefined.no_constructor) ∙ k)
      | inr k ↦ false≢true (ap is_some (sym undefined.no_extractor) ∙ k)
    ]
