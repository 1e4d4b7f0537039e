-- How a declared term makes its value and takes one apart, by the places of its name.
use Rattle.std.proofs.Common.{◌≡◌, ℕ, zero, suc, ◌-◌, ◌<◌, ◌≤◌, List, [], ◌∷◌, map, length}
use Rattle.std.proofs.Common.{cond, true, false, arith, Option, Some, None, is_some, refl, ap, sym}
use Rattle.std.proofs.Common.{subst, ◌∙◌, slice_get, get_or}
use Rattle.std.proofs.lemmas.Option.{slice_get_read, slice_get_past, slice_get-get_or}
use Rattle.std.proofs.lemmas.List.{length-map}
use Rattle.std.specs.Option.{option_map, option_and_then}
use Rattle.isle_ast.specs.declared.ast.Ident.{Ident}
use Rattle.isle_ast.specs.declared.ast.Def.{Def}
use Rattle.isle_ast.specs.declared.ast.Extractor.{Extractor as ExtractorTree}
use Rattle.isle_ast.specs.Trees.PatternShape.{pattern_of}
use Rattle.isle_ast.specs.Trees.TreeCalls.{has_macro_arg}
use Rattle.isle_types.specs.Names.{position_of}
use Rattle.isle_types.proofs.Zipped.{all_at}
use Rattle.isle_terms.specs.declared.env.definitions.HostExtractor.{HostExtractor}
use Rattle.isle_rules.specs.Definitions.{HasPlainTemplates}
use Rattle.isle_terms.specs.declared.env.definitions.HostConstructor.{HostConstructor}
use Rattle.isle_rules.specs.Signatures.{by_rules, external_constructor}
use Rattle.isle_rules.specs.Definitions.{rules_in, roots_of, external_constructors, external_constructor_names, constructor_for}
use Rattle.isle_rules.specs.Definitions.{extractors_in, external_extractors, extractor_names, extractor_for, first_of}
use Rattle.isle_terms.specs.Inside.Collecting.DefinitionLists.{host_constructor_shown, host_extractor_shown}
use Rattle.isle_terms.proofs.Collections.NamedPlaces.{constructor_place, extractor_place, internal_at_place, external_at_place}
use Rattle.isle_terms.proofs.Collections.NamedPlaces.{template_form, external_form, either_at}

-- the image of the item at a place
pub mapped_get : {X Y : Type 0} (f : X → Y) (xs : List X) (place : ℕ) → slice_get (map f xs) place ≡ option_map f (slice_get xs place)
mapped_get f [] place = refl
mapped_get f (x ∷ xs) zero = refl
mapped_get f (x ∷ xs) (suc place) = mapped_get f xs place

-- a term with rules
pub by_rules_form : (defs : List Def) (name : List ℕ) → is_some (position_of (roots_of (rules_in defs)) name) ≡ true
    → constructor_for defs name ≡ Some by_rules
by_rules_form defs name ruled = constructor_place defs name ∙ ap (λ b. cond b (Some by_rules) (option_map external_constructor
    (option_map (λ (pair : Ident × Ident). pair.1.0)
    (option_and_then (slice_get (external_constructors defs)) (position_of (external_constructor_names defs) name))))) ruled

-- a term without rules, by the place of its name among those of the host's constructors
pub hosted_form : (defs : List Def) (name : List ℕ) (hosts : List HostConstructor) (o : Option ℕ)
    → is_some (position_of (roots_of (rules_in defs)) name) ≡ false → map host_constructor_shown hosts ≡ external_constructors defs
    → position_of (external_constructor_names defs) name ≡ o
    → constructor_for defs name ≡ option_map (λ (host : HostConstructor). external_constructor host.function.now.0)
    (option_and_then (slice_get hosts) o)
hosted_form defs name hosts o unruled all at =
    constructor_place defs name ∙ ap (λ b. cond b (Some by_rules) (option_map external_constructor
    (option_map (λ (pair : Ident × Ident). pair.1.0)
    (option_and_then (slice_get (external_constructors defs)) (position_of (external_constructor_names defs) name))))) unruled
    ∙ ap (λ p. option_map external_constructor (option_map (λ (pair : Ident × Ident). pair.1.0)
    (option_and_then (slice_get (external_constructors defs)) p))) at
    ∙ ap (λ pairs. option_map external_constructor (option_map (λ (pair : Ident × Ident). pair.1.0) (option_and_then (slice_get pairs) o))) (sym all)
    ∙ by_place o
  where
    by_get : (h : Option HostConstructor) → option_map external_constructor (option_map (λ (pair : Ident × Ident). pair.1.0)
        (option_map host_constructor_shown h)) ≡ option_map (λ (host : HostConstructor). external_constructor host.function.now.0) h
    by_get None = refl
    by_get (Some host) = refl

    by_place : (p : Option ℕ) → option_map external_constructor (option_map (λ (pair : Ident × Ident). pair.1.0)
        (option_and_then (slice_get (map host_constructor_shown hosts)) p))
        ≡ option_map (λ (host : HostConstructor). external_constructor host.function.now.0) (option_and_then (slice_get hosts) p)
    by_place None = refl
    by_place (Some place) =
        ap (λ h. option_map external_constructor (option_map (λ (pair : Ident × Ident). pair.1.0) h)) (mapped_get host_constructor_shown hosts place)
        ∙ by_get (slice_get hosts place)

-- the item that a loop or a test reads is that at its place
pub read_at : {X : Type 0} (xs : List X) (place : ℕ) (x : X) → place < length xs → x ≡ get_or xs place x → slice_get xs place ≡ Some x
read_at xs place x low is = slice_get_read xs (length xs) place x refl low is

-- there is no item past the end
pub none_past : {X : Type 0} (xs : List X) (place : ℕ) → length xs ≤ place → slice_get xs place ≡ None
none_past [] place past = refl
none_past (x ∷ xs) zero past = absurd (omega (arith, past))
none_past (x ∷ xs) (suc place) past = none_past xs place (omega (arith, past))

-- the image of the item that is read at a place
pub mapped_here : {X Y : Type 0} (f : X → Y) (xs : List X) (place : ℕ) (x : X) → place < length xs
    → slice_get (map f xs) place ≡ Some (f (get_or xs place x))
mapped_here f xs place x low = mapped_get f xs place ∙ ap (option_map f) (slice_get-get_or xs place x low)

-- an extractor that is read has a plain template
pub plain_here : {X : Type 0} (xs : List X) (shown : X → ExtractorTree) (place : ℕ) (x : X) → HasPlainTemplates (map shown xs) → place < length xs
    → has_macro_arg (pattern_of (shown (get_or xs place x)).template) ≡ false
plain_here xs shown place x plain low =
    all_at (λ (extractor : ExtractorTree). has_macro_arg (pattern_of extractor.template) ≡ false) (map shown xs) plain place
    (shown (get_or xs place x)) (mapped_here shown xs place x low)

-- a term whose extractor is read among the internal ones
pub internal_here : {X : Type 0} (defs : List Def) (name : List ℕ) (xs : List X) (shown : X → ExtractorTree) (place : ℕ) (x : X)
    → position_of (extractor_names defs) name ≡ Some place → map shown xs ≡ extractors_in defs → place < length xs
    → extractor_for defs name ≡ Some (template_form (shown (get_or xs place x)))
internal_here defs name xs shown place x found all low =
    internal_at_place defs name place (shown (get_or xs place x)) found
    (ap (λ trees. slice_get trees place) (sym all) ∙ mapped_here shown xs place x low)

-- a term whose extractor is read among the host's
pub external_here : {X : Type 0} (defs : List Def) (name : List ℕ) (xs : List X) (shown : X → ExtractorTree) (hosts : List HostExtractor) (place : ℕ)
    (host : HostExtractor) → position_of (extractor_names defs) name ≡ Some place → map shown xs ≡ extractors_in defs
    → map host_extractor_shown hosts ≡ external_extractors defs → length xs ≤ place → place - length xs < length hosts
    → extractor_for defs name ≡ Some (external_form (host_extractor_shown (get_or hosts (place - length xs) host)))
external_here defs name xs shown hosts place host found all hosted past low =
    let count : length xs ≡ length (extractors_in defs) = sym (length-map xs shown) ∙ ap length all in
    external_at_place defs name place (host_extractor_shown (get_or hosts (place - length xs) host)) found (subst (λ n. n ≤ place) count past)
    (ap (λ n. slice_get (external_extractors defs) (place - n)) (sym count)
    ∙ ap (λ externals. slice_get externals (place - length xs)) (sym hosted)
    ∙ mapped_here host_extractor_shown hosts (place - length xs) host low)

-- a term whose name's place is past them all
pub nothing_here : {X : Type 0} (defs : List Def) (name : List ℕ) (xs : List X) (shown : X → ExtractorTree) (hosts : List HostExtractor) (place : ℕ)
    → position_of (extractor_names defs) name ≡ Some place → map shown xs ≡ extractors_in defs
    → map host_extractor_shown hosts ≡ external_extractors defs → length xs ≤ place → length hosts ≤ place - length xs
    → extractor_for defs name ≡ None
nothing_here defs name xs shown hosts place found all hosted past beyond =
    let count : length xs ≡ length (extractors_in defs) = sym (length-map xs shown) ∙ ap length all in
    let counted : length hosts ≡ length (external_extractors defs) = sym (length-map hosts host_extractor_shown) ∙ ap length hosted in
    extractor_place defs name
    ∙ ap (option_and_then (either_at template_form external_form (extractors_in defs) (external_extractors defs))) found
    ∙ ap (λ o. first_of (option_map template_form o)
    (option_map external_form (slice_get (external_extractors defs) (place - length (extractors_in defs)))))
    (slice_get_past (extractors_in defs) place (subst (λ n. n ≤ place) count past))
    ∙ ap (option_map external_form) (slice_get_past (external_extractors defs) (place - length (extractors_in defs))
    (subst (λ n. length (external_extractors defs) ≤ place - n) count (subst (λ n. n ≤ place - length xs) counted beyond)))
