-- What a search for a name finds, by the name's place.
use Rattle.std.proofs.Common.{◌≡◌, ℕ, zero, suc, ◌-◌, ◌≤◌, List, [], ◌∷◌, ◌++◌, length, map, true, false, cond, Option, Some, None}
use Rattle.std.proofs.Common.{is_some, arith, refl, ap, sym, ◌∙◌, slice_get, bytes_eq}
use Rattle.std.specs.Option.{option_map, option_and_then}
use Rattle.std.proofs.lemmas.Option.{none-some, slice_get_past}
use Rattle.isle_ast.specs.declared.ast.Ident.{Ident}
use Rattle.isle_ast.specs.declared.ast.Extractor.{Extractor as ExtractorTree}
use Rattle.isle_ast.specs.declared.ast.Def.{Def}
use Rattle.isle_ast.specs.Trees.PatternShape.{pattern_of}
use Rattle.isle_ast.specs.Trees.Templates.{template_tree}
use Rattle.isle_types.specs.Names.{position_of, AreDistinct}
use Rattle.isle_types.proofs.NamePlaces.{place_known}
use Rattle.isle_rules.specs.Signatures.{by_rules, external_constructor, ExtractorForm, by_template, external_extractor}
use Rattle.isle_rules.specs.Definitions.{ExternalExtractor, function_for, template_for, external_extractor_for, first_of}
use Rattle.isle_rules.specs.Definitions.{constructor_for, extractor_for, extractors_in, external_extractors, external_constructors}
use Rattle.isle_rules.specs.Definitions.{rules_in, roots_of, external_constructor_names, extractor_names}
use Rattle.isle_rules.proofs.AmongNames.{turned, found_among}

-- where names stand once, that of the item at a place has this place
pub named_place : {X : Type 0} (named : X → List ℕ) (xs : List X) (place : ℕ) (x : X) → AreDistinct (map named xs) → slice_get xs place ≡ Some x
    → position_of (map named xs) (named x) ≡ Some place
named_place {X} named xs place x once at = place_known (map named xs) (named x) place once (mapped xs place at)
  where
    mapped : (ys : List X) (i : ℕ) → slice_get ys i ≡ Some x → slice_get (map named ys) i ≡ Some (named x)
    mapped [] i is = absurd (none-some x is)
    mapped (y ∷ ys) zero is = ap (option_map named) is
    mapped (y ∷ ys) (suc i) is = mapped ys i is

-- what is read at a place, behind one more item
read_later : {X Y : Type 0} (value : X → Y) (first : X) (others : List X) (o : Option ℕ)
    → option_map value (option_and_then (slice_get (first ∷ others)) (option_map suc o)) ≡ option_map value (option_and_then (slice_get others) o)
read_later value first others None = refl
read_later value first others (Some place) = refl

-- a search for the first item of a name reads the item at the name's place
search_reads : {X Y : Type 0} (named : X → List ℕ) (value : X → Y) (name : List ℕ) (search_in : List X → Option Y) → search_in [] ≡ None
    → ((x : X) (xs : List X) → search_in (x ∷ xs) ≡ cond (bytes_eq (named x) name) (Some (value x)) (search_in xs)) → (xs : List X)
    → search_in xs ≡ option_map value (option_and_then (slice_get xs) (position_of (map named xs) name))
search_reads named value name search_in none more [] = none
search_reads named value name search_in none more (x ∷ xs) =
    more x xs ∙ ap (λ b. cond b (Some (value x)) (search_in xs)) (turned (named x) name) ∙ elim (bytes_eq name (named x)) as
    (λ b. cond b (Some (value x)) (search_in xs) ≡ option_map value (option_and_then (slice_get (x ∷ xs))
    (cond b (Some 0) (option_map suc (position_of (map named xs) name))))) [
      | true ↦ refl
      | false ↦ search_reads named value name search_in none more xs ∙ sym (read_later value x xs (position_of (map named xs) name))
    ]

-- the function of a name is that of the pair at the name's place
pub function_place : (pairs : List (Ident × Ident)) (name : List ℕ)
    → function_for pairs name ≡ option_map (λ (pair : Ident × Ident). pair.1.0)
    (option_and_then (slice_get pairs) (position_of (map (λ (pair : Ident × Ident). pair.0.0) pairs) name))
function_place pairs name =
    search_reads (λ (pair : Ident × Ident). pair.0.0) (λ (pair : Ident × Ident). pair.1.0) name (λ others. function_for others name) refl
    (λ first others. refl) pairs

-- the form of an internal extractor
abbrev pub template_form : ExtractorTree → ExtractorForm
template_form extractor = by_template (template_tree extractor.args (pattern_of extractor.template))

-- the form of a host's extractor
abbrev pub external_form : ExternalExtractor → ExtractorForm
external_form external = external_extractor external.function.0 external.infallible external.pos

-- the template of a name is that of the extractor at the name's place
pub template_place : (extractors : List ExtractorTree) (name : List ℕ)
    → template_for extractors name ≡ option_map template_form
    (option_and_then (slice_get extractors) (position_of (map (λ (extractor : ExtractorTree). extractor.term.0) extractors) name))
template_place extractors name =
    search_reads (λ (extractor : ExtractorTree). extractor.term.0) template_form name (λ others. template_for others name) refl
    (λ first others. refl) extractors

-- the host's extractor of a name is that at the name's place
pub external_place : (externals : List ExternalExtractor) (name : List ℕ)
    → external_extractor_for externals name ≡ option_map external_form
    (option_and_then (slice_get externals) (position_of (map (λ (external : ExternalExtractor). external.term.0) externals) name))
external_place externals name =
    search_reads (λ (external : ExternalExtractor). external.term.0) external_form name (λ others. external_extractor_for others name) refl
    (λ first others. refl) externals

-- a declared term's constructor, by the places of its name among the roots and among the host's constructors
pub constructor_place : (defs : List Def) (name : List ℕ)
    → constructor_for defs name ≡ cond (is_some (position_of (roots_of (rules_in defs)) name)) (Some by_rules)
    (option_map external_constructor (option_map (λ (pair : Ident × Ident). pair.1.0)
    (option_and_then (slice_get (external_constructors defs)) (position_of (external_constructor_names defs) name))))
constructor_place defs name =
    ap (λ b. cond b (Some by_rules) (option_map external_constructor (function_for (external_constructors defs) name)))
    (sym (found_among (roots_of (rules_in defs)) name))
    ∙ ap (λ o. cond (is_some (position_of (roots_of (rules_in defs)) name)) (Some by_rules) (option_map external_constructor o))
    (function_place (external_constructors defs) name)

-- what stands at a place of two lists, one behind the other
abbrev pub either_at : {X Y Z : Type 0} → (X → Z) → (Y → Z) → List X → List Y → ℕ → Option Z
either_at front back xs ys place = first_of (option_map front (slice_get xs place)) (option_map back (slice_get ys (place - length xs)))

-- a name is read in the first list, or else in the second, as it is at its place in both
both_read : {X Y Z : Type 0} (named : X → List ℕ) (called : Y → List ℕ) (front : X → Z) (back : Y → Z) (name : List ℕ) (xs : List X) (ys : List Y)
    → first_of (option_map front (option_and_then (slice_get xs) (position_of (map named xs) name)))
    (option_map back (option_and_then (slice_get ys) (position_of (map called ys) name)))
    ≡ option_and_then (either_at front back xs ys) (position_of (map named xs ++ map called ys) name)
both_read {Y = Y} {Z = Z} named called front back name [] ys = through (position_of (map called ys) name)
  where
    through : (o : Option ℕ) → option_map back (option_and_then (slice_get ys) o)
        ≡ option_and_then (λ (place : ℕ). option_map back (slice_get ys (place - 0))) o
    through None = refl
    through (Some place) =
        let same : place ≡ place - 0 = omega arith in ap (λ i. option_map back (slice_get ys i)) same
both_read {X} {Y} {Z} named called front back name (x ∷ xs) ys = elim (bytes_eq name (named x)) as
    (λ b. first_of (option_map front (option_and_then (slice_get (x ∷ xs)) (cond b (Some 0) (option_map suc (position_of (map named xs) name)))))
    (option_map back (option_and_then (slice_get ys) (position_of (map called ys) name)))
    ≡ option_and_then (either_at front back (x ∷ xs) ys) (cond b (Some 0) (option_map suc (position_of (map named xs ++ map called ys) name)))) [
      | true ↦ refl
      | false ↦ ap (λ o. first_of o (option_map back (option_and_then (slice_get ys) (position_of (map called ys) name))))
          (read_later front x xs (position_of (map named xs) name))
          ∙ both_read named called front back name xs ys ∙ later (position_of (map named xs ++ map called ys) name)
    ]
  where
    later : (o : Option ℕ) → option_and_then (either_at front back xs ys) o
        ≡ option_and_then (either_at front back (x ∷ xs) ys) (option_map suc o)
    later None = refl
    later (Some place) =
        let same : place - length xs ≡ suc place - suc (length xs) = omega arith in
        ap (λ i. first_of (option_map front (slice_get xs place)) (option_map back (slice_get ys i))) same

-- a declared term's extractor is that at the place of its name among the extractors' names, the host's behind the internal ones
pub extractor_place : (defs : List Def) (name : List ℕ)
    → extractor_for defs name ≡ option_and_then (either_at template_form external_form (extractors_in defs) (external_extractors defs))
    (position_of (extractor_names defs) name)
extractor_place defs name =
    ap (λ o. first_of o (external_extractor_for (external_extractors defs) name)) (template_place (extractors_in defs) name)
    ∙ ap (first_of (option_map template_form (option_and_then (slice_get (extractors_in defs))
    (position_of (map (λ (extractor : ExtractorTree). extractor.term.0) (extractors_in defs)) name))))
    (external_place (external_extractors defs) name)
    ∙ both_read (λ (extractor : ExtractorTree). extractor.term.0) (λ (external : ExternalExtractor). external.term.0) template_form external_form
    name (extractors_in defs) (external_extractors defs)

-- at the place of an internal extractor the extractor is its template
pub internal_at_place : (defs : List Def) (name : List ℕ) (place : ℕ) (extractor : ExtractorTree)
    → position_of (extractor_names defs) name ≡ Some place → slice_get (extractors_in defs) place ≡ Some extractor
    → extractor_for defs name ≡ Some (template_form extractor)
internal_at_place defs name place extractor found at =
    extractor_place defs name
    ∙ ap (option_and_then (either_at template_form external_form (extractors_in defs) (external_extractors defs))) found
    ∙ ap (λ o. first_of (option_map template_form o)
    (option_map external_form (slice_get (external_extractors defs) (place - length (extractors_in defs))))) at

-- at a place behind them it is the host's
pub external_at_place : (defs : List Def) (name : List ℕ) (place : ℕ) (external : ExternalExtractor)
    → position_of (extractor_names defs) name ≡ Some place → length (extractors_in defs) ≤ place
    → slice_get (external_extractors defs) (place - length (extractors_in defs)) ≡ Some external
    → extractor_for defs name ≡ Some (external_form external)
external_at_place defs name place external found past at =
    extractor_place defs name
    ∙ ap (option_and_then (either_at template_form external_form (extractors_in defs) (external_extractors defs))) found
    ∙ ap (λ o. first_of (option_map template_form o)
    (option_map external_form (slice_get (external_extractors defs) (place - length (extractors_in defs)))))
    (slice_get_past (extractors_in defs) place past)
    ∙ ap (option_map external_form) at

-- a name that is no extractor's has none
pub no_extractor_place : (defs : List Def) (name : List ℕ) → position_of (extractor_names defs) name ≡ None → extractor_for defs name ≡ None
no_extractor_place defs name missing =
    extractor_place defs name
    ∙ ap (option_and_then (either_at template_form external_form (extractors_in defs) (external_extractors defs))) missing
