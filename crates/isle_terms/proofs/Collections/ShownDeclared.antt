-- Terms that show signatures, and tables of them that show what is declared.
use Rattle.std.proofs.Common.{◌≡◌, ℕ, ◌<◌, ◌≤◌, List, [], ◌∷◌, length, map, Option, Some, None, arith, refl, ap, sym, subst}
use Rattle.std.proofs.Common.{◌∙◌, slice_get}
use Rattle.std.specs.Prelude.{unwrap_or, IsSome}
use Rattle.std.specs.List.{AllZip}
use Rattle.std.specs.Option.{option_map}
use Rattle.std.proofs.lemmas.Option.{slice_get_within}
use Rattle.isle_ast.specs.declared.pos.Pos.{Pos}
use Rattle.isle_types.specs.declared.ids.Sym.{Sym}
use Rattle.isle_types.specs.declared.ids.TypeId.{TypeId}
use Rattle.isle_types.specs.declared.ids.TermId.{TermId}
use Rattle.isle_types.specs.Names.{position_of}
use Rattle.isle_containers.specs.StableMaps.{value_at}
use Rattle.isle_types.specs.Environment.{Environment}
use Rattle.isle_types.specs.TypeTables.{TypeTables}
use Rattle.isle_types.specs.TypeEnvs.{Shows, CountUp}
use Rattle.isle_rules.specs.declared.terms.Term.{Term}
use Rattle.isle_rules.specs.declared.terms.ConstructorKind.{ConstructorKind}
use Rattle.isle_rules.specs.declared.terms.ConstructorKind.TheVariants.{InternalConstructor, ExternalConstructor}
use Rattle.isle_rules.specs.declared.terms.ExtractorKind.{ExtractorKind}
use Rattle.isle_rules.specs.declared.terms.ExtractorKind.TheVariants.{InternalExtractor, ExternalExtractor}
use Rattle.isle_rules.specs.declared.terms.TermKind.{TermKind}
use Rattle.isle_rules.specs.declared.terms.TermKind.TheVariants.{EnumVariant, Struct, Decl}
use Rattle.isle_rules.specs.Signatures.{Constructor, by_rules, external_constructor, ExtractorForm, by_template, external_extractor, TermForm}
use Rattle.isle_rules.specs.Signatures.{variant_form, struct_form, declared_form, Signature, Conversion}
use Rattle.isle_rules.specs.Definitions.{names_of_terms}
use Rattle.isle_rules.specs.Shown.ShownTerms.{constructor_shown, extractor_shown, form_shown, term_shown, term_at, ShowsDeclared}
use Rattle.isle_rules.specs.Shown.TermTables.{TermTables, same_sym}
use Rattle.isle_terms.specs.Inside.Shown.TermLimits.{constructor_limit, extractor_limit, kind_limit, terms_limit, HasKnownSymbols}
use Rattle.isle_terms.specs.Inside.Collecting.DeclaredTerms.{AreShownAs, IsShownConstructor, IsShownExtractor, IsShownForm, IsShownTerm, number_named}
use Rattle.isle_terms.specs.Inside.Collecting.ReadConverters.{IsTableOfConversions}
use Rattle.isle_terms.specs.Inside.Collecting.TermSymbols.{HasSymbolsOf}
use Rattle.isle_rules.proofs.Zipped.{zipped_back}

-- how a declared term makes its value is that which it shows
constructor_is : (names : List (List ℕ)) (made : Option Constructor) (kind : Option ConstructorKind)
    → AreShownAs (IsShownConstructor names) made kind → option_map (constructor_shown names) kind ≡ made
constructor_is names None None shown = refl
constructor_is names None (Some kind) shown = absurd shown
constructor_is names (Some made) None shown = absurd shown
constructor_is names (Some by_rules) (Some InternalConstructor) shown = refl
constructor_is names (Some by_rules) (Some (ExternalConstructor name)) shown = absurd shown
constructor_is names (Some (external_constructor function)) (Some InternalConstructor) shown = absurd shown
constructor_is names (Some (external_constructor function)) (Some (ExternalConstructor name)) shown =
    ap (λ o. Some (external_constructor (unwrap_or o []))) shown

-- so is how it takes one apart
extractor_is : (names : List (List ℕ)) (made : Option ExtractorForm) (kind : Option ExtractorKind) → AreShownAs (IsShownExtractor names) made kind
    → option_map (extractor_shown names) kind ≡ made
extractor_is names None None shown = refl
extractor_is names None (Some kind) shown = absurd shown
extractor_is names (Some made) None shown = absurd shown
extractor_is names (Some (by_template template)) (Some (InternalExtractor pattern)) shown = ap (λ t. Some (by_template t)) shown
extractor_is names (Some (by_template template)) (Some (ExternalExtractor name infallible pos)) shown = absurd shown
extractor_is names (Some (external_extractor function sure at)) (Some (InternalExtractor pattern)) shown = absurd shown
extractor_is names (Some (external_extractor function sure at)) (Some (ExternalExtractor name infallible pos)) shown =
    let called : unwrap_or (slice_get names name.0) [] ≡ function = ap (λ o. unwrap_or o []) shown.0 in
    let same : infallible ≡ sure = shown.1 in
    let here : pos ≡ at = shown.2 in
    cc

-- so is what a term is
form_is : (names : List (List ℕ)) (form : TermForm) (kind : TermKind) → IsShownForm names form kind → form_shown names kind ≡ form
form_is names (variant_form number) (EnumVariant variant) shown = ap variant_form shown
form_is names (variant_form number) Struct shown = absurd shown
form_is names (variant_form number) (Decl own constructor_kind extractor_kind) shown = absurd shown
form_is names struct_form (EnumVariant variant) shown = absurd shown
form_is names struct_form Struct shown = refl
form_is names struct_form (Decl own constructor_kind extractor_kind) shown = absurd shown
form_is names (declared_form flags constructor extractor) (EnumVariant variant) shown = absurd shown
form_is names (declared_form flags constructor extractor) Struct shown = absurd shown
form_is names (declared_form flags constructor extractor) (Decl own constructor_kind extractor_kind) shown =
    ap (λ f. declared_form f (option_map (constructor_shown names) constructor_kind) (option_map (extractor_shown names) extractor_kind)) shown.0
    ∙ ap (λ c. declared_form flags c (option_map (extractor_shown names) extractor_kind)) (constructor_is names constructor constructor_kind shown.1)
    ∙ ap (declared_form flags constructor) (extractor_is names extractor extractor_kind shown.2)

-- the signature of its parts
abbrev of_parts : List ℕ → List ℕ → ℕ → TermForm → Pos → Signature
of_parts name args ret form pos = record { name = name; args = args; ret = ret; form = form; pos = pos }

-- signatures with the same parts are the same
same_signature : (a b : Signature) → a.name ≡ b.name → a.args ≡ b.args → a.ret ≡ b.ret → a.form ≡ b.form → a.pos ≡ b.pos → a ≡ b
same_signature a b name args ret form pos =
    ap (λ n. of_parts n a.args a.ret a.form a.pos) name ∙ ap (λ n. of_parts b.name n a.ret a.form a.pos) args
    ∙ ap (λ n. of_parts b.name b.args n a.form a.pos) ret ∙ ap (λ f. of_parts b.name b.args b.ret f a.pos) form
    ∙ ap (of_parts b.name b.args b.ret b.form) pos

-- a term shows its signature and no other
term_is : (names : List (List ℕ)) (signature : Signature) (term : Term) → IsShownTerm names signature term → term_shown names term ≡ signature
term_is names signature term shown =
    same_signature (term_shown names term) signature (ap (λ o. unwrap_or o []) shown.name) shown.args shown.ret
    (form_is names signature.form term.kind shown.form) shown.pos

-- what terms show are their signatures
pub shown_terms : (names : List (List ℕ)) (signatures : List Signature) (terms : List Term) → AllZip (IsShownTerm names) signatures terms
    → map (term_shown names) terms ≡ signatures
shown_terms names [] [] zipped = refl
shown_terms names [] (term ∷ terms) zipped = absurd zipped
shown_terms names (signature ∷ signatures) [] zipped = absurd zipped
shown_terms names (signature ∷ signatures) (term ∷ terms) zipped =
    ap (λ s. s ∷ map (term_shown names) terms) (term_is names signature term zipped.0)
    ∙ ap (λ ss. signature ∷ ss) (shown_terms names signatures terms zipped.1)

-- the symbol of a host's function is that of a name
constructor_known : (names : List (List ℕ)) (made : Option Constructor) (kind : Option ConstructorKind)
    → AreShownAs (IsShownConstructor names) made kind → constructor_limit kind ≤ length names
constructor_known names None None shown = omega arith
constructor_known names None (Some kind) shown = absurd shown
constructor_known names (Some made) None shown = absurd shown
constructor_known names (Some made) (Some InternalConstructor) shown = omega arith
constructor_known names (Some by_rules) (Some (ExternalConstructor name)) shown = absurd shown
constructor_known names (Some (external_constructor function)) (Some (ExternalConstructor name)) shown =
    let within : name.0 < length names = slice_get_within names name.0 function shown in omega arith

-- so is that of a host's extractor
extractor_known : (names : List (List ℕ)) (made : Option ExtractorForm) (kind : Option ExtractorKind) → AreShownAs (IsShownExtractor names) made kind
    → extractor_limit kind ≤ length names
extractor_known names None None shown = omega arith
extractor_known names None (Some kind) shown = absurd shown
extractor_known names (Some made) None shown = absurd shown
extractor_known names (Some made) (Some (InternalExtractor pattern)) shown = omega arith
extractor_known names (Some (by_template template)) (Some (ExternalExtractor name infallible pos)) shown = absurd shown
extractor_known names (Some (external_extractor function sure at)) (Some (ExternalExtractor name infallible pos)) shown =
    let within : name.0 < length names = slice_get_within names name.0 function shown.0 in omega arith

-- so are those of what a term is
form_known : (names : List (List ℕ)) (form : TermForm) (kind : TermKind) → IsShownForm names form kind → kind_limit kind ≤ length names
form_known names form (EnumVariant variant) shown = omega arith
form_known names form Struct shown = omega arith
form_known names (variant_form number) (Decl own constructor_kind extractor_kind) shown = absurd shown
form_known names struct_form (Decl own constructor_kind extractor_kind) shown = absurd shown
form_known names (declared_form flags constructor extractor) (Decl own constructor_kind extractor_kind) shown =
    let made = constructor_known names constructor constructor_kind shown.1 in
    let apart = extractor_known names extractor extractor_kind shown.2 in
    omega arith

-- all symbols of terms that show signatures are of names
terms_known : (names : List (List ℕ)) (signatures : List Signature) (terms : List Term) → AllZip (IsShownTerm names) signatures terms
    → terms_limit terms ≤ length names
terms_known names [] [] zipped = omega arith
terms_known names [] (term ∷ terms) zipped = absurd zipped
terms_known names (signature ∷ signatures) [] zipped = absurd zipped
terms_known names (signature ∷ signatures) (term ∷ terms) zipped =
    let named = slice_get_within names term.name.0 signature.name zipped.0.name in
    let formed = form_known names signature.form term.kind zipped.0.form in
    let later = terms_known names signatures terms zipped.1 in
    omega arith

-- an environment holds these terms, and tables of their numbers and of converters
module _ (tyenv : TypeTables) (env : TermTables) (signatures : List Signature) (terms : List Term) (numbers : List (Sym × TermId))
    (holds : env.terms ≡ terms) (finds : env.numbers ≡ numbers) (zipped : AllZip (IsShownTerm tyenv.names) signatures terms) where
  -- it shows what is declared
  pub declared_shown : (types : Environment) (conversions : List Conversion) (table : List ((TypeId × TypeId) × TermId)) → env.converters ≡ table
      → Shows tyenv types → CountUp (λ (term : Term). term.id.0) 0 terms
      → ((name : List ℕ) → number_named tyenv.names numbers name ≡ option_map term_at (position_of (names_of_terms signatures) name))
      → IsTableOfConversions signatures conversions table
      → ShowsDeclared tyenv env (record { types = types; terms = signatures; conversions = conversions; expands = env.expands })
  declared_shown types conversions table converts shows counted numbered converted = record {
    types = shows;
    terms = ap (map (term_shown tyenv.names)) holds ∙ shown_terms tyenv.names signatures terms zipped;
    counted = subst (CountUp (λ (term : Term). term.id.0) 0) (sym holds) counted;
    named = subst (λ table. (name : List ℕ)
        → number_named tyenv.names table name ≡ option_map term_at (position_of (names_of_terms signatures) name)) (sym finds) numbered;
    converters = subst (IsTableOfConversions signatures conversions) (sym converts) converted;
    expands = refl;
  }

  -- its symbols are of names
  pub known_symbols : HasSymbolsOf terms numbers → HasKnownSymbols tyenv.names env
  known_symbols known = record {
    terms = subst (λ ts. terms_limit ts ≤ length tyenv.names) (sym holds) (terms_known tyenv.names signatures terms zipped);
    numbers = subst (λ table. (symbol : Sym) → IsSome (value_at same_sym table symbol) → symbol.0 < length tyenv.names) (sym finds) (λ symbol there.
        let found = known symbol there in
        let back = zipped_back (IsShownTerm tyenv.names) signatures terms zipped found.1.0 found.0 found.1.1 in
        subst (λ (s : Sym). s.0 < length tyenv.names) found.2 (slice_get_within tyenv.names found.0.name.0 back.0.name back.2.name));
  }
