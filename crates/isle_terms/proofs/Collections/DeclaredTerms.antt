-- Terms of declarations, under names that grow and one declaration after the other.
use Rattle.std.proofs.Common.{◌≡◌, ℕ, ◌+◌, ◌≤◌, List, [], ◌∷◌, ◌++◌, length, take, Option, Some, None, Vec, arith, refl, ap, sym, subst, ◌∙◌}
use Rattle.std.proofs.Common.{slice_get}
use Rattle.std.specs.Global.{Global}
use Rattle.std.proofs.lemmas.List.{take_all}
use Rattle.std.proofs.lemmas.List.Elements.{All-nil, All-push}
use Rattle.std.proofs.lemmas.Slice.Zip.{all_zipped_more}
use Rattle.isle_ast.specs.declared.ast.Decl.{Decl as DeclTree}
use Rattle.isle_ast.specs.declared.ast.Def.{Def}
use Rattle.isle_ast.specs.declared.error.Error.{Error}
use Rattle.isle_ast.specs.declared.error.Error.TheVariants.{ParseError, TypeError, SizeError, UnreachableError, OverlapError, ShadowedError}
use Rattle.isle_ast.specs.declared.refusal.Refusal.{Refusal}
use Rattle.isle_ast.specs.declared.refusal.Refusal.TheVariants.{Fault, Memory}
use Rattle.isle_ast.specs.Errors.{type_error, size_error, error_kind, IfFault, IsFaultAnd}
use Rattle.isle_types.specs.declared.ids.TermId.{TermId}
use Rattle.isle_types.specs.Names.{KeepsNames}
use Rattle.isle_types.specs.Environment.{Environment}
use Rattle.isle_types.specs.TypeEnvs.{HasMoreNames}
use Rattle.isle_types.specs.TypeTables.{TypeTables}
use Rattle.isle_types.specs.TypeFaults.{IsTypeFault, IsSizeFault}
use Rattle.isle_containers.proofs.Lists.{AllZip-weaker, taken_more}
use Rattle.isle_types.proofs.FieldReadings.{count_more}
use Rattle.isle_types.proofs.TypeReadings.{reading_then}
use Rattle.isle_rules.specs.declared.terms.Term.{Term}
use Rattle.isle_rules.specs.declared.terms.ConstructorKind.{ConstructorKind}
use Rattle.isle_rules.specs.declared.terms.ConstructorKind.TheVariants.{InternalConstructor, ExternalConstructor}
use Rattle.isle_rules.specs.declared.terms.ExtractorKind.{ExtractorKind}
use Rattle.isle_rules.specs.declared.terms.ExtractorKind.TheVariants.{InternalExtractor, ExternalExtractor}
use Rattle.isle_rules.specs.declared.terms.TermKind.{TermKind}
use Rattle.isle_rules.specs.declared.terms.TermKind.TheVariants.{EnumVariant, Struct, Decl}
use Rattle.isle_rules.specs.Signatures.{Constructor, by_rules, external_constructor, ExtractorForm, by_template, external_extractor, TermForm}
use Rattle.isle_rules.specs.Signatures.{variant_form, struct_form, declared_form, Signature}
use Rattle.isle_rules.specs.Definitions.{IsAmong, IsDeclaration}
use Rattle.isle_terms.specs.Inside.Collecting.Checks.{Checks}
use Rattle.isle_terms.specs.Inside.Collecting.ExtractorChecks.{Adds}
use Rattle.isle_terms.specs.Inside.Collecting.DeclaredTerms.{AreShownAs, IsShownConstructor, IsShownExtractor, IsShownForm, IsShownTerm, IsDeclarationFault}
use Rattle.isle_terms.specs.Inside.Collecting.DeclaredTerms.{NamesUnknownType, OneNamesUnknownType, IsLargeAt, IsOneLargeAt, IsAlone}
use Rattle.isle_terms.specs.Inside.Collecting.DeclaredTerms.{AddsDeclaredTerm, AreDeclaredTerms}
use Rattle.isle_terms.proofs.Collections.AddedErrors.{adds_one, adds_by, adds_both, adds_checks}

-- how a declared term makes its value is still shown where names have come
pub constructor_kept : (old new : List (List ℕ)) → KeepsNames old new → (made : Option Constructor) (kind : Option ConstructorKind)
    → AreShownAs (IsShownConstructor old) made kind → AreShownAs (IsShownConstructor new) made kind
constructor_kept old new keeps None None shown = tt
constructor_kept old new keeps None (Some kind) shown = absurd shown
constructor_kept old new keeps (Some made) None shown = absurd shown
constructor_kept old new keeps (Some by_rules) (Some InternalConstructor) shown = tt
constructor_kept old new keeps (Some by_rules) (Some (ExternalConstructor name)) shown = absurd shown
constructor_kept old new keeps (Some (external_constructor function)) (Some InternalConstructor) shown = absurd shown
constructor_kept old new keeps (Some (external_constructor function)) (Some (ExternalConstructor name)) shown = keeps name.0 function shown

-- so is how it takes one apart
pub extractor_kept : (old new : List (List ℕ)) → KeepsNames old new → (made : Option ExtractorForm) (kind : Option ExtractorKind)
    → AreShownAs (IsShownExtractor old) made kind → AreShownAs (IsShownExtractor new) made kind
extractor_kept old new keeps None None shown = tt
extractor_kept old new keeps None (Some kind) shown = absurd shown
extractor_kept old new keeps (Some made) None shown = absurd shown
extractor_kept old new keeps (Some (by_template template)) (Some (InternalExtractor pattern)) shown = shown
extractor_kept old new keeps (Some (by_template template)) (Some (ExternalExtractor name infallible pos)) shown = absurd shown
extractor_kept old new keeps (Some (external_extractor function sure at)) (Some (InternalExtractor pattern)) shown = absurd shown
extractor_kept old new keeps (Some (external_extractor function sure at)) (Some (ExternalExtractor name infallible pos)) shown =
    (keeps name.0 function shown.0, shown.1, shown.2)

-- so is what a term is
pub form_kept : (old new : List (List ℕ)) → KeepsNames old new → (form : TermForm) (kind : TermKind) → IsShownForm old form kind
    → IsShownForm new form kind
form_kept old new keeps (variant_form number) (EnumVariant variant) shown = shown
form_kept old new keeps (variant_form number) Struct shown = absurd shown
form_kept old new keeps (variant_form number) (Decl own constructor_kind extractor_kind) shown = absurd shown
form_kept old new keeps struct_form (EnumVariant variant) shown = absurd shown
form_kept old new keeps struct_form Struct shown = tt
form_kept old new keeps struct_form (Decl own constructor_kind extractor_kind) shown = absurd shown
form_kept old new keeps (declared_form flags constructor extractor) (EnumVariant variant) shown = absurd shown
form_kept old new keeps (declared_form flags constructor extractor) Struct shown = absurd shown
form_kept old new keeps (declared_form flags constructor extractor) (Decl own constructor_kind extractor_kind) shown =
    (shown.0, constructor_kept old new keeps constructor constructor_kind shown.1, extractor_kept old new keeps extractor extractor_kind shown.2)

-- a term still shows its signature
pub term_kept : (old new : List (List ℕ)) → KeepsNames old new → (signature : Signature) (term : Term) → IsShownTerm old signature term
    → IsShownTerm new signature term
term_kept old new keeps signature term shown = record {
  name = keeps term.name.0 signature.name shown.name;
  args = shown.args;
  ret = shown.ret;
  form = form_kept old new keeps signature.form term.kind shown.form;
  pos = shown.pos;
}

-- the terms of declarations, and that of one more
pub declared_more : (types : Environment) (defs : List Def) (old new : List (List ℕ)) (decls : List DeclTree) (decl : DeclTree)
    (terms more : List Term) → KeepsNames old new → AreDeclaredTerms types defs old decls terms → AddsDeclaredTerm types defs new decl terms more
    → AreDeclaredTerms types defs new (decls ++ decl ∷ []) more
declared_more types defs old new decls decl terms more keeps made adds =
    let front = AllZip-weaker (IsShownTerm old) (IsShownTerm new) (term_kept old new keeps) made.signatures terms made.shown in
    let signature = adds.meant.signature in
    let place : length terms ≡ 0 + length terms = omega arith in
    subst (AreDeclaredTerms types defs new (decls ++ decl ∷ [])) (sym adds.all) (record {
      signatures = made.signatures ++ signature ∷ [];
      meant = all_zipped_more (IsDeclaration types defs) decls made.signatures decl signature made.meant adds.meant.meant;
      shown = all_zipped_more (IsShownTerm new) made.signatures terms signature adds.term front adds.meant.shown;
      counted = count_more (λ (term : Term). term.id.0) 0 terms adds.term made.counted
          (ap (λ (id : TermId). id.0) adds.meant.numbered ∙ place);
      within = All-push (λ (d : DeclTree). length d.arg_tys ≤ 255) decls decl made.within adds.meant.within;
    })

-- one declaration after the others
pub declared_turn : (types : Environment) (defs : List Def) (old new : List (List ℕ)) (decls : List DeclTree) (place : ℕ) (decl : DeclTree)
    (terms more : List Term) (first middle last : List Error) → slice_get decls place ≡ Some decl → KeepsNames old new
    → Adds (OneNamesUnknownType types decls) (AreDeclaredTerms types defs old (take place decls) terms) first middle
    → Adds (NamesUnknownType types decl) (AddsDeclaredTerm types defs new decl terms more) middle last
    → Adds (OneNamesUnknownType types decls) (AreDeclaredTerms types defs new (take (place + 1) decls) more) first last
declared_turn types defs old new decls place decl terms more first middle last here keeps before adds =
    let Broken = OneNamesUnknownType types decls in
    let Before = AreDeclaredTerms types defs old (take place decls) terms in
    let Added = AddsDeclaredTerm types defs new decl terms more in
    adds_by Broken Broken (Before × Added) (AreDeclaredTerms types defs new (take (place + 1) decls) more) first last (λ at broken. broken)
    (λ kept. subst (λ (ds : List DeclTree). AreDeclaredTerms types defs new ds more) (sym (taken_more decls place decl here))
    (declared_more types defs old new (take place decls) decl terms more keeps kept.0 kept.1))
    (adds_both Broken Before Added first middle last before
    (adds_by (NamesUnknownType types decl) Broken Added Added middle last (λ at broken. (decl, (place, here), broken)) (λ added. added) adds))

-- a type error is no size error
kinds_apart : type_error ≡ size_error → ⊥
kinds_apart is = cc

-- a size error of a declaration is that of too many arguments
size_fault : (types : Environment) (decl : DeclTree) (error : Error) → error_kind error ≡ size_error → IsDeclarationFault types decl error
    → IsSizeFault (IsLargeAt decl) error
size_fault types decl (ParseError message span) is fault = absurd fault
size_fault types decl (TypeError message span) is fault = absurd (kinds_apart is)
size_fault types decl (SizeError message span) is fault = fault
size_fault types decl (UnreachableError message span) is fault = absurd fault
size_fault types decl (OverlapError message spans) is fault = absurd fault
size_fault types decl (ShadowedError spans span) is fault = absurd fault

-- another fault of a declaration is a type that isn't known
type_fault : (types : Environment) (decl : DeclTree) (error : Error) → (error_kind error ≡ size_error → ⊥) → IsDeclarationFault types decl error
    → IsTypeFault (NamesUnknownType types decl) error
type_fault types decl (ParseError message span) apart fault = absurd fault
type_fault types decl (TypeError message span) apart fault = fault
type_fault types decl (SizeError message span) apart fault = absurd (apart refl)
type_fault types decl (UnreachableError message span) apart fault = absurd fault
type_fault types decl (OverlapError message spans) apart fault = absurd fault
type_fault types decl (ShadowedError spans span) apart fault = absurd fault

-- a fault of a declaration that is kept is a type that isn't known
pub fault_kept : (types : Environment) (decl : DeclTree) (Kept : Type 0) (refusal : Refusal Error) (old new : List Error)
    → IfFault refusal (IsDeclarationFault types decl)
    → IsFaultAnd refusal (λ error. (¬ (error_kind error ≡ size_error)) × (new ≡ old ++ error ∷ []))
    → Adds (NamesUnknownType types decl) Kept old new
fault_kept types decl Kept (Fault error) old new fault kept =
    adds_one (NamesUnknownType types decl) Kept old new error kept.1 (type_fault types decl error kept.0 fault)
fault_kept types decl Kept (Memory e) old new fault kept = absurd kept

-- one that is handed on is that of too many arguments
pub fault_alone : (types : Environment) (decl : DeclTree) (refusal : Refusal Error) (answer : Refusal (Vec Error Global))
    → IfFault refusal (IsDeclarationFault types decl)
    → IfFault answer (λ all. IsFaultAnd refusal (λ error. (error_kind error ≡ size_error) × (all.items ≡ error ∷ [])))
    → IfFault answer (λ all. IsAlone (IsSizeFault (IsLargeAt decl)) all.items)
fault_alone types decl (Fault error) (Fault all) fault alone =
    subst (IsAlone (IsSizeFault (IsLargeAt decl))) (sym alone.1) (size_fault types decl error alone.0 fault)
fault_alone types decl (Memory e) (Fault all) fault alone = absurd alone
fault_alone types decl refusal (Memory e) fault alone = tt

-- an error alone of one kind is one of a wider kind
pub alone_wider : (P Q : Error → Type 0) → ((error : Error) → P error → Q error) → (errors : List Error) → IsAlone P errors → IsAlone Q errors
alone_wider P Q wider [] alone = absurd alone
alone_wider P Q wider (error ∷ []) alone = wider error alone
alone_wider P Q wider (error ∷ (other ∷ others)) alone = absurd alone

-- it is that of one of the declarations
pub one_alone : (decls : List DeclTree) (decl : DeclTree) (answer : Refusal (Vec Error Global)) → IsAmong decls decl
    → IfFault answer (λ all. IsAlone (IsSizeFault (IsLargeAt decl)) all.items)
    → IfFault answer (λ all. IsAlone (IsSizeFault (IsOneLargeAt decls)) all.items)
one_alone decls decl (Fault all) among alone =
    alone_wider (IsSizeFault (IsLargeAt decl)) (IsSizeFault (IsOneLargeAt decls))
    (λ error fault. reading_then (λ _. ⊥) (IsLargeAt decl) (λ _. ⊥) (IsOneLargeAt decls) (λ _ none. none) (λ at large. (decl, among, large))
    error fault) all.items alone
one_alone decls decl (Memory e) among alone = tt

-- all declarations were come to
pub declared_done : (types : Environment) (defs : List Def) (names : List (List ℕ)) (decls : List DeclTree) (place : ℕ) (terms : List Term)
    (first last : List Error) → length decls ≤ place
    → Adds (OneNamesUnknownType types decls) (AreDeclaredTerms types defs names (take place decls) terms) first last
    → Checks (OneNamesUnknownType types decls) (AreDeclaredTerms types defs names decls terms) first last
declared_done types defs names decls place terms first last past adds =
    adds_checks (OneNamesUnknownType types decls) (AreDeclaredTerms types defs names decls terms) first last
    (subst (λ (ds : List DeclTree). Adds (OneNamesUnknownType types decls) (AreDeclaredTerms types defs names ds terms) first last)
    (take_all place decls past) adds)

-- the tables of names are those that they were
pub same_names : (env : TypeTables) → HasMoreNames env env
same_names env = record { kept = λ place name is. is; same = refl }
