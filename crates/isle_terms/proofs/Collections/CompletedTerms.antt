-- The terms of declarations, and behind them those of the types.
use Rattle.std.proofs.Common.{◌≡◌, ℕ, suc, ◌+◌, ◌≤◌, List, [], ◌∷◌, ◌++◌, length, map, arith, true, false, refl, ap, sym, subst, ◌∙◌}
use Rattle.std.specs.Prelude.{All}
use Rattle.std.specs.List.{AllZip}
use Rattle.std.proofs.lemmas.List.Elements.{All-nil, All-cons, All-append}
use Rattle.isle_ast.specs.declared.ast.Decl.{Decl as DeclTree}
use Rattle.isle_ast.specs.declared.ast.Def.{Def}
use Rattle.isle_types.specs.IntTypes.{builtin_names}
use Rattle.isle_types.specs.Names.{AreDistinct}
use Rattle.isle_types.specs.TypeEnvs.{CountUp}
use Rattle.isle_types.specs.Environment.{Environment, NamedType, NamedVariant, TypeShape, primitive, enum, struct}
use Rattle.isle_rules.specs.declared.terms.Term.{Term}
use Rattle.isle_rules.specs.declared.terms.TermKind.{TermKind}
use Rattle.isle_rules.specs.declared.terms.TermKind.TheVariants.{EnumVariant, Struct, Decl}
use Rattle.isle_rules.specs.Signatures.{Signature, TermForm, variant_form, struct_form, declared_form}
use Rattle.isle_rules.specs.Definitions.{declarations, IsDeclaration, terms_of_types, terms_of_shape, variant_terms, names_of_terms, AreTerms}
use Rattle.isle_rules.specs.Readings.Needs.{needed_by, needed_of}
use Rattle.isle_terms.specs.TermFaults.{names_of, named_terms}
use Rattle.isle_terms.specs.Inside.Collecting.DeclaredTerms.{IsShownForm, IsShownTerm, AreDeclaredTerms, AddsTerms}
use Rattle.isle_terms.specs.Inside.Collecting.NamedItems.{named_term}
use Rattle.isle_rules.proofs.Zipped.{zipped_append, count_append}
use Rattle.isle_terms.proofs.Collections.TermNames.{terms_are_named, names_of_named}

-- terms show the signatures of the declarations and of the types
pub record Completed (types : Environment) (defs : List Def) (names : List (List ℕ)) (terms : List Term) : Type 0 where
  pub declared : List Signature
  pub signatures : List Signature
  pub meant : AllZip (IsDeclaration types defs) (declarations defs) declared
  pub all : signatures ≡ declared ++ terms_of_types (length builtin_names) types.types
  pub shown : AllZip (IsShownTerm names) signatures terms
  pub counted : CountUp (λ (term : Term). term.id.0) 0 terms
  pub within : All (λ (decl : DeclTree). length decl.arg_tys ≤ 255) (declarations defs)
  pub named : map named_term signatures ≡ named_terms types defs

-- the terms of the types come behind those of the declarations
pub completed : (types : Environment) (defs : List Def) (names : List (List ℕ)) (old new : List Term)
    → AreDeclaredTerms types defs names (declarations defs) old → AddsTerms names (terms_of_types (length builtin_names) types.types) old new
    → Completed types defs names new
completed types defs names old new made adds =
    let behind = terms_of_types (length builtin_names) types.types in
    let start : length old ≡ 0 + length old = omega arith in
    record {
      declared = made.signatures;
      signatures = made.signatures ++ behind;
      meant = made.meant;
      all = refl;
      shown = subst (AllZip (IsShownTerm names) (made.signatures ++ behind)) (sym adds.all)
          (zipped_append (IsShownTerm names) made.signatures old behind adds.added made.shown adds.shown);
      counted = subst (CountUp (λ (term : Term). term.id.0) 0) (sym adds.all)
          (count_append (λ (term : Term). term.id.0) 0 old adds.added made.counted
          (subst (λ n. CountUp (λ (term : Term). term.id.0) n adds.added) start adds.counted));
      within = made.within;
      named = terms_are_named types defs made.signatures (made.signatures ++ behind) made.meant refl;
    }

-- they are those that definitions make where each name stands once
pub terms_made : (types : Environment) (defs : List Def) (names : List (List ℕ)) (terms : List Term) (whole : Completed types defs names terms)
    → All (λ (decl : DeclTree). decl.multi ≡ true → decl.partial ≡ false) (declarations defs) → AreDistinct (names_of (named_terms types defs))
    → AreTerms types defs whole.signatures
terms_made types defs names terms whole marks distinct = record {
  declared = whole.declared;
  each = whole.meant;
  all = whole.all;
  distinct = subst AreDistinct (sym (ap names_of whole.named) ∙ names_of_named whole.signatures) distinct;
  one_answer = marks;
}

-- the names of the terms
pub completed_names : (types : Environment) (defs : List Def) (names : List (List ℕ)) (terms : List Term) (whole : Completed types defs names terms)
    → names_of (named_terms types defs) ≡ names_of_terms whole.signatures
completed_names types defs names terms whole = sym (ap names_of whole.named) ∙ names_of_named whole.signatures

-- a term is no declared one
abbrev IsUndeclaredForm : TermForm → Type 0
IsUndeclaredForm (variant_form _) = Unit {0}
IsUndeclaredForm struct_form = Unit {0}
IsUndeclaredForm (declared_form _ _ _) = ⊥

-- such a term needs nothing
undeclared_needs : (names : List (List ℕ)) (form : TermForm) (kind : TermKind) → IsUndeclaredForm form → IsShownForm names form kind
    → needed_by kind ≡ 0
undeclared_needs names (variant_form number) (EnumVariant variant) is shown = refl
undeclared_needs names (variant_form number) Struct is shown = absurd shown
undeclared_needs names (variant_form number) (Decl flags constructor extractor) is shown = absurd shown
undeclared_needs names struct_form (EnumVariant variant) is shown = absurd shown
undeclared_needs names struct_form Struct is shown = refl
undeclared_needs names struct_form (Decl flags constructor extractor) is shown = absurd shown
undeclared_needs names (declared_form flags constructor extractor) kind is shown = absurd is

-- the terms of types are no declared ones
abbrev AreUndeclared : List Signature → Type 0
AreUndeclared [] = Unit {0}
AreUndeclared (term ∷ terms) = IsUndeclaredForm term.form × AreUndeclared terms

undeclared_both : (xs ys : List Signature) → AreUndeclared xs → AreUndeclared ys → AreUndeclared (xs ++ ys)
undeclared_both [] ys first second = second
undeclared_both (x ∷ xs) ys first second = (first.0, undeclared_both xs ys first.1 second)

variants_undeclared : (ty : ℕ) (type : List ℕ) (number : ℕ) (variants : List NamedVariant) → AreUndeclared (variant_terms ty type number variants)
variants_undeclared ty type number [] = tt
variants_undeclared ty type number (first ∷ others) = (tt, variants_undeclared ty type (suc number) others)

shape_undeclared : (ty : ℕ) (type : NamedType) (shape : TypeShape) → AreUndeclared (terms_of_shape ty type shape)
shape_undeclared ty type (primitive host) = tt
shape_undeclared ty type (enum variants) = variants_undeclared ty type.name 0 variants
shape_undeclared ty type (struct _) = (tt, tt)

types_undeclared : (ty : ℕ) (types : List NamedType) → AreUndeclared (terms_of_types ty types)
types_undeclared ty [] = tt
types_undeclared ty (first ∷ others) =
    undeclared_both (terms_of_shape ty first first.shape) (terms_of_types (suc ty) others) (shape_undeclared ty first first.shape)
    (types_undeclared (suc ty) others)

-- so they need nothing
none_needed : (most : ℕ) (names : List (List ℕ)) (signatures : List Signature) (terms : List Term) → AreUndeclared signatures
    → AllZip (IsShownTerm names) signatures terms → All (λ (term : Term). needed_of term ≤ most) terms
none_needed most names [] [] none each = All-nil (λ (term : Term). needed_of term ≤ most)
none_needed most names [] (term ∷ terms) none each = absurd each
none_needed most names (signature ∷ signatures) [] none each = absurd each
none_needed most names (signature ∷ signatures) (term ∷ terms) none each =
    let nothing : 0 ≤ most = omega arith in
    All-cons (λ (other : Term). needed_of other ≤ most) term terms
    (subst (λ n. n ≤ most) (sym (undeclared_needs names signature.form term.kind none.0 each.0.form)) nothing)
    (none_needed most names signatures terms none.1 each.1)

-- with the terms of the types no term needs more than before
pub needs_kept : (most : ℕ) (types : Environment) (names : List (List ℕ)) (old new : List Term)
    → AddsTerms names (terms_of_types (length builtin_names) types.types) old new → All (λ (term : Term). needed_of term ≤ most) old
    → All (λ (term : Term). needed_of term ≤ most) new
needs_kept most types names old new adds before =
    subst (All (λ (term : Term). needed_of term ≤ most)) (sym adds.all)
    (All-append (λ (term : Term). needed_of term ≤ most) old adds.added before
    (none_needed most names (terms_of_types (length builtin_names) types.types) adds.added
    (types_undeclared (length builtin_names) types.types) adds.shown))
