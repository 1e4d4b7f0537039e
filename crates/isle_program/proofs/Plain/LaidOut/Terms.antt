-- Terms on parts.
use Rattle.std.proofs.Common.{◌≡◌, ℕ, true, List, Option, None, Some, slice_get, unwrap_or, refl, sym, ap, ◌∙◌, subst}
use Rattle.std.proofs.lemmas.Option.{slice_get-map}
use Rattle.std.specs.Option.{option_map}
use Rattle.isle_types.specs.declared.ids.TermId.{TermId}
use Rattle.isle_types.specs.declared.ids.TypeId.{TypeId}
use Rattle.isle_types.specs.declared.ids.VariantId.{VariantId}
use Rattle.isle_types.specs.TypeTables.{TypeTables}
use Rattle.isle_rules.specs.declared.terms.Term.{Term}
use Rattle.isle_rules.specs.declared.terms.TermFlags.{TermFlags}
use Rattle.isle_rules.specs.declared.terms.ConstructorKind.{ConstructorKind}
use Rattle.isle_rules.specs.declared.terms.ExtractorKind.{ExtractorKind}
use Rattle.isle_rules.specs.declared.terms.TermKind.{TermKind}
use Rattle.isle_rules.specs.declared.terms.TermKind.TheVariants.{EnumVariant, Struct as StructTerm, Decl}
use Rattle.isle_rules.specs.Signatures.{Signature, TermForm, flags_of}
use Rattle.isle_meaning.specs.Facts.{shape_of_form, no_term}
use Rattle.isle_meaning.specs.Words.{Word, variant_word, struct_word, Words, Step, apply}
use Rattle.isle_rules.specs.Shown.TermTables.{TermTables}
use Rattle.isle_rules.specs.Shown.ShownTerms.{term_shown, form_shown}
use Rattle.isle_program.specs.Laws.Terms.{signature_at, term_facts}
use Rattle.isle_program.specs.Inside.Plain.LaidOut.Expressions.{IsPut, Lays, LaysTerm, LaysCall}
use Rattle.isle_program.specs.declared.laid.Layout.{Layout}
use Rattle.isle_program.specs.declared.laid.Part.TheVariants.{Variant, Struct}
use Rattle.isle_program.proofs.Plain.LaidOut.Kept.{are_laid_kept, are_laid_inside}
use Rattle.isle_program.proofs.Plain.LaidOut.Parts.{put_keeps, put_there, put_lays}

-- what is shown of a number's term
signature_shown : (tyenv : TypeTables) (env : TermTables) (t : ℕ) (found : Option Term) → slice_get env.terms t ≡ found
    → signature_at tyenv env t ≡ unwrap_or (option_map (term_shown tyenv.names) found) no_term
signature_shown tyenv env t found e =
    ap (λ (shown : Option Signature). unwrap_or shown no_term) (slice_get-map (term_shown tyenv.names) env.terms t)
    ∙ ap (λ (known : Option Term). unwrap_or (option_map (term_shown tyenv.names) known) no_term) e

-- what a known term is
form_known : (tyenv : TypeTables) (env : TermTables) (t : ℕ) (known : Term) (kind : TermKind) → slice_get env.terms t ≡ Some known
    → known.kind ≡ kind → (signature_at tyenv env t).form ≡ form_shown tyenv.names kind
form_known tyenv env t known kind e k =
    ap (λ (signature : Signature). signature.form) (signature_shown tyenv env t (Some known) e) ∙ ap (form_shown tyenv.names) k

-- what stands for an unknown term
form_unknown : (tyenv : TypeTables) (env : TermTables) (t : ℕ) → slice_get env.terms t ≡ None
    → (signature_at tyenv env t).form ≡ no_term.form
form_unknown tyenv env t e = ap (λ (signature : Signature). signature.form) (signature_shown tyenv env t None e)

-- a term on words, once it is known what it is
lays_as : (tyenv : TypeTables) (env : TermTables) (vars : ℕ → Word) (ty : ℕ) (t : ℕ) (r : Words × List Step) (old new : Layout) (number : ℕ)
    (form : TermForm) → (signature_at tyenv env t).form ≡ form
    → Lays tyenv.names vars (apply (shape_of_form form) (flags_of form).pure ty t r) old new number
    → Lays tyenv.names vars (apply ((term_facts tyenv env).shape t) ((term_facts tyenv env).pure t) ty t r) old new number
lays_as tyenv env vars ty t r old new number form e h =
    subst (λ (f : TermForm). Lays tyenv.names vars (apply (shape_of_form f) (flags_of f).pure ty t r) old new number) (sym e) h

-- a variant of an enum
pub lays_variant : (env : TermTables) (ty : TypeId) (term : TermId) (args : List ℕ) (old new : Layout) (number : ℕ) (known : Term)
    (variant : VariantId) → slice_get env.terms term.0 ≡ Some known → known.kind ≡ EnumVariant variant
    → IsPut (Variant ty variant args) old new number → new.bound.items ≡ old.bound.items → LaysTerm env ty term args old new number
lays_variant env ty term args old new number known variant e k p b = λ tyenv vars steps words s laid.
    lays_as tyenv env vars ty.0 term.0 (words, steps) old new number (form_shown tyenv.names (EnumVariant variant))
    (form_known tyenv env term.0 known (EnumVariant variant) e k)
    (put_lays tyenv.names vars steps (variant_word ty.0 variant.0 words) (Variant ty variant args) old new number p b
    (are_laid_inside tyenv.names old.parts.items words args laid) (λ t ns j e. cc) (
      ty,
      variant,
      args,
      put_there (Variant ty variant args) old new number p,
      refl,
      refl,
      are_laid_kept tyenv.names old.parts.items new.parts.items (put_keeps (Variant ty variant args) old new number p) words args laid,
    )
    s)

-- a struct
pub lays_struct : (env : TermTables) (ty : TypeId) (term : TermId) (args : List ℕ) (old new : Layout) (number : ℕ) (known : Term)
    → slice_get env.terms term.0 ≡ Some known → known.kind ≡ StructTerm
    → IsPut (Struct ty args) old new number → new.bound.items ≡ old.bound.items → LaysTerm env ty term args old new number
lays_struct env ty term args old new number known e k p b = λ tyenv vars steps words s laid.
    lays_as tyenv env vars ty.0 term.0 (words, steps) old new number (form_shown tyenv.names StructTerm)
    (form_known tyenv env term.0 known StructTerm e k)
    (put_lays tyenv.names vars steps (struct_word ty.0 words) (Struct ty args) old new number p b
    (are_laid_inside tyenv.names old.parts.items words args laid) (λ t ns j e. cc) (
      ty,
      args,
      put_there (Struct ty args) old new number p,
      refl,
      are_laid_kept tyenv.names old.parts.items new.parts.items (put_keeps (Struct ty args) old new number p) words args laid,
    )
    s)

-- a declared term
pub lays_declared : (env : TermTables) (ty : TypeId) (term : TermId) (args : List ℕ) (old new : Layout) (number : ℕ) (known : Term)
    (flags : TermFlags) (constructor_kind : Option ConstructorKind) (extractor_kind : Option ExtractorKind)
    → slice_get env.terms term.0 ≡ Some known → known.kind ≡ Decl flags constructor_kind extractor_kind
    → LaysCall flags.pure term args old new number → LaysTerm env ty term args old new number
lays_declared env ty term args old new number known flags ck ek e k h = λ tyenv vars steps words s laid.
    lays_as tyenv env vars ty.0 term.0 (words, steps) old new number (form_shown tyenv.names (Decl flags ck ek))
    (form_known tyenv env term.0 known (Decl flags ck ek) e k) (h tyenv.names vars steps words s laid)

-- a number without a term
pub lays_unknown : (env : TermTables) (ty : TypeId) (term : TermId) (args : List ℕ) (old new : Layout) (number : ℕ)
    → slice_get env.terms term.0 ≡ None → LaysCall true term args old new number → LaysTerm env ty term args old new number
lays_unknown env ty term args old new number e h = λ tyenv vars steps words s laid.
    lays_as tyenv env vars ty.0 term.0 (words, steps) old new number no_term.form (form_unknown tyenv env term.0 e)
    (h tyenv.names vars steps words s laid)
