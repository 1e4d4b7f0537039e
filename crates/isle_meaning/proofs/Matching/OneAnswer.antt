-- No term that definitions make is `multi` and partial.
use Rattle.std.proofs.Common.{◌≡◌, inl, inr, ℕ, zero, suc, List, [], ◌∷◌, length, true, false, Option, Some, None, slice_get, unwrap_or, refl, ap, sym}
use Rattle.std.proofs.Common.{◌∙◌, subst, Bool}
use Rattle.std.specs.List.{AllZip}
use Rattle.std.proofs.lemmas.Option.{same_Some, none-some}
use Rattle.isle_ast.specs.declared.ast.Decl.{Decl as DeclTree}
use Rattle.isle_ast.specs.declared.ast.Def.{Def}
use Rattle.isle_types.specs.Environment.{TypeShape, primitive, enum, struct, Environment}
use Rattle.isle_types.specs.IntTypes.{builtin_names}
use Rattle.isle_types.proofs.Zipped.{all_at}
use Rattle.isle_rules.specs.Signatures.{Signature, TermForm, variant_form, struct_form, declared_form, flags_of}
use Rattle.isle_rules.specs.Definitions.{terms_of_types, declarations, IsDeclaration, flags_in, TermEnvironment, MakesTerms}
use Rattle.isle_meaning.specs.Facts.{no_term}
use Rattle.isle_meaning.specs.Laws.Elaborated.{NoneIsMultiAndPartial}
use Rattle.isle_meaning.proofs.Matching.MadeFields.{either_list, of_types, OfShape, of_enum, of_struct}

-- what an item at a place comes from stands there
paired_there : {A B : Type 0} (R : A → B → Type 0) (xs : List A) (ys : List B) → AllZip R xs ys → (i : ℕ) (y : B) → slice_get ys i ≡ Some y
    → (x : A) × (slice_get xs i ≡ Some x) × R x y
paired_there R [] [] each i y h = absurd (none-some y h)
paired_there R [] (z ∷ ys) each i y h = absurd each
paired_there R (x ∷ xs) [] each i y h = absurd each
paired_there R (x ∷ xs) (z ∷ ys) each zero y h = (x, refl, subst (R x) (same_Some z y h) each.0)
paired_there R (x ∷ xs) (z ∷ ys) each (suc i) y h = paired_there R xs ys each.1 i y h

-- a term of a type isn't declared
undeclared : (ty : ℕ) (term : Signature) (shape : TypeShape) → OfShape ty term shape → (flags : _) (makes : _) (takes : _)
    → term.form ≡ declared_form flags makes takes → ⊥
undeclared ty term (primitive n) o flags makes takes e = elim o [ ]
undeclared ty term (enum variants) (of_enum v) flags makes takes e = let p = sym v.form ∙ e in cc
undeclared ty term (struct members) (of_struct g a r) flags makes takes e = let p = sym g ∙ e in cc

module _ (types : Environment) (expands : Bool) (levels max : ℕ) (defs : List Def) (environment : TermEnvironment)
    (made : MakesTerms types expands levels max defs environment) where
  -- a declared term's flags are those of its declaration
  declared_flags : (i : ℕ) (term : Signature) (flags : _) (makes : _) (takes : _) → slice_get environment.terms i ≡ Some term
      → term.form ≡ declared_form flags makes takes → flags.multi ≡ true → flags.partial ≡ false
  declared_flags i term flags makes takes at form multi =
      let are = made.terms in
      elim (either_list are.declared (terms_of_types (length builtin_names) types.types) i term (subst (λ l. slice_get l i ≡ Some term) are.all at)) [
        | inl g ↦
            let (decl, there, d) = paired_there (IsDeclaration types defs) (declarations defs) are.declared are.each i term g in
            let one = all_at (λ (decl : DeclTree). decl.multi ≡ true → decl.partial ≡ false) (declarations defs) are.one_answer i decl there in
            let its : flags_in decl ≡ flags = sym (ap flags_of d.form) ∙ ap flags_of form in
            let m : decl.multi ≡ true = ap (λ f. f.multi) its ∙ multi in
            sym (ap (λ f. f.partial) its) ∙ one m
        | inr (j, e, g) ↦
            let r = of_types (length builtin_names) types.types j term g in absurd (undeclared _ term r.type.shape r.shape flags makes takes form)
      ]

  -- by its form
  by_form : (i : ℕ) (term : Signature) (form : TermForm) → slice_get environment.terms i ≡ Some term → term.form ≡ form
      → (flags_of form).multi ≡ true → (flags_of form).partial ≡ false
  by_form i term (variant_form k) at e multi = refl
  by_form i term struct_form at e multi = refl
  by_form i term (declared_form flags makes takes) at e multi = declared_flags i term flags makes takes at e multi

  -- by its number
  by_number : (i : ℕ) (o : Option Signature) → slice_get environment.terms i ≡ o → (flags_of (unwrap_or o no_term).form).multi ≡ true
      → (flags_of (unwrap_or o no_term).form).partial ≡ false
  by_number i None at multi = absurd (cc)
  by_number i (Some term) at multi = by_form i term (term.form) at refl multi

pub none_is_multi_and_partial : NoneIsMultiAndPartial
none_is_multi_and_partial types expands levels max defs environment made t multi =
    by_number types expands levels max defs environment made t (slice_get environment.terms t) refl multi
