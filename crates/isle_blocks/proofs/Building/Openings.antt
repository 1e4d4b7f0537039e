-- What a call of a term's pattern adds.
use Rattle.std.proofs.Common.{◌≡◌, ◌&&◌, ℕ, Bool, true, false, not, List, [], ◌∷◌, ◌++◌, length, Some, None, Ok, refl, sym, ◌∙◌, subst}
use Rattle.std.proofs.lemmas.List.{append-nil}
use Rattle.std.proofs.lemmas.Option.{none-some, same_Some}
use Rattle.isle_types.specs.declared.ids.Sym.{Sym}
use Rattle.isle_types.specs.declared.ids.TermId.{TermId}
use Rattle.isle_types.specs.declared.ids.TypeId.{TypeId}
use Rattle.isle_rules.specs.declared.terms.ExtractorKind.{ExtractorKind}
use Rattle.isle_rules.specs.declared.terms.ExtractorKind.TheVariants.{InternalExtractor, ExternalExtractor}
use Rattle.isle_rules.specs.declared.terms.Term.{Term}
use Rattle.isle_rules.specs.declared.terms.TermKind.{TermKind}
use Rattle.isle_rules.specs.declared.terms.TermKind.TheVariants.{EnumVariant, Struct, Decl}
use Rattle.isle_rules.specs.Signatures.{flags_of}
use Rattle.isle_rules.specs.Shown.ShownTerms.{form_shown}
use Rattle.isle_rules.specs.Visits.VisitorCalls.{PatternCall, opening_of, always_extracts}
use Rattle.isle_meaning.specs.Facts.{TermShape, TermFacts, shape_of_form, never_fails}
use Rattle.isle_meaning.specs.Sites.{Site, extractor_call, match_variant, extract_struct, extract_site, output}
use Rattle.isle_meaning.specs.Demands.{Demand, constrained, opens, parts, extractor_demands}
use Rattle.isle_meaning.specs.Demands as meaning
use Rattle.isle_meaning.specs.Needs.{from_on, extract_needs, output_needs, open_needs}
use Rattle.isle_meaning.specs.Numbered.{At}
use Rattle.isle_blocks.specs.declared.ids.BindingId.{BindingId}
use Rattle.isle_blocks.specs.declared.binding.Binding.TheVariants as sites
use Rattle.isle_blocks.specs.declared.constraint.Constraint.TheVariants as tests
use Rattle.isle_blocks.specs.Constraints.{variant_field, struct_field}
use Rattle.isle_blocks.specs.Rows.{IsInjective, rows_of}
use Rattle.isle_blocks.specs.Inside.Building.Gathering.{Gathered}
use Rattle.isle_blocks.specs.Inside.Building.Steps.{pattern_adds, takes}
use Rattle.isle_blocks.specs.Inside.Building.Named.{IsKnownTerm}
use Rattle.isle_blocks.proofs.Building.Entries.{at_grown}
use Rattle.isle_blocks.proofs.Building.Told.{Told, StandFrom, told_intern, told_demand, told_then, told_each, told_extracted, told_outputs}

module _ (name : Sym → List ℕ) (injective : IsInjective name) where
  abbrev Gives : Gathered → List Site → List Demand → List BindingId → (ℕ → Site) → Gathered → Type 0
  Gives s needed ds ids at s' = Told name injective s needed ds s' × StandFrom (rows_of name s'.sites) ids at 0

  -- an extractor's call, what it gives and its outputs
  taken : (multi infallible : Bool) (n : ℕ) (t : Site) (term : TermId) (input : BindingId) (s s' : Gathered) (ids : List BindingId)
      → At (rows_of name s.sites) t input.0 → takes input term infallible multi n s (Ok ids) s'
      → Gives s (extractor_call term.0 t ∷ (extract_needs multi infallible (extractor_call term.0 t)
      ++ output_needs n (extract_site multi infallible (extractor_call term.0 t))))
      (extractor_demands multi infallible (extractor_call term.0 t)) ids (output n (extract_site multi infallible (extractor_call term.0 t))) s'
  taken multi infallible n t term input s s' ids is h =
      let call = extractor_call term.0 t in
      let value = extract_site multi infallible call in
      let asked = extractor_demands multi infallible call in
      let first = told_intern name injective (sites.Extractor term input) call s h.1 h.0 (input.0, refl, is) h.2 in
      let rest = h.3 in
      let given = told_extracted name injective multi infallible call h.1 rest.1 h.0 rest.0 first.1 rest.2 in
      let last = told_outputs name injective n value rest.1 s' rest.0 ids given.1 rest.3 in
      let both = told_then name injective h.1 rest.1 s' (extract_needs multi infallible call) (output_needs n value) asked [] given.0 last.0 in
      let all = told_then name injective s h.1 s' (call ∷ []) (extract_needs multi infallible call ++ output_needs n value) [] (asked ++ [])
      first.0 both in (
        subst (λ ds. Told name injective s (call ∷ (extract_needs multi infallible call ++ output_needs n value)) ds s') (append-nil asked) all,
        last.1,
      )

  -- a multi extractor's call always stands as it is
  taken_as : (multi infallible : Bool) (n : ℕ) (t : Site) (term : TermId) (input : BindingId) (s s' : Gathered) (ids : List BindingId)
      → At (rows_of name s.sites) t input.0 → takes input term (infallible && not multi) multi n s (Ok ids) s'
      → Gives s (extractor_call term.0 t ∷ (extract_needs multi infallible (extractor_call term.0 t)
      ++ output_needs n (extract_site multi infallible (extractor_call term.0 t))))
      (extractor_demands multi infallible (extractor_call term.0 t)) ids (output n (extract_site multi infallible (extractor_call term.0 t))) s'
  taken_as true true n t term input s s' ids is h = taken true false n t term input s s' ids is h
  taken_as true false n t term input s s' ids is h = taken true false n t term input s s' ids is h
  taken_as false true n t term input s s' ids is h = taken false true n t term input s s' ids is h
  taken_as false false n t term input s s' ids is h = taken false false n t term input s s' ids is h

  -- a host's extractor never fails where its declaration says so
  never_is : (names : List (List ℕ)) (kind : ExtractorKind) (flags : _) (made : _)
      → never_fails (form_shown names (Decl flags made (Some kind))) ≡ always_extracts kind
  never_is names (InternalExtractor template) flags made = refl
  never_is names (ExternalExtractor host infallible pos) flags made = refl

  module _ (names : List (List ℕ)) (facts : TermFacts) where
    abbrev Opens : ℕ → ℕ → ℕ → Site → Gathered → List BindingId → TermShape → Gathered → Type 0
    Opens ty id n t s ids shape s' = Gives s (open_needs facts shape id n t) (opens facts shape ty id n t) ids (parts facts shape id n t) s'

    -- a term's pattern
    told_kind : (kind : TermKind) (term : Term) (ty : TypeId) (id : TermId) (t : Site) (input : BindingId) (s s' : Gathered)
        (call : PatternCall BindingId) (ids : List BindingId)
        → facts.multi id.0 ≡ (flags_of (form_shown names kind)).multi → facts.infallible id.0 ≡ never_fails (form_shown names kind)
        → At (rows_of name s.sites) t input.0 → opening_of kind term ty id input ≡ Some call → pattern_adds call s (Ok ids) s'
        → Opens ty.0 id.0 (length term.arg_tys) t s ids (shape_of_form (form_shown names kind)) s'
    told_kind (EnumVariant variant) term ty id t input s s' call ids m f is o h =
        let n = length term.arg_tys in
        let run = subst (λ c. pattern_adds c s (Ok ids) s') (sym (same_Some _ _ o)) h in
        let test = tests.Variant ty variant (record { 0 = n }) in
        let steps = run.1 in
        let asked = told_demand name injective test t s steps.1 input steps.0 is steps.2 in
        let at : At (rows_of name steps.1.sites) t input.0 = subst (λ z. At (rows_of name z) t input.0) (sym asked.1) is in
        let fields = told_each name injective (variant_field input variant) (match_variant t variant.0) n 0 [] steps.1 s' ids
        (λ rows g j. (input.0, refl, at_grown (rows_of name steps.1.sites) rows g t input.0 at)) steps.3 in (
          told_then name injective s steps.1 s' [] (from_on (match_variant t variant.0) 0 n)
              (constrained t (meaning.variant_constraint ty.0 variant.0 n) ∷ []) [] asked.0 fields.0,
          subst (λ z. StandFrom (rows_of name s'.sites) z (match_variant t variant.0) 0) (sym fields.1.1) fields.1.2,
        )
    told_kind Struct term ty id t input s s' call ids m f is o h =
        let n = length term.arg_tys in
        let run = subst (λ c. pattern_adds c s (Ok ids) s') (sym (same_Some _ _ o)) h in
        let test = tests.Struct ty (record { 0 = n }) in
        let steps = run.1 in
        let asked = told_demand name injective test t s steps.1 input steps.0 is steps.2 in
        let at : At (rows_of name steps.1.sites) t input.0 = subst (λ z. At (rows_of name z) t input.0) (sym asked.1) is in
        let fields = told_each name injective (struct_field input) (extract_struct t) n 0 [] steps.1 s' ids
        (λ rows g j. (input.0, refl, at_grown (rows_of name steps.1.sites) rows g t input.0 at)) steps.3 in (
          told_then name injective s steps.1 s' [] (from_on (extract_struct t) 0 n)
              (constrained t (meaning.struct_constraint ty.0 n) ∷ []) [] asked.0 fields.0,
          subst (λ z. StandFrom (rows_of name s'.sites) z (extract_struct t) 0) (sym fields.1.1) fields.1.2,
        )
    told_kind (Decl flags made None) term ty id t input s s' call ids m f is o h = absurd (none-some call o)
    told_kind (Decl flags made (Some kind)) term ty id t input s s' call ids m f is o h =
        let n = length term.arg_tys in
        let run = subst (λ c. pattern_adds c s (Ok ids) s') (sym (same_Some _ _ o)) h in
        let always : facts.infallible id.0 ≡ always_extracts kind = f ∙ never_is names kind flags made in
        let plain : takes input id (always_extracts kind && not (facts.multi id.0)) (facts.multi id.0) n s (Ok ids) s' =
        subst (λ z. takes input id (always_extracts kind && not z) z n s (Ok ids) s') (sym m) run.1 in
        taken_as (facts.multi id.0) (facts.infallible id.0) n t id input s s' ids is
        (subst (λ z. takes input id (z && not (facts.multi id.0)) (facts.multi id.0) n s (Ok ids) s') (sym always) plain)

    pub told_opening : (term : Term) (ty : TypeId) (id : TermId) (t : Site) (input : BindingId) (s s' : Gathered)
        (call : PatternCall BindingId) (ids : List BindingId) → IsKnownTerm names facts id.0 term
        → At (rows_of name s.sites) t input.0 → opening_of term.kind term ty id input ≡ Some call → pattern_adds call s (Ok ids) s'
        → Opens ty.0 id.0 (length term.arg_tys) t s ids (facts.shape id.0) s'
    told_opening term ty id t input s s' call ids k is o h =
        subst (λ shape. Opens ty.0 id.0 (length term.arg_tys) t s ids shape s') (sym k.shape)
        (told_kind term.kind term ty id t input s s' call ids k.multi k.infallible is o h)
