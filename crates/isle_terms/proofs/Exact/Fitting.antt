-- The converter that fits, as a function.
use Rattle.std.proofs.Common.{◌≡◌, ℕ, Bool, true, false, cond, ◌==◌, ◌&&◌, List, [], ◌∷◌, Option, None, Some, refl, sym, ap, subst, ◌∙◌, slice_get}
use Rattle.std.proofs.Common.{option_and_then, option_map, map}
use Rattle.std.proofs.lemmas.Bool.{false≢true, and_parts, and_from, eqb-true, eq-eqb}
use Rattle.std.proofs.lemmas.Option.{none-some, same_Some, slice_get-map}
use Rattle.isle_types.proofs.NamePlaces.{place_found}
use Rattle.isle_rules.specs.Signatures.{TermForm, Signature, Declared, term_named, signature_of, converter_in, Converts, has_extractor_form}
use Rattle.isle_rules.specs.Signatures.{has_constructor_form}
use Rattle.isle_terms.specs.IllTyped.{HasNoPatternConverter, HasNoExprConverter}
use Rattle.isle_terms.specs.Inside.Readings.Outcomes.{takes_just, fitting_term, fitting_number, fitting}
use Rattle.isle_terms.specs.Inside.Readings.KnownBy.{known_by}

-- a term that is found by its name is there
pub term_there : (declared : Declared) (name : List ℕ) (number : ℕ) → term_named declared name ≡ Some number
    → (term : Signature) × (slice_get declared.terms number ≡ Some term)
term_there declared name number is =
    let at = place_found (map (λ (term : Signature). term.name) declared.terms) name number is in
    mapped (slice_get declared.terms number) (sym (slice_get-map (λ (term : Signature). term.name) declared.terms number) ∙ at)
  where
    mapped : (o : Option Signature) → option_map (λ (term : Signature). term.name) o ≡ Some name
        → (term : Signature) × (o ≡ Some term)
    mapped None e = absurd (none-some name e)
    mapped (Some term) e = (term, refl)

-- what a converter that is found is, and that none is where none is found
abbrev pub IsFit : Declared → (TermForm → Bool) → (inner outer : ℕ) → Option (ℕ × Signature) → Type 0
IsFit declared is_usable inner outer None =
    (name : List ℕ) (converter : Signature) → Converts declared inner outer name converter → is_usable converter.form ≡ true → ⊥
IsFit declared is_usable inner outer (Some fit) =
    (name : List ℕ) × (term_named declared name ≡ Some fit.0) × (slice_get declared.terms fit.0 ≡ Some fit.1)
    × Converts declared inner outer name fit.1 × (is_usable fit.1.form ≡ true)

-- arguments that pass the test are one, of the type
just_one : (args : List ℕ) (ty : ℕ) → takes_just args ty ≡ true → args ≡ ty ∷ []
just_one [] ty is = absurd (false≢true is)
just_one (first ∷ []) ty is = ap (λ z. z ∷ []) (eqb-true first ty is)
just_one (first ∷ (second ∷ others)) ty is = absurd (false≢true is)

-- one argument of the type passes
takes_it : (ty : ℕ) → takes_just (ty ∷ []) ty ≡ true
takes_it ty = eq-eqb ty ty refl

module _ (declared : Declared) (is_usable : TermForm → Bool) (inner outer : ℕ) where
  -- the term of a converter's name
  same_term : (name other : List ℕ) (number : ℕ) (term : Signature) → converter_in declared.conversions inner outer ≡ Some name
      → Converts declared inner outer other term → signature_of declared name ≡ Some term
  same_term name other number term is c =
      ap (signature_of declared) (same_Some _ _ (sym is ∙ c.converter)) ∙ c.known

  -- by the term of a number
  fit_term : (name : List ℕ) (number : ℕ) → converter_in declared.conversions inner outer ≡ Some name → term_named declared name ≡ Some number
      → (o : Option Signature) → slice_get declared.terms number ≡ o
      → IsFit declared is_usable inner outer (fitting_term is_usable inner outer number o)
  fit_term name number is named None stands = λ other term c usable.
      none-some term (sym stands ∙ sym (ap (option_and_then (slice_get declared.terms)) named) ∙ same_term name other number term is c)
  fit_term name number is named (Some term) stands =
      elim (takes_just term.args inner && ((term.ret == outer) && is_usable term.form)) as
      (λ b. (takes_just term.args inner && ((term.ret == outer) && is_usable term.form)) ≡ b
      → IsFit declared is_usable inner outer (cond b (Some (number, term)) None)) [
        | true ↦ λ test.
            let first = and_parts _ _ test in
            let second = and_parts _ _ first.1 in
            let known : signature_of declared name ≡ Some term = ap (option_and_then (slice_get declared.terms)) named ∙ stands in (
              name,
              named,
              stands,
              record { converter = is; known = known; takes = just_one term.args inner first.0; gives = eqb-true term.ret outer second.0 },
              second.1,
            )
        | false ↦ λ test other last c usable.
            let known : signature_of declared name ≡ Some term = ap (option_and_then (slice_get declared.terms)) named ∙ stands in
            let same : last ≡ term = same_Some _ _ (sym (same_term name other number last is c) ∙ known) in
            let takes = ap (λ z. takes_just z inner) (ap (λ (z : Signature). z.args) (sym same) ∙ c.takes) ∙ takes_it inner in
            let gives = eq-eqb term.ret outer (ap (λ (z : Signature). z.ret) (sym same) ∙ c.gives) in
            let used = ap (λ (z : Signature). is_usable z.form) (sym same) ∙ usable in
            false≢true (sym test ∙ and_from _ _ takes (and_from _ _ gives used))
      ] refl

  -- by the number of a name
  fit_number : (name : List ℕ) → converter_in declared.conversions inner outer ≡ Some name → (o : Option ℕ) → term_named declared name ≡ o
      → IsFit declared is_usable inner outer (fitting_number (known_by declared) is_usable inner outer o)
  fit_number name is None named = λ other term c usable.
      none-some term (sym (ap (option_and_then (slice_get declared.terms)) named) ∙ same_term name other 0 term is c)
  fit_number name is (Some number) named = fit_term name number is named (slice_get declared.terms number) refl

  -- by the name of a converter
  fit_name : (o : Option (List ℕ)) → converter_in declared.conversions inner outer ≡ o
      → IsFit declared is_usable inner outer (fitting_number (known_by declared) is_usable inner outer (option_and_then (term_named declared) o))
  fit_name None is = λ name term c usable. none-some name (sym is ∙ c.converter)
  fit_name (Some name) is = fit_number name is (term_named declared name) refl

  -- the converter that is found fits, and where none is found none does
  pub fitting_fits : IsFit declared is_usable inner outer (fitting (known_by declared) is_usable inner outer)
  fitting_fits = fit_name (converter_in declared.conversions inner outer) refl
