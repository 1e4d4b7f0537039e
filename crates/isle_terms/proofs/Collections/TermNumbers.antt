-- The numbers of terms by the symbols of their names, one term after the other.
use Rattle.std.proofs.Common.{◌≡◌, ℕ, ◌+◌, ◌==◌, ◌≤◌, List, [], ◌∷◌, ◌++◌, length, take}
use Rattle.std.proofs.Common.{true, false, cond, Option, Some, None, arith, refl, ap, sym}
use Rattle.std.proofs.Common.{subst, ◌∙◌, slice_get, bytes_eq}
use Rattle.std.specs.List.{AllZip}
use Rattle.std.specs.Option.{option_map, option_and_then}
use Rattle.std.specs.Prelude.{IsSome}
use Rattle.std.proofs.lemmas.Bool.{false≢true}
use Rattle.std.proofs.lemmas.Bool.Decides.{Decides-eqb}
use Rattle.std.proofs.lemmas.List.{take_all, take-map, map-append, length-map, length-take-le}
use Rattle.std.proofs.lemmas.Option.{same_Some, slice_get_within, slice_get-map}
use Rattle.std.proofs.lemmas.Slice.Eq.{bytes_eq-Decides}
use Rattle.isle_types.specs.declared.ids.Sym.{Sym}
use Rattle.isle_types.specs.declared.ids.TermId.{TermId}
use Rattle.isle_types.specs.Names.{position_of, AreDistinct}
use Rattle.isle_containers.specs.StableMaps.{value_at}
use Rattle.isle_types.specs.TypeEnvs.{CountUp, symbol_at}
use Rattle.isle_containers.proofs.Lists.{taken_more, within-take, from_take}
use Rattle.isle_types.proofs.NamePlaces.{place_found, place_known, place_last, place_other}
use Rattle.isle_rules.specs.declared.terms.Term.{Term}
use Rattle.isle_rules.specs.Signatures.{Signature}
use Rattle.isle_rules.specs.Definitions.{IsAmong, names_of_terms}
use Rattle.isle_rules.specs.Shown.ShownTerms.{term_at}
use Rattle.isle_rules.specs.Shown.TermTables.{same_sym}
use Rattle.isle_terms.specs.Inside.Collecting.DeclaredTerms.{IsShownTerm, number_named}
use Rattle.isle_terms.specs.Inside.Collecting.TermSymbols.{HasSymbolsOf}
use Rattle.isle_rules.proofs.Zipped.{zipped_back, zipped_length, count_at}

-- no name has a number yet
pub number_none : (names : List (List ℕ)) (numbers : List (Sym × TermId)) (name : List ℕ) → numbers ≡ [] → number_named names numbers name ≡ None
number_none names numbers name none =
    ap (λ (table : List (Sym × TermId)). number_named names table name) none ∙ at_place (position_of names name)
  where
    at_place : (o : Option ℕ) → option_and_then (λ (s : Sym). value_at {V = TermId} same_sym [] s) (option_map symbol_at o) ≡ None
    at_place None = refl
    at_place (Some place) = refl

-- the name of a term isn't that of an earlier one
fresh_name : (signatures : List Signature) (place : ℕ) (signature : Signature) → AreDistinct (names_of_terms signatures)
    → slice_get signatures place ≡ Some signature → position_of (names_of_terms (take place signatures)) signature.name ≡ None
fresh_name signatures place signature distinct here = by_place (position_of (names_of_terms (take place signatures)) signature.name) refl
  where
    by_place : (o : Option ℕ) → position_of (names_of_terms (take place signatures)) signature.name ≡ o → o ≡ None
    by_place None found = refl
    by_place (Some j) found =
        let there : slice_get (take place (names_of_terms signatures)) j ≡ Some signature.name =
        ap (λ names. slice_get names j) (take-map (λ (s : Signature). s.name) place signatures)
        ∙ place_found (names_of_terms (take place signatures)) signature.name j found in
        let before = within-take (names_of_terms signatures) place j signature.name there in
        let last = slice_get-map (λ (s : Signature). s.name) signatures place ∙ ap (option_map (λ (s : Signature). s.name)) here in
        let same : j ≡ place = distinct signature.name j place (from_take (names_of_terms signatures) place j signature.name there) last in
        absurd (omega (arith, before, same))

-- the number of another name is as it was
other_kept : (names : List (List ℕ)) (signature : Signature) (term : Term) (old new : List (Sym × TermId)) (name : List ℕ)
    → IsShownTerm names signature term
    → ((q : Sym) → value_at same_sym new q ≡ cond (same_sym term.name q) (Some term.id) (value_at same_sym old q))
    → bytes_eq name signature.name ≡ false → number_named names new name ≡ number_named names old name
other_kept names signature term old new name shown put other = by_place (position_of names name) refl
  where
    apart : (place : ℕ) → position_of names name ≡ Some place → (term.name.0 == place) ≡ false
    apart place found =
        elim (term.name.0 == place) as (λ b. (term.name.0 == place) ≡ b → b ≡ false) [
          | true ↦ λ equal.
              let decides = Decides-eqb term.name.0 place in
              let texts = bytes_eq-Decides name signature.name in
              let same : term.name.0 ≡ place = decides.0 equal in
              let one = same_Some name signature.name (sym (place_found names name place found) ∙ ap (slice_get names) (sym same) ∙ shown.name) in
              absurd (false≢true (sym other ∙ texts.1 one))
          | false ↦ λ _. refl
        ] refl

    by_place : (o : Option ℕ) → position_of names name ≡ o
        → option_and_then (λ (s : Sym). value_at same_sym new s) (option_map symbol_at o)
        ≡ option_and_then (λ (s : Sym). value_at same_sym old s) (option_map symbol_at o)
    by_place None found = refl
    by_place (Some place) found =
        put (symbol_at place) ∙ ap (λ b. cond b (Some term.id) (value_at same_sym old (symbol_at place))) (apart place found)

-- the name of the term that is put has the term's number
put_here : (names : List (List ℕ)) (signature : Signature) (term : Term) (old new : List (Sym × TermId)) → AreDistinct names
    → IsShownTerm names signature term
    → ((q : Sym) → value_at same_sym new q ≡ cond (same_sym term.name q) (Some term.id) (value_at same_sym old q))
    → number_named names new signature.name ≡ Some term.id
put_here names signature term old new once shown put =
    let decides = Decides-eqb term.name.0 term.name.0 in
    ap (λ o. option_and_then (λ (s : Sym). value_at same_sym new s) (option_map symbol_at o))
    (place_known names signature.name term.name.0 once shown.name)
    ∙ put (symbol_at term.name.0)
    ∙ ap (λ b. cond b (Some term.id) (value_at same_sym old (symbol_at term.name.0))) (decides.1 refl)

-- the number of one term after the others
pub number_turn : (names : List (List ℕ)) (signatures : List Signature) (terms : List Term) (place : ℕ) (term : Term) (old new : List (Sym × TermId))
    → AllZip (IsShownTerm names) signatures terms → AreDistinct names → AreDistinct (names_of_terms signatures)
    → CountUp (λ (term : Term). term.id.0) 0 terms → slice_get terms place ≡ Some term
    → ((q : Sym) → value_at same_sym new q ≡ cond (same_sym term.name q) (Some term.id) (value_at same_sym old q))
    → ((name : List ℕ) → number_named names old name ≡ option_map term_at (position_of (names_of_terms (take place signatures)) name))
    → (name : List ℕ) → number_named names new name ≡ option_map term_at (position_of (names_of_terms (take (place + 1) signatures)) name)
number_turn names signatures terms place term old new zipped once distinct counted here put before name =
    let back = zipped_back (IsShownTerm names) signatures terms zipped place term here in
    let signature = back.0 in
    let so_far = names_of_terms (take place signatures) in
    let within = slice_get_within signatures place signature back.1 in
    let numbered : term.id.0 ≡ place = count_at (λ (t : Term). t.id.0) 0 terms counted place term here
    ∙ (let zero_more : 0 + place ≡ place = omega arith in zero_more) in
    let long : length so_far ≡ place = length-map (take place signatures) (λ (s : Signature). s.name)
    ∙ length-take-le place signatures (omega (arith, within)) in
    let more : names_of_terms (take (place + 1) signatures) ≡ so_far ++ signature.name ∷ [] =
    ap names_of_terms (taken_more signatures place signature back.1)
    ∙ map-append (λ (s : Signature). s.name) (take place signatures) (signature ∷ []) in
    subst (λ ns. number_named names new name ≡ option_map term_at (position_of ns name)) (sym more)
    (elim (bytes_eq name signature.name) as (λ b. bytes_eq name signature.name ≡ b
    → number_named names new name ≡ option_map term_at (position_of (so_far ++ signature.name ∷ []) name)) [
      | true ↦ λ same.
          let decides = bytes_eq-Decides name signature.name in
          subst (λ n. number_named names new n ≡ option_map term_at (position_of (so_far ++ signature.name ∷ []) n)) (sym (decides.0 same))
          (put_here names signature term old new once back.2 put ∙ ap (λ n. Some (term_at n)) numbered
          ∙ sym (ap (option_map term_at) (place_last so_far signature.name (fresh_name signatures place signature distinct back.1) ∙ ap Some long)))
      | false ↦ λ other.
          other_kept names signature term old new name back.2 put other ∙ before name
          ∙ ap (option_map term_at) (sym (place_other so_far signature.name name other))
    ] refl)

-- all terms were come to
pub numbers_done : (names : List (List ℕ)) (signatures : List Signature) (terms : List Term) (place : ℕ) (numbers : List (Sym × TermId))
    (name : List ℕ) → AllZip (IsShownTerm names) signatures terms → length terms ≤ place
    → number_named names numbers name ≡ option_map term_at (position_of (names_of_terms (take place signatures)) name)
    → number_named names numbers name ≡ option_map term_at (position_of (names_of_terms signatures) name)
numbers_done names signatures terms place numbers name zipped past is =
    let long = zipped_length (IsShownTerm names) signatures terms zipped in
    is ∙ ap (λ ss. option_map term_at (position_of (names_of_terms ss) name)) (take_all place signatures (omega (arith, long, past)))

-- no symbol has a number yet
pub symbols_none : (terms : List Term) (numbers : List (Sym × TermId)) → numbers ≡ [] → HasSymbolsOf terms numbers
symbols_none terms numbers none = subst (HasSymbolsOf terms) (sym none) (λ symbol there. absurd (false≢true there))

-- the symbols of the terms so far, and that of one more
pub symbols_turn : (terms : List Term) (place : ℕ) (term : Term) (old new : List (Sym × TermId)) → slice_get terms place ≡ Some term
    → ((q : Sym) → value_at same_sym new q ≡ cond (same_sym term.name q) (Some term.id) (value_at same_sym old q))
    → HasSymbolsOf terms old → HasSymbolsOf terms new
symbols_turn terms place term old new here put before = λ symbol there.
    elim (term.name.0 == symbol.0) as (λ b. (term.name.0 == symbol.0) ≡ b → IsSome (cond b (Some term.id) (value_at same_sym old symbol))
    → (one : Term) × IsAmong terms one × (one.name ≡ symbol)) [
      | true ↦ λ same _. let decides = Decides-eqb term.name.0 symbol.0 in (term, (place, here), ap symbol_at (decides.0 same))
      | false ↦ λ _ earlier. before symbol earlier
    ] refl (subst IsSome (put symbol) there)
