-- Tables show the same when names are interned.
use Rattle.std.proofs.Common.{◌≡◌, ℕ, zero, suc, ◌≤◌, ◌<◌, List, [], ◌∷◌, length, get_or, Option, Some, None, is_some, true, false, cond, arith, refl}
use Rattle.std.proofs.Common.{ap, sym, ◌∙◌, slice_get, bytes_eq}
use Rattle.std.specs.Option.{option_map, option_and_then}
use Rattle.std.proofs.lemmas.Option.{slice_get-get_or, slice_get_within, same_Some, none-some}
use Rattle.std.proofs.lemmas.Slice.Eq.{bytes_eq-Decides}
use Rattle.isle_types.specs.declared.ids.TermId.{TermId}
use Rattle.isle_types.specs.Names.{KeepsNames, position_of}
use Rattle.isle_types.specs.TypeTables.{TypeTables}
use Rattle.isle_types.specs.TypeEnvs.{HasMoreNames, sym_named, symbol_at}
use Rattle.isle_types.proofs.NamePlaces.{place_found, place_some}
use Rattle.isle_types.proofs.ShownTypes.{shows_with_names}
use Rattle.isle_rules.specs.Signatures.{Declared}
use Rattle.isle_rules.specs.Shown.TermTables.{TermTables, term_with}
use Rattle.isle_terms.specs.Inside.Shown.TermLimits.{HasKnownSymbols}
use Rattle.isle_rules.specs.Shown.ShownTerms.{ShowsDeclared}
use Rattle.isle_terms.proofs.Showing.ShownMore.{terms_more, place_new}

-- the place that is found among others comes before each later one
later_place : (o : Option ℕ) (i j : ℕ) → ((k : ℕ) → o ≡ Some k → k ≤ j) → option_map suc o ≡ Some i → i ≤ suc j
later_place None i j before is = absurd (none-some i is)
later_place (Some k) i j before is = let same = same_Some (suc k) i is in let low = before k refl in omega arith

-- the place that is found is the first
place_first : (names : List (List ℕ)) (name : List ℕ) (i j : ℕ) → position_of names name ≡ Some i → slice_get names j ≡ Some name → i ≤ j
place_first [] name i j is at = absurd (none-some name at)
place_first (first ∷ names) name i zero is at =
    let decides = bytes_eq-Decides name first in
    let here : bytes_eq name first ≡ true = decides.1 (sym (same_Some first name at)) in
    let zeroth : 0 ≡ i = same_Some 0 i (sym (ap (λ b. cond b (Some 0) (option_map suc (position_of names name))) here) ∙ is) in
    omega arith
place_first (first ∷ names) name i (suc j) is at =
    elim (bytes_eq name first) as (λ b. cond b (Some 0) (option_map suc (position_of names name)) ≡ Some i → i ≤ suc j) [
      | true ↦ λ is. let zeroth = same_Some 0 i is in omega arith
      | false ↦ λ is. later_place (position_of names name) i j (λ k found. place_first names name k j found at) is
    ] is

-- a name keeps its first place
place_kept : (old new : List (List ℕ)) → KeepsNames old new → (name : List ℕ) (place : ℕ) → position_of old name ≡ Some place
    → position_of new name ≡ Some place
place_kept old new keeps name place is =
    let at = place_found old name place is in
    let found = place_some new name place (keeps place name at) in
    let there = place_found new name found.0 found.1 in
    let low : found.0 ≤ place = place_first new name found.0 place found.1 (keeps place name at) in
    let within : place < length old = slice_get_within old place name at in
    let before : slice_get old found.0 ≡ Some (get_or old found.0 []) = slice_get-get_or old found.0 [] (omega arith) in
    let same : get_or old found.0 [] ≡ name =
    same_Some (get_or old found.0 []) name (sym (keeps found.0 (get_or old found.0 []) before) ∙ there) in
    let high : place ≤ found.0 = place_first old name place found.0 is (before ∙ ap Some same) in
    let one : found.0 ≡ place = omega arith in
    found.1 ∙ ap Some one

-- a term is found at a name as before
found_kept : (tyenv new : TypeTables) (env : TermTables) → HasMoreNames tyenv new → HasKnownSymbols tyenv.names env → (name : List ℕ)
    → option_and_then (term_with env) (sym_named new name) ≡ option_and_then (term_with env) (sym_named tyenv name)
found_kept tyenv new env more known name = by_place (position_of tyenv.names name) refl
  where
    none_new : (place : ℕ) (o : Option TermId) → term_with env (symbol_at place) ≡ o → length tyenv.names ≤ place → o ≡ None
    none_new place None is past = refl
    none_new place (Some id) is past = let low = known.numbers (symbol_at place) (ap is_some is) in absurd (omega arith)

    when_new : (o : Option ℕ) → position_of tyenv.names name ≡ None → position_of new.names name ≡ o
        → option_and_then (term_with env) (option_map symbol_at o) ≡ None
    when_new None missing is = refl
    when_new (Some place) missing is =
        none_new place (term_with env (symbol_at place)) refl (place_new tyenv.names new.names more.kept name place missing is)

    by_place : (o : Option ℕ) → position_of tyenv.names name ≡ o
        → option_and_then (term_with env) (option_map symbol_at (position_of new.names name))
        ≡ option_and_then (term_with env) (option_map symbol_at (position_of tyenv.names name))
    by_place (Some place) is =
        ap (λ o. option_and_then (term_with env) (option_map symbol_at o))
        (place_kept tyenv.names new.names more.kept name place is ∙ sym is)
    by_place None is =
        when_new (position_of new.names name) is refl ∙ ap (λ o. option_and_then (term_with env) (option_map symbol_at o)) (sym is)

-- what tables show stays
pub shows_still : (tyenv new : TypeTables) (env : TermTables) (declared : Declared) → ShowsDeclared tyenv env declared → HasMoreNames tyenv new
    → HasKnownSymbols tyenv.names env → ShowsDeclared new env declared
shows_still tyenv new env declared shows more known = record {
  types = shows_with_names tyenv new declared.types more shows.types;
  terms = terms_more tyenv.names new.names more.kept env.terms known.terms ∙ shows.terms;
  counted = shows.counted;
  named = λ name. found_kept tyenv new env more known name ∙ shows.named name;
  converters = shows.converters;
  expands = shows.expands;
}
