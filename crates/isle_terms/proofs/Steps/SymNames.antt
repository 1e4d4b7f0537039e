-- The symbol that a name has stands for the name.
use Rattle.std.proofs.Common.{◌≡◌, ◌<◌, ℕ, List, [], length, Option, Some, None, slice_get, unwrap_or, refl, ap, sym, ◌∙◌}
use Rattle.std.specs.Option.{option_map}
use Rattle.std.proofs.lemmas.Option.{slice_get_within}
use Rattle.isle_types.specs.declared.ids.Sym.{Sym}
use Rattle.isle_types.specs.Names.{position_of}
use Rattle.isle_types.specs.TypeTables.{name_at}
use Rattle.isle_types.specs.TypeEnvs.{symbol_at}
use Rattle.isle_types.proofs.NamePlaces.{place_found}

-- the place of a symbol that was made of a place
place_again : (found : Option ℕ) → option_map (λ (symbol : Sym). symbol.0) (option_map symbol_at found) ≡ found
place_again None = refl
place_again (Some place) = refl

place_of : (found : Option ℕ) (symbol : Sym) → option_map symbol_at found ≡ Some symbol → found ≡ Some symbol.0
place_of found symbol e = sym (place_again found) ∙ ap (option_map (λ (symbol : Sym). symbol.0)) e

-- the name of a symbol that was found
found_at : (names : List (List ℕ)) (name : List ℕ) (symbol : Sym) → option_map symbol_at (position_of names name) ≡ Some symbol
    → slice_get names symbol.0 ≡ Some name
found_at names name symbol e = place_found names name symbol.0 (place_of (position_of names name) symbol e)

pub named_by : (names : List (List ℕ)) (name : List ℕ) (symbol : Sym) → option_map symbol_at (position_of names name) ≡ Some symbol
    → name_at names symbol ≡ name
named_by names name symbol e = ap (λ (o : Option (List ℕ)). unwrap_or o []) (found_at names name symbol e)

pub symbol_below : (names : List (List ℕ)) (name : List ℕ) (symbol : Sym) → option_map symbol_at (position_of names name) ≡ Some symbol
    → symbol.0 < length names
symbol_below names name symbol e = slice_get_within names symbol.0 name (found_at names name symbol e)
