-- Tables from symbols, seen by the symbols' names.
use Rattle.std.proofs.Common.{◌≡◌, ℕ, ◌==◌, List, [], ◌∷◌, true, false, cond, Option, Some, None, IsSome, is_some, unwrap_or, refl, ap, sym}
use Rattle.std.proofs.Common.{subst, ◌∙◌, slice_get, bytes_eq}
use Rattle.std.specs.Option.{option_map, option_and_then}
use Rattle.std.proofs.lemmas.Option.{same_Some}
use Rattle.std.proofs.lemmas.Bool.{eqb-true, eq-eqb, false≢true, false_from_ne_true}
use Rattle.std.proofs.lemmas.Slice.Eq.{bytes_eq-Decides}
use Rattle.isle_types.specs.declared.ids.Sym.{Sym}
use Rattle.isle_types.specs.declared.ids.TypeId.{TypeId}
use Rattle.isle_types.specs.Names.{position_of, with_name, AreDistinct, KeepsNames}
use Rattle.isle_types.specs.Interned.{entry_of, AreInterned}
use Rattle.isle_containers.specs.StableMaps.{value_at}
use Rattle.isle_types.specs.TypeTables.{name_at, by_name}
use Rattle.isle_types.specs.TypeEnvs.{symbol_at}
use Rattle.isle_types.proofs.NamePlaces.{place_found, place_missing, with_name-keeps}

-- what a table has at a place
abbrev pub at_place : List (Sym × TypeId) → Option ℕ → Option TypeId
at_place table place = option_and_then (entry_of table) (option_map symbol_at place)

pub some_value : {X : Type 0} (o : Option X) → IsSome o → (x : X) × (o ≡ Some x)
some_value None is = absurd (false≢true is)
some_value (Some x) is = (x, refl)

-- the symbol of a table's first entry has a name
first_named : (names : List (List ℕ)) (first : Sym × TypeId) (table : List (Sym × TypeId)) → AreInterned names (first ∷ table)
    → slice_get names first.0.0 ≡ Some (name_at names first.0)
first_named names first table interned =
    let some = some_value (slice_get names first.0.0)
    (interned first.0 (ap (λ b. is_some (cond b (Some first.1) (entry_of table first.0))) (eq-eqb first.0.0 first.0.0 refl))) in
    some.1 ∙ ap (λ (o : Option (List ℕ)). Some (unwrap_or o [])) (sym some.1)

-- so have those of the others
pub others_named : (names : List (List ℕ)) (first : Sym × TypeId) (table : List (Sym × TypeId)) → AreInterned names (first ∷ table)
    → AreInterned names table
others_named names first table interned = λ symbol some.
    interned symbol (elim (symbol.0 == first.0.0) as (λ b. IsSome (cond b (Some first.1) (entry_of table symbol))) [ true ↦ refl | false ↦ some ])

-- a name is that of an entry where its place is the entry's symbol
same_test : (names : List (List ℕ)) → AreDistinct names → (name other : List ℕ) (i j : ℕ) → slice_get names i ≡ Some name
    → slice_get names j ≡ Some other → bytes_eq name other ≡ (i == j)
same_test names once name other i j at_i at_j =
    let decides = bytes_eq-Decides name other in
    elim (i == j) as (λ b. (i == j) ≡ b → bytes_eq name other ≡ b) [
      | true ↦ λ same. decides.1 (same_Some name other (sym at_i ∙ ap (slice_get names) (eqb-true i j same) ∙ at_j))
      | false ↦ λ apart. false_from_ne_true (bytes_eq name other)
          (λ same. false≢true (sym apart ∙ eq-eqb i j (once other i j (at_i ∙ ap Some (decides.0 same)) at_j)))
    ] refl

-- a table has at a name what it has at the name's place
pub named_entry : (names : List (List ℕ)) (table : List (Sym × TypeId)) → AreDistinct names → AreInterned names table → (name : List ℕ)
    → value_at bytes_eq (by_name names table) name ≡ at_place table (position_of names name)
named_entry names [] once interned name =
    elim (position_of names name) as (λ o. None ≡ at_place [] o) [ None ↦ refl | Some _ ↦ refl ]
named_entry names (first ∷ table) once interned name =
    ap (cond (bytes_eq name (name_at names first.0)) (Some first.1)) (named_entry names table once (others_named names first table interned) name)
    ∙ through (position_of names name) refl
  where
    here : slice_get names first.0.0 ≡ Some (name_at names first.0)
    here = first_named names first table interned

    through : (o : Option ℕ) → position_of names name ≡ o
        → cond (bytes_eq name (name_at names first.0)) (Some first.1) (at_place table o) ≡ at_place (first ∷ table) o
    through None missing =
        let decides = bytes_eq-Decides name (name_at names first.0) in
        ap (λ b. cond b (Some first.1) None)
        (false_from_ne_true (bytes_eq name (name_at names first.0))
        (λ same. absurd (place_missing names name missing first.0.0 (here ∙ ap Some (sym (decides.0 same))))))
    through (Some i) found =
        ap (λ b. cond b (Some first.1) (entry_of table (symbol_at i)))
        (same_test names once name (name_at names first.0) i first.0.0 (place_found names name i found) here)

-- what it has at a name whose symbol was looked for
pub found_entry : (names : List (List ℕ)) (table : List (Sym × TypeId)) → AreDistinct names → AreInterned names table
    → (name : List ℕ) (found : Option Sym) → option_map (λ (symbol : Sym). symbol.0) found ≡ position_of names name
    → value_at bytes_eq (by_name names table) name ≡ option_and_then (entry_of table) found
found_entry names table once interned name found is =
    named_entry names table once interned name ∙ ap (at_place table) (sym is) ∙ through found
  where
    through : (o : Option Sym) → at_place table (option_map (λ (symbol : Sym). symbol.0) o) ≡ option_and_then (entry_of table) o
    through None = refl
    through (Some symbol) = refl

-- the symbols of a table have names still when names have come
pub interned_kept : (old new : List (List ℕ)) (table : List (Sym × TypeId)) → KeepsNames old new → AreInterned old table → AreInterned new table
interned_kept old new table kept interned = λ symbol some.
    let named = some_value (slice_get old symbol.0) (interned symbol some) in
    subst IsSome (sym (kept symbol.0 named.0 named.1)) refl

-- more names leave a table by names as it is
pub by_name-kept : (names : List (List ℕ)) (name : List ℕ) (table : List (Sym × TypeId)) → AreInterned names table
    → by_name (with_name names name) table ≡ by_name names table
by_name-kept names name [] interned = refl
by_name-kept names name (first ∷ table) interned =
    let here = first_named names first table interned in
    let there : name_at (with_name names name) first.0 ≡ name_at names first.0 = ap (λ (o : Option (List ℕ)). unwrap_or o [])
    (with_name-keeps names name first.0.0 (name_at names first.0) here) in
    ap (λ n. (n, first.1) ∷ by_name (with_name names name) table) there
    ∙ ap (λ rest. (name_at names first.0, first.1) ∷ rest) (by_name-kept names name table (others_named names first table interned))
