-- A table of names when a name gets an entry.
use Rattle.std.proofs.Common.{◌≡◌, ℕ, ◌==◌, ◌⊎◌, inl, inr, List, [], ◌∷◌, ◌++◌, length, Bool, true, false, cond, if◌then◌else◌, Option, Some}
use Rattle.std.proofs.Common.{None, IsSome, is_some, refl, ap, sym, subst, ◌∙◌, slice_get, bytes_eq}
use Rattle.std.specs.Option.{option_map}
use Rattle.std.proofs.lemmas.Option.{same_Some}
use Rattle.std.proofs.lemmas.Bool.{eqb-true, eq-eqb, false≢true, false_from_ne_true}
use Rattle.std.proofs.lemmas.Slice.Eq.{bytes_eq-Decides}
use Rattle.isle_types.specs.declared.ids.Sym.{Sym}
use Rattle.isle_types.specs.declared.ids.TypeId.{TypeId}
use Rattle.isle_types.specs.Names.{position_of, AreDistinct}
use Rattle.isle_types.specs.Interned.{entry_of, AreInterned}
use Rattle.isle_types.specs.TypeEnvs.{symbol_at, type_at}
use Rattle.isle_containers.specs.StableMaps.{value_at}
use Rattle.isle_types.specs.TypeTables.{by_name}
use Rattle.isle_types.proofs.NamedTables.{at_place, named_entry}
use Rattle.isle_types.proofs.NamePlaces.{place_found, place_known, place_last, place_other, place_there}

-- a table with one more entry, at a symbol
abbrev pub GetsEntry : List (Sym × TypeId) → List (Sym × TypeId) → Sym → TypeId → Type 0
GetsEntry old new symbol id = (q : Sym) → entry_of new q ≡ (if symbol.0 == q.0 then Some id else entry_of old q)

-- what a table has at a name is what it has at the name's symbol
pub entry_at_name : (names : List (List ℕ)) (name : List ℕ) (symbol : Sym) (table : List (Sym × TypeId)) → AreDistinct names
    → slice_get names symbol.0 ≡ Some name → at_place table (position_of names name) ≡ entry_of table symbol
entry_at_name names name symbol table once here = ap (at_place table) (place_known names name symbol.0 once here)

new_at_symbol : (old new : List (Sym × TypeId)) (symbol : Sym) (id : TypeId) → GetsEntry old new symbol id → entry_of new symbol ≡ Some id
new_at_symbol old new symbol id gets =
    gets symbol ∙ ap (λ b. cond b (Some id) (entry_of old symbol)) (eq-eqb symbol.0 symbol.0 refl)

old_elsewhere : (names : List (List ℕ)) (name : List ℕ) (symbol : Sym) (old new : List (Sym × TypeId)) (id : TypeId)
    → slice_get names symbol.0 ≡ Some name → GetsEntry old new symbol id → (q : List ℕ) → bytes_eq q name ≡ false → (o : Option ℕ)
    → position_of names q ≡ o → at_place new o ≡ at_place old o
old_elsewhere names name symbol old new id here gets q apart None is = refl
old_elsewhere names name symbol old new id here gets q apart (Some j) is =
    let decides = bytes_eq-Decides q name in
    let other : (symbol.0 == j) ≡ false = false_from_ne_true (symbol.0 == j)
    (λ same. false≢true (sym apart ∙ decides.1
    (same_Some q name (sym (place_found names q j is) ∙ ap (slice_get names) (sym (eqb-true symbol.0 j same)) ∙ here)))) in
    gets (symbol_at j) ∙ ap (λ b. cond b (Some id) (entry_of old (symbol_at j))) other

-- what a table has at each name, after a name got an entry
pub entry_given : (names : List (List ℕ)) (name : List ℕ) (symbol : Sym) (old new : List (Sym × TypeId)) (id : TypeId) → AreDistinct names
    → slice_get names symbol.0 ≡ Some name → GetsEntry old new symbol id → (q : List ℕ)
    → at_place new (position_of names q) ≡ (if bytes_eq q name then Some id else at_place old (position_of names q))
entry_given names name symbol old new id once here gets q =
    elim (bytes_eq q name) as (λ b. bytes_eq q name ≡ b
    → at_place new (position_of names q) ≡ cond b (Some id) (at_place old (position_of names q))) [
      | true ↦ λ same. let decides = bytes_eq-Decides q name in
          ap (λ n. at_place new (position_of names n)) (decides.0 same) ∙ entry_at_name names name symbol new once here
          ∙ new_at_symbol old new symbol id gets
      | false ↦ λ apart. old_elsewhere names name symbol old new id here gets q apart (position_of names q) refl
    ] refl

-- the symbols of the table are still those of names
pub interned_given : (names : List (List ℕ)) (name : List ℕ) (symbol : Sym) (old new : List (Sym × TypeId)) (id : TypeId)
    → slice_get names symbol.0 ≡ Some name → AreInterned names old → GetsEntry old new symbol id → AreInterned names new
interned_given names name symbol old new id here interned gets = λ q some.
    elim (symbol.0 == q.0) as (λ b. (symbol.0 == q.0) ≡ b → IsSome (cond b (Some id) (entry_of old q)) → IsSome (slice_get names q.0)) [
      | true ↦ λ same _. subst IsSome (sym (ap (slice_get names) (sym (eqb-true symbol.0 q.0 same)) ∙ here)) refl
      | false ↦ λ _ before. interned q before
    ] refl (subst IsSome (gets q) some)

-- the table stays, or gets an entry
pub interned_after : (names : List (List ℕ)) (name : List ℕ) (symbol : Sym) (old new : List (Sym × TypeId)) (id : TypeId)
    → slice_get names symbol.0 ≡ Some name → AreInterned names old → GetsEntry old new symbol id ⊎ (new ≡ old) → AreInterned names new
interned_after names name symbol old new id here interned (inl gets) = interned_given names name symbol old new id here interned gets
interned_after names name symbol old new id here interned (inr same) = subst (AreInterned names) (sym same) interned

-- what a table by names has at a name is what the table from symbols has at the name's symbol
pub entry_of_name : (names : List (List ℕ)) (name : List ℕ) (symbol : Sym) (table : List (Sym × TypeId)) → AreDistinct names
    → AreInterned names table → slice_get names symbol.0 ≡ Some name → value_at bytes_eq (by_name names table) name ≡ entry_of table symbol
entry_of_name names name symbol table once interned here =
    named_entry names table once interned name ∙ entry_at_name names name symbol table once here

-- what a table by names has at each name, after a name got an entry
pub named_given : (names : List (List ℕ)) (name : List ℕ) (symbol : Sym) (old new : List (Sym × TypeId)) (id : TypeId) → AreDistinct names
    → AreInterned names old → slice_get names symbol.0 ≡ Some name → GetsEntry old new symbol id → (q : List ℕ)
    → value_at bytes_eq (by_name names new) q ≡ (if bytes_eq q name then Some id else value_at bytes_eq (by_name names old) q)
named_given names name symbol old new id once interned here gets q =
    named_entry names new once (interned_given names name symbol old new id here interned gets) q
    ∙ entry_given names name symbol old new id once here gets q
    ∙ ap (λ o. cond (bytes_eq q name) (Some id) o) (sym (named_entry names old once interned q))

-- whether a name is known, by what the table has there
pub known_from_entry : (known : List (List ℕ)) (name : List ℕ) (entry : Option TypeId) → entry ≡ option_map type_at (position_of known name)
    → (b : Bool) → b ≡ is_some entry → is_some (position_of known name) ≡ b
known_from_entry known name entry is b test = known_here (position_of known name) ∙ sym (test ∙ ap is_some is)
  where
    known_here : (o : Option ℕ) → is_some o ≡ is_some (option_map type_at o)
    known_here None = refl
    known_here (Some i) = refl

none_from_test : (o : Option ℕ) → is_some o ≡ false → o ≡ None
none_from_test None is = refl
none_from_test (Some i) is = absurd (false≢true (sym is))

-- a taken name adds nothing to the places of names
pub places_taken : (known : List (List ℕ)) (name : List ℕ) → is_some (position_of known name) ≡ true → (q : List ℕ)
    → position_of (known ++ name ∷ []) q ≡ position_of known q
places_taken known name taken q =
    elim (bytes_eq q name) as (λ b. bytes_eq q name ≡ b → position_of (known ++ name ∷ []) q ≡ position_of known q) [
      | true ↦ λ same. let decides = bytes_eq-Decides q name in
          subst (λ n. position_of (known ++ name ∷ []) n ≡ position_of known n) (sym (decides.0 same)) (there (position_of known name) refl taken)
      | false ↦ λ apart. place_other known name q apart
    ] refl
  where
    there : (o : Option ℕ) → position_of known name ≡ o → is_some o ≡ true → position_of (known ++ name ∷ []) name ≡ position_of known name
    there None is test = absurd (false≢true test)
    there (Some i) is test = place_there known name name i is ∙ sym is

-- a table that has the types of names, with a new name's type
pub names_given : (known : List (List ℕ)) (name : List ℕ) (id : TypeId) (old new : List ℕ → Option TypeId)
    → is_some (position_of known name) ≡ false → id.0 ≡ length known → ((q : List ℕ) → old q ≡ option_map type_at (position_of known q))
    → ((q : List ℕ) → new q ≡ (if bytes_eq q name then Some id else old q)) → (q : List ℕ)
    → new q ≡ option_map type_at (position_of (known ++ name ∷ []) q)
names_given known name id old new free last has gets q =
    gets q ∙ elim (bytes_eq q name) as
    (λ b. bytes_eq q name ≡ b → cond b (Some id) (old q) ≡ option_map type_at (position_of (known ++ name ∷ []) q)) [
      | true ↦ λ same. let decides = bytes_eq-Decides q name in
          ap (λ n. Some (type_at n)) last ∙ ap (option_map type_at) (sym (place_last known name (none_from_test (position_of known name) free)))
          ∙ ap (λ n. option_map type_at (position_of (known ++ name ∷ []) n)) (sym (decides.0 same))
      | false ↦ λ apart. has q ∙ ap (option_map type_at) (sym (place_other known name q apart))
    ] refl
