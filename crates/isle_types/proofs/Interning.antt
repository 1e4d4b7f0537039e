-- A name is interned: it goes behind the others, and into the table.
use Rattle.std.proofs.Common.{◌≡◌, ℕ, List, [], ◌∷◌, ◌++◌, map, length, Bool, true, false, if◌then◌else◌, Some, None, String, string_bytes, refl}
use Rattle.std.proofs.Common.{ap, sym, subst, ◌∙◌, slice_get, bytes_eq}
use Rattle.std.specs.Option.{option_map}
use Rattle.std.specs.Map.{KeepsOthers}
use Rattle.std.specs.Global.{Global}
use Rattle.std.proofs.lemmas.Slice.Eq.{bytes_eq-Decides}
use Rattle.std.proofs.lemmas.List.{map-append, length-map}
use Rattle.isle_types.specs.declared.ids.Sym.{Sym}
use Rattle.isle_types.specs.Names.{position_of}
use Rattle.isle_types.specs.Interned.{IsInterned}
use Rattle.isle_containers.specs.StableMaps.{value_at, value_at_text}
use Rattle.isle_containers.proofs.Lists.{slice_get-last}
use Rattle.isle_types.proofs.NamePlaces.{same_name, place_last, place_other, once_pushed, differ, differ_back}

abbrev pub text_eq : String Global → String Global → Bool
text_eq a b = bytes_eq (string_bytes a) (string_bytes b)

-- the names with one more
pub names_pushed : (syms new : List (String Global)) (kept : String Global) (name : List ℕ) → new ≡ syms ++ kept ∷ [] → string_bytes kept ≡ name
    → map string_bytes new ≡ map string_bytes syms ++ name ∷ []
names_pushed syms new kept name is same =
    ap (map string_bytes) is ∙ map-append string_bytes syms (kept ∷ []) ∙ ap (λ n. map string_bytes syms ++ n ∷ []) same

-- its symbol
pub pushed_symbol : (syms new : List (String Global)) (kept : String Global) (name : List ℕ) → new ≡ syms ++ kept ∷ [] → string_bytes kept ≡ name
    → slice_get (map string_bytes new) (length syms) ≡ Some name
pushed_symbol syms new kept name is same =
    ap (λ names. slice_get names (length syms)) (names_pushed syms new kept name is same)
    ∙ subst (λ n. slice_get (map string_bytes syms ++ name ∷ []) n ≡ Some name) (length-map syms string_bytes)
    (slice_get-last (map string_bytes syms) name)

-- at another text the table has what it had
kept_at : (table new : List (String Global × Sym)) (key : String Global) (other : List ℕ) → bytes_eq (string_bytes key) other ≡ false
    → KeepsOthers text_eq (text_eq key) table new → value_at_text new other ≡ value_at_text table other
unfolding KeepsOthers
kept_at table new key other apart others =
    others (λ k. bytes_eq other (string_bytes k))
    (λ x y same. let decides = bytes_eq-Decides other (string_bytes x) in ap (λ t. bytes_eq t (string_bytes y)) (decides.0 same))
    (λ k same. differ (string_bytes key) (string_bytes k) other same apart)

-- the table with the new name's symbol
pub interned_pushed : (names : List (List ℕ)) (table new : List (String Global × Sym)) (key : String Global) (symbol : Sym)
    → IsInterned names table → position_of names (string_bytes key) ≡ None → symbol.0 ≡ length names → value_at text_eq new key ≡ Some symbol
    → KeepsOthers text_eq (text_eq key) table new → IsInterned (names ++ string_bytes key ∷ []) new
interned_pushed names table new key symbol interned missing last here others = record {
  once = once_pushed names (string_bytes key) interned.once missing;
  placed = λ name. elim (bytes_eq (string_bytes key) name) as
      (λ b. bytes_eq (string_bytes key) name ≡ b
      → option_map (λ (s : Sym). s.0) (value_at_text new name) ≡ position_of (names ++ string_bytes key ∷ []) name) [
        | true ↦ λ same. let decides = bytes_eq-Decides (string_bytes key) name in
            subst (λ n. option_map (λ (s : Sym). s.0) (value_at_text new n) ≡ position_of (names ++ string_bytes key ∷ []) n) (decides.0 same)
            (ap (option_map (λ (s : Sym). s.0)) here ∙ ap Some last ∙ sym (place_last names (string_bytes key) missing))
        | false ↦ λ apart.
            ap (option_map (λ (s : Sym). s.0)) (kept_at table new key name apart others) ∙ interned.placed name
            ∙ sym (place_other names (string_bytes key) name (differ_back (string_bytes key) name apart))
      ] refl;
}

-- what an insertion puts at its key
pub at_key : (table new : List (String Global × Sym)) (key : String Global) → {symbol : Sym}
    → ((q : String Global) → value_at text_eq new q ≡ (if text_eq key q then Some symbol else value_at text_eq table q))
    → value_at text_eq new key ≡ Some symbol
at_key table new key {symbol} values =
    values key ∙ ap (λ b. if b then Some symbol else value_at text_eq table key) (same_name (string_bytes key))
