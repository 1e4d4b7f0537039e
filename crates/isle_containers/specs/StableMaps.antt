-- What the contracts of `StableSet` and `StableMap` cite. A set is seen as its members, a map as its entries.
use Rattle.std.specs.Prelude.{◌≡◌, ℕ, Bool, List, reverse, Option, String, bytes_eq, string_bytes}
use Rattle.std.specs.List.{list_any, IsDistinct, AllZip}
use Rattle.std.specs.Map.{keys_of, lookup}
use Rattle.std.specs.Iterator.Runs.{WholeRun}

-- whether a member is equal to x
abbrev pub has : {T : Type 0} → (T → T → Bool) → List T → T → Bool
has eq members x = list_any (eq x) members

-- no two entries have equal keys
abbrev pub HasDistinctKeys : {K V : Type 0} → (K → K → Bool) → List (K × V) → Type 0
HasDistinctKeys eq entries = IsDistinct eq (keys_of entries)

-- the value at the key k
abbrev pub value_at : {K V : Type 0} → (K → K → Bool) → List (K × V) → K → Option V
value_at eq entries k = lookup (eq k) entries

-- the value at the key whose bytes are those of a text
abbrev pub value_at_text : {A V : Type 0} → List (String A × V) → List ℕ → Option V
value_at_text entries text = lookup (λ k. bytes_eq text (string_bytes k)) entries

-- each new entry is a clone of the old one in its place
abbrev pub AreClones : {K V : Type 0} → (K → K → Type 0) → (V → V → Type 0) → List (K × V) → List (K × V) → Type 0
AreClones key_is_clone value_is_clone old new = AllZip (λ e f. key_is_clone e.0 f.0 × value_is_clone e.1 f.1) old new

-- at each key the entries have the value of the last pair with this key, and no two have equal keys
abbrev pub HoldsLastOf : {K V : Type 0} → (K → K → Bool) → List (K × V) → List (K × V) → Type 0
HoldsLastOf {K} eq pairs entries = ((k : K) → value_at eq entries k ≡ value_at eq (reverse pairs) k) × HasDistinctKeys eq entries

-- the entries of the pairs that an iterator made of `source` gives to its end: of two pairs with equal keys the later counts
abbrev pub AreEntriesOf : {K V Source Iterator : Type 0} → (K → K → Bool) → (Source → Iterator → Type 0)
    → (Iterator → Option (K × V) → Iterator → Type 0) → Source → List (K × V) → Type 0
AreEntriesOf {K} {V} {Source} {Iterator} eq makes steps source entries = (iterator : Iterator) × makes source iterator
    × WholeRun steps iterator (λ run. HoldsLastOf eq run.items entries)
