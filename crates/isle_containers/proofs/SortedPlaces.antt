-- The entries at places in range: how many, and which stands where.
use Rattle.std.proofs.Common.{◌≡◌, ℕ, ◌<◌, ◌≤◌, List, [], ◌∷◌, ◌++◌, length, get_or, slice_get, Some, None, map, take, drop, refl, sym, ap, ◌∙◌, arith}
use Rattle.std.specs.List.{All, insert}
use Rattle.std.specs.List.Sorted.{IsStrictlySortedBy}
use Rattle.std.specs.Map.{keys_of}
use Rattle.std.specs.declared.cmp.Ordering.{Ordering}
use Rattle.std.proofs.lemmas.List.{length-map, get_or-map, get_or_default, map-append, take-map, drop-map, get_or_append_left, get_or_push, length_push}
use Rattle.std.proofs.lemmas.List.Elements.{All-nil, All-head, All-tail, All-cons, All-append, All-take, All-drop}
use Rattle.std.proofs.lemmas.Option.{slice_get-get_or, slice_get_past, slice_get_read}
use Rattle.isle_containers.specs.SortedMaps.{IsSortedIndex, entries_at}

pub map-insert : {A B : Type 0} (f : A → B) (xs : List A) (i : ℕ) (x : A) → map f (insert xs i x) ≡ insert (map f xs) i (f x)
map-insert f xs i x = rw (map-append, take-map, drop-map)

-- two functions that agree below n, on numbers below n
map-agree : {X : Type 0} (f h : ℕ → X) (n : ℕ) (ks : List ℕ) → All (λ k. k < n) ks → ((k : ℕ) → k < n → f k ≡ h k) → map f ks ≡ map h ks
map-agree f h n [] below agree = refl
map-agree f h n (k ∷ ks) below agree = rw (agree k (All-head (λ j. j < n) k ks below))
    (ap (λ l. h k ∷ l) (map-agree f h n ks (All-tail (λ j. j < n) k ks below) agree))

module _ {E : Type 0} where
  -- each place is below the length
  abbrev pub AreWithin : List E → List ℕ → Type 0
  AreWithin entries places = All (λ place. place < length entries) places

  -- each place gives its entry
  pub entries_at-map : (entries : List E) (places : List ℕ) (d : E) → AreWithin entries places
      → entries_at entries places ≡ map (λ place. get_or entries place d) places
  entries_at-map entries [] d within = refl
  entries_at-map entries (place ∷ places) d within =
      rw (slice_get-get_or entries place d (All-head (λ p. p < length entries) place places within))
      (ap (λ l. get_or entries place d ∷ l) (entries_at-map entries places d (All-tail (λ p. p < length entries) place places within)))

  pub length-entries_at : (entries : List E) (places : List ℕ) → AreWithin entries places → length (entries_at entries places) ≡ length places
  length-entries_at entries [] within = refl
  length-entries_at [] (place ∷ places) within = absurd (omega (arith, All-head (λ p. p < 0) place places within))
  length-entries_at (e ∷ entries) places within = ap length (entries_at-map (e ∷ entries) places e within)
      ∙ length-map places (λ place. get_or (e ∷ entries) place e)

  pub get_or-entries_at : (entries : List E) (places : List ℕ) (i : ℕ) (d : E) → AreWithin entries places → i < length places
      → get_or (entries_at entries places) i d ≡ get_or entries (get_or places i 0) d
  get_or-entries_at entries places i d within lt = rw (entries_at-map entries places d within)
      (get_or-map (λ place. get_or entries place d) places i 0 d lt)

  -- the entry of the place that stands at i
  pub slice_get-entries_at : (entries : List E) (places : List ℕ) (i place : ℕ) (e : E) → AreWithin entries places → i < length places
      → place ≡ get_or places i place → e ≡ get_or entries place e → slice_get (entries_at entries places) i ≡ Some e
  slice_get-entries_at entries places i place e within lt here there =
      slice_get_read _ (length places) i e (sym (length-entries_at entries places within)) lt
      (there
      ∙ ap (λ p. get_or entries p e) (here ∙ get_or_default places i place 0 lt)
      ∙ sym (get_or-entries_at entries places i e within lt))

  -- no entry where no place stands
  pub slice_get-entries_past : (entries : List E) (places : List ℕ) (i : ℕ) → AreWithin entries places → length places ≤ i
      → slice_get (entries_at entries places) i ≡ None
  slice_get-entries_past entries places i within past = slice_get_past _ i (rw (length-entries_at entries places within) past)

  -- one more entry, and its place at a gap between the places
  module _ (entries : List E) (places : List ℕ) (gap : ℕ) (e : E) (within : AreWithin entries places) where
    pub within-added : AreWithin (entries ++ e ∷ []) (insert places gap (length entries))
    within-added =
        let InRange : ℕ → Type 0 = λ place. place < length (entries ++ e ∷ []) in
        let old : All InRange places = λ i d lt. omega (arith, length_push entries e, within i d lt) in
        let new : InRange (length entries) = omega (arith, length_push entries e) in
        All-append InRange (take gap places) (length entries ∷ drop gap places) (All-take InRange gap places old)
        (All-cons InRange (length entries) (drop gap places) new (All-drop InRange gap places old))

    -- an entry that was there is read as before
    same_reads : map (λ place. get_or (entries ++ e ∷ []) place e) places ≡ entries_at entries places
    same_reads =
        map-agree (λ place. get_or (entries ++ e ∷ []) place e) (λ place. get_or entries place e)
        (length entries) places within (λ place lt. get_or_append_left entries (e ∷ []) e place lt)
        ∙ sym (entries_at-map entries places e within)

    -- the entries in order have it at the gap
    pub entries_at-added : entries_at (entries ++ e ∷ []) (insert places gap (length entries)) ≡ insert (entries_at entries places) gap e
    entries_at-added =
        entries_at-map _ (insert places gap (length entries)) e within-added
        ∙ map-insert (λ place. get_or (entries ++ e ∷ []) place e) places gap (length entries)
        ∙ ap (λ l. insert l gap (get_or (entries ++ e ∷ []) (length entries) e)) same_reads
        ∙ ap (insert (entries_at entries places) gap) (get_or_push entries e e (length entries) refl)

module _ {K V : Type 0} where
  pub length-keys_at : (entries : List (K × V)) (places : List ℕ) → AreWithin entries places
      → length (keys_of (entries_at entries places)) ≡ length places
  length-keys_at entries places within = length-map (entries_at entries places) (λ e. e.0) ∙ length-entries_at entries places within

  -- the key at a place is the key of the entry there
  pub get_or-keys_at : (entries : List (K × V)) (places : List ℕ) (i : ℕ) (k : K) (d : K × V) → AreWithin entries places → i < length places
      → get_or (keys_of (entries_at entries places)) i k ≡ (get_or entries (get_or places i 0) d).0
  get_or-keys_at entries places i k d within lt =
      get_or-map (λ e. e.0) (entries_at entries places) i d k (rw (length-entries_at entries places within) lt)
      ∙ ap (λ e. e.0) (get_or-entries_at entries places i d within lt)

  -- no entries at no places
  pub IsSortedIndex-nil : (cmp : K → K → Ordering) → IsSortedIndex {V = V} cmp [] []
  unfolding IsStrictlySortedBy
  IsSortedIndex-nil cmp = record { in_range = All-nil (λ p. p < 0); as_many = refl; ascending = tt }
