-- A list in rows, read and set at a place.
use Rattle.std.proofs.Common.{◌≡◌, inl, inr, ◌<◌, ◌≤◌, ◌+◌, ◌*◌, ◌-◌, ◌/◌, ◌%◌, ◌++◌, ℕ, zero, suc, List, [], ◌∷◌, length, map, Option, Some, None, slice_get, slice_set, take, drop, min}
use Rattle.std.proofs.Common.{refl, sym, ap, subst, ◌∙◌, arith}
use Rattle.std.proofs.lemmas.Option.{slice_get_past, slice_get-map, none-some}
use Rattle.std.specs.Option.{option_map}
use Rattle.std.specs.List.{AllZip}
use Rattle.std.proofs.Math.Seq.{take-add}
use Rattle.std.proofs.lemmas.List.{append-nil, append_assoc, length-append, length-map, map-append, length-take, length-drop, set-append_left, set-append_right}
use Rattle.isle_blocks.specs.Inside.Trees.Tables.{AreRows, AreFull, IsCut, joined}

-- the item of a row, where there is a row
abbrev pub item_of : {A : Type 0} → Option (List A) → ℕ → Option A
item_of None j = None
item_of (Some r) j = slice_get r j

get_left : {A : Type 0} (xs ys : List A) (i : ℕ) → i < length xs → slice_get (xs ++ ys) i ≡ slice_get xs i
get_left [] ys i l = absurd (omega arith)
get_left (x ∷ xs) ys zero l = refl
get_left (x ∷ xs) ys (suc i) l = get_left xs ys i (omega arith)

get_right : {A : Type 0} (xs ys : List A) (i j : ℕ) → i ≡ length xs + j → slice_get (xs ++ ys) i ≡ slice_get ys j
get_right {A} [] ys i j e = ap (slice_get ys) (omega arith)
get_right {A} (x ∷ xs) ys zero j e = absurd (omega arith)
get_right {A} (x ∷ xs) ys (suc i) j e = get_right xs ys i j (omega arith)

-- an item is found in its row
pub get_at : {A : Type 0} (rs : List (List A)) (i q j : ℕ) → AreRows rs → j < 128 → i ≡ 128 * q + j
    → slice_get (joined rs) i ≡ item_of (slice_get rs q) j
get_at [] i q j rows l e = refl
get_at (r ∷ rs) i zero j (inl full, rows) l e = get_left r (joined rs) i (omega arith) ∙ ap (slice_get r) (omega arith)
get_at (r ∷ rs) i zero j (inr (few, last), rows) l e =
    ap (λ x. slice_get (r ++ joined x) i) last ∙ subst (λ x. slice_get x i ≡ slice_get r j) (sym (append-nil r)) (ap (slice_get r) (omega arith))
get_at (r ∷ rs) i (suc q) j (inl full, rows) l e =
    get_right r (joined rs) i (128 * q + j) (omega arith) ∙ get_at rs (128 * q + j) q j rows l refl
get_at (r ∷ rs) i (suc q) j (inr (few, last), rows) l e =
    ap (λ x. slice_get (r ++ joined x) i) last ∙ subst (λ x. slice_get x i ≡ None) (sym (append-nil r)) (slice_get_past r i (omega arith))
    ∙ sym (ap (λ x. item_of (slice_get x q) j) last)

-- there is a row of each place
pub row_there : {A : Type 0} (rs : List (List A)) (i q j : ℕ) → AreRows rs → j < 128 → i ≡ 128 * q + j → i < length (joined rs)
    → (r : List A) × (slice_get rs q ≡ Some r) × (j < length r)
row_there [] i q j rows l e within = absurd (omega arith)
row_there (r ∷ rs) i zero j (inl full, rows) l e within = (r, refl, omega arith)
row_there (r ∷ rs) i zero j (inr (few, last), rows) l e within =
    let k : i < length (r ++ []) = subst (λ x. i < length (r ++ joined x)) last within in
    let m : i < length r = subst (λ x. i < length x) (append-nil r) k in
    (r, refl, omega arith)
row_there {A} (r ∷ rs) i (suc q) j (inl full, rows) l e within =
    row_there rs (128 * q + j) q j rows l refl (omega (arith, length-append r (joined rs)))
row_there (r ∷ rs) i (suc q) j (inr (few, last), rows) l e within =
    let k : i < length (r ++ []) = subst (λ x. i < length (r ++ joined x)) last within in
    let m : i < length r = subst (λ x. i < length x) (append-nil r) k in
    absurd (omega arith)

-- an item is set in its row
pub set_at : {A : Type 0} (rs : List (List A)) (i q j : ℕ) (r : List A) (x : A) → AreRows rs → j < 128 → i ≡ 128 * q + j
    → slice_get rs q ≡ Some r → j < length r → joined (slice_set rs q (slice_set r j x)) ≡ slice_set (joined rs) i x
set_at [] i q j r x rows l e there within = absurd (none-some r there)
set_at (s ∷ rs) i zero j r x rows l e there within =
    let same : s ≡ r = grind arith in
    let k : i ≡ j = omega arith in
    subst (λ t. slice_set t j x ++ joined rs ≡ slice_set (s ++ joined rs) i x) same
    (subst (λ n. slice_set s n x ++ joined rs ≡ slice_set (s ++ joined rs) i x) k
    (sym (set-append_left s (joined rs) i x (subst (λ n. n < length s) (sym k) (subst (λ t. j < length t) (sym same) within)))))
set_at (s ∷ rs) i (suc q) j r x (inl full, rows) l e there within =
    let m : i - 128 ≡ 128 * q + j = omega arith in
    ap (λ t. s ++ t) (set_at rs (i - 128) q j r x rows l m there within)
    ∙ sym (set-append_right s (joined rs) 128 i x full (omega arith))
set_at (s ∷ rs) i (suc q) j r x (inr (few, last), rows) l e there within =
    absurd (none-some r (subst (λ t. slice_get t q ≡ Some r) last there))

-- a row is put in the place of one as long
pub rows_set : {A : Type 0} (rs : List (List A)) (q : ℕ) (r s : List A) → AreRows rs → slice_get rs q ≡ Some r
    → length s ≡ length r → AreRows (slice_set rs q s)
rows_set [] q r s rows there same = absurd (none-some r there)
rows_set (t ∷ rs) zero r s (h, rows) there same = (elim h [ inl full ↦ inl (kept full) | inr h ↦ inr (less h.0, h.1) ], rows)
  where
    is : t ≡ r
    is = grind arith

    kept : length t ≡ 128 → length s ≡ 128
    kept full = same ∙ ap length (sym is) ∙ full

    less : length t ≤ 128 → length s ≤ 128
    less few = subst (λ n. n ≤ 128) (ap length is ∙ sym same) few
rows_set (t ∷ rs) (suc q) r s (inl full, rows) there same = (inl full, rows_set rs q r s rows there same)
rows_set (t ∷ rs) (suc q) r s (inr (few, last), rows) there same = absurd (none-some r (subst (λ x. slice_get x q ≡ Some r) last there))

-- rows of a map
pub map_set : {A B : Type 0} (f : A → B) (xs : List A) (i : ℕ) (x : A) → map f (slice_set xs i x) ≡ slice_set (map f xs) i (f x)
map_set f [] i x = refl
map_set f (y ∷ ys) zero x = refl
map_set f (y ∷ ys) (suc i) x = ap (λ t. f y ∷ t) (map_set f ys i x)

-- an item is found in the row of its place
pub get_row : {X A : Type 0} (f : X → List A) (rows : List X) (i : ℕ) → AreRows (map f rows)
    → slice_get (joined (map f rows)) i ≡ item_of (option_map f (slice_get rows (i / 128))) (i % 128)
get_row f rows i are =
    get_at (map f rows) i (i / 128) (i % 128) are (omega arith) (omega arith)
    ∙ ap (λ o. item_of o (i % 128)) (slice_get-map f rows (i / 128))

-- the row of a place, and that the place is in it
pub place_row : {X A : Type 0} (f : X → List A) (rows : List X) (i : ℕ) → AreRows (map f rows) → i < length (joined (map f rows))
    → (r : X) × (slice_get rows (i / 128) ≡ Some r) × (i % 128 < length (f r))
place_row {X} {A} f rows i are within = given (row_there (map f rows) i (i / 128) (i % 128) are (omega arith) (omega arith) within)
  where
    some_same : (x y : List A) → Some x ≡ Some y → x ≡ y
    some_same x y e = grind arith

    found : (o : Option X) (l : List A) → slice_get rows (i / 128) ≡ o → slice_get (map f rows) (i / 128) ≡ Some l → i % 128 < length l
        → (r : X) × (slice_get rows (i / 128) ≡ Some r) × (i % 128 < length (f r))
    found None l none there less = absurd (none-some l (ap (option_map f) (sym none) ∙ sym (slice_get-map f rows (i / 128)) ∙ there))
    found (Some r) l some there less =
        let same : f r ≡ l = some_same (f r) l (ap (option_map f) (sym some) ∙ sym (slice_get-map f rows (i / 128)) ∙ there) in
        (r, some, subst (λ x. i % 128 < length x) (sym same) less)

    given : ((l : List A) × (slice_get (map f rows) (i / 128) ≡ Some l) × (i % 128 < length l)) → (r : X)
        × (slice_get rows (i / 128) ≡ Some r) × (i % 128 < length (f r))
    given (l, there, less) = found (slice_get rows (i / 128)) l refl there less

-- an item is set in the row of its place
pub set_row : {X A : Type 0} (f : X → List A) (rows : List X) (i : ℕ) (old new : X) (x : A) → AreRows (map f rows)
    → slice_get rows (i / 128) ≡ Some old
    → i % 128 < length (f old) → f new ≡ slice_set (f old) (i % 128) x
    → joined (map f (slice_set rows (i / 128) new)) ≡ slice_set (joined (map f rows)) i x
set_row f rows i old new x are there within is =
    ap joined (map_set f rows (i / 128) new)
    ∙ (ap (λ r. joined (slice_set (map f rows) (i / 128) r)) is
    ∙ set_at (map f rows) i (i / 128) (i % 128) (f old) x are (omega arith) (omega arith)
    (slice_get-map f rows (i / 128) ∙ ap (option_map f) there) within)

-- a row is put in the place of one as long
pub are_set : {X A : Type 0} (f : X → List A) (rows : List X) (q : ℕ) (old new : X) → AreRows (map f rows) → slice_get rows q ≡ Some old
    → length (f new) ≡ length (f old) → AreRows (map f (slice_set rows q new))
are_set f rows q old new are there same =
    subst (λ rs. AreRows rs) (sym (map_set f rows q new))
    (rows_set (map f rows) q (f old) (f new) are (slice_get-map f rows q ∙ ap (option_map f) there) same)

-- clones of rows have their items
pub copies_same : {X A : Type 0} (f : X → List A) (P : X → X → Type 0) → ((x y : X) → P x y → f y ≡ f x) → (xs ys : List X)
    → AllZip P xs ys → map f ys ≡ map f xs
copies_same f P same [] [] h = refl
copies_same f P same [] (y ∷ ys) h = absurd h
copies_same f P same (x ∷ xs) [] h = absurd h
copies_same f P same (x ∷ xs) (y ∷ ys) h = λ i. same x y h.0 i ∷ copies_same f P same xs ys h.1 i

are_more : {A : Type 0} (rs : List (List A)) (r : List A) → AreFull rs → length r ≤ 128 → AreRows (rs ++ r ∷ [])
are_more [] r h few = (inr (few, refl), tt)
are_more (s ∷ rs) r (full, h) few = (inl full, are_more rs r h few)

full_more : {A : Type 0} (rs : List (List A)) (r : List A) → AreFull rs → length r ≡ 128 → AreFull (rs ++ r ∷ [])
full_more [] r h full = (full, tt)
full_more (s ∷ rs) r (all, h) full = (all, full_more rs r h full)

joined_more : {A : Type 0} (rs : List (List A)) (r : List A) → joined (rs ++ r ∷ []) ≡ joined rs ++ r
joined_more [] r = append-nil r
joined_more (s ∷ rs) r = ap (λ t. s ++ t) (joined_more rs r) ∙ sym (append_assoc s (joined rs) r)

-- the next items become a row
pub cut_more : {A : Type 0} (items row : List A) (at n : ℕ) (rows : List (List A)) → IsCut items at rows → at < length items
    → n ≡ min 128 (length items - at) → row ≡ take n (drop at items) → IsCut items (at + n) (rows ++ row ∷ [])
cut_more items row at n rows cut left most is = record {
  within = omega arith;
  are = are_more rows row (cut.full left) (omega (arith, size));
  full = λ more. full_more rows row (cut.full left) (omega (arith, size));
  joined_is = joined_more rows row ∙ (ap (λ t. t ++ row) cut.joined_is ∙ (ap (λ t. take at items ++ t) is ∙ sym (take-add at n items)));
}
  where
    size : length row ≡ n
    size = ap length is ∙ omega (arith, length-take n (drop at items), length-drop at items)

-- rows of a map
map_joined : {A B : Type 0} (g : A → B) (rs : List (List A)) → joined (map (map g) rs) ≡ map g (joined rs)
map_joined g [] = refl
map_joined g (r ∷ rs) = ap (λ t. map g r ++ t) (map_joined g rs) ∙ sym (map-append g r (joined rs))

map_rows : {A B : Type 0} (g : A → B) (rs : List (List A)) → AreRows rs → AreRows (map (map g) rs)
map_rows g [] h = tt
map_rows g (r ∷ rs) (inl full, h) = (inl (length-map r g ∙ full), map_rows g rs h)
map_rows g (r ∷ rs) (inr (few, last), h) = (inr (subst (λ n. n ≤ 128) (sym (length-map r g)) few, ap (map (map g)) last), map_rows g rs h)

-- each row is the map of an old one
pub all_mapped : {A B : Type 0} (g : A → B) (rs : List (List A)) (ss : List (List B)) → AreRows rs → ss ≡ map (map g) rs
    → AreRows ss × (joined ss ≡ map g (joined rs))
all_mapped g rs ss h is = (subst AreRows (sym is) (map_rows g rs h), ap joined is ∙ map_joined g rs)
