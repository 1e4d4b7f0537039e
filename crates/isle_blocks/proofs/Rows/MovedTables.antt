-- What is moved into another table stands for the same sites there.
use Rattle.std.proofs.Common.{◌≡◌, ◌<◌, inl, inr, ℕ, zero, suc, List, [], ◌∷◌, ◌++◌, map, length, Some, slice_get, get_or, unwrap_or, refl, sym}
use Rattle.std.proofs.Common.{◌∙◌, ◌+◌, ap, subst, arith}
use Rattle.std.specs.Prelude.{Contains}
use Rattle.std.proofs.lemmas.List.{length-append}
use Rattle.std.proofs.lemmas.Option.{slice_get_within, slice_get-get_or}
use Rattle.isle_containers.proofs.Lists.{slice_get-last, slice_get-pushed, slice_get-kept}
use Rattle.isle_meaning.specs.Sites.{Site, bool_site, int_site, prim_site, argument, extractor_call, constructor_call, iterator}
use Rattle.isle_meaning.specs.Sites.{make_variant, match_variant, make_struct, extract_struct, make_some, match_some, match_tuple}
use Rattle.isle_meaning.specs.Sites.{Sites, no_sites, more_sites}
use Rattle.isle_meaning.specs.Numbered.{Row, bool_row, int_row, prim_row, argument_row, extractor_row, constructor_row, iterator_row}
use Rattle.isle_meaning.specs.Numbered.{make_variant_row, match_variant_row, make_struct_row, extract_struct_row, make_some_row}
use Rattle.isle_meaning.specs.Numbered.{match_some_row, match_tuple_row, At, AtAll, AreRecorded}
use Rattle.isle_meaning.specs.Demands.{Constraint, Demand, constrained, Among}
use Rattle.isle_containers.proofs.RootedTables.{Contains-map}
use Rattle.isle_blocks.specs.Inside.RowTables.{sources, IsTable, IsEntered}
use Rattle.isle_blocks.specs.Inside.MovedSites.{moved_row, place_in, Moves, none_moved, next_moved}

-- each entry stands at its new number
abbrev pub Kept : List Row → (ℕ → ℕ) → List Row → Type 0
Kept own to table = (k : ℕ) (row : Row) → slice_get own k ≡ Some row → slice_get table (to k) ≡ Some (moved_row to row)

module _ (own table : List Row) (to : ℕ → ℕ) (kept : Kept own to table) where
  mutual
    -- a site's number leads to its new number
    pub at_moved : (t : Site) (k : ℕ) → At own t k → At table t (to k)
    at_moved (bool_site b ty) k h = kept k (bool_row b ty) h
    at_moved (int_site n ty) k h = kept k (int_row n ty) h
    at_moved (prim_site n) k h = kept k (prim_row n) h
    at_moved (argument i) k h = kept k (argument_row i) h
    at_moved (extractor_call f t) k (j, h, x) = (to j, kept k (extractor_row f j) h, at_moved t j x)
    at_moved (constructor_call f ts i) k (js, h, x) = (map to js, kept k (constructor_row f js i) h, all_moved ts js x)
    at_moved (iterator t) k (j, h, x) = (to j, kept k (iterator_row j) h, at_moved t j x)
    at_moved (make_variant ty v ts) k (js, h, x) = (map to js, kept k (make_variant_row ty v js) h, all_moved ts js x)
    at_moved (match_variant t v i) k (j, h, x) = (to j, kept k (match_variant_row j v i) h, at_moved t j x)
    at_moved (make_struct ty ts) k (js, h, x) = (map to js, kept k (make_struct_row ty js) h, all_moved ts js x)
    at_moved (extract_struct t i) k (j, h, x) = (to j, kept k (extract_struct_row j i) h, at_moved t j x)
    at_moved (make_some t) k (j, h, x) = (to j, kept k (make_some_row j) h, at_moved t j x)
    at_moved (match_some t) k (j, h, x) = (to j, kept k (match_some_row j) h, at_moved t j x)
    at_moved (match_tuple t i) k (j, h, x) = (to j, kept k (match_tuple_row j i) h, at_moved t j x)

    pub all_moved : (ts : Sites) (js : List ℕ) → AtAll own ts js → AtAll table ts (map to js)
    all_moved no_sites [] h = tt
    all_moved no_sites (j ∷ js) h = h
    all_moved (more_sites t ts) [] h = h
    all_moved (more_sites t ts) (j ∷ js) h = (at_moved t j h.0, all_moved ts js h.1)

-- two ways to number agree on the parts of an entry
abbrev pub Agree : (ℕ → ℕ) → (ℕ → ℕ) → List ℕ → Type 0
Agree to other ss = (s : ℕ) → Contains ss s → to s ≡ other s

agree_head : (to other : ℕ → ℕ) (s : ℕ) (ss : List ℕ) → Agree to other (s ∷ ss) → to s ≡ other s
agree_head to other s ss h = h s (0, omega arith, refl)

agree_tail : (to other : ℕ → ℕ) (s : ℕ) (ss : List ℕ) → Agree to other (s ∷ ss) → Agree to other ss
agree_tail to other s ss h x (k, l, e) = h x (suc k, omega arith, e)

mapped_alike : (to other : ℕ → ℕ) (ss : List ℕ) → Agree to other ss → map to ss ≡ map other ss
mapped_alike to other [] h = refl
mapped_alike to other (s ∷ ss) h =
    let p = agree_head to other s ss h in let q = mapped_alike to other ss (agree_tail to other s ss h) in cc

-- the entry moves alike
pub moved_alike : (to other : ℕ → ℕ) (row : Row) → Agree to other (sources row) → moved_row to row ≡ moved_row other row
moved_alike to other (bool_row b ty) h = refl
moved_alike to other (int_row n ty) h = refl
moved_alike to other (prim_row n) h = refl
moved_alike to other (argument_row i) h = refl
moved_alike to other (extractor_row f s) h = ap (extractor_row f) (agree_head to other s [] h)
moved_alike to other (constructor_row f ss i) h = ap (λ l. constructor_row f l i) (mapped_alike to other ss h)
moved_alike to other (iterator_row s) h = ap iterator_row (agree_head to other s [] h)
moved_alike to other (make_variant_row ty v ss) h = ap (make_variant_row ty v) (mapped_alike to other ss h)
moved_alike to other (match_variant_row s v i) h = ap (λ j. match_variant_row j v i) (agree_head to other s [] h)
moved_alike to other (make_struct_row ty ss) h = ap (make_struct_row ty) (mapped_alike to other ss h)
moved_alike to other (extract_struct_row s i) h = ap (λ j. extract_struct_row j i) (agree_head to other s [] h)
moved_alike to other (make_some_row s) h = ap make_some_row (agree_head to other s [] h)
moved_alike to other (match_some_row s) h = ap match_some_row (agree_head to other s [] h)
moved_alike to other (match_tuple_row s i) h = ap (λ j. match_tuple_row j i) (agree_head to other s [] h)

-- what the numbers are after one more
place_before : (numbers : List ℕ) (n k : ℕ) → k < length numbers → place_in (numbers ++ n ∷ []) k ≡ place_in numbers k
place_before (m ∷ numbers) n zero l = refl
place_before (m ∷ numbers) n (suc k) l = before numbers n k (suc k) (omega arith)
  where
    before : (numbers : List ℕ) (n k d : ℕ) → k < length numbers → unwrap_or (slice_get (numbers ++ n ∷ []) k) d ≡ unwrap_or (slice_get numbers k) d
    before (m ∷ numbers) n zero d l = refl
    before (m ∷ numbers) n (suc k) d l = before numbers n k d (omega arith)
    before [] n k d l = absurd (omega arith)
place_before [] n k l = absurd (omega arith)

place_last : (numbers : List ℕ) (n : ℕ) → place_in (numbers ++ n ∷ []) (length numbers) ≡ n
place_last numbers n = rw (slice_get-last numbers n) refl

-- an entry that is interned stands at its number, and the others stay
pub interned_at : (rows : List Row) (row : Row) (k : ℕ) (after : List Row) → IsEntered rows row k after → slice_get after k ≡ Some row
interned_at rows row k after (inl (h, e)) = subst (λ x. slice_get x k ≡ Some row) (sym e) h
interned_at rows row k after (inr (m, l, e)) =
    subst (λ x. slice_get x k ≡ Some row) (sym e) (subst (λ j. slice_get (rows ++ row ∷ []) j ≡ Some row) (sym l) (slice_get-last rows row))

abbrev pub Grown : List Row → List Row → Type 0
Grown rows after = (k : ℕ) (row : Row) → slice_get rows k ≡ Some row → slice_get after k ≡ Some row

pub interned_grows : (rows : List Row) (row : Row) (k : ℕ) (after : List Row) → IsEntered rows row k after → Grown rows after
interned_grows rows row k after (inl (h, e)) j r g = subst (λ x. slice_get x j ≡ Some r) (sym e) g
interned_grows rows row k after (inr (m, l, e)) j r g = subst (λ x. slice_get x j ≡ Some r) (sym e) (slice_get-kept rows (row ∷ []) j r g)

-- sources stand before
abbrev pub AreEarlier : List Row → Type 0
AreEarlier rows = (k s : ℕ) (row : Row) → slice_get rows k ≡ Some row → Contains (sources row) s → s < k

pub as_many : {base own after : List Row} {numbers : List ℕ} → Moves base own numbers after → length numbers ≡ length own
as_many none_moved = refl
as_many (next_moved {own} {numbers} row k after m i) =
    length-append numbers (k ∷ []) ∙ ap (λ n. n + 1) (as_many m) ∙ sym (length-append own (row ∷ []))

pub moves_grow : {base own after : List Row} {numbers : List ℕ} → Moves base own numbers after → Grown base after
moves_grow none_moved k row h = h
moves_grow (next_moved {own} {numbers} {table} row n after m i) k r h =
    interned_grows table (moved_row (place_in numbers) row) n after i k r (moves_grow m k r h)

-- each moved entry stands at its number, with its parts' numbers
pub moves_keep : {base own after : List Row} {numbers : List ℕ} → AreEarlier own → Moves base own numbers after
    → Kept own (place_in numbers) after
moves_keep early none_moved k row h = absurd cc
moves_keep {base} early (next_moved {own} {numbers} {table} row n after m i) k r h =
    elim (slice_get-pushed own row k r h) [
      | inl g ↦ old g (moves_keep shorter m k r g)
      | inr (l, e) ↦ fresh l e
    ]
  where
    count : length numbers ≡ length own
    count = as_many m

    to : ℕ → ℕ
    to = place_in (numbers ++ n ∷ [])

    shorter : AreEarlier own
    shorter j s x g c = early j s x (slice_get-kept own (row ∷ []) j x g) c

    before : (j : ℕ) → j < length own → to j ≡ place_in numbers j
    before j l = let c = count in place_before numbers n j (omega arith)

    alike : k < suc (length own) → moved_row to r ≡ moved_row (place_in numbers) r
    alike l = moved_alike to (place_in numbers) r (λ s c. let b = early k s r h c in before s (omega arith))

    old : slice_get own k ≡ Some r → slice_get table (place_in numbers k) ≡ Some (moved_row (place_in numbers) r)
        → slice_get after (to k) ≡ Some (moved_row to r)
    old g there =
        let within = slice_get_within own k r g in
        let stays =
        interned_grows table (moved_row (place_in numbers) row) n after i (place_in numbers k) (moved_row (place_in numbers) r) there in
        subst (λ j. slice_get after j ≡ Some (moved_row to r)) (sym (before k within))
        (subst (λ x. slice_get after (place_in numbers k) ≡ Some x) (sym (alike (omega arith))) stays)

    fresh : k ≡ length own → row ≡ r → slice_get after (to k) ≡ Some (moved_row to r)
    fresh l e =
        let there = interned_at table (moved_row (place_in numbers) row) n after i in
        let at : to k ≡ n = ap to (l ∙ sym count) ∙ place_last numbers n in
        let q = ap (moved_row (place_in numbers)) e in
        subst (λ j. slice_get after j ≡ Some (moved_row to r)) (sym at)
        (subst (λ x. slice_get after n ≡ Some x) (q ∙ sym (alike (omega arith))) there)

-- each image is of an item
pub mapped-from : {A B : Type 0} (f : A → B) (xs : List A) (y : B) → Contains (map f xs) y → (x : A) × Contains xs x × (f x ≡ y)
mapped-from f [] y (k, l, e) = absurd (omega arith)
mapped-from f (x ∷ xs) y (zero, l, e) = (x, (0, omega arith, refl), e)
mapped-from f (x ∷ xs) y (suc k, l, e) = let (z, (j, m, q), p) = mapped-from f xs y (k, omega arith, e) in (z, (suc j, omega arith, q), p)

-- the parts of a moved entry are the numbers of its parts
moved_sources : (to : ℕ → ℕ) (row : Row) → sources (moved_row to row) ≡ map to (sources row)
moved_sources to (bool_row b ty) = refl
moved_sources to (int_row n ty) = refl
moved_sources to (prim_row n) = refl
moved_sources to (argument_row i) = refl
moved_sources to (extractor_row f s) = refl
moved_sources to (constructor_row f ss i) = refl
moved_sources to (iterator_row s) = refl
moved_sources to (make_variant_row ty v ss) = refl
moved_sources to (match_variant_row s v i) = refl
moved_sources to (make_struct_row ty ss) = refl
moved_sources to (extract_struct_row s i) = refl
moved_sources to (make_some_row s) = refl
moved_sources to (match_some_row s) = refl
moved_sources to (match_tuple_row s i) = refl

-- a table stays one where an entry is interned whose parts it has
pub interned_table : (rows : List Row) (row : Row) (k : ℕ) (after : List Row) → ((s : ℕ) → Contains (sources row) s → s < length rows)
    → IsEntered rows row k after → IsTable rows → IsTable after
interned_table rows row k after below (inl (h, e)) ok = subst IsTable (sym e) ok
interned_table rows row k after below (inr (missing, l, e)) ok = subst IsTable (sym e) (record { earlier = early; once = once })
  where
    early : (j s : ℕ) (r : Row) → slice_get (rows ++ row ∷ []) j ≡ Some r → Contains (sources r) s → s < j
    early j s r h c = elim (slice_get-pushed rows row j r h) [
      | inl g ↦ ok.earlier j s r g c
      | inr (m, q) ↦ subst (λ x. s < x) (sym m) (below s (subst (λ x. Contains (sources x) s) (sym q) c))
    ]

    once : (i j : ℕ) (r : Row) → slice_get (rows ++ row ∷ []) i ≡ Some r → slice_get (rows ++ row ∷ []) j ≡ Some r → i ≡ j
    once i j r g h = elim (slice_get-pushed rows row i r g) [
      | inl a ↦ elim (slice_get-pushed rows row j r h) [
        | inl b ↦ ok.once i j r a b
        | inr (n, q) ↦ absurd (missing i (subst (λ x. slice_get rows i ≡ Some x) (sym q) a))
      ]
      | inr (m, p) ↦ elim (slice_get-pushed rows row j r h) [
        | inl b ↦ absurd (missing j (subst (λ x. slice_get rows j ≡ Some x) (sym p) b))
        | inr (n, q) ↦ m ∙ sym n
      ]
    ]

-- moved into a table, the whole is a table
pub moves_table : {base own after : List Row} {numbers : List ℕ} → AreEarlier own → IsTable base → Moves base own numbers after
    → IsTable after
moves_table early ok none_moved = ok
moves_table early ok (next_moved {own} {numbers} {table} row n after m i) =
    interned_table table (moved_row (place_in numbers) row) n after below i (moves_table shorter ok m)
  where
    shorter : AreEarlier own
    shorter j s x g c = early j s x (slice_get-kept own (row ∷ []) j x g) c

    there : (s : ℕ) → s < length own → place_in numbers s < length table
    there s l = let g = slice_get-get_or own s row l in
        slice_get_within table (place_in numbers s) (moved_row (place_in numbers) (get_or own s row))
        (moves_keep shorter m s (get_or own s row) g)

    below : (s : ℕ) → Contains (sources (moved_row (place_in numbers) row)) s → s < length table
    below s c =
        let (j, d, e) = mapped-from (place_in numbers) (sources row) s
        (subst (λ l. Contains l s) (moved_sources (place_in numbers) row) c) in
        subst (λ x. x < length table) e (there j (early (length own) j row (slice_get-last own row) d))

-- demands recorded of numbers, moved with them
abbrev pub moved_constraints : (ℕ → ℕ) → List (ℕ × Constraint) → List (ℕ × Constraint)
moved_constraints to has = map (λ (p : ℕ × Constraint). (to p.0, p.1)) has

abbrev pub moved_pairs : (ℕ → ℕ) → List (ℕ × ℕ) → List (ℕ × ℕ)
moved_pairs to same = map (λ (p : ℕ × ℕ). (to p.0, to p.1)) same

-- the demands stay recorded
pub moved_recorded : (own table : List Row) (to : ℕ → ℕ) (has : List (ℕ × Constraint)) (same : List (ℕ × ℕ)) (ds : List Demand) → Kept own to table
    → AreRecorded own has same ds → AreRecorded table (moved_constraints to has) (moved_pairs to same) ds
moved_recorded own table to has same ds kept are = record {
  constraint = λ k c h. let ((j, d), i, e) = mapped-from (λ (p : ℕ × Constraint). (to p.0, p.1)) has (k, c) h in
      let p : to j ≡ k = ap (λ (q : ℕ × Constraint). q.0) e in let q : d ≡ c = ap (λ (q : ℕ × Constraint). q.1) e in
      let (s, x, a) = are.constraint j d i in
      (s, subst (λ n. At table s n) p (move s j x), subst (λ (z : Constraint). Among ds (constrained s z)) q a);
  equality = λ a b h. let ((j, l), i, e) = mapped-from (λ (p : ℕ × ℕ). (to p.0, to p.1)) same (a, b) h in
      let p : to j ≡ a = ap (λ (q : ℕ × ℕ). q.0) e in let q : to l ≡ b = ap (λ (q : ℕ × ℕ). q.1) e in
      let (s, u, x, y, m) = are.equality j l i in
      (s, u, subst (λ n. At table s n) p (move s j x), subst (λ n. At table u n) q (move u l y), m);
  all_constraints = λ s c a. let (k, x, h) = are.all_constraints s c a in
      (to k, move s k x, Contains-map (λ (p : ℕ × Constraint). (to p.0, p.1)) has (k, c) h);
  all_equalities = λ s u m. let (a, b, x, y, h) = are.all_equalities s u m in (
    to a,
    to b,
    move s a x,
    move u b y,
    λ apart. Contains-map (λ (p : ℕ × ℕ). (to p.0, to p.1)) same (a, b) (h (λ e. apart (ap to e))),
  );
}
  where
    move : (s : Site) (k : ℕ) → At own s k → At table s (to k)
    move s k x = at_moved own table to kept s k x
