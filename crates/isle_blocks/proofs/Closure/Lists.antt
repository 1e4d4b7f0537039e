-- A list of a site, in the lists of all sites, under a write.
use Rattle.std.proofs.Common.{◌≡◌, ◌≢◌, ◌<◌, ◌+◌, ◌++◌, ◌∷◌, inl, inr, [], length, set, get_or, ℕ, List, Vec, Global, map, sym, ◌∙◌, ap, arith}
use Rattle.std.proofs.lemmas.List.{map-set, map-append, get_or-map, get_or-set_other, get_or_append_left, get_or_push, length-map, length-set}
use Rattle.std.proofs.lemmas.Bool.{cases_lt}

abbrev pub items_of : Vec ℕ Global → List ℕ
items_of list = list.items

pub list_read : (rows : List (Vec ℕ Global)) (lists : List (List ℕ)) (of : ℕ) (row : Vec ℕ Global) → map items_of rows ≡ lists
    → of < length lists → row ≡ get_or rows of row → row.items ≡ get_or lists of []
list_read rows lists of row is inside at =
    let as_many : length rows ≡ length lists = sym (length-map rows items_of) ∙ ap length is in
    let within : of < length rows = omega arith in
    ap items_of at ∙ sym (get_or-map items_of rows of row [] within) ∙ ap (λ (g : List (List ℕ)). get_or g of []) is

pub alone_more : (rows : List (Vec ℕ Global)) (v : Vec ℕ Global) (n : ℕ) → length rows ≡ n
    → ((a : ℕ) → a < n → get_or (map items_of rows) a [] ≡ a ∷ []) → v.items ≡ n ∷ []
    → (a : ℕ) → a < n + 1 → get_or (map items_of (rows ++ v ∷ [])) a [] ≡ a ∷ []
alone_more rows v n fits before new a low =
    let e : map items_of (rows ++ v ∷ []) ≡ map items_of rows ++ v.items ∷ [] = map-append items_of rows (v ∷ []) in
    let long : length (map items_of rows) ≡ n = length-map rows items_of ∙ fits in
    elim (cases_lt a n) [
      | inl less ↦ ap (λ l. get_or l a []) e ∙ get_or_append_left (map items_of rows) (v.items ∷ []) [] a (omega arith) ∙ before a less
      | inr more ↦
          let s : a ≡ n = omega arith in
          ap (λ l. get_or l a []) e ∙ get_or_push (map items_of rows) v.items [] a (omega arith) ∙ new ∙ ap (λ (z : ℕ). z ∷ []) (sym s)
    ]

pub list_written : (rows : List (Vec ℕ Global)) (lists : List (List ℕ)) (of : ℕ) (row more : Vec ℕ Global) (change : List ℕ → List ℕ)
    → map items_of rows ≡ lists → of < length lists → row ≡ get_or rows of row → more.items ≡ change row.items
    → map items_of (set rows of more) ≡ set lists of (change (get_or lists of []))
list_written rows lists of row more change is inside at changed =
    map-set items_of rows of more ∙ ap (λ (g : List (List ℕ)). set g of more.items) is
    ∙ ap (set lists of) (changed ∙ ap change (list_read rows lists of row is inside at))

-- a list is moved behind another
pub list_joined : (rows : List (Vec ℕ Global)) (lists : List (List ℕ)) (from to : ℕ) (taken none old more moved : Vec ℕ Global)
    → map items_of rows ≡ lists → from < length lists → to < length lists → from ≢ to → taken ≡ get_or rows from taken
    → moved ≡ taken → none.items ≡ []
    → old ≡ get_or (set rows from none) to old → more.items ≡ old.items ++ moved.items
    → map items_of (set (set rows from none) to more) ≡ set (set lists from []) to (get_or lists to [] ++ get_or lists from [])
list_joined rows lists from to taken none old more moved is from_in to_in apart at moved_is emptied to_at added =
    let first = list_written rows lists from taken none (λ l. []) is from_in at emptied in
    let long = length-set lists from [] in
    let second = list_written (set rows from none) (set lists from []) to old more (λ l. l ++ moved.items) first (omega arith) to_at added in
    let other : get_or (set lists from []) to [] ≡ get_or lists to [] = get_or-set_other lists from to [] [] (λ e. apart (sym e)) in
    let there : moved.items ≡ get_or lists from [] = ap items_of moved_is ∙ list_read rows lists from taken is from_in at in
    second ∙ ap (λ l. set (set lists from []) to (l ++ moved.items)) other ∙ ap (λ l. set (set lists from []) to (get_or lists to [] ++ l)) there
