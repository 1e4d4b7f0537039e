-- The length of a row is that of its list on one line.
use Rattle.std.proofs.Common.{◌≡◌, ℕ, ◌+◌, ◌-◌, List, [], ◌∷◌, ◌++◌, length, take, get_or, Some, None, Bool, true, false, not, refl, sym, ap, ◌∙◌, append_assoc, length-append, arith, codes}
use Rattle.std.proofs.Common.{nat_le, if◌then◌else◌, is_some, ◌||◌, ◌&&◌}
use Rattle.std.proofs.lemmas.Bool.Decides.{nat_tests}
use Rattle.std.proofs.Math.Seq.{take-append_seam, get_or-append_seam}
use Rattle.std.specs.Fmt.{char_count}
use Rattle.isle_layout.specs.declared.pieces.Kind.{Kind}
use Rattle.isle_layout.specs.declared.pieces.Break.{Break}
use Rattle.isle_layout.specs.declared.layout.Habit.{Habit}
use Rattle.isle_layout.specs.declared.rows.Count.{Count}
use Rattle.isle_layout.specs.declared.rows.Row.{Row}
use Rattle.isle_layout.specs.Layout.{within, sum_within}
use Rattle.isle_layout.specs.Keeping.Pieces.{Fragment}
use Rattle.isle_layout.specs.Keeping.Rows.{Rows, and_one, are_few, empty_row, row_behind, has_newline, length_of_list, list_length, stays, last_row, rows_with, rows_of}
use Rattle.isle_layout.specs.Keeping.LaidOut.{if_first, flat_habit, gap_by, gap_text}
use Rattle.isle_layout.specs.Keeping.OneLine.{opening, closing, is_item, AreItems, none, item, list, on_one_line, list_text}
use Rattle.isle_layout.proofs.Layouts.Lengths.{char_count-append, count_none}

-- ---- sums

sums : (width a b : ℕ) → sum_within width (within width a) (within width b) ≡ within width (a + b)
sums width a b = grind (arith, nat_tests)

nothing_within : (width : ℕ) → Some 0 ≡ within width 0
nothing_within width = grind (arith, nat_tests)

-- ---- texts

-- how many characters some pieces have behind one of this kind
line_length : Kind → List Fragment → ℕ
line_length prev pieces = char_count (on_one_line prev pieces)

count_byte : (text : List ℕ) → char_count (32 ∷ text) ≡ 1 + char_count text
unfolding char_count
count_byte text = refl

count_opening : (text : List ℕ) → char_count (40 ∷ text) ≡ 1 + char_count text
unfolding char_count
count_opening text = refl

count_closing : (text : List ℕ) → char_count (41 ∷ text) ≡ 1 + char_count text
unfolding char_count
count_closing text = refl

-- a closing parenthesis stands close to what is before it
pub closed_text : (prev : Kind) (inner : List Fragment) (before : Break) (others : List Fragment)
    → on_one_line prev (inner ++ closing before ∷ others) ≡ on_one_line prev inner ++ 41 ∷ on_one_line Kind.Closing others
closed_text prev [] before others = refl
closed_text prev (p ∷ ps) before others =
    let here = gap_text (gap_by (flat_habit prev p.kind) p.before) 0 ++ p.text in
    ap (λ t. here ++ t) (closed_text p.kind ps before others)
    ∙ sym (append_assoc here (on_one_line p.kind ps) (41 ∷ on_one_line Kind.Closing others))

closed_length : (prev : Kind) (inner : List Fragment) (before : Break) (others : List Fragment)
    → line_length prev (inner ++ closing before ∷ others) ≡ line_length prev inner + (1 + line_length Kind.Closing others)
unfolding line_length
closed_length prev inner before others =
    ap char_count (closed_text prev inner before others) ∙ char_count-append (on_one_line prev inner) (41 ∷ on_one_line Kind.Closing others)
    ∙ ap (λ n. char_count (on_one_line prev inner) + n) (count_closing (on_one_line Kind.Closing others))

list_text_length : (inner : List Fragment) → char_count (list_text inner) ≡ 2 + line_length Kind.Opening inner
unfolding line_length
list_text_length inner =
    omega (
      arith,
      count_opening (on_one_line Kind.Opening (inner ++ closing Break.Same ∷ [])),
      ap char_count (closed_text Kind.Opening inner Break.Same []),
      char_count-append (on_one_line Kind.Opening inner) (41 ∷ []),
      count_closing [],
      count_none,
    )

not_first : (kind : Kind) (text : List ℕ) → is_item kind text ≡ true → if_first kind Habit.Close Habit.Apart ≡ Habit.Apart
not_first Kind.AtSign text e = refl
not_first Kind.Atom text e = refl
not_first Kind.Block text e = refl
not_first Kind.Line text e = absurd (cc)
not_first Kind.Opening text e = absurd (cc)
not_first Kind.Closing text e = refl

same_habit : (kind : Kind) (text : List ℕ) (next : Kind) → is_item kind text ≡ true → flat_habit kind next ≡ flat_habit Kind.Closing next
same_habit kind text Kind.Closing e = refl
same_habit kind text Kind.Line e = refl
same_habit kind text Kind.Opening e = not_first kind text e
same_habit kind text Kind.AtSign e = not_first kind text e
same_habit kind text Kind.Atom e = not_first kind text e
same_habit kind text Kind.Block e = not_first kind text e

-- pieces stand behind an item as behind a list
item_behind : (kind : Kind) (text : List ℕ) (pieces : List Fragment) → is_item kind text ≡ true
    → on_one_line kind pieces ≡ on_one_line Kind.Closing pieces
item_behind kind text [] e = refl
item_behind kind text (p ∷ ps) e =
    ap (λ habit. (gap_text (gap_by habit p.before) 0 ++ p.text) ++ on_one_line p.kind ps) (same_habit kind text p.kind e)

item_gap : (kind : Kind) (text : List ℕ) (before : Break) → is_item kind text ≡ true
    → gap_text (gap_by (flat_habit Kind.Closing kind) before) 0 ≡ 32 ∷ []
item_gap Kind.AtSign text before e = refl
item_gap Kind.Atom text before e = refl
item_gap Kind.Block text before e = refl
item_gap Kind.Line text before e = absurd (cc)
item_gap Kind.Opening text before e = absurd (cc)
item_gap Kind.Closing text before e = absurd (cc)

item_first_gap : (kind : Kind) (text : List ℕ) (before : Break) → is_item kind text ≡ true
    → gap_text (gap_by (flat_habit Kind.Opening kind) before) 0 ≡ []
item_first_gap Kind.AtSign text before e = refl
item_first_gap Kind.Atom text before e = refl
item_first_gap Kind.Block text before e = refl
item_first_gap Kind.Line text before e = absurd (cc)
item_first_gap Kind.Opening text before e = absurd (cc)
item_first_gap Kind.Closing text before e = absurd (cc)

item_length : (p : Fragment) (ps : List Fragment) → is_item p.kind p.text ≡ true
    → line_length Kind.Closing (p ∷ ps) ≡ (char_count p.text + 1) + line_length Kind.Closing ps
unfolding line_length
item_length p ps e =
    let same : on_one_line Kind.Closing (p ∷ ps) ≡ 32 ∷ (p.text ++ on_one_line Kind.Closing ps) =
    (λ i. (item_gap p.kind p.text p.before e i ++ p.text) ++ item_behind p.kind p.text ps e i) in
    omega (arith, ap char_count same, count_byte (p.text ++ on_one_line Kind.Closing ps), char_count-append p.text (on_one_line Kind.Closing ps))

item_first_length : (p : Fragment) (ps : List Fragment) → is_item p.kind p.text ≡ true
    → line_length Kind.Closing (p ∷ ps) ≡ line_length Kind.Opening (p ∷ ps) + 1
unfolding line_length
item_first_length p ps e =
    let behind = p.text ++ on_one_line p.kind ps in
    let apart : on_one_line Kind.Closing (p ∷ ps) ≡ 32 ∷ behind =
    ap (λ gap. (gap ++ p.text) ++ on_one_line p.kind ps) (item_gap p.kind p.text p.before e) in
    let close : on_one_line Kind.Opening (p ∷ ps) ≡ behind =
    ap (λ gap. (gap ++ p.text) ++ on_one_line p.kind ps) (item_first_gap p.kind p.text p.before e) in
    omega (arith, ap char_count apart, ap char_count close, count_byte behind)

-- a list among items has its length on one line, and a space before it
inner_length : (before behind : Break) (inner others : List Fragment)
    → line_length Kind.Closing (opening before ∷ (inner ++ closing behind ∷ others))
    ≡ (char_count (list_text inner) + 1) + line_length Kind.Closing others
unfolding line_length
inner_length before behind inner others =
    let rest = on_one_line Kind.Opening (inner ++ closing behind ∷ others) in
    omega (arith, count_byte (40 ∷ rest), count_opening rest, closed_length Kind.Opening inner behind others, list_text_length inner)

inner_first_length : (before behind : Break) (inner others : List Fragment)
    → line_length Kind.Closing (opening before ∷ (inner ++ closing behind ∷ others))
    ≡ line_length Kind.Opening (opening before ∷ (inner ++ closing behind ∷ others)) + 1
unfolding line_length
inner_first_length before behind inner others =
    omega (arith, count_byte (40 ∷ on_one_line Kind.Opening (inner ++ closing behind ∷ others)))

-- ---- rows

last_place : (rows : List Row) (row : Row) → length (rows ++ row ∷ []) - 1 ≡ length rows
last_place rows row = omega (arith, length-append rows (row ∷ []))

last_of : (rows : List Row) (row : Row) → last_row (rows ++ row ∷ []) ≡ row
last_of rows row = ap (λ n. get_or (rows ++ row ∷ []) n empty_row) (last_place rows row) ∙ get_or-append_seam rows row [] empty_row

but_last : (rows : List Row) (row : Row) → take (length (rows ++ row ∷ []) - 1) (rows ++ row ∷ []) ≡ rows
but_last rows row = ap (λ n. take n (rows ++ row ∷ [])) (last_place rows row) ∙ take-append_seam rows (row ∷ [])

-- what items before a rest do to its rows
record Measured (width : ℕ) (items : List Fragment) : Type 0 where
  outer : (rest : List Fragment) → (rows_of width (items ++ rest)).outer ≡ (rows_of width rest).outer
  unbroken : (rest : List Fragment) → (rows_of width (items ++ rest)).here.is_broken ≡ (rows_of width rest).here.is_broken
  counted : (rest : List Fragment) (n : ℕ) → (rows_of width rest).here.length ≡ within width n
      → (rows_of width (items ++ rest)).here.length ≡ within width (line_length Kind.Closing items + n)

item_row : (width : ℕ) (kind : Kind) (text : List ℕ) (rows : Rows) → is_item kind text ≡ true
    → rows_with width kind text rows ≡ record rows { here = row_behind width (within width (char_count text)) false rows.here }
item_row width Kind.AtSign text rows e = refl
item_row width Kind.Atom text rows e = refl
item_row width Kind.Block text rows e =
    ap (λ b. record rows { here = row_behind width (if b then None else within width (char_count text)) b rows.here }) (known (has_newline text) e)
  where
    known : (b : Bool) → not b ≡ true → b ≡ false
    known true e = absurd (cc)
    known false e = refl
item_row width Kind.Line text rows e = absurd (cc)
item_row width Kind.Opening text rows e = absurd (cc)
item_row width Kind.Closing text rows e = absurd (cc)

-- an item's length is added
row_counted : (width own n : ℕ) (row : Row) → row.length ≡ within width n
    → (row_behind width (within width own) false row).length ≡ within width ((own + 1) + n)
row_counted width own n row e =
    (λ i. sum_within width (sums width own 1 i) (e i)) ∙ sums width (own + 1) n

-- a list's length, by that of its items
list_counted : (width n : ℕ) (row : Row) (count : Count) → row.count ≡ and_one count → row.length ≡ within width n
    → list_length width row ≡ within width (n + 1)
list_counted width n row count e l =
    (λ i. length_of_list width (e i) (l i)) ∙ some_items count ∙ sums width n 1
  where
    some_items : (count : Count) → length_of_list width (and_one count) (within width n) ≡ sum_within width (within width n) (within width 1)
    some_items Count.Zero = refl
    some_items Count.One = refl
    some_items Count.More = refl

-- how long a list of items is on one line
items_length : {inner : List Fragment} (width : ℕ) → AreItems inner → Measured width inner → (before : Break) (rest : List Fragment)
    → list_length width (rows_of width (inner ++ closing before ∷ rest)).here ≡ within width (char_count (list_text inner))
unfolding line_length
items_length width none m before rest = ap (within width) (omega (arith, list_text_length [], count_none))
items_length width (item {piece = piece} {others = others} e more) m before rest =
    let rows = rows_of width (others ++ closing before ∷ rest) in
    list_counted width (line_length Kind.Closing (piece ∷ others) + 0) (rows_of width (piece ∷ (others ++ closing before ∷ rest))).here
    rows.here.count
    (ap (λ (r : Rows). r.here.count) (item_row width piece.kind piece.text rows e))
    (m.counted (closing before ∷ rest) 0 (nothing_within width))
    ∙ ap (within width) (omega (arith, list_text_length (piece ∷ others), item_first_length piece others e))
items_length width (list b c {inner = inner} {others = others} i o) m before rest =
    let pieces = opening b ∷ (inner ++ closing c ∷ others) in
    let rows = rows_of width ((inner ++ closing c ∷ others) ++ closing before ∷ rest) in
    list_counted width (line_length Kind.Closing pieces + 0) (rows_of width (pieces ++ closing before ∷ rest)).here (last_row rows.outer).count refl
    (m.counted (closing before ∷ rest) 0 (nothing_within width))
    ∙ ap (within width) (omega (arith, list_text_length pieces, inner_first_length b c inner others))

measured_none : (width : ℕ) → Measured width []
unfolding line_length
measured_none width = record {
  outer = λ rest. refl;
  unbroken = λ rest. refl;
  counted = λ rest n e. e ∙ ap (within width) (omega (arith, count_none));
}

measured_item : (width : ℕ) (p : Fragment) (ps : List Fragment) → is_item p.kind p.text ≡ true → Measured width ps → Measured width (p ∷ ps)
measured_item width p ps e m = record {
  outer = λ rest. ap (λ (r : Rows). r.outer) (item_row width p.kind p.text (rows_of width (ps ++ rest)) e) ∙ m.outer rest;
  unbroken = λ rest. ap (λ (r : Rows). r.here.is_broken) (item_row width p.kind p.text (rows_of width (ps ++ rest)) e) ∙ m.unbroken rest;
  counted = λ rest n f.
      let rows = rows_of width (ps ++ rest) in
      ap (λ (r : Rows). r.here.length) (item_row width p.kind p.text rows e)
      ∙ row_counted width (char_count p.text) (line_length Kind.Closing ps + n) rows.here (m.counted rest n f)
      ∙ ap (within width) (omega (arith, item_length p ps e));
}

-- what the rows of a list's items make with its opening parenthesis
list_rows : (width own : ℕ) (inside around : Rows) → inside.outer ≡ around.outer ++ around.here ∷ [] → inside.here.is_broken ≡ false
    → list_length width inside.here ≡ within width own
    → ((rows_with width Kind.Opening (codes "(") inside).here ≡ row_behind width (within width own) false around.here)
    × ((rows_with width Kind.Opening (codes "(") inside).outer ≡ around.outer)
list_rows width own inside around outer unbroken size = (
  (λ i. row_behind width (size i) (unbroken i) (last_row (outer i)))
      ∙ ap (row_behind width (within width own) false) (last_of around.outer around.here),
  ap (λ rows. take (length rows - 1) rows) outer ∙ but_last around.outer around.here,
)

-- the rows before a list among items
record ListRows (width : ℕ) (before behind : Break) (inner others rest : List Fragment) : Type 0 where
  here : (rows_of width ((opening before ∷ (inner ++ closing behind ∷ others)) ++ rest)).here
      ≡ row_behind width (within width (char_count (list_text inner))) false (rows_of width (others ++ rest)).here
  outer : (rows_of width ((opening before ∷ (inner ++ closing behind ∷ others)) ++ rest)).outer ≡ (rows_of width (others ++ rest)).outer

rows_of_list : (width : ℕ) (before behind : Break) (inner others rest : List Fragment) → AreItems inner → Measured width inner
    → ListRows width before behind inner others rest
rows_of_list width before behind inner others rest items m =
    let left = closing behind ∷ (others ++ rest) in
    let made = list_rows width (char_count (list_text inner)) (rows_of width (inner ++ left)) (rows_of width (others ++ rest))
    (m.outer left) (m.unbroken left) (items_length width items m behind (others ++ rest)) in
    let same = append_assoc inner (closing behind ∷ others) rest in
    record {
      here = ap (λ ps. (rows_of width (opening before ∷ ps)).here) same ∙ made.0;
      outer = ap (λ ps. (rows_of width (opening before ∷ ps)).outer) same ∙ made.1;
    }

measured_list : (width : ℕ) (before behind : Break) (inner others : List Fragment) → AreItems inner → Measured width inner → Measured width others
    → Measured width (opening before ∷ (inner ++ closing behind ∷ others))
measured_list width before behind inner others items mi mo = record {
  outer = λ rest. (rows_of_list width before behind inner others rest items mi).outer ∙ mo.outer rest;
  unbroken = λ rest. ap (λ (r : Row). r.is_broken) (rows_of_list width before behind inner others rest items mi).here ∙ mo.unbroken rest;
  counted = λ rest n f.
      ap (λ (r : Row). r.length) (rows_of_list width before behind inner others rest items mi).here
      ∙ row_counted width (char_count (list_text inner)) (line_length Kind.Closing others + n) (rows_of width (others ++ rest)).here
      (mo.counted rest n f)
      ∙ ap (within width) (omega (arith, inner_length before behind inner others));
}

measured : {items : List Fragment} (width : ℕ) → AreItems items → Measured width items
measured width none = measured_none width
measured width (item {piece = piece} {others = others} e more) = measured_item width piece others e (measured width more)
measured width (list b c {inner = inner} {others = others} i o) =
    measured_list width b c inner others i (measured width i) (measured width o)

-- ---- the two laws

-- a list's row is as long as the list on one line
pub row_length : (width : ℕ) (inner rest : List Fragment) (before : Break) → AreItems inner
    → list_length width (rows_of width (inner ++ closing before ∷ rest)).here ≡ within width (char_count (list_text inner))
row_length width inner rest before items = items_length width items (measured width items) before rest

is_some-within : (width n : ℕ) → is_some (within width n) ≡ nat_le n width
is_some-within width n = elim (nat_le n width) as (λ b. is_some (if b then Some n else None) ≡ b) [ true ↦ refl | false ↦ refl ]

-- and so the list stays on one line where it has at most that many characters there, or fewer than two pieces
pub row_stays : (width : ℕ) (inner rest : List Fragment) (before : Break) → AreItems inner
    → let row = (rows_of width (inner ++ closing before ∷ rest)).here in
    stays width row ≡ (nat_le (char_count (list_text inner)) width || are_few row.count)
row_stays width inner rest before items =
    let row = (rows_of width (inner ++ closing before ∷ rest)).here in
    let unbroken : row.is_broken ≡ false = (measured width items).unbroken (closing before ∷ rest) in
    (λ i. not (unbroken i) && (is_some (row_length width inner rest before items i) || are_few row.count))
    ∙ ap (λ b. b || are_few row.count) (is_some-within width (char_count (list_text inner)))
