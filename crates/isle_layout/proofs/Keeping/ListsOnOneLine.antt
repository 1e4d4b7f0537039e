-- What is written of a list that stays on one line is the list on one line.
use Rattle.std.proofs.Common.{◌≡◌, ℕ, ◌+◌, ◌-◌, List, [], ◌∷◌, ◌++◌, Some, Bool, true, false, cond, refl, sym, ap, ◌∙◌, append_assoc, arith}
use Rattle.std.proofs.Common.{nat_lt, ◌||◌}
use Rattle.std.proofs.lemmas.Bool.Decides.{nat_tests}
use Rattle.isle_layout.specs.declared.pieces.Kind.{Kind}
use Rattle.isle_layout.specs.declared.pieces.Break.{Break}
use Rattle.isle_layout.specs.declared.layout.Habit.{Habit}
use Rattle.isle_layout.specs.declared.layout.Spot.{Spot}
use Rattle.isle_layout.specs.Keeping.Pieces.{Fragment}
use Rattle.isle_layout.specs.Keeping.Rows.{rows_of, stays}
use Rattle.isle_layout.specs.Keeping.LaidOut.{if_first, flat_habit, habit_behind, habit_of, gap_by, gap_text, is_flat, levels_at, text_before, spot_behind, written}
use Rattle.isle_layout.specs.Keeping.OneLine.{opening, closing, is_item, AreItems, none, item, list, on_one_line, list_text}
use Rattle.isle_layout.proofs.Keeping.Wholes.{is_line}
use Rattle.isle_layout.proofs.Keeping.ListLengths.{closed_text}

first_gap_alone : (prev : Kind) (before : Break) (levels : ℕ)
    → gap_text (gap_by (if_first prev Habit.Close Habit.Apart) before) levels ≡ gap_text (gap_by (if_first prev Habit.Close Habit.Apart) before) 0
first_gap_alone Kind.Opening before levels = refl
first_gap_alone Kind.Closing before levels = refl
first_gap_alone Kind.AtSign before levels = refl
first_gap_alone Kind.Atom before levels = refl
first_gap_alone Kind.Line before levels = refl
first_gap_alone Kind.Block before levels = refl

-- a gap in a list on one line has no margin
flat_gap : (prev kind : Kind) (before : Break) (levels : ℕ)
    → gap_text (gap_by (flat_habit prev kind) before) levels ≡ gap_text (gap_by (flat_habit prev kind) before) 0
flat_gap prev Kind.Opening before levels = first_gap_alone prev before levels
flat_gap prev Kind.Closing before levels = refl
flat_gap prev Kind.AtSign before levels = first_gap_alone prev before levels
flat_gap prev Kind.Atom before levels = first_gap_alone prev before levels
flat_gap prev Kind.Line before levels = refl
flat_gap prev Kind.Block before levels = first_gap_alone prev before levels

behind_flat : (prev kind : Kind) → is_line prev ≡ false → habit_behind true prev kind ≡ flat_habit prev kind
behind_flat Kind.Opening kind e = refl
behind_flat Kind.Closing kind e = refl
behind_flat Kind.AtSign kind e = refl
behind_flat Kind.Atom kind e = refl
behind_flat Kind.Line kind e = absurd (cc)
behind_flat Kind.Block kind e = refl

-- a spot in a list on one line, behind a piece of this kind
record IsIn (spot : Spot) (prev : Kind) : Type 0 where
  flat : is_flat spot ≡ true
  behind : spot.prev ≡ Some prev
  no_line : is_line prev ≡ false

flat_before : (spot : Spot) (prev kind : Kind) (before : Break) → IsIn spot prev
    → text_before spot kind before ≡ gap_text (gap_by (flat_habit prev kind) before) 0
flat_before spot prev kind before s =
    (λ i. gap_text (gap_by (habit_of (s.flat i) (s.behind i) kind) before) (levels_at spot kind))
    ∙ ap (λ habit. gap_text (gap_by habit before) (levels_at spot kind)) (behind_flat prev kind s.no_line)
    ∙ flat_gap prev kind before (levels_at spot kind)

item_no_line : (kind : Kind) (text : List ℕ) → is_item kind text ≡ true → is_line kind ≡ false
item_no_line Kind.AtSign text e = refl
item_no_line Kind.Atom text e = refl
item_no_line Kind.Block text e = refl
item_no_line Kind.Line text e = absurd (cc)
item_no_line Kind.Opening text e = refl
item_no_line Kind.Closing text e = refl

item_spot : (spot : Spot) (kind : Kind) (text : List ℕ) (fit : Bool) → is_item kind text ≡ true
    → spot_behind spot kind fit ≡ record spot { prev = Some kind }
item_spot spot Kind.AtSign text fit e = refl
item_spot spot Kind.Atom text fit e = refl
item_spot spot Kind.Block text fit e = refl
item_spot spot Kind.Line text fit e = refl
item_spot spot Kind.Opening text fit e = absurd (cc)
item_spot spot Kind.Closing text fit e = absurd (cc)

-- a spot in a list that is opened here, on one line
inner_spot : Spot → Kind → Spot
inner_spot spot prev = record { broken = spot.broken; flat = spot.flat + 1; prev = Some prev }

one_more_flat : (n : ℕ) → nat_lt 0 (n + 1) ≡ true
one_more_flat n = grind (arith, nat_tests)

in_inner : (spot : Spot) (prev : Kind) → is_line prev ≡ false → IsIn (inner_spot spot prev) prev
unfolding inner_spot
in_inner spot prev e = record { flat = one_more_flat spot.flat; behind = refl; no_line = e }

opened_spot : (spot : Spot) (fit : Bool) → is_flat spot || fit ≡ true → spot_behind spot Kind.Opening fit ≡ inner_spot spot Kind.Opening
unfolding inner_spot
opened_spot spot fit e =
    ap (λ t. cond {A = Spot} t (record { broken = spot.broken; flat = spot.flat + 1; prev = Some Kind.Opening })
    (record { broken = spot.broken + 1; flat = spot.flat; prev = Some Kind.Opening })) e

closed_spot : (spot : Spot) (prev : Kind) (fit : Bool)
    → spot_behind (inner_spot spot prev) Kind.Closing fit ≡ record spot { prev = Some Kind.Closing }
unfolding inner_spot
closed_spot spot prev fit =
    ap (λ t. cond {A = Spot} t (record { broken = spot.broken; flat = (spot.flat + 1) - 1; prev = Some Kind.Closing })
    (record { broken = spot.broken - 1; flat = spot.flat + 1; prev = Some Kind.Closing })) (one_more_flat spot.flat)
    ∙ (λ i. record { broken = spot.broken; flat = less i; prev = Some Kind.Closing })
  where
    less : (spot.flat + 1) - 1 ≡ spot.flat
    less = omega arith

-- what is written of items in a list on one line, whatever follows them
record Flat (width : ℕ) (items : List Fragment) (spot : Spot) (prev : Kind) (rest : List Fragment) : Type 0 where
  last : Kind
  no_line : is_line last ≡ false
  text : written width spot (items ++ rest) ≡ on_one_line prev items ++ written width (record spot { prev = Some last }) rest

IsFlat : ℕ → List Fragment → Type 0
IsFlat width items = (spot : Spot) (prev : Kind) (rest : List Fragment) → IsIn spot prev → Flat width items spot prev rest

flat_none : (width : ℕ) → IsFlat width []
unfolding IsFlat
flat_none width spot prev rest s = record {
  last = prev;
  no_line = s.no_line;
  text = λ i. written width (record spot { prev = s.behind i }) rest;
}

flat_item : (width : ℕ) (p : Fragment) (ps : List Fragment) → is_item p.kind p.text ≡ true → IsFlat width ps → IsFlat width (p ∷ ps)
unfolding IsFlat
flat_item width p ps e more spot prev rest s =
    let next : Spot = record spot { prev = Some p.kind } in
    let here = gap_text (gap_by (flat_habit prev p.kind) p.before) 0 ++ p.text in
    let sub = more next p.kind rest (record { flat = s.flat; behind = refl; no_line = item_no_line p.kind p.text e }) in
    record {
      last = sub.last;
      no_line = sub.no_line;
      text = (λ i. (flat_before spot prev p.kind p.before s i ++ p.text)
          ++ written width (item_spot spot p.kind p.text (stays width (rows_of width (ps ++ rest)).here) e i) (ps ++ rest))
          ∙ ap (λ t. here ++ t) sub.text
          ∙ sym (append_assoc here (on_one_line p.kind ps) (written width (record next { prev = Some sub.last }) rest));
    }

-- a list that stays on one line is written so
list_written : (width : ℕ) (spot : Spot) (before behind : Break) (inner rest : List Fragment) → IsFlat width inner
    → is_flat spot || stays width (rows_of width (inner ++ closing behind ∷ rest)).here ≡ true
    → written width spot (opening before ∷ (inner ++ closing behind ∷ rest))
    ≡ (text_before spot Kind.Opening before ++ 40 ∷ [])
    ++ (on_one_line Kind.Opening inner ++ 41 ∷ written width (record spot { prev = Some Kind.Closing }) rest)
unfolding IsFlat inner_spot
list_written width spot before behind inner rest flat e =
    let here = text_before spot Kind.Opening before ++ 40 ∷ [] in
    let left = closing behind ∷ rest in
    let inside = on_one_line Kind.Opening inner in
    let sub = flat (inner_spot spot Kind.Opening) Kind.Opening left (in_inner spot Kind.Opening refl) in
    let last : Spot = inner_spot spot sub.last in
    let fit = stays width (rows_of width rest).here in
    ap (λ (next : Spot). here ++ written width next (inner ++ left)) (opened_spot spot (stays width (rows_of width (inner ++ left)).here) e)
    ∙ ap (λ t. here ++ t) sub.text
    ∙ ap (λ gap. here ++ (inside ++ ((gap ++ 41 ∷ []) ++ written width (spot_behind last Kind.Closing fit) rest)))
    (flat_before last sub.last Kind.Closing behind (in_inner spot sub.last sub.no_line))
    ∙ ap (λ next. here ++ (inside ++ 41 ∷ written width next rest)) (closed_spot spot sub.last fit)

or_first : (a b : Bool) → a ≡ true → a || b ≡ true
or_first true b e = refl
or_first false b e = absurd (cc)

flat_list : (width : ℕ) (before behind : Break) (inner others : List Fragment) → IsFlat width inner → IsFlat width others
    → IsFlat width (opening before ∷ (inner ++ closing behind ∷ others))
unfolding IsFlat
flat_list width before behind inner others fi fo spot prev rest s =
    let next : Spot = record spot { prev = Some Kind.Closing } in
    let first = gap_text (gap_by (flat_habit prev Kind.Opening) before) 0 ++ 40 ∷ [] in
    let left = closing behind ∷ (others ++ rest) in
    let sub = fo next Kind.Closing rest (record { flat = s.flat; behind = refl; no_line = refl }) in
    let end = written width (record next { prev = Some sub.last }) rest in
    let inside = on_one_line Kind.Opening inner in
    record {
      last = sub.last;
      no_line = sub.no_line;
      text = ap (λ ps. written width spot (opening before ∷ ps)) (append_assoc inner (closing behind ∷ others) rest)
          ∙ list_written width spot before behind inner (others ++ rest) fi
          (or_first (is_flat spot) (stays width (rows_of width (inner ++ left)).here) s.flat)
          ∙ ap (λ gap. (gap ++ 40 ∷ []) ++ (inside ++ 41 ∷ written width next (others ++ rest))) (flat_before spot prev Kind.Opening before s)
          ∙ ap (λ t. first ++ (inside ++ 41 ∷ t)) sub.text
          ∙ ap (λ t. first ++ t) (sym (append_assoc inside (41 ∷ on_one_line Kind.Closing others) end))
          ∙ ap (λ t. first ++ (t ++ end)) (sym (closed_text Kind.Opening inner behind others))
          ∙ sym (append_assoc first (on_one_line Kind.Opening (inner ++ closing behind ∷ others)) end);
    }

are_flat : {items : List Fragment} (width : ℕ) → AreItems items → IsFlat width items
are_flat width none = flat_none width
are_flat width (item {piece = piece} {others = others} e more) = flat_item width piece others e (are_flat width more)
are_flat width (list b c {inner = inner} {others = others} i o) = flat_list width b c inner others (are_flat width i) (are_flat width o)

-- what is written of a list that stays on one line, or that stands in one which does
pub written_on_one_line : (width : ℕ) (spot : Spot) (before behind : Break) (inner rest : List Fragment) → AreItems inner
    → is_flat spot || stays width (rows_of width (inner ++ closing behind ∷ rest)).here ≡ true
    → written width spot (opening before ∷ (inner ++ closing behind ∷ rest))
    ≡ (text_before spot Kind.Opening before ++ list_text inner) ++ written width (record spot { prev = Some Kind.Closing }) rest
written_on_one_line width spot before behind inner rest items e =
    let gap = text_before spot Kind.Opening before in
    let inside = on_one_line Kind.Opening inner in
    let end = written width (record spot { prev = Some Kind.Closing }) rest in
    list_written width spot before behind inner rest (are_flat width items) e
    ∙ append_assoc gap (40 ∷ []) (inside ++ 41 ∷ end)
    ∙ ap (λ t. gap ++ 40 ∷ t) (sym (append_assoc inside (41 ∷ []) end))
    ∙ ap (λ t. gap ++ 40 ∷ (t ++ end)) (sym (closed_text Kind.Opening inner Break.Same []))
    ∙ sym (append_assoc gap (list_text inner) end)
