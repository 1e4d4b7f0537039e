-- Sites are numbered in the order in which a rule first needs them, in the table of the rule set too.
use Rattle.std.proofs.Common.{◌≡◌, ◌++◌, inl, inr, ℕ, List, [], ◌∷◌, refl, sym, ap, subst}
use Rattle.isle_containers.proofs.Lists.{slice_get-kept}
use Rattle.isle_meaning.specs.Sites.{Site, bool_site, int_site, prim_site, argument, extractor_call, constructor_call, iterator}
use Rattle.isle_meaning.specs.Sites.{make_variant, match_variant, make_struct, extract_struct, make_some, match_some, match_tuple}
use Rattle.isle_meaning.specs.Numbered.{Row}
use Rattle.isle_blocks.specs.Building.Standing.{Adds, begin, next, IsEntryOf}
use Rattle.isle_blocks.specs.Inside.MovedSites.{Moves, none_moved, next_moved, moved_row, place_in}
use Rattle.isle_blocks.specs.Inside.RowTables.{IsEntered}
use Rattle.isle_blocks.proofs.Rows.MovedTables.{Kept, AreEarlier, at_moved, all_moved, moves_keep}

no_last : {X : Type 0} (xs : List X) (x : X) → xs ++ x ∷ [] ≡ [] → ⊥
no_last [] x e = absurd cc
no_last (y ∷ xs) x e = absurd cc

-- lists that are equal with their last items
same_last : {X : Type 0} (xs ys : List X) (x y : X) → xs ++ x ∷ [] ≡ ys ++ y ∷ [] → (xs ≡ ys) × (x ≡ y)
same_last [] [] x y e = (refl, let same : x ≡ y = cc in same)
same_last [] (z ∷ ys) x y e = absurd (no_last ys y (sym (let rest : [] ≡ ys ++ y ∷ [] = cc in rest)))
same_last (z ∷ xs) [] x y e = absurd (no_last xs x (let rest : xs ++ x ∷ [] ≡ [] = cc in rest))
same_last (w ∷ xs) (z ∷ ys) x y e =
    let (same, last) = same_last xs ys x y (let rest : xs ++ x ∷ [] ≡ ys ++ y ∷ [] = cc in rest) in
    let first : w ≡ z = cc in
    (λ i. first i ∷ same i, last)

-- nothing is moved
nothing_moved : {base own after : List Row} {numbers : List ℕ} → Moves base own numbers after → own ≡ [] → after ≡ base
nothing_moved none_moved e = refl
nothing_moved (next_moved {own = own} row k after m put) e = absurd (no_last own row e)

-- the last entry is moved behind the others
pub record IsLastMoved (base old : List Row) (row : Row) (after : List Row) : Type 0 where
  pub numbers : List ℕ
  pub mid : List Row
  pub number : ℕ
  pub moves : Moves base old numbers mid
  pub entered : IsEntered mid (moved_row (place_in numbers) row) number after

last_moved : {base own after : List Row} {numbers : List ℕ} (old : List Row) (row : Row) → Moves base own numbers after → own ≡ old ++ row ∷ []
    → IsLastMoved base old row after
last_moved old row none_moved e = absurd (no_last old row (sym e))
last_moved {base = base} old row (next_moved {own = own} {numbers = numbers} {table = table} last k after m put) e =
    let (same, one) = same_last own old last row e in
    record {
      numbers = numbers;
      mid = table;
      number = k;
      moves = subst (λ (l : List Row). Moves base l numbers table) same m;
      entered = subst (λ (r : Row). IsEntered table (moved_row (place_in numbers) r) k after) one put;
    }

-- an entry of a site, moved with its parts, is one
entry_moved : (own table : List Row) (to : ℕ → ℕ) → Kept own to table → (s : Site) (row : Row) → IsEntryOf own s row
    → IsEntryOf table s (moved_row to row)
entry_moved own table to kept (bool_site b ty) row e = ap (moved_row to) e
entry_moved own table to kept (int_site n ty) row e = ap (moved_row to) e
entry_moved own table to kept (prim_site n) row e = ap (moved_row to) e
entry_moved own table to kept (argument i) row e = ap (moved_row to) e
entry_moved own table to kept (extractor_call t s) row (j, e, p) = (to j, ap (moved_row to) e, at_moved own table to kept s j p)
entry_moved own table to kept (constructor_call t ss i) row (js, e, p) = (_, ap (moved_row to) e, all_moved own table to kept ss js p)
entry_moved own table to kept (iterator s) row (j, e, p) = (to j, ap (moved_row to) e, at_moved own table to kept s j p)
entry_moved own table to kept (make_variant ty v ss) row (js, e, p) = (_, ap (moved_row to) e, all_moved own table to kept ss js p)
entry_moved own table to kept (match_variant s v i) row (j, e, p) = (to j, ap (moved_row to) e, at_moved own table to kept s j p)
entry_moved own table to kept (make_struct ty ss) row (js, e, p) = (_, ap (moved_row to) e, all_moved own table to kept ss js p)
entry_moved own table to kept (extract_struct s i) row (j, e, p) = (to j, ap (moved_row to) e, at_moved own table to kept s j p)
entry_moved own table to kept (make_some s) row (j, e, p) = (to j, ap (moved_row to) e, at_moved own table to kept s j p)
entry_moved own table to kept (match_some s) row (j, e, p) = (to j, ap (moved_row to) e, at_moved own table to kept s j p)
entry_moved own table to kept (match_tuple s i) row (j, e, p) = (to j, ap (moved_row to) e, at_moved own table to kept s j p)

before_early : (rows : List Row) (row : Row) → AreEarlier (rows ++ row ∷ []) → AreEarlier rows
before_early rows row early k s r at among = early k s r (slice_get-kept rows (row ∷ []) k r at) among

-- what is put into a table of its own in turn is put into another in the same turn
pub moved_adds : {base own after : List Row} {numbers : List ℕ} (needed : List Site) → Adds [] needed own → AreEarlier own
    → Moves base own numbers after → Adds base needed after
moved_adds {base = base} needed begin early moves = subst (λ (l : List Row). Adds base [] l) (sym (nothing_moved moves refl)) begin
moved_adds {base = base} {own = own} {after = after} {numbers = numbers} needed
    (next {needed = before} {old = old} new site row k adds entry (inl (there, same))) early moves =
    let here = subst (λ (l : List Row). Moves base l numbers after) same moves in
    let old_early = subst AreEarlier same early in
    let kept = moves_keep old_early here in
    next after site (moved_row (place_in numbers) row) (place_in numbers k) (moved_adds before adds old_early here)
    (entry_moved old after (place_in numbers) kept site row entry) (inl (kept k row there, refl))
moved_adds {base = base} {own = own} {after = after} {numbers = numbers} needed
    (next {needed = before} {old = old} new site row k adds entry (inr (absent, last, more))) early moves =
    let m = last_moved old row moves more in
    let old_early = before_early old row (subst AreEarlier more early) in
    let kept = moves_keep old_early m.moves in
    next after site (moved_row (place_in m.numbers) row) m.number (moved_adds before adds old_early m.moves)
    (entry_moved old m.mid (place_in m.numbers) kept site row entry) m.entered
