-- A text without the white space directly before its newlines, and what that leaves of a comment between `(;` and `;)`.
use Rattle.std.proofs.Common.{◌≡◌, ◌≢◌, ◌<◌, ℕ, zero, suc, List, [], ◌∷◌, ◌++◌, length, get_or, Bool, true, false, cond, not, refl, sym, ap, subst, ◌∙◌, arith}
use Rattle.std.specs.Prelude.{◌==◌, ◌&&◌, ◌||◌}
use Rattle.std.proofs.lemmas.Bool.Decides.{nat_tests}
use Rattle.std.proofs.lemmas.Bool.{ne_eqb}
use Rattle.isle_syntax.specs.Tokens.Names.{is_space}
use Rattle.isle_syntax.specs.Tokens.Gaps.{mark_of, Inside, closes, nested, other}
use Rattle.isle_layout.specs.Keeping.Pieces.{trimmed, is_nothing, is_blank, begins_newline, trimmed_before, trimmed_lines}
use Rattle.isle_layout.specs.Keeping.Rows.{has_newline}
use Rattle.isle_layout.specs.Keeping.LineEnds.{ends_clean}
use Rattle.isle_layout.proofs.Keeping.Endings.{last_newline}

both_parts : (x y : Bool) → x && y ≡ true → (x ≡ true) × (y ≡ true)
both_parts true y e = (refl, e)
both_parts false y e = absurd (cc)

-- what holds of a text, and of it behind a byte that is kept before it
kept_or_not : (P : List ℕ → Type 0) (b : ℕ) (t : List ℕ) (v : Bool) → is_blank b && begins_newline t ≡ v → (begins_newline t ≡ true → P t)
    → (is_blank b && begins_newline t ≡ false → P (b ∷ t)) → P (cond v t (b ∷ t))
kept_or_not P b t true e dropped kept = dropped (both_parts (is_blank b) (begins_newline t) e).1
kept_or_not P b t false e dropped kept = kept e

by_byte : (P : List ℕ → Type 0) (b : ℕ) (t : List ℕ) → (begins_newline t ≡ true → P t) → (is_blank b && begins_newline t ≡ false → P (b ∷ t))
    → P (trimmed_before b t)
by_byte P b t dropped kept = kept_or_not P b t (is_blank b && begins_newline t) refl dropped kept

-- what is trimmed so stays as it is
pub lines_twice : (bs : List ℕ) → trimmed_lines (trimmed_lines bs) ≡ trimmed_lines bs
unfolding trimmed_lines
lines_twice [] = refl
lines_twice (b ∷ bs) =
    let t = trimmed_lines bs in
    by_byte (λ u. trimmed_lines u ≡ u) b t (λ e. lines_twice bs)
    (λ e. ap (trimmed_before b) (lines_twice bs) ∙ ap (λ v. cond v t (b ∷ t)) e)

-- ---- line by line

-- no newline is among the bytes
abbrev pub IsUnbroken : List ℕ → Type 0
IsUnbroken line = (i : ℕ) → i < length line → get_or line i 0 ≢ 10

unbroken_first : (b : ℕ) (bs : List ℕ) → IsUnbroken (b ∷ bs) → b == 10 ≡ false
unbroken_first b bs h = ne_eqb b 10 (h zero (omega arith))

unbroken_rest : (b : ℕ) (bs : List ℕ) → IsUnbroken (b ∷ bs) → IsUnbroken bs
unbroken_rest b bs h i k = h (suc i) (omega arith)

no_newline_first : (bs : List ℕ) → IsUnbroken bs → begins_newline bs ≡ false
no_newline_first [] h = refl
no_newline_first (b ∷ bs) h = unbroken_first b bs h

-- one line alone stays
pub line_same : (line : List ℕ) → IsUnbroken line → trimmed_lines line ≡ line
unfolding trimmed_lines
line_same [] h = refl
line_same (b ∷ bs) h =
    ap (trimmed_before b) (line_same bs (unbroken_rest b bs h))
    ∙ none_case (is_blank b) (begins_newline bs) (no_newline_first bs (unbroken_rest b bs h))
  where
    none_case : (s n : Bool) → n ≡ false → cond (s && n) bs (b ∷ bs) ≡ b ∷ bs
    none_case true true e = absurd (cc)
    none_case true false e = refl
    none_case false n e = refl

blank_in_line : (s n : Bool) → n ≡ false → s && not n ≡ s
blank_in_line true true e = absurd (cc)
blank_in_line true false e = refl
blank_in_line false n e = refl

trimmed_step : (b : ℕ) (others : List ℕ) (t : List ℕ) (s : Bool) → begins_newline t ≡ false
    → cond (s && begins_newline (t ++ 10 ∷ others)) (t ++ 10 ∷ others) (b ∷ (t ++ 10 ∷ others)) ≡ cond (s && is_nothing t) [] (b ∷ t) ++ 10 ∷ others
trimmed_step b others [] true e = refl
trimmed_step b others [] false e = refl
trimmed_step b others (x ∷ t) true e = ap (λ v. cond v (x ∷ (t ++ 10 ∷ others)) (b ∷ x ∷ (t ++ 10 ∷ others))) e
trimmed_step b others (x ∷ t) false e = refl

trimmed_begins : (line : List ℕ) → IsUnbroken line → begins_newline (trimmed line) ≡ false
unfolding trimmed
trimmed_begins [] h = refl
trimmed_begins (b ∷ bs) h = begins_case (is_space b && is_nothing (trimmed bs))
  where
    begins_case : (v : Bool) → begins_newline (cond v [] (b ∷ trimmed bs)) ≡ false
    begins_case true = refl
    begins_case false = unbroken_first b bs h

-- a line that a newline ends is without the white space at its end
pub line_trimmed : (line others : List ℕ) → IsUnbroken line → trimmed_lines (line ++ 10 ∷ others) ≡ trimmed line ++ 10 ∷ trimmed_lines others
unfolding trimmed_lines trimmed
line_trimmed [] others h = refl
line_trimmed (b ∷ bs) others h =
    let t = trimmed bs in
    let more = trimmed_lines others in
    ap (trimmed_before b) (line_trimmed bs others (unbroken_rest b bs h))
    ∙ ap (λ s. cond (s && begins_newline (t ++ 10 ∷ more)) (t ++ 10 ∷ more) (b ∷ (t ++ 10 ∷ more)))
    (blank_in_line (is_space b) (b == 10) (unbroken_first b bs h))
    ∙ trimmed_step b more t (is_space b) (trimmed_begins bs (unbroken_rest b bs h))

-- ---- newlines stay

newline_first : (t : List ℕ) → begins_newline t ≡ true → has_newline t ≡ true
newline_first [] e = absurd (cc)
newline_first (b ∷ bs) e = ap (λ v. v || has_newline bs) e

none_or : (x y : Bool) → x || y ≡ false → y ≡ false
none_or true y e = absurd (cc)
none_or false y e = e

blank_no_newline : (s n : Bool) → s && not n ≡ true → n ≡ false
blank_no_newline true true e = absurd (cc)
blank_no_newline true false e = refl
blank_no_newline false n e = absurd (cc)

newlines_case : (b : ℕ) (t : List ℕ) (v n : Bool) → is_blank b && begins_newline t ≡ v → has_newline t ≡ n
    → has_newline (cond v t (b ∷ t)) ≡ (b == 10 || n)
newlines_case b t true n e h =
    let blank = both_parts (is_blank b) (begins_newline t) e in
    h ∙ ap (λ v. v || n) (sym (blank_no_newline (is_space b) (b == 10) blank.0))
newlines_case b t false n e h = ap (λ v. b == 10 || v) h

-- the same newlines are among the bytes
pub newlines_same : (bs : List ℕ) → has_newline (trimmed_lines bs) ≡ has_newline bs
unfolding trimmed_lines
newlines_same [] = refl
newlines_same (b ∷ bs) =
    let t = trimmed_lines bs in
    newlines_case b t (is_blank b && begins_newline t) (has_newline bs) refl (newlines_same bs)

same_case : (b : ℕ) (t bs : List ℕ) (v : Bool) → is_blank b && begins_newline t ≡ v → (has_newline t ≡ false → t ≡ bs)
    → has_newline (cond v t (b ∷ t)) ≡ false → cond v t (b ∷ t) ≡ b ∷ bs
same_case b t bs true e more h =
    let there : has_newline t ≡ true = newline_first t (both_parts (is_blank b) (begins_newline t) e).1 in
    absurd (cc)
same_case b t bs false e more h = ap (λ u. b ∷ u) (more (none_or (b == 10) (has_newline t) h))

-- and where there are none nothing is left out
pub same_unless_newline : (bs : List ℕ) → has_newline (trimmed_lines bs) ≡ false → trimmed_lines bs ≡ bs
unfolding trimmed_lines
same_unless_newline [] e = refl
same_unless_newline (b ∷ bs) e =
    let t = trimmed_lines bs in
    same_case b t bs (is_blank b && begins_newline t) refl (same_unless_newline bs) e

-- ---- comments between `(;` and `;)`

-- the inside of a comment, clean lines before what follows it, no newline last
pub record CleanInside (text rest : List ℕ) : Type 0 where
  pub inside : Inside text rest
  pub clean : ends_clean false text ≡ ends_clean false rest
  pub last : (newline : Bool) → last_newline newline text ≡ last_newline false rest

-- the next byte is no mark with this one, as two zeros are none
abbrev Unmarked : ℕ → List ℕ → Type 0
Unmarked b [] = Unit {0}
Unmarked b (c ∷ cs) = mark_of b c ≡ mark_of 0 0

newline_unmarked : (b : ℕ) (t : List ℕ) → begins_newline t ≡ true → Unmarked b t
newline_unmarked b [] e = tt
newline_unmarked b (c ∷ cs) e = grind (arith, nat_tests)

still_unmarked : (b c : ℕ) (more : List ℕ) → mark_of b c ≡ mark_of 0 0 → Unmarked b (trimmed_lines (c ∷ more))
unfolding trimmed_lines
still_unmarked b c more e = by_byte (Unmarked b) c (trimmed_lines more) (newline_unmarked b (trimmed_lines more)) (λ off. e)

inside_behind : (b : ℕ) {t rest : List ℕ} → Inside t rest → Unmarked b t → Inside (b ∷ t) rest
inside_behind b (closes e) h = other h (closes e)
inside_behind b (nested e i o) h = other h (nested e i o)
inside_behind b (other e i) h = other h (other e i)

inside_some : {t rest : List ℕ} → Inside t rest → is_nothing t ≡ false
inside_some (closes e) = refl
inside_some (nested e i o) = refl
inside_some (other e i) = refl

clean_behind_blank : (s : Bool) (t : List ℕ) → is_nothing t ≡ false → s && begins_newline t ≡ false → ends_clean s t ≡ ends_clean false t
clean_behind_blank s [] e off = absurd (cc)
clean_behind_blank s (c ∷ cs) e off = ap (λ v. not v && ends_clean (is_space c && not (c == 10)) cs) off

byte_kept : (b : ℕ) {t rest : List ℕ} → Unmarked b t → is_blank b && begins_newline t ≡ false → CleanInside t rest → CleanInside (b ∷ t) rest
byte_kept b {t} h off k = record {
  inside = inside_behind b k.inside h;
  clean = clean_behind_blank (is_blank b) t (inside_some k.inside) off ∙ k.clean;
  last = λ newline. k.last (b == 10);
}

closed : (rest : List ℕ) → CleanInside (trimmed_lines (59 ∷ 41 ∷ rest)) (trimmed_lines rest)
unfolding trimmed_lines
closed rest = record { inside = closes refl; clean = refl; last = λ newline. refl }

opened : (inner : List ℕ) {outer rest : List ℕ} → CleanInside (trimmed_lines inner) outer → CleanInside outer rest
    → CleanInside (trimmed_lines (40 ∷ 59 ∷ inner)) rest
unfolding trimmed_lines
opened inner one two = record {
  inside = nested refl one.inside two.inside;
  clean = one.clean ∙ two.clean;
  last = λ newline. one.last false ∙ two.last false;
}

closing_first : (b c : ℕ) → mark_of b c ≡ mark_of 59 41 → b ≡ 59
closing_first b c e = grind (arith, nat_tests)

closing_second : (b c : ℕ) → mark_of b c ≡ mark_of 59 41 → c ≡ 41
closing_second b c e = grind (arith, nat_tests)

opening_first : (b c : ℕ) → mark_of b c ≡ mark_of 40 59 → b ≡ 40
opening_first b c e = grind (arith, nat_tests)

opening_second : (b c : ℕ) → mark_of b c ≡ mark_of 40 59 → c ≡ 59
opening_second b c e = grind (arith, nat_tests)

byte_trimmed : (b c : ℕ) (more : List ℕ) {rest : List ℕ} → mark_of b c ≡ mark_of 0 0 → CleanInside (trimmed_lines (c ∷ more)) rest
    → CleanInside (trimmed_lines (b ∷ c ∷ more)) rest
unfolding trimmed_lines
byte_trimmed b c more {rest} e k =
    by_byte (λ u. CleanInside u rest) b (trimmed_lines (c ∷ more)) (λ f. k) (λ off. byte_kept b (still_unmarked b c more e) off k)

-- white space before a newline is of no mark, so a comment ends where it did
pub inside_trimmed : {text rest : List ℕ} → Inside text rest → CleanInside (trimmed_lines text) (trimmed_lines rest)
inside_trimmed (closes {b = b} {c = c} {rest = rest} e) =
    subst (λ text. CleanInside (trimmed_lines text) (trimmed_lines rest)) (λ i. sym (closing_first b c e) i ∷ sym (closing_second b c e) i ∷ rest)
    (closed rest)
inside_trimmed (nested {b = b} {c = c} {inner = inner} {rest = rest} e i o) =
    subst (λ text. CleanInside (trimmed_lines text) (trimmed_lines rest)) (λ j. sym (opening_first b c e) j ∷ sym (opening_second b c e) j ∷ inner)
    (opened inner (inside_trimmed i) (inside_trimmed o))
inside_trimmed (other {b = b} {c = c} {more = more} e i) = byte_trimmed b c more e (inside_trimmed i)

-- of what stands in a comment that is closed
pub inner_trimmed : {inner : List ℕ} → Inside inner [] → CleanInside (trimmed_lines inner) []
unfolding trimmed_lines
inner_trimmed i = inside_trimmed i

pub block_begun : (inner : List ℕ) → trimmed_lines (40 ∷ 59 ∷ inner) ≡ 40 ∷ 59 ∷ trimmed_lines inner
unfolding trimmed_lines
block_begun inner = refl
