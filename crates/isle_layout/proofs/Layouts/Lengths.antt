-- How many characters texts have.
use Rattle.std.proofs.Common.{◌≡◌, ◌+◌, ◌/◌, ◌%◌, ◌<◌, ◌≤◌, ℕ, List, [], ◌∷◌, ◌++◌, length, refl, sym, ap, ◌∙◌, arith, Bool, true, false, cond, ◌⊎◌}
use Rattle.std.proofs.Common.{inl, inr, nat_lt, codes, max}
use Rattle.std.proofs.lemmas.Bool.Decides.{nat_tests}
use Rattle.std.specs.List.{flat_map}
use Rattle.isle_layout.specs.declared.sexpr.SExpr.{SExpr}
use Rattle.isle_layout.specs.SExprTree.{SExprTrees, no_sexprs, more_sexprs, sexpr_list}
use Rattle.isle_layout.specs.SExprShape.{sexpr_of, sexprs_of}
use Rattle.isle_layout.specs.Layout.{joined, one_line, one_lines, one_line_length}
use borrow.Author.Tests.{ltb-true}
use Rattle.std.specs.Fmt.{char_count}
use Rattle.std.specs.Str.{chars, IsUtf8}
use Rattle.std.proofs.Math.Utf8.{encode, encodes}
use Rattle.std.proofs.lemmas.Str.{encodes-chars}

pub char_count-append : (xs ys : List ℕ) → char_count (xs ++ ys) ≡ char_count xs + char_count ys
unfolding char_count
char_count-append [] ys = omega arith
char_count-append (x ∷ xs) ys = omega (arith, char_count-append xs ys)

-- a byte below 128, or from 192 on, begins a character
begins_character : (b : ℕ) (bs : List ℕ) → b < 128 ⊎ 192 ≤ b → char_count (b ∷ bs) ≡ 1 + char_count bs
unfolding char_count
begins_character b bs h = grind (arith, nat_tests)

goes_on : (b : ℕ) (bs : List ℕ) → 128 ≤ b → b < 192 → char_count (b ∷ bs) ≡ char_count bs
unfolding char_count
goes_on b bs low high = grind (arith, nat_tests)

pub count_none : char_count [] ≡ 0
unfolding char_count
count_none = refl

-- a first byte and one that goes on are one character
two : (b low : ℕ) → 192 ≤ b → low < 64 → char_count (b ∷ (128 + low) ∷ []) ≡ 1
two b low h l =
    omega (arith, count_none, begins_character b ((128 + low) ∷ []) (inr h), goes_on (128 + low) [] (omega arith) (omega arith))

-- and with one more that goes on still
one_more : (b first second : ℕ) (bs : List ℕ) → 192 ≤ b → first < 64 → char_count (b ∷ (128 + second) ∷ bs) ≡ 1
    → char_count (b ∷ (128 + first) ∷ (128 + second) ∷ bs) ≡ 1
one_more b first second bs h l e =
    omega (
      arith,
      begins_character b ((128 + second) ∷ bs) (inr h),
      begins_character b ((128 + first) ∷ (128 + second) ∷ bs) (inr h),
      goes_on (128 + first) ((128 + second) ∷ bs) (omega arith) (omega arith),
    )

count_choice : (b : Bool) (xs ys : List ℕ) → (b ≡ true → char_count xs ≡ 1) → char_count ys ≡ 1 → char_count (cond b xs ys) ≡ 1
count_choice true xs ys first second = first refl
count_choice false xs ys first second = second

char_count-encode : (c : ℕ) → char_count (encode c) ≡ 1
unfolding encode
char_count-encode c =
    count_choice (nat_lt c 128) (c ∷ []) _ (λ small. omega (arith, count_none, begins_character c [] (inl (ltb-true c 128 small))))
    (count_choice (nat_lt c 2048) ((192 + c / 64) ∷ (128 + c % 64) ∷ []) _ (λ small. two (192 + c / 64) (c % 64) (omega arith) (omega arith))
    (count_choice (nat_lt c 65536) ((224 + c / 4096) ∷ (128 + c / 64 % 64) ∷ (128 + c % 64) ∷ []) _
    (λ small. one_more (224 + c / 4096) (c / 64 % 64) (c % 64) [] (omega arith) (omega arith)
    (two (224 + c / 4096) (c % 64) (omega arith) (omega arith)))
    (one_more (240 + c / 262144) (c / 4096 % 64) (c / 64 % 64) ((128 + c % 64) ∷ []) (omega arith) (omega arith)
    (one_more (240 + c / 262144) (c / 64 % 64) (c % 64) [] (omega arith) (omega arith)
    (two (240 + c / 262144) (c % 64) (omega arith) (omega arith))))))

count_encodes : (cs : List ℕ) → char_count (encodes cs) ≡ length cs
count_encodes [] = count_none
count_encodes (c ∷ cs) = omega (arith, char_count-append (encode c) (encodes cs), char_count-encode c, count_encodes cs)

-- the characters are as many as the bytes that begin one
pub length_chars : (bs : List ℕ) → IsUtf8 bs → length (chars bs) ≡ char_count bs
length_chars bs text = sym (count_encodes (chars bs)) ∙ ap char_count (encodes-chars bs text)

-- the separator after a bound name
pub count_at : char_count (codes " @ ") ≡ 3
unfolding char_count
count_at = refl

-- how many characters S-expressions have on one line each
abbrev pub lengths : SExprTrees → ℕ
lengths no_sexprs = 0
lengths (more_sexprs first others) = one_line_length first + lengths others

pub count_open : (text : List ℕ) → char_count (codes "(" ++ text) ≡ 1 + char_count text
unfolding char_count
count_open text = refl

pub count_close : char_count (codes ")") ≡ 1
unfolding char_count
count_close = refl

count_space : (text : List ℕ) → char_count (codes " " ++ text) ≡ 1 + char_count text
unfolding char_count
count_space text = refl

-- each item but the first has a space before it
spaced_count : (ps : List SExpr) → char_count (flat_map (λ text. codes " " ++ text) (one_lines (sexprs_of ps))) ≡ length ps + lengths (sexprs_of ps)
spaced_count [] = omega (arith, count_none)
spaced_count (p ∷ ps) =
    omega (
      arith,
      char_count-append (codes " " ++ one_line (sexpr_of p)) (flat_map (λ text. codes " " ++ text) (one_lines (sexprs_of ps))),
      count_space (one_line (sexpr_of p)),
      spaced_count ps,
    )

joined_count : (ps : List SExpr) → char_count (joined (codes " ") (one_lines (sexprs_of ps))) + 1 ≡ max (length ps) 1 + lengths (sexprs_of ps)
joined_count [] = omega (arith, count_none)
joined_count (p ∷ ps) =
    omega (arith, char_count-append (one_line (sexpr_of p)) (flat_map (λ text. codes " " ++ text) (one_lines (sexprs_of ps))), spaced_count ps)

-- a list's length is those of its items, with the parentheses and the spaces
pub list_length : (ps : List SExpr) → (max (length ps) 1 + 1) + lengths (sexprs_of ps) ≡ one_line_length (sexpr_list (sexprs_of ps))
list_length ps =
    omega (
      arith,
      char_count-append (codes "(" ++ joined (codes " ") (one_lines (sexprs_of ps))) (codes ")"),
      count_open (joined (codes " ") (one_lines (sexprs_of ps))),
      count_close,
      joined_count ps,
    )
