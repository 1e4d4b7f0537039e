-- A piece is cut again from its own text, whatever follows that may.
use Rattle.std.proofs.Common.{◌≡◌, ℕ, ◌-◌, ◌≤◌, List, [], ◌∷◌, ◌++◌, length, take, Option, Some, Bool, true, false, cond, not, refl, sym}
use Rattle.std.proofs.Common.{ap, subst, ◌∙◌, append_assoc, length-append, arith}
use Rattle.std.specs.Prelude.{◌==◌, ◌&&◌}
use Rattle.std.proofs.lemmas.Bool.Decides.{nat_tests}
use Rattle.std.proofs.lemmas.List.{append-nil}
use Rattle.isle_syntax.specs.declared.gap.Lead.{Lead}
use Rattle.isle_layout.specs.declared.pieces.Kind.{Kind}
use Rattle.isle_syntax.specs.Tokens.Names.{is_space, ends_symbol}
use Rattle.isle_syntax.specs.Tokens.Gaps.{lead_of, after_first, after_run, run_of, in_line, begins_semicolon, mark_of, Inside, closes, nested, other}
use Rattle.isle_syntax.specs.Tokens.Integers.{radix_of, radix_named, behind_prefix, continues_digits, after_integer}
use Rattle.isle_syntax.specs.Tokens.TokensOf.{continues_symbol}
use Rattle.isle_syntax.specs.declared.lexer.Token.{Token}
use Rattle.isle_syntax.specs.Tokens.Integers.{integer_of, digits_token}
use Rattle.isle_syntax.specs.Tokens.Finding.{after_comment}
use Rattle.isle_layout.specs.Keeping.Pieces.{Cut, kind_by, kind_of_comment, after_by, behind_comment, before_rest, text_by, trimmed, trimmed_lines, is_nothing, cut_of}
use Rattle.isle_syntax.proofs.Tokens.Runs.{run_whole, take_front, after_run-step}
use Rattle.isle_syntax.proofs.Tokens.Comments.{inside_complete}
use Rattle.isle_layout.specs.Keeping.OneLine.{HasItsText}
use Rattle.isle_layout.specs.Keeping.LineEnds.{is_block, ends_clean, is_spaced}
use Rattle.isle_layout.proofs.Keeping.Cleaning.{clean_step, run_clean, trimmed_clean}
use Rattle.isle_layout.proofs.Keeping.Spacing.{spaced_step, run_spaced, trimmed_spaced, solid_other}
use Rattle.isle_layout.proofs.Keeping.Endings.{last_newline, last_spaced}
use Rattle.isle_layout.proofs.Keeping.Trimming.{trimmed_twice}
use Rattle.isle_layout.proofs.Keeping.BlockLines.{CleanInside, inner_trimmed, lines_twice}
use Rattle.isle_layout.proofs.Keeping.Cutting.{piece_shorter}

-- a comment up to the line's end
abbrev pub is_line : Kind → Bool
is_line Kind.Line = true
is_line Kind.Opening = false
is_line Kind.Closing = false
is_line Kind.AtSign = false
is_line Kind.Atom = false
is_line Kind.Block = false

-- a closing parenthesis
abbrev pub is_closing : Kind → Bool
is_closing Kind.Closing = true
is_closing Kind.Opening = false
is_closing Kind.AtSign = false
is_closing Kind.Atom = false
is_closing Kind.Line = false
is_closing Kind.Block = false

-- no byte, or one that ends a symbol
abbrev pub ends_atom : List ℕ → Bool
ends_atom [] = true
ends_atom (b ∷ bs) = ends_symbol b

-- no byte, or a newline
abbrev pub ends_line : List ℕ → Bool
ends_line [] = true
ends_line (b ∷ bs) = b == 10

-- what may follow a piece's text
abbrev pub may_follow : Kind → List ℕ → Bool
may_follow Kind.Opening rest = not (begins_semicolon rest)
may_follow Kind.Closing rest = true
may_follow Kind.AtSign rest = true
may_follow Kind.Atom rest = ends_atom rest
may_follow Kind.Line rest = ends_line rest
may_follow Kind.Block rest = true

-- a piece's text, which is cut again as it is; what it begins with
pub record IsWhole (kind : Kind) (text : List ℕ) : Type 0 where
  pub first : ℕ
  pub others : List ℕ
  pub is : text ≡ first ∷ others
  pub solid : is_space first ≡ false
  pub no_semicolon : is_line kind ≡ false → first == 59 ≡ false
  pub closing : is_closing kind ≡ true → first ≡ 41
  pub clean : ends_clean false text ≡ true
  pub spaced : is_block kind ≡ false → is_spaced 0 (text ++ 10 ∷ []) ≡ true
  pub last : last_newline false text ≡ false
  pub own : HasItsText kind text
  pub cut : (rest : List ℕ) → may_follow kind rest ≡ true → cut_of (text ++ rest) ≡ record { kind = kind; text = text; rest = rest }

-- ---- a text in two

pub front_taken : (text front rest : List ℕ) → text ≡ front ++ rest → before_rest text rest ≡ front
front_taken text front rest e =
    let k : length text - length rest ≡ length front = omega (arith, ap length e, length-append front rest) in
    (λ i. take (k i) (e i)) ∙ take_front front rest

cut_with : Lead → List ℕ → Cut
cut_with k text = record { kind = kind_by k text; text = text_by (kind_by k text) (before_rest text (after_by k text)); rest = after_by k text }

pub cut_shown : (k : Lead) (kind : Kind) (text front shown rest : List ℕ) → lead_of text ≡ k → kind_by k text ≡ kind → after_by k text ≡ rest
    → text ≡ front ++ rest → text_by kind front ≡ shown → cut_of text ≡ record { kind = kind; text = shown; rest = rest }
unfolding cut_with
cut_shown k kind text front shown rest e f g w t =
    let taken : before_rest text (after_by k text) ≡ front = ap (before_rest text) g ∙ front_taken text front rest w in
    let same : text_by (kind_by k text) (before_rest text (after_by k text)) ≡ shown = (λ i. text_by (f i) (taken i)) ∙ t in
    ap (λ l. cut_with l text) e ∙ (λ i. record { kind = f i; text = same i; rest = g i })

-- what stands as it is written
pub cut_as : (k : Lead) (kind : Kind) (text front rest : List ℕ) → lead_of text ≡ k → kind_by k text ≡ kind → after_by k text ≡ rest
    → text ≡ front ++ rest → text_by kind front ≡ front → cut_of text ≡ record { kind = kind; text = front; rest = rest }
cut_as k kind text front rest e f g w t = cut_shown k kind text front front rest e f g w t

-- ---- parentheses and `@`

pub opening_lead : (rest : List ℕ) → not (begins_semicolon rest) ≡ true → lead_of (40 ∷ rest) ≡ Lead.Opening
opening_lead rest e = grind (arith, nat_tests)

pub whole_opening : IsWhole Kind.Opening (40 ∷ [])
whole_opening = record {
  first = 40;
  others = [];
  is = refl;
  solid = refl;
  no_semicolon = λ e. refl;
  closing = λ e. absurd (cc);
  clean = refl;
  spaced = λ e. refl;
  last = refl;
  own = refl;
  cut = λ rest e. cut_as Lead.Opening Kind.Opening (40 ∷ rest) (40 ∷ []) rest (opening_lead rest e) refl refl refl refl;
}

pub whole_closing : IsWhole Kind.Closing (41 ∷ [])
whole_closing = record {
  first = 41;
  others = [];
  is = refl;
  solid = refl;
  no_semicolon = λ e. refl;
  closing = λ e. refl;
  clean = refl;
  spaced = λ e. refl;
  last = refl;
  own = refl;
  cut = λ rest e. cut_as Lead.Closing Kind.Closing (41 ∷ rest) (41 ∷ []) rest refl refl refl refl refl;
}

pub whole_at_sign : IsWhole Kind.AtSign (64 ∷ [])
whole_at_sign = record {
  first = 64;
  others = [];
  is = refl;
  solid = refl;
  no_semicolon = λ e. refl;
  closing = λ e. absurd (cc);
  clean = refl;
  spaced = λ e. refl;
  last = refl;
  own = tt;
  cut = λ rest e. cut_as Lead.AtSign Kind.AtSign (64 ∷ rest) (64 ∷ []) rest refl refl refl refl refl;
}

-- ---- runs

-- no byte, or one that ends the run
abbrev ends_run : (ℕ → Bool) → List ℕ → Bool
ends_run p [] = true
ends_run p (b ∷ bs) = not (p b)

stop_case : (t : Bool) (x y : List ℕ) → not t ≡ true → cond t x y ≡ y
stop_case true x y e = absurd (cc)
stop_case false x y e = refl

run_stops : (p : ℕ → Bool) (rest : List ℕ) → ends_run p rest ≡ true → after_run p rest ≡ rest
unfolding after_run
run_stops p [] e = refl
run_stops p (b ∷ bs) e = stop_case (p b) (after_run p bs) (b ∷ bs) e

again_case : (p : ℕ → Bool) (b : ℕ) (bs rest : List ℕ) (t : Bool) → p b ≡ t → after_run p (run_of p bs ++ rest) ≡ after_run p rest
    → after_run p (cond t (b ∷ run_of p bs) [] ++ rest) ≡ after_run p rest
again_case p b bs rest true e h = after_run-step p b (run_of p bs ++ rest) e ∙ h
again_case p b bs rest false e h = refl

run_again : (p : ℕ → Bool) (bs rest : List ℕ) → after_run p (run_of p bs ++ rest) ≡ after_run p rest
unfolding run_of
run_again p [] rest = refl
run_again p (b ∷ bs) rest = again_case p b bs rest (p b) refl (run_again p bs rest)

-- a run, and what ends it
pub run_ended : (p : ℕ → Bool) (bs rest : List ℕ) → ends_run p rest ≡ true → after_run p (run_of p bs ++ rest) ≡ rest
run_ended p bs rest e = run_again p bs rest ∙ run_stops p rest e

pub run_begun : (p : ℕ → Bool) (b : ℕ) (bs : List ℕ) → p b ≡ true → run_of p (b ∷ bs) ≡ b ∷ run_of p bs
unfolding run_of
run_begun p b bs e = ap (λ t. cond t (b ∷ run_of p bs) []) e

none_case : (t : Bool) (x : List ℕ) → not t ≡ true → cond t x [] ≡ []
none_case true x e = absurd (cc)
none_case false x e = refl

run_none : (p : ℕ → Bool) (rest : List ℕ) → ends_run p rest ≡ true → run_of p rest ≡ []
unfolding run_of
run_none p [] e = refl
run_none p (b ∷ bs) e = none_case (p b) (b ∷ run_of p bs) e

same_case : (p : ℕ → Bool) (b : ℕ) (bs rest : List ℕ) (t : Bool) → p b ≡ t → ends_run p rest ≡ true → run_of p (run_of p bs ++ rest) ≡ run_of p bs
    → run_of p (cond t (b ∷ run_of p bs) [] ++ rest) ≡ cond t (b ∷ run_of p bs) []
same_case p b bs rest true e h i = run_begun p b (run_of p bs ++ rest) e ∙ ap (λ r. b ∷ r) i
same_case p b bs rest false e h i = run_none p rest h

-- the run is the same before what ends it
pub run_same : (p : ℕ → Bool) (bs rest : List ℕ) → ends_run p rest ≡ true → run_of p (run_of p bs ++ rest) ≡ run_of p bs
unfolding run_of
run_same p [] rest e = run_none p rest e
run_same p (b ∷ bs) rest e = same_case p b bs rest (p b) refl e (run_same p bs rest e)

-- ---- symbols

pub symbol_ends : (rest : List ℕ) → ends_atom rest ≡ true → ends_run continues_symbol rest ≡ true
symbol_ends [] e = refl
symbol_ends (b ∷ bs) e = grind (arith, nat_tests)

symbol_solid : (b : ℕ) → continues_symbol b ≡ true → is_space b ≡ false
symbol_solid b e = grind (arith, nat_tests)

pub word_first : (b : ℕ) (bs : List ℕ) → lead_of (b ∷ bs) ≡ Lead.Word → continues_symbol b ≡ true
word_first b bs e = grind (arith, nat_tests)

pub word_lead : (b : ℕ) (bs others : List ℕ) → lead_of (b ∷ bs) ≡ Lead.Word → lead_of (b ∷ others) ≡ Lead.Word
word_lead b bs others e = grind (arith, nat_tests)

word_solid : (b : ℕ) (bs : List ℕ) → lead_of (b ∷ bs) ≡ Lead.Word → is_space b ≡ false
word_solid b bs e = grind (arith, nat_tests)

word_no_semicolon : (b : ℕ) (bs : List ℕ) → lead_of (b ∷ bs) ≡ Lead.Word → b == 59 ≡ false
word_no_semicolon b bs e = grind (arith, nat_tests)

pub whole_word : (b : ℕ) (bs : List ℕ) → lead_of (b ∷ bs) ≡ Lead.Word → IsWhole Kind.Atom (run_of continues_symbol (b ∷ bs))
whole_word b bs e =
    let begun = run_begun continues_symbol b bs (word_first b bs e) in
    record {
      first = b;
      others = run_of continues_symbol bs;
      is = begun;
      solid = word_solid b bs e;
      no_semicolon = λ h. word_no_semicolon b bs e;
      closing = λ h. absurd (cc);
      clean = run_clean continues_symbol (b ∷ bs) symbol_solid;
      spaced = λ h. run_spaced continues_symbol (b ∷ bs) (λ c e. solid_other c (symbol_solid c e));
      last = last_spaced (run_of continues_symbol (b ∷ bs)) (run_spaced continues_symbol (b ∷ bs) (λ c e. solid_other c (symbol_solid c e)));
      own = tt;
      cut = λ rest h. cut_as Lead.Word Kind.Atom (run_of continues_symbol (b ∷ bs) ++ rest) (run_of continues_symbol (b ∷ bs)) rest
          (ap (λ t. lead_of (t ++ rest)) begun ∙ word_lead b bs (run_of continues_symbol bs ++ rest) e) refl
          (run_ended continues_symbol (b ∷ bs) rest (symbol_ends rest h)) refl refl;
    }

-- ---- comments up to the line's end

line_ends : (rest : List ℕ) → ends_line rest ≡ true → ends_run in_line rest ≡ true
line_ends [] e = refl
line_ends (b ∷ bs) e = grind (arith, nat_tests)

line_first : (b : ℕ) (bs : List ℕ) → lead_of (b ∷ bs) ≡ Lead.Line → b ≡ 59
line_first b bs e = grind (arith, nat_tests)

trim_case : (p : ℕ → Bool) (b : ℕ) (t rest : List ℕ) (cut : Bool) → p b ≡ true → after_run p (t ++ rest) ≡ after_run p rest
    → after_run p (cond cut [] (b ∷ t) ++ rest) ≡ after_run p rest
trim_case p b t rest true e h = refl
trim_case p b t rest false e h = after_run-step p b (t ++ rest) e ∙ h

trimmed_case : (p : ℕ → Bool) (b : ℕ) (bs rest : List ℕ) (t : Bool) → p b ≡ t → after_run p (trimmed (run_of p bs) ++ rest) ≡ after_run p rest
    → after_run p (trimmed (cond t (b ∷ run_of p bs) []) ++ rest) ≡ after_run p rest
unfolding trimmed
trimmed_case p b bs rest true e h = trim_case p b (trimmed (run_of p bs)) rest (is_space b && is_nothing (trimmed (run_of p bs))) e h
trimmed_case p b bs rest false e h = refl

trimmed_again : (p : ℕ → Bool) (bs rest : List ℕ) → after_run p (trimmed (run_of p bs) ++ rest) ≡ after_run p rest
unfolding run_of trimmed
trimmed_again p [] rest = refl
trimmed_again p (b ∷ bs) rest = trimmed_case p b bs rest (p b) refl (trimmed_again p bs rest)

trimmed_begun : (bs : List ℕ) → trimmed (59 ∷ bs) ≡ 59 ∷ trimmed bs
unfolding trimmed
trimmed_begun bs = refl

-- such a comment ends where it ends before a newline
pub line_again : (bs rest : List ℕ) → ends_line rest ≡ true → after_run in_line (trimmed (run_of in_line (59 ∷ bs)) ++ rest) ≡ rest
line_again bs rest h = trimmed_again in_line (59 ∷ bs) rest ∙ run_stops in_line rest (line_ends rest h)

pub line_begun : (bs : List ℕ) → trimmed (run_of in_line (59 ∷ bs)) ≡ 59 ∷ trimmed (run_of in_line bs)
line_begun bs = ap trimmed (run_begun in_line 59 bs refl) ∙ trimmed_begun (run_of in_line bs)

pub whole_line : (bs : List ℕ) → IsWhole Kind.Line (trimmed (run_of in_line (59 ∷ bs)))
whole_line bs =
    let text = trimmed (run_of in_line (59 ∷ bs)) in
    let begun : text ≡ 59 ∷ trimmed (run_of in_line bs) = ap trimmed (run_begun in_line 59 bs refl) ∙ trimmed_begun (run_of in_line bs) in
    record {
      first = 59;
      others = trimmed (run_of in_line bs);
      is = begun;
      solid = refl;
      no_semicolon = λ h. absurd (cc);
      closing = λ h. absurd (cc);
      clean = (trimmed_clean (59 ∷ bs)).0;
      spaced = λ h. trimmed_spaced (59 ∷ bs);
      last = last_spaced text (trimmed_spaced (59 ∷ bs));
      own = tt;
      cut = λ rest h. cut_as Lead.Line Kind.Line (text ++ rest) text rest (ap (λ t. lead_of (t ++ rest)) begun) refl
          (trimmed_again in_line (59 ∷ bs) rest ∙ run_stops in_line rest (line_ends rest h)) refl (trimmed_twice (run_of in_line (59 ∷ bs)));
    }

-- ---- comments between `(;` and `;)`

-- the inside of a comment, which ends where it ends whatever follows
pub record InsideAgain (text rest : List ℕ) : Type 0 where
  pub first : ℕ
  pub tail : List ℕ
  pub whole : text ≡ first ∷ (tail ++ rest)
  pub again : (more : List ℕ) → Inside (first ∷ (tail ++ more)) more

pub inside_again : {text rest : List ℕ} → Inside text rest → InsideAgain text rest
inside_again (closes {b = b} {c = c} {rest = rest} e) = record { first = b; tail = c ∷ []; whole = refl; again = λ more. closes e }
inside_again (nested {b = b} {c = c} {rest = rest} e i o) =
    let one = inside_again i in
    let two = inside_again o in
    let tail = two.first ∷ two.tail in
    record {
      first = b;
      tail = c ∷ one.first ∷ (one.tail ++ tail);
      whole = ap (λ t. b ∷ c ∷ t) (one.whole ∙ ap (λ t. one.first ∷ (one.tail ++ t)) two.whole
          ∙ ap (λ t. one.first ∷ t) (sym (append_assoc one.tail tail rest)));
      again = λ more. nested e
          (subst (λ t. Inside (one.first ∷ t) (tail ++ more)) (sym (append_assoc one.tail tail more)) (one.again (tail ++ more)))
          (two.again more);
    }
inside_again (other {b = b} {c = c} {more = more} {rest = rest} e i) =
    let sub = inside_again i in
    let whole : c ∷ more ≡ sub.first ∷ (sub.tail ++ rest) = sub.whole in
    let same : c ≡ sub.first = cc in
    record {
      first = b;
      tail = sub.first ∷ sub.tail;
      whole = ap (λ t. b ∷ t) whole;
      again = λ behind. other (ap (mark_of b) (sym same) ∙ e) (sub.again behind);
    }

pub inside_any : {text : List ℕ} → Inside text [] → (more : List ℕ) → Inside (text ++ more) more
inside_any i more =
    let a = inside_again i in
    subst (λ t. Inside (t ++ more) more) (sym (a.whole ∙ ap (λ t. a.first ∷ t) (append-nil a.tail))) (a.again more)

-- a comment that is closed: what stands in it, and that it is closed there without the white space at its lines' ends
pub record ClosedBlock (bs rest : List ℕ) : Type 0 where
  pub inner : List ℕ
  pub whole : bs ≡ inner ++ rest
  pub clean : CleanInside (trimmed_lines inner) []

pub closed_block : {bs rest : List ℕ} → Inside bs rest → ClosedBlock bs rest
closed_block i =
    let a = inside_again i in
    record {
      inner = a.first ∷ a.tail;
      whole = a.whole;
      clean = inner_trimmed (subst (λ t. Inside (a.first ∷ t) []) (append-nil a.tail) (a.again []));
    }

pub whole_block : (inner : List ℕ) → CleanInside (trimmed_lines inner) [] → IsWhole Kind.Block (trimmed_lines (40 ∷ 59 ∷ inner))
unfolding trimmed_lines
whole_block inner k =
    let text = trimmed_lines inner in
    record {
      first = 40;
      others = 59 ∷ text;
      is = refl;
      solid = refl;
      no_semicolon = λ h. refl;
      closing = λ h. absurd (cc);
      clean = k.clean;
      spaced = λ h. absurd (cc);
      last = k.last false;
      own = tt;
      cut = λ more h.
          let found : after_comment 0 (text ++ more) ≡ Some more = inside_complete (inside_any k.inside more) in
          cut_as Lead.Comment Kind.Block (40 ∷ 59 ∷ (text ++ more)) (40 ∷ 59 ∷ text) more refl (ap kind_of_comment found)
          (ap (behind_comment (40 ∷ 59 ∷ (text ++ more))) found) refl (ap (λ t. 40 ∷ 59 ∷ t) (lines_twice inner));
    }

-- ---- integers

-- what follows an integer without its sign
after_unsigned : List ℕ → List ℕ
after_unsigned u = after_run (continues_digits (radix_of u)) (behind_prefix u)

-- the token of an integer without its sign
read_unsigned : Bool → List ℕ → Option Token
read_unsigned negative u = digits_token negative (radix_of u) (run_of (continues_digits (radix_of u)) (behind_prefix u))

-- an integer without its sign, which ends where it ends whatever ends an atom behind it
record UnsignedAgain (u : List ℕ) : Type 0 where
  pub text : List ℕ
  pub whole : u ≡ text ++ after_unsigned u
  pub clean : ends_clean false text ≡ true
  pub spaced : is_spaced 0 (text ++ 10 ∷ []) ≡ true
  pub same : (negative : Bool) (rest : List ℕ) → ends_atom rest ≡ true → read_unsigned negative (text ++ rest) ≡ read_unsigned negative u
  pub again : (rest : List ℕ) → ends_atom rest ≡ true → after_unsigned (text ++ rest) ≡ rest

digits_end : (radix : ℕ) (rest : List ℕ) → radix ≤ 36 → ends_atom rest ≡ true → ends_run (continues_digits radix) rest ≡ true
digits_end radix [] few e = refl
digits_end radix (b ∷ bs) few e = grind (arith, nat_tests)

ends_radix : (b : ℕ) (bs : List ℕ) → ends_symbol b ≡ true → radix_of (b ∷ bs) ≡ 10
ends_radix b [] e = refl
ends_radix b (c ∷ bs) e = grind (arith, nat_tests)

none_again : (rest : List ℕ) → ends_atom rest ≡ true → after_unsigned rest ≡ rest
unfolding after_unsigned
none_again [] e = run_stops (continues_digits 10) [] refl
none_again (b ∷ bs) e =
    let ten = ends_radix b bs e in
    (λ i. after_run (continues_digits (ten i)) (cond (ten i == 10) (b ∷ bs) (after_first bs)))
    ∙ run_stops (continues_digits 10) (b ∷ bs) (digits_end 10 (b ∷ bs) (omega arith) e)

none_read : (negative : Bool) (rest : List ℕ) → ends_atom rest ≡ true → read_unsigned negative rest ≡ digits_token negative 10 []
unfolding read_unsigned run_of
none_read negative [] e = refl
none_read negative (b ∷ bs) e =
    let ten = ends_radix b bs e in
    (λ i. digits_token negative (ten i) (run_of (continues_digits (ten i)) (cond (ten i == 10) (b ∷ bs) (after_first bs))))
    ∙ ap (digits_token negative 10) (run_none (continues_digits 10) (b ∷ bs) (digits_end 10 (b ∷ bs) (omega arith) e))

named_ten : (c : ℕ) → ends_symbol c ≡ true → radix_named c ≡ 10
named_ten c e = grind (arith, nat_tests)

one_radix : (b : ℕ) (rest : List ℕ) → ends_atom rest ≡ true → radix_of (b ∷ rest) ≡ 10
one_radix b [] e = refl
one_radix b (c ∷ bs) e = one_radix_case (b == 48) (radix_named c) (named_ten c e)
  where
    one_radix_case : (t : Bool) (n : ℕ) → n ≡ 10 → cond t n 10 ≡ 10
    one_radix_case true n h = h
    one_radix_case false n h = refl

-- an integer of radix 10 with this text
ten_again : (text rest : List ℕ) → radix_of (text ++ rest) ≡ 10 → after_run (continues_digits 10) (text ++ rest) ≡ rest
    → after_unsigned (text ++ rest) ≡ rest
unfolding after_unsigned
ten_again text rest e h =
    (λ i. after_run (continues_digits (e i)) (cond (e i == 10) (text ++ rest) (after_first (after_first (text ++ rest))))) ∙ h

ten_read : (negative : Bool) (text rest run : List ℕ) → radix_of (text ++ rest) ≡ 10 → run_of (continues_digits 10) (text ++ rest) ≡ run
    → read_unsigned negative (text ++ rest) ≡ digits_token negative 10 run
unfolding read_unsigned
ten_read negative text rest run e h =
    (λ i. digits_token negative (e i) (run_of (continues_digits (e i)) (cond (e i == 10) (text ++ rest) (after_first (after_first (text ++ rest))))))
    ∙ ap (digits_token negative 10) h

digits_read : (negative : Bool) (run u rest : List ℕ) → radix_of u ≡ 10 → u ≡ run ++ after_run (continues_digits 10) u
    → run ≡ run_of (continues_digits 10) u → ends_atom rest ≡ true → read_unsigned negative (run ++ rest) ≡ digits_token negative 10 run
digits_read negative [] u rest ten whole e h = none_read negative rest h
digits_read negative (b ∷ []) u rest ten whole e h =
    ten_read negative (b ∷ []) rest (b ∷ []) (one_radix b rest h)
    (ap (λ t. run_of (continues_digits 10) (t ++ rest)) e ∙ run_same (continues_digits 10) u rest (digits_end 10 rest (omega arith) h) ∙ sym e)
digits_read negative (b ∷ c ∷ bs) u rest ten whole e h =
    ten_read negative (b ∷ c ∷ bs) rest (b ∷ c ∷ bs) (ap radix_of (sym whole) ∙ ten)
    (ap (λ t. run_of (continues_digits 10) (t ++ rest)) e ∙ run_same (continues_digits 10) u rest (digits_end 10 rest (omega arith) h) ∙ sym e)

-- its digits are none, one, or more than one
digits_again : (run u rest : List ℕ) → radix_of u ≡ 10 → u ≡ run ++ after_run (continues_digits 10) u → run ≡ run_of (continues_digits 10) u
    → ends_atom rest ≡ true → after_unsigned (run ++ rest) ≡ rest
digits_again [] u rest ten whole e h = none_again rest h
digits_again (b ∷ []) u rest ten whole e h =
    ten_again (b ∷ []) rest (one_radix b rest h)
    (ap (λ t. after_run (continues_digits 10) (t ++ rest)) e ∙ run_ended (continues_digits 10) u rest (digits_end 10 rest (omega arith) h))
digits_again (b ∷ c ∷ bs) u rest ten whole e h =
    ten_again (b ∷ c ∷ bs) rest (ap radix_of (sym whole) ∙ ten)
    (ap (λ t. after_run (continues_digits 10) (t ++ rest)) e ∙ run_ended (continues_digits 10) u rest (digits_end 10 rest (omega arith) h))

few_radix : (u : List ℕ) → radix_of u ≤ 36
few_radix [] = omega arith
few_radix (b ∷ []) = omega arith
few_radix (b ∷ c ∷ bs) = grind (arith, nat_tests)

digit_solid : (radix b : ℕ) → radix ≤ 36 → continues_digits radix b ≡ true → is_space b ≡ false
digit_solid radix b few e = grind (arith, nat_tests)

named_solid : (c : ℕ) → radix_named c == 10 ≡ false → is_space c ≡ false
named_solid c e = grind (arith, nat_tests)

first_solid : (b c : ℕ) (bs : List ℕ) → radix_of (b ∷ c ∷ bs) == 10 ≡ false → is_space b ≡ false
first_solid b c bs e = grind (arith, nat_tests)

second_solid : (b c : ℕ) (bs : List ℕ) → radix_of (b ∷ c ∷ bs) == 10 ≡ false → is_space c ≡ false
second_solid b c bs e = grind (arith, nat_tests, named_solid)

prefix_again : (u : List ℕ) (t : Bool) → radix_of u == 10 ≡ t → UnsignedAgain u
unfolding after_unsigned read_unsigned
prefix_again u true e =
    let ten : radix_of u ≡ 10 = grind (arith, nat_tests) in
    let p = continues_digits 10 in
    let rest : after_unsigned u ≡ after_run p u = (λ i. after_run (continues_digits (ten i)) (cond (ten i == 10) u (after_first (after_first u)))) in
    record {
      text = run_of p u;
      clean = run_clean p u (λ b h. digit_solid 10 b (omega arith) h);
      spaced = run_spaced p u (λ b h. solid_other b (digit_solid 10 b (omega arith) h));
      whole = run_whole p u ∙ ap (λ r. run_of p u ++ r) (sym rest);
      same = λ negative more h. digits_read negative (run_of p u) u more ten (run_whole p u) refl h
          ∙ (λ i. digits_token negative (sym ten i) (run_of (continues_digits (sym ten i)) (cond (sym ten i == 10) u (after_first (after_first u)))));
      again = λ more h. digits_again (run_of p u) u more ten (run_whole p u) refl h;
    }
prefix_again [] false e = absurd (cc)
prefix_again (b ∷ []) false e = absurd (cc)
prefix_again (b ∷ c ∷ bs) false e =
    let radix = radix_of (b ∷ c ∷ bs) in
    let p = continues_digits radix in
    let behind = (λ (ds : List ℕ). ap (λ t. after_run p (cond t (b ∷ c ∷ ds) ds)) e) in
    record {
      text = b ∷ c ∷ run_of p bs;
      same = λ negative more h. ap (λ t. digits_token negative radix (run_of p (cond t (b ∷ c ∷ (run_of p bs ++ more)) (run_of p bs ++ more)))) e
          ∙ ap (digits_token negative radix) (run_same p bs more (digits_end radix more (few_radix (b ∷ c ∷ bs)) h))
          ∙ ap (λ t. digits_token negative radix (run_of p (cond t (b ∷ c ∷ bs) bs))) (sym e);
      spaced = spaced_step b (c ∷ run_of p bs) (solid_other b (first_solid b c bs e))
          (spaced_step c (run_of p bs) (solid_other c (second_solid b c bs e))
          (run_spaced p bs (λ d h. solid_other d (digit_solid radix d (few_radix (b ∷ c ∷ bs)) h))));
      clean = clean_step b (c ∷ run_of p bs) (first_solid b c bs e)
          (clean_step c (run_of p bs) (second_solid b c bs e) (run_clean p bs (λ d h. digit_solid radix d (few_radix (b ∷ c ∷ bs)) h)));
      whole = ap (λ r. b ∷ c ∷ r) (run_whole p bs) ∙ ap (λ r. b ∷ c ∷ (run_of p bs ++ r)) (sym (behind bs));
      again = λ more h. behind (run_of p bs ++ more) ∙ run_ended p bs more (digits_end radix more (few_radix (b ∷ c ∷ bs)) h);
    }

unsigned_again : (u : List ℕ) → UnsignedAgain u
unsigned_again u = prefix_again u (radix_of u == 10) refl

-- with its sign
pub record NumberAgain (text : List ℕ) : Type 0 where
  pub front : List ℕ
  pub whole : text ≡ front ++ after_integer text
  pub same : (rest : List ℕ) → ends_atom rest ≡ true → integer_of (front ++ rest) ≡ integer_of text
  pub lead : (rest : List ℕ) → lead_of (front ++ rest) ≡ Lead.Number
  pub after : (rest : List ℕ) → ends_atom rest ≡ true → after_integer (front ++ rest) ≡ rest
  pub is_whole : IsWhole Kind.Atom front

number_lead : (b : ℕ) (bs others : List ℕ) → lead_of (b ∷ bs) ≡ Lead.Number → lead_of (b ∷ others) ≡ Lead.Number
number_lead b bs others e = grind (arith, nat_tests)

number_solid : (b : ℕ) (bs : List ℕ) → lead_of (b ∷ bs) ≡ Lead.Number → is_space b ≡ false
number_solid b bs e = grind (arith, nat_tests)

number_no_semicolon : (b : ℕ) (bs : List ℕ) → lead_of (b ∷ bs) ≡ Lead.Number → b == 59 ≡ false
number_no_semicolon b bs e = grind (arith, nat_tests)

number_whole : (b : ℕ) (bs others : List ℕ) → lead_of (b ∷ bs) ≡ Lead.Number
    → ((rest : List ℕ) → ends_atom rest ≡ true → after_integer (b ∷ (others ++ rest)) ≡ rest)
    → ends_clean false (b ∷ others) ≡ true → is_spaced 0 (b ∷ (others ++ 10 ∷ [])) ≡ true → IsWhole Kind.Atom (b ∷ others)
number_whole b bs others e again clean spaced = record {
  first = b;
  others = others;
  is = refl;
  solid = number_solid b bs e;
  no_semicolon = λ h. number_no_semicolon b bs e;
  closing = λ h. absurd (cc);
  clean = clean;
  spaced = λ h. spaced;
  last = last_spaced (b ∷ others) spaced;
  own = tt;
  cut = λ rest h. cut_as Lead.Number Kind.Atom (b ∷ (others ++ rest)) (b ∷ others) rest
      (number_lead b bs (others ++ rest) e) refl (again rest h) refl refl;
}

sign_step : (b : ℕ) (bs : List ℕ) (t : Bool) → b == 45 ≡ t → after_integer (b ∷ bs) ≡ after_unsigned (cond t bs (b ∷ bs))
unfolding after_unsigned
sign_step b bs t e = ap (λ s. after_unsigned (cond s bs (b ∷ bs))) e

sign_read : (b : ℕ) (bs : List ℕ) (t : Bool) → b == 45 ≡ t → integer_of (b ∷ bs) ≡ read_unsigned t (cond t bs (b ∷ bs))
unfolding read_unsigned
sign_read b bs t e = ap (λ s. read_unsigned s (cond s bs (b ∷ bs))) e

begun_with : (b : ℕ) (bs text rest : List ℕ) → b ∷ bs ≡ text ++ rest → length rest ≤ length bs → (others : List ℕ) × (text ≡ b ∷ others)
begun_with b bs [] rest e h = absurd (omega (arith, ap length e))
begun_with b bs (x ∷ others) rest e h = (others, let k : x ∷ others ≡ b ∷ others = cc in k)

signed : (b : ℕ) (bs : List ℕ) (t : Bool) → b == 45 ≡ t → lead_of (b ∷ bs) ≡ Lead.Number → NumberAgain (b ∷ bs)
signed b bs true s e =
    let u = unsigned_again bs in
    record {
      front = b ∷ u.text;
      whole = ap (λ t. b ∷ t) u.whole ∙ ap (λ r. b ∷ (u.text ++ r)) (sym (sign_step b bs true s));
      same = λ rest h. sign_read b (u.text ++ rest) true s ∙ u.same true rest h ∙ sym (sign_read b bs true s);
      lead = λ rest. number_lead b bs (u.text ++ rest) e;
      after = λ rest h. sign_step b (u.text ++ rest) true s ∙ u.again rest h;
      is_whole = number_whole b bs u.text e (λ rest h. sign_step b (u.text ++ rest) true s ∙ u.again rest h)
          (clean_step b u.text (number_solid b bs e) u.clean)
          (spaced_step b u.text (solid_other b (number_solid b bs e)) u.spaced);
    }
signed b bs false s e =
    let u = unsigned_again (b ∷ bs) in
    let rest : after_integer (b ∷ bs) ≡ after_unsigned (b ∷ bs) = sign_step b bs false s in
    let short : length (after_unsigned (b ∷ bs)) ≤ length bs =
    omega (arith, ap length rest, ap length (ap (λ k. after_by k (b ∷ bs)) e), piece_shorter b bs) in
    let begun = begun_with b bs u.text (after_unsigned (b ∷ bs)) u.whole short in
    record {
      front = b ∷ begun.0;
      whole = u.whole ∙ (λ i. begun.1 i ++ sym rest i);
      same = λ more h. sign_read b (begun.0 ++ more) false s ∙ ap (λ t. read_unsigned false (t ++ more)) (sym begun.1)
          ∙ u.same false more h ∙ sym (sign_read b bs false s);
      lead = λ more. number_lead b bs (begun.0 ++ more) e;
      after = λ more h. sign_step b (begun.0 ++ more) false s ∙ ap (λ t. after_unsigned (t ++ more)) (sym begun.1) ∙ u.again more h;
      is_whole = number_whole b bs begun.0 e
          (λ more h. sign_step b (begun.0 ++ more) false s ∙ ap (λ t. after_unsigned (t ++ more)) (sym begun.1) ∙ u.again more h)
          (subst (λ t. ends_clean false t ≡ true) begun.1 u.clean)
          (subst (λ t. is_spaced 0 (t ++ 10 ∷ []) ≡ true) begun.1 u.spaced);
    }

pub number_again : (b : ℕ) (bs : List ℕ) → lead_of (b ∷ bs) ≡ Lead.Number → NumberAgain (b ∷ bs)
number_again b bs e = signed b bs (b == 45) refl e
