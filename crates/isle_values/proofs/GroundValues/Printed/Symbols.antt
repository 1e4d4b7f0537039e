-- Identifiers are symbols, and a symbol is one token before what ends it.
use Rattle.std.proofs.Common.{◌≡◌, ℕ, zero, suc, ◌<◌, ◌≤◌, List, [], ◌∷◌, ◌++◌, length, get_or, Bool, true, false, inl, inr, refl, sym, ap, subst, ◌∙◌}
use Rattle.std.proofs.Common.{length-append, arith}
use Rattle.std.specs.Prelude.{◌&&◌, ◌||◌, not}
use Rattle.std.specs.List.{list_all}
use Rattle.std.specs.Char.{encode_utf8}
use Rattle.std.specs.Str.{IsUtf8, NonePass, NoCharPasses, encode_utf8_all}
use Rattle.std.proofs.lemmas.Bool.{and_from, cases_lt}
use Rattle.std.proofs.lemmas.Bool.Decides.{nat_tests}
use Rattle.std.proofs.lemmas.Str.{encode_ascii, chars_from_encodes, inside_one, length-encode, len_utf8_bounds, NoCharPasses-byte}
use Rattle.unicode.proofs.CategoryComputing.{ucd_category}
use Rattle.unicode.proofs.DerivedComputing.{ucd_derived}
use Rattle.isle_syntax.specs.declared.gap.Lead.{Lead}
use Rattle.isle_syntax.specs.declared.lexer.Token.TheVariants.{Symbol}
use Rattle.isle_syntax.specs.Tokens.Gaps.{lead_of, run_of}
use Rattle.isle_syntax.specs.Tokens.Names.{begins_symbol, is_symbol, begins_ident, continues_ident, is_ident_of, is_ident, is_const_name}
use Rattle.isle_syntax.specs.Tokens.TokensOf.{continues_symbol, IsToken, word}
use Rattle.isle_syntax.proofs.Reading.SymbolKinds.{and_first, and_second}
use Rattle.isle_values.proofs.GroundValues.Printed.Ends.{Ends, stops, run_front, after_front}

-- ---- the bytes of ASCII

-- a test holds of all numbers below one
abbrev all_below : (ℕ → Bool) → ℕ → Bool
all_below test zero = true
all_below test (suc n) = test n && all_below test n

below_at : (test : ℕ → Bool) (n c : ℕ) → all_below test n ≡ true → c < n → test c ≡ true
below_at test zero c e h = absurd (omega arith)
below_at test (suc n) c e h = elim (cases_lt c n) [
  | inl l ↦ below_at test n c (and_second (test n) (all_below test n) e) l
  | inr l ↦ let same : n ≡ c = omega arith in subst (λ k. test k ≡ true) same (and_first (test n) (all_below test n) e)
]

implied : (x y : Bool) → (not x || y) ≡ true → x ≡ true → y ≡ true
implied true y h e = h
implied false y h e = absurd (cc)

begins_table : all_below (λ b. not (begins_ident b) || begins_symbol b) 128 ≡ true
unfolding ucd_derived
begins_table = refl

continues_table : all_below (λ b. not (continues_ident b) || continues_symbol b) 128 ≡ true
unfolding ucd_derived ucd_category
continues_table = refl

begins_past_ascii : (b : ℕ) → 128 ≤ b → begins_symbol b ≡ true
begins_past_ascii b h = grind (arith, nat_tests)

continues_past_ascii : (b : ℕ) → 128 ≤ b → continues_symbol b ≡ true
continues_past_ascii b h = grind (arith, nat_tests)

first_begins : (b : ℕ) → (b < 128 → begins_ident b ≡ true) → begins_symbol b ≡ true
first_begins b h = elim (cases_lt b 128) [
  | inl l ↦ implied (begins_ident b) (begins_symbol b) (below_at (λ k. not (begins_ident k) || begins_symbol k) 128 b begins_table l) (h l)
  | inr l ↦ begins_past_ascii b l
]

other_continues : (b : ℕ) → (b < 128 → continues_ident b ≡ true) → continues_symbol b ≡ true
other_continues b h = elim (cases_lt b 128) [
  | inl l ↦ implied (continues_ident b) (continues_symbol b) (below_at (λ k. not (continues_ident k) || continues_symbol k) 128 b continues_table l)
      (h l)
  | inr l ↦ continues_past_ascii b l
]

-- ---- the bytes of a text

begins_continues : (c : ℕ) → begins_ident c ≡ true → continues_ident c ≡ true
begins_continues c e = rw e refl

none_passes : (cs : List ℕ) → list_all continues_ident cs ≡ true → NonePass (λ c. not (continues_ident c)) cs
none_passes [] e = tt
none_passes (c ∷ cs) e = (
  ap not (and_first (continues_ident c) (list_all continues_ident cs) e),
  none_passes cs (and_second (continues_ident c) (list_all continues_ident cs) e),
)

each_at : (p : ℕ → Bool) (bs : List ℕ) → ((i : ℕ) → i < length bs → p (get_or bs i 0) ≡ true) → list_all p bs ≡ true
each_at p [] h = refl
each_at p (b ∷ bs) h = and_from (p b) (list_all p bs) (h 0 (omega arith)) (each_at p bs (λ i l. h (suc i) (omega arith)))

unnot : (t : Bool) → not t ≡ false → t ≡ true
unnot true e = refl
unnot false e = absurd (cc)

symbol_by_chars : (cs s : List ℕ) → encode_utf8_all cs ≡ s → is_ident_of cs ≡ true → is_symbol s ≡ true
symbol_by_chars [] s same e = absurd (cc)
symbol_by_chars (c ∷ cs) [] same e =
    absurd (omega (arith, ap length same, length-append (encode_utf8 c) (encode_utf8_all cs), length-encode c, (len_utf8_bounds c).0))
symbol_by_chars (c ∷ cs) (b ∷ bs) same e =
    let begins : begins_ident c ≡ true = and_first (begins_ident c) (list_all continues_ident cs) e in
    let others : list_all continues_ident cs ≡ true = and_second (begins_ident c) (list_all continues_ident cs) e in
    let passes : NoCharPasses (λ k. not (continues_ident k)) (b ∷ bs) =
    (c ∷ cs, same, none_passes (c ∷ cs) (and_from (continues_ident c) (list_all continues_ident cs) (begins_continues c begins) others)) in
    let all : list_all continues_symbol (b ∷ bs) ≡ true = each_at continues_symbol (b ∷ bs) (λ i l. other_continues (get_or (b ∷ bs) i 0)
    (λ low. unnot _ (NoCharPasses-byte (λ k. not (continues_ident k)) (b ∷ bs) i passes l low))) in
    let some : 0 < length (encode_utf8 c) = omega (arith, length-encode c, (len_utf8_bounds c).0) in
    let first : begins_symbol b ≡ true =
    first_begins b (λ low. subst (λ k. begins_ident k ≡ true) (inside_one c (encode_utf8_all cs) (b ∷ bs) 0 (sym same) some low) begins) in
    and_from (begins_symbol b) (list_all continues_symbol bs) first (and_second (continues_symbol b) (list_all continues_symbol bs) all)

-- an identifier is a symbol
pub ident_is_symbol : (s : List ℕ) → IsUtf8 s → is_ident s ≡ true → is_symbol s ≡ true
unfolding is_ident
ident_is_symbol s u e = symbol_by_chars u.0 s u.1.1 (ap is_ident_of (chars_from_encodes u.0 s u u.1.1) ∙ e)

const_is_ident : (s : List ℕ) → is_const_name s ≡ true → is_ident (36 ∷ s) ≡ true
unfolding is_const_name
const_is_ident [] e = absurd (cc)
const_is_ident (b ∷ bs) e = e

-- `$` before a text
behind_dollar : (s : List ℕ) → IsUtf8 s → IsUtf8 (36 ∷ s)
behind_dollar s u = (36 ∷ u.0, (u.1.0, ap (λ l. l ++ encode_utf8_all u.0) (encode_ascii 36 (omega arith)) ∙ ap (λ l. 36 ∷ l) u.1.1))

-- a constant, with the `$` before its name
pub constant_is_symbol : (s : List ℕ) → IsUtf8 s → is_const_name s ≡ true → is_symbol (36 ∷ s) ≡ true
constant_is_symbol s u e = ident_is_symbol (36 ∷ s) (behind_dollar s u) (const_is_ident s e)

-- ---- tokens

begins_word : (b : ℕ) (bs : List ℕ) → begins_symbol b ≡ true → lead_of (b ∷ bs) ≡ Lead.Word
begins_word b bs e = grind (arith, nat_tests)

symbol_continues : (b : ℕ) → begins_symbol b ≡ true → continues_symbol b ≡ true
symbol_continues b e = grind (arith, nat_tests)

-- a symbol is one token before what ends it
pub symbol_before : (s rest : List ℕ) → is_symbol s ≡ true → Ends rest → IsToken (s ++ rest) (Symbol s) rest
symbol_before [] rest e ends = absurd (cc)
symbol_before (b ∷ bs) rest e ends =
    let first = and_first (begins_symbol b) (list_all continues_symbol bs) e in
    let all : list_all continues_symbol (b ∷ bs) ≡ true =
    rw (symbol_continues b first) (and_second (begins_symbol b) (list_all continues_symbol bs) e) in
    let stop = stops continues_symbol rest refl refl ends in
    subst (λ s. IsToken ((b ∷ bs) ++ rest) (Symbol s) rest) (run_front continues_symbol (b ∷ bs) rest all stop)
    (subst (IsToken ((b ∷ bs) ++ rest) (Symbol (run_of continues_symbol ((b ∷ bs) ++ rest)))) (after_front continues_symbol (b ∷ bs) rest all stop)
    (word (begins_word b (bs ++ rest) first)))
