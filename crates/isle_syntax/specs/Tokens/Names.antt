-- The classes of symbols.
use Rattle.std.specs.Prelude.{ℕ, List, [], ◌∷◌, Bool, false, ◌&&◌, ◌||◌, ◌==◌, not, nat_le, codes}
use Rattle.std.specs.List.{list_all}
use Rattle.std.specs.Str.{chars, bytes_eq}
use Rattle.unicode.specs.Binary.{is_alphabetic}
use Rattle.unicode.specs.GeneralCategory.{general_category, general_category_number}

-- white space is the bytes 9, 10, 12, 13 and 32
abbrev pub is_space : ℕ → Bool
is_space b = b == 9 || b == 10 || b == 12 || b == 13 || b == 32

-- a byte that ends a symbol: white space, a parenthesis, `;` or `@`
abbrev pub ends_symbol : ℕ → Bool
ends_symbol b = is_space b || b == 40 || b == 41 || b == 59 || b == 64

-- an ASCII digit
abbrev pub is_digit : ℕ → Bool
is_digit b = nat_le 48 b && nat_le b 57

-- a byte that begins a symbol: one that doesn't end it, no `-` and no digit
abbrev pub begins_symbol : ℕ → Bool
begins_symbol b = not (ends_symbol b) && not (b == 45) && not (is_digit b)

-- a symbol
abbrev pub is_symbol : List ℕ → Bool
is_symbol [] = false
is_symbol (b ∷ bs) = begins_symbol b && list_all (λ c. not (ends_symbol c)) bs

-- a character that begins an identifier: an alphabetic one, `_` or `$`
abbrev pub begins_ident : ℕ → Bool
begins_ident c = c == 95 || c == 36 || is_alphabetic c

-- a number of Unicode: a decimal digit (category 8), a letter (9) or another number (10)
abbrev pub is_numeric : ℕ → Bool
is_numeric c = let n = general_category_number (general_category c) in n == 8 || n == 9 || n == 10

-- a character that goes on with an identifier: also a number, `.` or `-`
abbrev pub continues_ident : ℕ → Bool
continues_ident c = begins_ident c || c == 46 || c == 45 || is_numeric c

-- an identifier, of these characters
abbrev pub is_ident_of : List ℕ → Bool
is_ident_of [] = false
is_ident_of (c ∷ cs) = begins_ident c && list_all continues_ident cs

-- an identifier
unfoldable pub is_ident : List ℕ → Bool
is_ident s = is_ident_of (chars s)

-- a symbol that begins with `$`
abbrev pub begins_dollar : List ℕ → Bool
begins_dollar [] = false
begins_dollar (b ∷ bs) = b == 36

-- this word
abbrev pub is_word : List ℕ → List ℕ → Bool
is_word w s = bytes_eq s w

-- a name of a variable in an expression: an identifier that doesn't begin with `$` and isn't `true` or `false`
unfoldable pub is_name : List ℕ → Bool
is_name s = is_ident s && not (begins_dollar s) && not (is_word (codes "true") s) && not (is_word (codes "false") s)

-- a name of a variable in a pattern: one that isn't `_`
unfoldable pub is_pname : List ℕ → Bool
is_pname s = is_name s && not (is_word (codes "_") s)

-- what stands behind the `$` of a constant, which together are an identifier of at least two characters
unfoldable pub is_const_name : List ℕ → Bool
is_const_name [] = false
is_const_name (b ∷ bs) = is_ident (36 ∷ b ∷ bs)

-- a constant's symbol
unfoldable pub is_const : List ℕ → Bool
is_const [] = false
is_const (b ∷ bs) = b == 36 && is_const_name bs
