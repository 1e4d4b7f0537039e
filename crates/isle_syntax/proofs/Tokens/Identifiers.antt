-- Identifiers, character by character.
use Rattle.std.proofs.Common.{◌≡◌, ℕ, List, [], ◌∷◌, ◌++◌, Bool, true, refl, ap, sym, subst, ◌∙◌, lit<, rules}
use Rattle.std.specs.Prelude.{◌&&◌}
use Rattle.std.specs.List.{list_all}
use Rattle.std.specs.Str.{chars, IsUtf8}
use Rattle.std.specs.Char.{encode_utf8}
use Rattle.std.proofs.lemmas.Str.{chars_past_char, IsUtf8-append, IsUtf8-encode, encode_ascii}
use Rattle.isle_syntax.specs.Tokens.Names.{begins_ident, continues_ident, is_ident, is_ident_of, is_const_name}

-- the first character, and the others
pub ident_by_first : (text rest : List ℕ) (c : ℕ) (others : Bool) → IsUtf8 text → text ≡ encode_utf8 c ++ rest → begins_ident c ≡ true
    → others ≡ list_all continues_ident (chars rest) → others ≡ is_ident text
unfolding is_ident
ident_by_first text rest c others u e b f = f
    ∙ sym (ap is_ident_of (chars_past_char text rest c u e) ∙ ap (λ t. t && list_all continues_ident (chars rest)) b)

-- with a `$` before it
dollar_before : (text : List ℕ) (others : Bool) → IsUtf8 text → others ≡ list_all continues_ident (chars text) → others ≡ is_ident (36 ∷ text)
dollar_before text others u f =
    let one : encode_utf8 36 ≡ 36 ∷ [] = encode_ascii 36 (lit< tt) in
    let joined : encode_utf8 36 ++ text ≡ 36 ∷ text = ap (λ k. k ++ text) one in
    let dollar : IsUtf8 (encode_utf8 36) = IsUtf8-encode 36 (search rules) in
    ident_by_first (36 ∷ text) text 36 others (subst IsUtf8 joined (IsUtf8-append (encode_utf8 36) text dollar u)) (sym joined) refl f

pub const_name : (text : List ℕ) (others : Bool) → IsUtf8 text → ¬ (text ≡ []) → others ≡ list_all continues_ident (chars text)
    → others ≡ is_const_name text
unfolding is_const_name
const_name [] others u some f = absurd (some refl)
const_name (b ∷ bs) others u some f = dollar_before (b ∷ bs) others u f
