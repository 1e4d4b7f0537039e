-- The tokens of an atom, read from its text.
use Rattle.std.proofs.Common.{◌≡◌, ℕ, ◌^◌, ◌<◌, ◌≤◌, List, [], ◌∷◌, Bool, true, refl, ap, ◌∙◌}
use Rattle.std.specs.Prelude.{ℤ, pos, ◌||◌, not, int_lt, FitsSigned, codes}
use Rattle.std.specs.Int.{w128}
use Rattle.std.specs.Fmt.{decimal, signed_decimal}
use Rattle.isle_ast.specs.declared.pos.Pos.{Pos}
use Rattle.isle_syntax.specs.declared.lexer.Token.{Token}
use Rattle.isle_syntax.specs.Tokens.Names.{begins_symbol, is_symbol, is_ident, is_name, is_pname, is_const_name}
use Rattle.isle_syntax.specs.Tokens.PlacedTokens.{Literal, small, large, Placed, placed_at, at_sign, symbol, int}
use Rattle.isle_syntax.specs.Tokens.TokensOf.{IsToken}
use Rattle.isle_syntax.specs.Grammar.TreeGrammar.{SpellsInteger}
use Rattle.isle_syntax.proofs.Reading.SymbolKinds.{pname_is_name}
use Rattle.isle_layout.specs.Inside.SExprTokens.{SpellsAtom}
use Rattle.isle_layout.specs.Spellings.{integer_text}
use Rattle.isle_layout.proofs.Atoms.AtomTexts.{one_token, symbol_token, whole_symbol, at_sign_token}
use Rattle.isle_layout.proofs.Atoms.IdentifierTexts.{ident_begins, no_ident, name_is_ident, const_is_ident}
use Rattle.isle_layout.proofs.Atoms.IntegerTexts.{signed_token, large_token, integer_text_token, literal_of, literal_token, literal_bits}
use Rattle.isle_layout.proofs.Atoms.IntegerTexts.{literal_large}

-- a text that is this token
pub atom_reading : (text : List ℕ) (t : Token) (ts : List Placed) → IsToken text t [] → SpellsAtom text ts → (p : Pos) × (ts ≡ placed_at p t ∷ [])
atom_reading text t ts i a = (a.0, a.3 ∙ ap (λ u. placed_at a.0 u ∷ []) (one_token a.2 i).0)

-- a symbol
pub symbol_reading : (s : List ℕ) (ts : List Placed) → is_symbol s ≡ true → SpellsAtom s ts → (p : Pos) × (ts ≡ symbol p s ∷ [])
symbol_reading s ts e a = atom_reading s _ ts (symbol_token s e) a

-- the sign `@`
pub at_sign_reading : (ts : List Placed) → SpellsAtom (codes "@") ts → (p : Pos) × (ts ≡ at_sign p ∷ [])
at_sign_reading ts a = atom_reading (codes "@") _ ts at_sign_token a

-- an integer of i128
pub signed_reading : (z : ℤ) (ts : List Placed) → FitsSigned w128 z → SpellsAtom (signed_decimal z) ts → (p : Pos) × (ts ≡ int p (small z) ∷ [])
signed_reading z ts f a = atom_reading (signed_decimal z) _ ts (signed_token z f) a

-- one from 2^127 to 2^128 - 1
pub large_reading : (n : ℕ) (ts : List Placed) → 2 ^ 127 ≤ n → n < 2 ^ 128 → SpellsAtom (decimal n) ts → (p : Pos) × (ts ≡ int p (large n) ∷ [])
large_reading n ts l h a = atom_reading (decimal n) _ ts (large_token n l h) a

literal_placed : (p : Pos) (n : Literal) → placed_at p (literal_token n) ≡ int p n
literal_placed p (small z) = refl
literal_placed p (large n) = refl

-- an integer of a tree, a `big` one of which is negative as 128 bits
pub integer_reading : (val : ℤ) (big : Bool) (ts : List Placed) → FitsSigned w128 val → (not big || int_lt val (pos 0)) ≡ true
    → SpellsAtom (integer_text val big) ts → (p : Pos) × SpellsInteger val big p ts
integer_reading val big ts f e a =
    let n = literal_of val big in
    let r = atom_reading (integer_text val big) (literal_token n) ts (integer_text_token val big f e) a in
    (r.0, (n, r.1 ∙ ap (λ t. t ∷ []) (literal_placed r.0 n), literal_bits val big f, literal_large val big))
