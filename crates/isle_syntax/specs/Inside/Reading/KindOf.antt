-- The kind of the next token.
use Rattle.std.specs.Prelude.{ℕ, List, [], ◌∷◌, cond, codes}
use Rattle.isle_syntax.specs.declared.kind.Kind.{Kind}
use Rattle.isle_syntax.specs.declared.kind.Kind.TheVariants.{End, Open, Close, At, Int, True, False, Const, Wildcard, Name, Other}
use Rattle.isle_syntax.specs.declared.kind.Keyword.{Keyword}
use Rattle.isle_syntax.specs.declared.kind.Keyword.TheVariants as keyword
use Rattle.isle_syntax.specs.Grammar.DefGrammar.{is_kept_word}
use Rattle.isle_syntax.specs.declared.kind.Literal.{Literal as LiteralValue}
use Rattle.isle_syntax.specs.declared.kind.Literal.TheVariants as literals
use Rattle.isle_syntax.specs.Tokens.PlacedTokens.{Literal, small, large, Placed, opening, closing, at_sign, symbol, int}
use Rattle.isle_syntax.specs.Tokens.Names.{is_name, is_const, is_word}

-- the first of these that a symbol is
unfoldable pub symbol_kind : List ℕ → Kind
symbol_kind s =
    cond (is_word (codes "true") s) True
    (cond (is_word (codes "false") s) False
    (cond (is_const s) Const
    (cond (is_word (codes "_") s) Wildcard
    (cond (is_name s) Name
    Other))))

abbrev pub kind_of : Placed → Kind
kind_of (opening p) = Open
kind_of (closing p) = Close
kind_of (at_sign p) = At
kind_of (symbol p s) = symbol_kind s
kind_of (int p n) = Int

abbrev pub kind_at : List Placed → Kind
kind_at [] = End
kind_at (t ∷ ts) = kind_of t

-- the word of the language that a symbol is
unfoldable pub keyword_of : List ℕ → Keyword
keyword_of s =
    cond (is_kept_word s) keyword.Kept
    (cond (is_word (codes "type") s) keyword.Type
    (cond (is_word (codes "decl") s) keyword.Decl
    (cond (is_word (codes "rule") s) keyword.Rule
    (cond (is_word (codes "extractor") s) keyword.Extractor
    (cond (is_word (codes "extern") s) keyword.Extern
    (cond (is_word (codes "convert") s) keyword.Convert
    (cond (is_word (codes "nodebug") s) keyword.NoDebug
    (cond (is_word (codes "primitive") s) keyword.Primitive
    (cond (is_word (codes "enum") s) keyword.Enum
    (cond (is_word (codes "struct") s) keyword.Struct
    (cond (is_word (codes "constructor") s) keyword.Constructor
    (cond (is_word (codes "const") s) keyword.Const
    keyword.NoKeyword))))))))))))

abbrev pub keyword_in : Placed → Keyword
keyword_in (opening p) = keyword.NoKeyword
keyword_in (closing p) = keyword.NoKeyword
keyword_in (at_sign p) = keyword.NoKeyword
keyword_in (symbol p s) = keyword_of s
keyword_in (int p n) = keyword.NoKeyword

abbrev pub keyword_at : List Placed → Keyword
keyword_at [] = keyword.NoKeyword
keyword_at (t ∷ ts) = keyword_in t

-- an integer of the program
abbrev pub literal_of : LiteralValue → Literal
literal_of (literals.Int z) = small z
literal_of (literals.Big n) = large n
