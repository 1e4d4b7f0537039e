-- Tokens in their places.
use Rattle.std.specs.Prelude.{ℕ, ℤ, List}
use Rattle.isle_ast.specs.declared.pos.Pos.{Pos}
use Rattle.isle_syntax.specs.declared.lexer.Token.{Token}
use Rattle.isle_syntax.specs.declared.lexer.Token.TheVariants.{LParen, RParen, Symbol, Int, Big, At}

-- an integer: one from -2^127 to 2^127 - 1, or one from there to 2^128 - 1
pub data Literal : Type 0 where
  small : ℤ → Literal
  large : ℕ → Literal

-- a token, with where its first byte stands
pub data Placed : Type 0 where
  opening : Pos → Placed
  closing : Pos → Placed
  at_sign : Pos → Placed
  symbol : Pos → List ℕ → Placed
  int : Pos → Literal → Placed

-- where a token stands
abbrev pub pos_of : Placed → Pos
pos_of (opening p) = p
pos_of (closing p) = p
pos_of (at_sign p) = p
pos_of (symbol p s) = p
pos_of (int p n) = p

-- a token of the program, with its position
abbrev pub placed_at : Pos → Token → Placed
placed_at p LParen = opening p
placed_at p RParen = closing p
placed_at p At = at_sign p
placed_at p (Symbol s) = symbol p s
placed_at p (Int n) = int p (small n)
placed_at p (Big n) = int p (large n)

-- a token of the program and its position, as `next` gives them
abbrev pub placed : Pos × Token → Placed
placed t = placed_at t.0 t.1

-- a token is an integer
abbrev pub IsInt : Token → Type 0
IsInt LParen = ⊥
IsInt RParen = ⊥
IsInt (Symbol s) = ⊥
IsInt (Int n) = Unit {0}
IsInt (Big n) = Unit {0}
IsInt At = ⊥

-- a token is a symbol
abbrev pub IsSymbol : Token → Type 0
IsSymbol LParen = ⊥
IsSymbol RParen = ⊥
IsSymbol (Symbol s) = Unit {0}
IsSymbol (Int n) = ⊥
IsSymbol (Big n) = ⊥
IsSymbol At = ⊥
