-- Which tokens an S-expression's text has.
use Rattle.std.specs.Prelude.{◌≡◌, ℕ, List, [], ◌∷◌, Bool, true, ◌==◌, ◌||◌}
use Rattle.isle_ast.specs.declared.pos.Pos.{Pos}
use Rattle.isle_syntax.specs.declared.lexer.Token.{Token}
use Rattle.isle_syntax.specs.Tokens.PlacedTokens.{Placed, placed_at}
use Rattle.isle_syntax.specs.Tokens.TokensOf.{IsToken}
use Rattle.isle_syntax.specs.Grammar.Phrases.{◌⊙◌, Opening, Closes, AtSign}
use Rattle.isle_layout.specs.SExprTree.{SExprTree, SExprTrees, sexpr_atom, sexpr_binding, sexpr_list, no_sexprs, more_sexprs}

-- the text is that of one token
abbrev pub IsAtom : List ℕ → Type 0
IsAtom text = (token : Token) × IsToken text token []

-- the token of a text, wherever it stands
abbrev pub SpellsAtom : List ℕ → List Placed → Type 0
SpellsAtom text ts = (place : Pos) × (token : Token) × IsToken text token [] × (ts ≡ placed_at place token ∷ [])

-- tokens of an S-expression, wherever they stand
abbrev mutual
  pub SpellsSExpr : SExprTree → List Placed → Type 0
  SpellsSExpr (sexpr_atom text) = SpellsAtom text
  SpellsSExpr (sexpr_binding name below) = SpellsAtom name ⊙ (AtSign tt ⊙ SpellsSExpr below)
  SpellsSExpr (sexpr_list items) = Opening tt ⊙ (SpellsSExprs items ⊙ Closes tt)

  pub SpellsSExprs : SExprTrees → List Placed → Type 0
  SpellsSExprs no_sexprs = λ ts. ts ≡ []
  SpellsSExprs (more_sexprs first others) = SpellsSExpr first ⊙ SpellsSExprs others

-- each atom and each name that is bound is the text of one token
abbrev mutual
  pub HasAtoms : SExprTree → Type 0
  HasAtoms (sexpr_atom text) = IsAtom text
  HasAtoms (sexpr_binding name below) = IsAtom name × HasAtoms below
  HasAtoms (sexpr_list items) = HaveAtoms items

  pub HaveAtoms : SExprTrees → Type 0
  HaveAtoms no_sexprs = Unit {0}
  HaveAtoms (more_sexprs first others) = HasAtoms first × HaveAtoms others

-- a text that ends the token before it: it is empty or begins with a newline, a space or `)`
abbrev pub ends_atom : List ℕ → Bool
ends_atom [] = true
ends_atom (byte ∷ rest) = byte == 10 || byte == 32 || byte == 41
