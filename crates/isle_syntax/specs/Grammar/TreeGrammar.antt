-- The grammar: which tokens spell a tree.
use Rattle.std.specs.Prelude.{◌≡◌, ℕ, ℤ, List, [], ◌∷◌, Bool, true, false, ◌&&◌, not, codes}
use Rattle.std.specs.Int.{w128, cast_signed}
use Rattle.isle_ast.specs.declared.pos.Pos.{Pos}
use Rattle.isle_ast.specs.declared.ast.Ident.{Ident}
use Rattle.isle_syntax.specs.Tokens.PlacedTokens.{Literal, small, large, Placed, at_sign, symbol, int}
use Rattle.isle_syntax.specs.Tokens.Names.{is_ident, is_name, is_pname, is_const_name, is_word}
use Rattle.isle_syntax.specs.Grammar.Phrases.{◌⊙◌, Opens, Closes, Opening, AtSign, Word, Says, SymbolOf}
use Rattle.isle_ast.specs.Trees.PatternTree.{PatternTree, PatternTrees, pattern_var, pattern_bind, pattern_bool, pattern_int, pattern_prim}
use Rattle.isle_ast.specs.Trees.PatternTree.{pattern_term, pattern_wildcard, pattern_and, pattern_macro_arg, no_patterns, more_patterns}
use Rattle.isle_ast.specs.Trees.ExprTree.{ExprTree, ExprTrees, LetTrees, expr_term, expr_var, expr_bool, expr_int, expr_prim, expr_let, no_exprs}
use Rattle.isle_ast.specs.Trees.ExprTree.{more_exprs, no_lets, more_lets}
use Rattle.isle_ast.specs.Trees.ItemTree.{ItemTree, ItemTrees, item_int, item_big, item_symbol, item_at, item_list, no_items, more_items}

-- a constant: `$` and its name
abbrev pub Constant : Ident → List Placed → Type 0
Constant x ts = (ts ≡ symbol x.1 (36 ∷ x.0) ∷ []) × (is_const_name x.0 ≡ true)

-- the 128 bits of an integer, and whether it is 2^127 or more
abbrev pub bits_of : Literal → ℤ
bits_of (small z) = z
bits_of (large n) = cast_signed w128 n

abbrev pub is_large : Literal → Bool
is_large (small z) = false
is_large (large n) = true

abbrev pub SpellsInteger : ℤ → Bool → Pos → List Placed → Type 0
SpellsInteger val big p ts = (n : Literal) × (ts ≡ int p n ∷ []) × (val ≡ bits_of n) × (big ≡ is_large n)

-- `true` and `false`
abbrev pub truth_word : Bool → List ℕ
truth_word true = codes "true"
truth_word false = codes "false"

-- in a pattern `(and` is never a term; in an expression `(let` never
abbrev pub is_pattern_term : List ℕ → Bool
is_pattern_term s = is_ident s && not (is_word (codes "and") s)

abbrev pub is_expr_term : List ℕ → Bool
is_expr_term s = is_ident s && not (is_word (codes "let") s)

abbrev mutual
  pub SpellsPattern : PatternTree → List Placed → Type 0
  SpellsPattern (pattern_var x p) = λ ts. SymbolOf is_pname x ts × (p ≡ x.1)
  SpellsPattern (pattern_bind x sub p) = λ ts. (SymbolOf is_pname x ⊙ (AtSign tt ⊙ SpellsPattern sub)) ts × (p ≡ x.1)
  SpellsPattern (pattern_bool b p) = Word (truth_word b) p
  SpellsPattern (pattern_int val big p) = SpellsInteger val big p
  SpellsPattern (pattern_prim x p) = λ ts. Constant x ts × (p ≡ x.1)
  SpellsPattern (pattern_term x args p) = Opens p ⊙ (SymbolOf is_pattern_term x ⊙ (SpellsPatterns args ⊙ Closes tt))
  SpellsPattern (pattern_wildcard p) = Word (codes "_") p
  SpellsPattern (pattern_and args p) = Opens p ⊙ (Says (codes "and") tt ⊙ (SpellsPatterns args ⊙ Closes tt))
  SpellsPattern (pattern_macro_arg i p) = λ ts. ⊥

  pub SpellsPatterns : PatternTrees → List Placed → Type 0
  SpellsPatterns no_patterns = λ ts. ts ≡ []
  SpellsPatterns (more_patterns p rest) = SpellsPattern p ⊙ SpellsPatterns rest

-- a term or an `and`
abbrev pub IsList : PatternTree → Type 0
IsList (pattern_term _ _ _) = Unit {0}
IsList (pattern_and _ _) = Unit {0}
IsList _ = ⊥

-- such a pattern
abbrev pub ListPattern : PatternTree → List Placed → Type 0
ListPattern t ts = SpellsPattern t ts × IsList t

abbrev mutual
  pub SpellsExpr : ExprTree → List Placed → Type 0
  SpellsExpr (expr_term x args p) = Opens p ⊙ (SymbolOf is_expr_term x ⊙ (SpellsExprs args ⊙ Closes tt))
  SpellsExpr (expr_var x p) = λ ts. SymbolOf is_name x ts × (p ≡ x.1)
  SpellsExpr (expr_bool b p) = Word (truth_word b) p
  SpellsExpr (expr_int val big p) = SpellsInteger val big p
  SpellsExpr (expr_prim x p) = λ ts. Constant x ts × (p ≡ x.1)
  SpellsExpr (expr_let defs body p) =
      Opens p ⊙ (Says (codes "let") tt ⊙ (Opening tt ⊙ (SpellsLets defs ⊙ (Closes tt ⊙ (SpellsExpr body ⊙ Closes tt)))))

  pub SpellsExprs : ExprTrees → List Placed → Type 0
  SpellsExprs no_exprs = λ ts. ts ≡ []
  SpellsExprs (more_exprs e rest) = SpellsExpr e ⊙ SpellsExprs rest

  pub SpellsLets : LetTrees → List Placed → Type 0
  SpellsLets no_lets = λ ts. ts ≡ []
  SpellsLets (more_lets var ty val p rest) =
      (Opens p ⊙ (SymbolOf is_ident var ⊙ (SymbolOf is_ident ty ⊙ (SpellsExpr val ⊙ Closes tt)))) ⊙ SpellsLets rest

abbrev mutual
  pub SpellsItem : ItemTree → List Placed → Type 0
  SpellsItem (item_int z p) = λ ts. ts ≡ int p (small z) ∷ []
  SpellsItem (item_big n p) = λ ts. ts ≡ int p (large n) ∷ []
  SpellsItem (item_symbol x) = λ ts. ts ≡ symbol x.1 x.0 ∷ []
  SpellsItem (item_at p) = λ ts. ts ≡ at_sign p ∷ []
  SpellsItem (item_list items p) = Opens p ⊙ (SpellsItems items ⊙ Closes tt)

  pub SpellsItems : ItemTrees → List Placed → Type 0
  SpellsItems no_items = λ ts. ts ≡ []
  SpellsItems (more_items i rest) = SpellsItem i ⊙ SpellsItems rest
