-- Reading patterns, expressions and the items of kept lists.
use Rattle.std.specs.Prelude.{ℕ, zero, suc, List, [], ◌∷◌, Bool, true, false, ◌||◌, Option, Some, None, cond, codes}
use Rattle.isle_syntax.specs.declared.kind.Kind.{Kind}
use Rattle.isle_syntax.specs.declared.kind.Kind.TheVariants.{True, False, Const, Wildcard, Name}
use Rattle.isle_ast.specs.declared.pos.Pos.{Pos}
use Rattle.isle_ast.specs.declared.ast.Ident.{Ident}
use Rattle.isle_syntax.specs.Tokens.PlacedTokens.{Placed, opening, closing, at_sign, symbol, int, Literal, small, large}
use Rattle.isle_syntax.specs.Tokens.Names.{is_ident, is_word}
use Rattle.isle_syntax.specs.Inside.Reading.KindOf.{symbol_kind}
use Rattle.isle_syntax.specs.Grammar.TreeGrammar.{bits_of, is_large}
use Rattle.isle_syntax.specs.Grammar.Phrases.{next_symbol_is}
use Rattle.isle_syntax.specs.Inside.Reading.Readers.{Read, done, fault, Reader, read_map, seq, rest_of, opened, shut, closed, symbol_of, says}
pub use Rattle.isle_ast.specs.Trees.PatternTree.{pattern_list as pattern_trees}
pub use Rattle.isle_ast.specs.Trees.ExprTree.{expr_list as expr_trees}
pub use Rattle.isle_ast.specs.Trees.ItemTree.{item_list_of as item_trees}
use Rattle.isle_ast.specs.Trees.PatternTree.{PatternTree, pattern_var, pattern_bind, pattern_bool, pattern_int, pattern_prim, pattern_term}
use Rattle.isle_ast.specs.Trees.PatternTree.{pattern_wildcard, pattern_and}
use Rattle.isle_ast.specs.Trees.ExprTree.{ExprTree, LetTrees, expr_term, expr_var, expr_bool, expr_int, expr_prim, expr_let, no_lets, more_lets}
use Rattle.isle_ast.specs.Trees.ItemTree.{ItemTree, item_int, item_big, item_symbol, item_at, item_list}

abbrev pub ident : Pos → List ℕ → Ident
ident p s = record { 0 = s; 1 = p }

-- what stands behind the `$` of a constant
abbrev pub after_dollar : List ℕ → List ℕ
after_dollar [] = []
after_dollar (b ∷ bs) = bs

-- ---- items

abbrev pub literal_item : Pos → Literal → ItemTree
literal_item p (small z) = item_int z p
literal_item p (large n) = item_big n p

abbrev pub item_with : Reader ItemTree → Reader ItemTree
item_with list [] = fault []
item_with list (opening p ∷ ts) = list (opening p ∷ ts)
item_with list (closing p ∷ ts) = fault (closing p ∷ ts)
item_with list (at_sign p ∷ ts) = done (item_at p) ts
item_with list (symbol p s ∷ ts) = done (item_symbol (ident p s)) ts
item_with list (int p n ∷ ts) = done (literal_item p n) ts

unfoldable pub item_list_reader : ℕ → Reader ItemTree
item_list_reader zero = shut
item_list_reader (suc d) = λ ts. read_map (λ x. item_list (item_trees x.1) x.0) (seq opened (rest_of (item_with (item_list_reader d))) ts)

-- an item, where so many more parentheses may be open
abbrev pub item : ℕ → Reader ItemTree
item d = item_with (item_list_reader d)

-- ---- patterns

-- what a list of patterns may begin with
abbrev pub is_head : List ℕ → Bool
is_head s = is_word (codes "and") s || is_ident s

abbrev pub listed : Pos × (Ident × List PatternTree) → PatternTree
listed x = cond (is_word (codes "and") x.1.0.0) (pattern_and (pattern_trees x.1.1) x.0) (pattern_term x.1.0 (pattern_trees x.1.1) x.0)

abbrev pub named : Ident → Option PatternTree → PatternTree
named x None = pattern_var x x.1
named x (Some sub) = pattern_bind x sub x.1

-- a pattern that begins with a symbol of a kind
abbrev pub symbol_pattern : Pos → List ℕ → List Placed → Read (Option PatternTree) → Kind → Read PatternTree
symbol_pattern p s ts tail True = done (pattern_bool true p) ts
symbol_pattern p s ts tail False = done (pattern_bool false p) ts
symbol_pattern p s ts tail Const = done (pattern_prim (ident p (after_dollar s)) p) ts
symbol_pattern p s ts tail Wildcard = done (pattern_wildcard p) ts
symbol_pattern p s ts tail Name = read_map (named (ident p s)) tail
symbol_pattern p s ts tail _ = fault (symbol p s ∷ ts)

-- a pattern with lists read by list, and what may follow a name
unfoldable mutual
  pub pattern_with : Reader PatternTree → Reader PatternTree
  pattern_with list [] = fault []
  pattern_with list (opening p ∷ ts) = list (opening p ∷ ts)
  pattern_with list (closing p ∷ ts) = fault (closing p ∷ ts)
  pattern_with list (at_sign p ∷ ts) = fault (at_sign p ∷ ts)
  pattern_with list (symbol p s ∷ ts) = symbol_pattern p s ts (bound list ts) (symbol_kind s)
  pattern_with list (int p n ∷ ts) = done (pattern_int (bits_of n) (is_large n) p) ts

  pub bound : Reader PatternTree → Reader (Option PatternTree)
  bound list [] = done None []
  bound list (opening p ∷ ts) = done None (opening p ∷ ts)
  bound list (closing p ∷ ts) = done None (closing p ∷ ts)
  bound list (at_sign p ∷ ts) = read_map Some (pattern_with list ts)
  bound list (symbol p s ∷ ts) = done None (symbol p s ∷ ts)
  bound list (int p n ∷ ts) = done None (int p n ∷ ts)

-- a term or `and`, with the patterns up to its closing parenthesis
unfoldable pub pattern_list : ℕ → Reader PatternTree
pattern_list zero = shut
pattern_list (suc d) = λ ts. read_map listed (seq opened (seq (symbol_of is_head) (rest_of (pattern_with (pattern_list d)))) ts)

-- a pattern, where so many more parentheses may be open
abbrev pub pattern : ℕ → Reader PatternTree
pattern d = pattern_with (pattern_list d)

-- ---- expressions

-- an expression that begins with a symbol of a kind
abbrev pub symbol_expr : Pos → List ℕ → List Placed → Kind → Read ExprTree
symbol_expr p s ts True = done (expr_bool true p) ts
symbol_expr p s ts False = done (expr_bool false p) ts
symbol_expr p s ts Const = done (expr_prim (ident p (after_dollar s)) p) ts
symbol_expr p s ts Wildcard = done (expr_var (ident p s) p) ts
symbol_expr p s ts Name = done (expr_var (ident p s) p) ts
symbol_expr p s ts _ = fault (symbol p s ∷ ts)

abbrev pub expr_with : Reader ExprTree → Reader ExprTree
expr_with list [] = fault []
expr_with list (opening p ∷ ts) = list (opening p ∷ ts)
expr_with list (closing p ∷ ts) = fault (closing p ∷ ts)
expr_with list (at_sign p ∷ ts) = fault (at_sign p ∷ ts)
expr_with list (symbol p s ∷ ts) = symbol_expr p s ts (symbol_kind s)
expr_with list (int p n ∷ ts) = done (expr_int (bits_of n) (is_large n) p) ts

-- a binding: its variable, type and value
abbrev pub LetBinding : Type 0
LetBinding = Pos × (Ident × (Ident × (ExprTree × Unit {0})))

abbrev pub let_trees : List LetBinding → LetTrees
let_trees [] = no_lets
let_trees (b ∷ bs) = more_lets b.1.0 b.1.1.0 b.1.1.1.0 b.0 (let_trees bs)

-- what stands in the parentheses of an expression: a term and its arguments, or bindings and the body of a `let`
pub data Inner : Type 0 where
  call : Ident → List ExprTree → Inner
  bound_in : List LetBinding → ExprTree → Inner

abbrev pub inner_expr : Pos → Inner → ExprTree
inner_expr p (call x args) = expr_term x (expr_trees args) p
inner_expr p (bound_in bindings body) = expr_let (let_trees bindings) body p

-- the same with expressions and lists of bindings read so
abbrev pub inner_on : Reader ExprTree → Reader (Pos × List LetBinding) → Bool → Reader Inner
inner_on e lets true ts = read_map (λ x. bound_in x.1.0.1 x.1.1.0) (seq (says (codes "let")) (seq lets (seq e closed)) ts)
inner_on e lets false ts = read_map (λ x. call x.0 x.1) (seq (symbol_of is_ident) (rest_of e) ts)

abbrev pub inner_with : Reader ExprTree → Reader (Pos × List LetBinding) → Reader Inner
inner_with e lets ts = inner_on e lets (next_symbol_is (is_word (codes "let")) ts) ts

abbrev pub binding_with : Reader ExprTree → Reader LetBinding
binding_with e = seq opened (seq (symbol_of is_ident) (seq (symbol_of is_ident) (seq e closed)))

unfoldable mutual
  -- an expression in parentheses
  pub expr_list : ℕ → Reader ExprTree
  expr_list zero = shut
  expr_list (suc d) = λ ts. read_map (λ x. inner_expr x.0 x.1) (seq opened (inner_with (expr_with (expr_list d)) (let_list d)) ts)

  -- bindings in parentheses
  pub let_list : ℕ → Reader (Pos × List LetBinding)
  let_list zero = shut
  let_list (suc d) = λ ts. seq opened (rest_of (let_binding d)) ts

  pub let_binding : ℕ → Reader LetBinding
  let_binding zero = shut
  let_binding (suc d) = λ ts. binding_with (expr_with (expr_list d)) ts

-- an expression, where so many more parentheses may be open
abbrev pub expr : ℕ → Reader ExprTree
expr d = expr_with (expr_list d)

-- what stands in its parentheses, where so many more may be open
abbrev pub expr_inner : ℕ → Reader Inner
expr_inner d = inner_with (expr d) (let_list d)
