-- The atoms of trees that can be written are tokens.
use Rattle.std.proofs.Common.{◌≡◌, ℕ, ℤ, ◌-◌, ◌^◌, List, ◌∷◌, true, false, refl}
use Rattle.std.specs.Prelude.{◌&&◌, ◌||◌, not, nat_le, nat_lt, int_lt, pos, negsuc, codes, FitsSigned}
use Rattle.std.specs.Int.{w128}
use Rattle.std.proofs.lemmas.Bool.{leb-true, ltb-true}
use Rattle.std.proofs.Common.{arith}
use Rattle.isle_ast.specs.declared.ast.Ident.{Ident}
use Rattle.isle_syntax.specs.declared.lexer.Token.TheVariants.{At, Symbol, Int, Big}
use Rattle.isle_ast.specs.Trees.PatternTree.{PatternTree, PatternTrees, pattern_var, pattern_bind, pattern_bool, pattern_int, pattern_prim}
use Rattle.isle_ast.specs.Trees.PatternTree.{pattern_term, pattern_wildcard, pattern_and, pattern_macro_arg, no_patterns, more_patterns}
use Rattle.isle_ast.specs.Trees.ExprTree.{ExprTree, ExprTrees, LetTrees, expr_term, expr_var, expr_bool, expr_int, expr_prim, expr_let, no_exprs}
use Rattle.isle_ast.specs.Trees.ExprTree.{more_exprs, no_lets, more_lets}
use Rattle.isle_ast.specs.Trees.ItemTree.{ItemTree, ItemTrees, item_int, item_big, item_symbol, item_at, item_list, no_items, more_items}
use Rattle.isle_syntax.specs.Tokens.Names.{is_symbol, is_ident, is_const_name}
use Rattle.isle_syntax.specs.Grammar.TreeGrammar.{is_pattern_term, is_expr_term}
use Rattle.isle_syntax.proofs.Reading.SymbolKinds.{and_first, and_second}
use Rattle.isle_layout.specs.Inside.SExprTokens.{IsAtom}
use Rattle.isle_layout.specs.Spellings.{constant_sexpr, pattern_sexpr, pattern_sexprs, expr_sexpr, expr_sexprs, let_sexprs, item_sexpr, item_sexprs}
use Rattle.isle_layout.specs.Writable.{fits_i128, writable_ident, writable_pattern, writable_patterns, writable_expr, writable_exprs, writable_lets}
use Rattle.isle_layout.specs.Writable.{writable_item, writable_items}
use Rattle.isle_layout.proofs.Atoms.AtomTexts.{symbol_token, at_sign_token}
use Rattle.isle_layout.proofs.Atoms.IdentifierTexts.{ident_is_symbol, name_is_symbol, pname_is_symbol, constant_is_symbol}
use Rattle.isle_layout.proofs.Atoms.IntegerTexts.{signed_token, large_token, integer_text_token, literal_of, literal_token}
use Rattle.isle_layout.proofs.Atoms.EachAtom.{IsAtomIfText, IsReadable, AreReadable}

-- ---- words and names

pub symbol_atom : (s : List ℕ) → is_symbol s ≡ true → IsAtom s
symbol_atom s e = (Symbol s, symbol_token s e)

pub ident_readable : (s : List ℕ) → is_ident s ≡ true → IsAtomIfText s
ident_readable s e = λ u. symbol_atom s (ident_is_symbol s u e)

pub constant_readable : (x : Ident) → is_const_name x.0 ≡ true → IsReadable (constant_sexpr x)
constant_readable x e = λ u. symbol_atom (36 ∷ x.0) (constant_is_symbol x.0 u e)

-- ---- integers

-- what is one of an `i128` fits it
pub fits_signed : (z : ℤ) → fits_i128 z ≡ true → FitsSigned w128 z
fits_signed (pos n) e = record { sfits = ltb-true n (2 ^ 127) e }
fits_signed (negsuc n) e =
    let most = leb-true n (2 ^ 127 - 1) (and_first (nat_le n (2 ^ 127 - 1)) true e) in record { sfits = omega (arith, most) }

-- ---- patterns

mutual
  pub pattern_readable : (t : PatternTree) → writable_pattern t ≡ true → IsReadable (pattern_sexpr t)
  pattern_readable (pattern_var x _) e = λ u. symbol_atom x.0 (pname_is_symbol x.0 u e)
  pattern_readable (pattern_bind x below _) e = (
    λ u. symbol_atom x.0 (pname_is_symbol x.0 u (and_first _ (writable_pattern below) e)),
    pattern_readable below (and_second _ (writable_pattern below) e),
  )
  pattern_readable (pattern_bool true _) e = λ u. symbol_atom (codes "true") refl
  pattern_readable (pattern_bool false _) e = λ u. symbol_atom (codes "false") refl
  pattern_readable (pattern_int val big _) e =
      λ u. (
        literal_token (literal_of val big),
        integer_text_token val big
            (fits_signed val (and_first (fits_i128 val) (not big || int_lt val (pos 0)) e)) (and_second (fits_i128 val) (not big
            || int_lt val (pos 0)) e),
      )
  pattern_readable (pattern_prim x _) e = constant_readable x e
  pattern_readable (pattern_term x args _) e = (
    ident_readable x.0 (and_first (is_ident x.0) _ (and_first (is_pattern_term x.0) (writable_patterns args) e)),
    patterns_readable args (and_second (is_pattern_term x.0) (writable_patterns args) e),
  )
  pattern_readable (pattern_wildcard _) e = λ u. symbol_atom (codes "_") refl
  pattern_readable (pattern_and below _) e = (λ u. symbol_atom (codes "and") refl, patterns_readable below e)
  pattern_readable (pattern_macro_arg _ _) e = absurd (cc)

  patterns_readable : (ts : PatternTrees) → writable_patterns ts ≡ true → AreReadable (pattern_sexprs ts)
  patterns_readable no_patterns e = tt
  patterns_readable (more_patterns t ts) e = (
    pattern_readable t (and_first (writable_pattern t) (writable_patterns ts) e),
    patterns_readable ts (and_second (writable_pattern t) (writable_patterns ts) e),
  )

-- ---- expressions

mutual
  pub expr_readable : (t : ExprTree) → writable_expr t ≡ true → IsReadable (expr_sexpr t)
  expr_readable (expr_term x args _) e = (
    ident_readable x.0 (and_first (is_ident x.0) _ (and_first (is_expr_term x.0) (writable_exprs args) e)),
    exprs_readable args (and_second (is_expr_term x.0) (writable_exprs args) e),
  )
  expr_readable (expr_var x _) e = λ u. symbol_atom x.0 (name_is_symbol x.0 u e)
  expr_readable (expr_bool true _) e = λ u. symbol_atom (codes "true") refl
  expr_readable (expr_bool false _) e = λ u. symbol_atom (codes "false") refl
  expr_readable (expr_int val big _) e =
      λ u. (
        literal_token (literal_of val big),
        integer_text_token val big
            (fits_signed val (and_first (fits_i128 val) (not big || int_lt val (pos 0)) e)) (and_second (fits_i128 val) (not big
            || int_lt val (pos 0)) e),
      )
  expr_readable (expr_prim x _) e = constant_readable x e
  expr_readable (expr_let defs body _) e = (
    λ u. symbol_atom (codes "let") refl,
    (
      lets_readable defs (and_first (writable_lets defs) (writable_expr body) e),
      (expr_readable body (and_second (writable_lets defs) (writable_expr body) e), tt),
    ),
  )

  exprs_readable : (ts : ExprTrees) → writable_exprs ts ≡ true → AreReadable (expr_sexprs ts)
  exprs_readable no_exprs e = tt
  exprs_readable (more_exprs t ts) e =
      (expr_readable t (and_first (writable_expr t) (writable_exprs ts) e), exprs_readable ts (and_second (writable_expr t) (writable_exprs ts) e))

  lets_readable : (ds : LetTrees) → writable_lets ds ≡ true → AreReadable (let_sexprs ds)
  lets_readable no_lets e = tt
  lets_readable (more_lets var ty val _ ds) e =
      let first = and_first (writable_ident var && writable_ident ty && writable_expr val) (writable_lets ds) e in
      let names = and_first (writable_ident var && writable_ident ty) (writable_expr val) first in (
        (
          ident_readable var.0 (and_first (writable_ident var) (writable_ident ty) names),
          (
            ident_readable ty.0 (and_second (writable_ident var) (writable_ident ty) names),
            (expr_readable val (and_second (writable_ident var && writable_ident ty) (writable_expr val) first), tt),
          ),
        ),
        lets_readable ds (and_second (writable_ident var && writable_ident ty && writable_expr val) (writable_lets ds) e),
      )

-- ---- items of kept definitions

mutual
  item_readable : (t : ItemTree) → writable_item t ≡ true → IsReadable (item_sexpr t)
  item_readable (item_int val _) e = λ u. (Int val, signed_token val (fits_signed val e))
  item_readable (item_big val _) e =
      λ u. (
        Big val,
        large_token val (leb-true (2 ^ 127) val (and_first (nat_le (2 ^ 127) val) (nat_lt val (2 ^ 128)) e))
            (ltb-true val (2 ^ 128) (and_second (nat_le (2 ^ 127) val) (nat_lt val (2 ^ 128)) e)),
      )
  item_readable (item_symbol x) e = λ u. symbol_atom x.0 e
  item_readable (item_at _) e = λ u. (At, at_sign_token)
  item_readable (item_list items _) e = items_readable items e

  pub items_readable : (ts : ItemTrees) → writable_items ts ≡ true → AreReadable (item_sexprs ts)
  items_readable no_items e = tt
  items_readable (more_items t ts) e =
      (item_readable t (and_first (writable_item t) (writable_items ts) e), items_readable ts (and_second (writable_item t) (writable_items ts) e))
