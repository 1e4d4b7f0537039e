-- A tree that is spelt in a text can be written.
use Rattle.std.proofs.Common.{◌≡◌, ℕ, ◌^◌, ◌<◌, ◌≤◌, Bool, true, refl, subst, ◌∙◌, le-leb, arith}
use Rattle.std.specs.Prelude.{ℤ, pos, int_lt, nat_le, nat_lt}
use Rattle.std.specs.Int.{w128, cast_signed}
use Rattle.std.proofs.lemmas.Bool.Decides.{nat_tests}
use Rattle.std.proofs.lemmas.Bool.{and_from, le-ltb, lt-ltb}
use Rattle.isle_ast.specs.declared.pos.Pos.{Pos}
use Rattle.isle_ast.specs.declared.ast.Ident.{Ident}
use Rattle.isle_syntax.specs.Tokens.PlacedTokens.{Literal, small, large}
use Rattle.isle_syntax.specs.Tokens.Names.{is_ident, is_name, is_pname, is_const_name}
use Rattle.isle_syntax.specs.Grammar.TreeGrammar.{Constant, bits_of, is_large, SpellsInteger, is_pattern_term, is_expr_term, SpellsPattern}
use Rattle.isle_syntax.specs.Grammar.TreeGrammar.{SpellsPatterns, SpellsExpr, SpellsExprs, SpellsLets, SpellsItem, SpellsItems}
use Rattle.isle_ast.specs.Trees.PatternTree.{PatternTree, PatternTrees, pattern_var, pattern_bind, pattern_bool, pattern_int, pattern_prim}
use Rattle.isle_ast.specs.Trees.PatternTree.{pattern_term, pattern_wildcard, pattern_and, pattern_macro_arg, no_patterns, more_patterns}
use Rattle.isle_ast.specs.Trees.ExprTree.{ExprTree, ExprTrees, LetTrees, expr_term, expr_var, expr_bool, expr_int, expr_prim, expr_let, no_exprs}
use Rattle.isle_ast.specs.Trees.ExprTree.{more_exprs, no_lets, more_lets}
use Rattle.isle_ast.specs.Trees.ItemTree.{ItemTree, ItemTrees, item_int, item_big, item_symbol, item_at, item_list, no_items, more_items}
use Rattle.isle_layout.specs.Inside.TextTokens.{IsTextLiteral, AreTextTokens}
use Rattle.isle_layout.specs.Writable.{writable_ident, fits_i128, writable_int, writable_pattern, writable_patterns, writable_expr, writable_exprs}
use Rattle.isle_layout.specs.Writable.{writable_lets, writable_item, writable_items}
use Rattle.isle_layout.proofs.SpeltTexts.Meanings.{Means, means_first, means_second, means_both, means_three, means_with, means_always, means_symbol}

-- ---- integers and constants

large_is_negative : (n : ℕ) → 2 ^ 127 ≤ n → int_lt (cast_signed w128 n) (pos 0) ≡ true
large_is_negative n h = rw (le-ltb n (2 ^ 127) h) refl

large_fits : (n : ℕ) → n < 2 ^ 128 → fits_i128 (cast_signed w128 n) ≡ true
large_fits n h = grind (arith, nat_tests)

literal_writable : (n : Literal) → IsTextLiteral n → writable_int (bits_of n) (is_large n) ≡ true
literal_writable (small z) h = and_from (fits_i128 z) true h refl
literal_writable (large n) h = and_from (fits_i128 (cast_signed w128 n)) (int_lt (cast_signed w128 n) (pos 0)) (large_fits n h.1)
    (large_is_negative n h.0)

means_integer : (val : ℤ) (big : Bool) (p : Pos) → Means (writable_int val big) (SpellsInteger val big p)
means_integer val big p = record {
  holds = λ ts text l.
      let one = subst AreTextTokens l.1 text in
      (λ i. writable_int (l.2 i) (l.3 i)) ∙ literal_writable l.0 one.0;
}

pub means_constant : (x : Ident) → Means (is_const_name x.0) (Constant x)
means_constant x = record { holds = λ ts text l. l.1 }

-- ---- patterns

mutual
  pub pattern_means : (t : PatternTree) → Means (writable_pattern t) (SpellsPattern t)
  pattern_means (pattern_var x p) = means_with (λ ts. p ≡ x.1) (means_symbol is_pname x)
  pattern_means (pattern_bind x sub p) =
      means_with (λ ts. p ≡ x.1) (means_both (means_symbol is_pname x) (means_second (pattern_means sub)))
  pattern_means (pattern_bool b p) = means_always (SpellsPattern (pattern_bool b p))
  pattern_means (pattern_int val big p) = means_integer val big p
  pattern_means (pattern_prim x p) = means_with (λ ts. p ≡ x.1) (means_constant x)
  pattern_means (pattern_term x args p) = means_second (means_both (means_symbol is_pattern_term x) (means_first (patterns_mean args)))
  pattern_means (pattern_wildcard p) = means_always (SpellsPattern (pattern_wildcard p))
  pattern_means (pattern_and args p) = means_second (means_second (means_first (patterns_mean args)))
  pattern_means (pattern_macro_arg i p) = record { holds = λ ts text l. absurd l }

  pub patterns_mean : (ts : PatternTrees) → Means (writable_patterns ts) (SpellsPatterns ts)
  patterns_mean no_patterns = means_always (SpellsPatterns no_patterns)
  patterns_mean (more_patterns t rest) = means_both (pattern_means t) (patterns_mean rest)

-- ---- expressions

mutual
  pub expr_means : (t : ExprTree) → Means (writable_expr t) (SpellsExpr t)
  expr_means (expr_term x args p) = means_second (means_both (means_symbol is_expr_term x) (means_first (exprs_mean args)))
  expr_means (expr_var x p) = means_with (λ ts. p ≡ x.1) (means_symbol is_name x)
  expr_means (expr_bool b p) = means_always (SpellsExpr (expr_bool b p))
  expr_means (expr_int val big p) = means_integer val big p
  expr_means (expr_prim x p) = means_with (λ ts. p ≡ x.1) (means_constant x)
  expr_means (expr_let defs body p) =
      means_second (means_second (means_second (means_both (lets_mean defs) (means_second (means_first (expr_means body))))))

  pub exprs_mean : (ts : ExprTrees) → Means (writable_exprs ts) (SpellsExprs ts)
  exprs_mean no_exprs = means_always (SpellsExprs no_exprs)
  exprs_mean (more_exprs t rest) = means_both (expr_means t) (exprs_mean rest)

  pub lets_mean : (ds : LetTrees) → Means (writable_lets ds) (SpellsLets ds)
  lets_mean no_lets = means_always (SpellsLets no_lets)
  lets_mean (more_lets var ty val p rest) =
      let one = means_both (means_symbol is_ident var) (means_both (means_symbol is_ident ty) (means_first (expr_means val))) in
      means_both (means_second (means_three (writable_ident var) (writable_ident ty) (writable_expr val) one)) (lets_mean rest)

-- ---- kept items

mutual
  pub item_means : (t : ItemTree) → Means (writable_item t) (SpellsItem t)
  item_means (item_int z p) = record { holds = λ ts text l. (let one = subst AreTextTokens l text in one.0) }
  item_means (item_big n p) = record {
    holds = λ ts text l. (let one = subst AreTextTokens l text in and_from (nat_le (2 ^ 127) n) (nat_lt n (2 ^ 128)) (le-leb (2 ^ 127) n one.0.0)
        (lt-ltb n (2 ^ 128) one.0.1));
  }
  item_means (item_symbol x) = record { holds = λ ts text l. (let one = subst AreTextTokens l text in one.0) }
  item_means (item_at p) = means_always (SpellsItem (item_at p))
  item_means (item_list items p) = means_second (means_first (items_mean items))

  pub items_mean : (ts : ItemTrees) → Means (writable_items ts) (SpellsItems ts)
  items_mean no_items = means_always (SpellsItems no_items)
  items_mean (more_items t rest) = means_both (item_means t) (items_mean rest)
