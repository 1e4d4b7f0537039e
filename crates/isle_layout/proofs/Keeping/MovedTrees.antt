-- The same tokens at other places spell the same trees, but for positions.
use Rattle.std.proofs.Common.{refl, ap, ◌∙◌, sym, subst, true}
use Rattle.std.specs.Prelude.{codes}
use Rattle.isle_ast.specs.declared.pos.Pos.{Pos}
use Rattle.isle_ast.specs.declared.ast.Ident.{Ident}
use Rattle.isle_ast.specs.declared.ast.Pattern.{Pattern}
use Rattle.isle_ast.specs.declared.ast.Expr.{Expr}
use Rattle.isle_ast.specs.Trees.PatternTree.{PatternTree, PatternTrees, pattern_var, pattern_bind, pattern_bool, pattern_int, pattern_prim}
use Rattle.isle_ast.specs.Trees.PatternTree.{pattern_term, pattern_wildcard, pattern_and, pattern_macro_arg, no_patterns, more_patterns}
use Rattle.isle_ast.specs.Trees.PatternShape.{pattern_of}
use Rattle.isle_ast.specs.Trees.ExprTree.{ExprTree, ExprTrees, LetTrees, expr_term, expr_var, expr_bool, expr_int, expr_prim, expr_let, no_exprs}
use Rattle.isle_ast.specs.Trees.ExprTree.{more_exprs, no_lets, more_lets}
use Rattle.isle_ast.specs.Trees.ExprShape.{expr_of}
use Rattle.isle_ast.specs.Trees.ItemTree.{ItemTree, ItemTrees, item_int, item_big, item_symbol, item_at, item_list, no_items, more_items}
use Rattle.isle_ast.specs.Trees.WithoutPos.{no_pos, pattern_tree_without_pos, pattern_trees_without_pos, pattern_without_pos}
use Rattle.isle_ast.specs.Trees.WithoutPos.{expr_tree_without_pos, expr_trees_without_pos, let_trees_without_pos, expr_without_pos}
use Rattle.isle_ast.specs.Trees.WithoutPos.{item_tree_without_pos, item_trees_without_pos}
use Rattle.isle_syntax.specs.Inside.Reading.DefReading.{pattern_from, expr_from}
use Rattle.isle_syntax.specs.Tokens.PlacedTokens.{small, large}
use Rattle.isle_syntax.specs.Tokens.Names.{is_ident, is_name, is_pname}
use Rattle.isle_syntax.specs.Grammar.TreeGrammar.{truth_word, is_pattern_term, is_expr_term, SpellsPattern, SpellsPatterns, SpellsExpr, SpellsExprs, SpellsLets}
use Rattle.isle_syntax.specs.Grammar.TreeGrammar.{SpellsItem, SpellsItems}
use Rattle.isle_layout.proofs.ReadsBack.Terms.{pattern_there, pattern_moved, pattern_back}
use Rattle.isle_layout.proofs.ReadsBack.Rules.{expr_there, expr_moved, expr_back}
use Rattle.isle_layout.proofs.Keeping.Moved.{SameTokens, Moves, both, opens, closes, opening_sign, at_moves, word, says, symbol_of, constant, integer_at}
use Rattle.isle_layout.proofs.Keeping.Moved.{literal_at}

-- ---- patterns

bind_moves : (x : Ident) (t : PatternTree) (p : Pos) → Moves SpellsPattern pattern_tree_without_pos t
    → Moves SpellsPattern pattern_tree_without_pos (pattern_bind x t p)
bind_moves x t p below =
    let two = both (symbol_of is_pname x) (both at_moves below) in
    record {
      move = λ ts us l m.
          let r = two.move ts us l.0 m in
          (pattern_bind r.0.0 r.0.1.1 r.0.0.1, (r.1, refl), (λ i. pattern_bind (r.2 i).0 (r.2 i).1.1 no_pos));
    }

term_moves : (x : Ident) (args : PatternTrees) (p : Pos) → Moves SpellsPatterns pattern_trees_without_pos args
    → Moves SpellsPattern pattern_tree_without_pos (pattern_term x args p)
term_moves x args p below =
    let all = both (opens p) (both (symbol_of is_pattern_term x) (both below closes)) in
    record {
      move = λ ts us l m.
          let r = all.move ts us l m in
          (pattern_term r.0.1.0 r.0.1.1.0 r.0.0, r.1, (λ i. pattern_term (r.2 i).1.0 (r.2 i).1.1.0 no_pos));
    }

and_moves : (args : PatternTrees) (p : Pos) → Moves SpellsPatterns pattern_trees_without_pos args
    → Moves SpellsPattern pattern_tree_without_pos (pattern_and args p)
and_moves args p below =
    let all = both (opens p) (both (says (codes "and")) (both below closes)) in
    record {
      move = λ ts us l m.
          let r = all.move ts us l m in
          (pattern_and r.0.1.1.0 r.0.0, r.1, (λ i. pattern_and (r.2 i).1.1.0 no_pos));
    }

more_moves : (t : PatternTree) (rest : PatternTrees) → Moves SpellsPattern pattern_tree_without_pos t
    → Moves SpellsPatterns pattern_trees_without_pos rest → Moves SpellsPatterns pattern_trees_without_pos (more_patterns t rest)
more_moves t rest first others =
    let two = both first others in
    record { move = λ ts us l m. let r = two.move ts us l m in (more_patterns r.0.0 r.0.1, r.1, (λ i. more_patterns (r.2 i).0 (r.2 i).1)) }

mutual
  pub pattern_moves : (t : PatternTree) → Moves SpellsPattern pattern_tree_without_pos t
  pattern_moves (pattern_var x p) = record {
    move = λ ts us l m.
        let r = (symbol_of is_pname x).move ts us l.0 m in
        (pattern_var r.0 r.0.1, (r.1, refl), (λ i. pattern_var (r.2 i) no_pos));
  }
  pattern_moves (pattern_bind x t p) = bind_moves x t p (pattern_moves t)
  pattern_moves (pattern_bool b p) = record {
    move = λ ts us l m.
        let r = (word (truth_word b) p).move ts us l m in
        (pattern_bool b r.0, r.1, refl);
  }
  pattern_moves (pattern_int val big p) = record {
    move = λ ts us l m.
        let r = (integer_at val big p).move ts us l m in
        (pattern_int val big r.0, r.1, refl);
  }
  pattern_moves (pattern_prim x p) = record {
    move = λ ts us l m.
        let r = (constant x).move ts us l.0 m in
        (pattern_prim r.0 r.0.1, (r.1, refl), (λ i. pattern_prim (r.2 i) no_pos));
  }
  pattern_moves (pattern_term x args p) = term_moves x args p (patterns_move args)
  pattern_moves (pattern_wildcard p) = record {
    move = λ ts us l m.
        let r = (word (codes "_") p).move ts us l m in
        (pattern_wildcard r.0, r.1, refl);
  }
  pattern_moves (pattern_and args p) = and_moves args p (patterns_move args)
  pattern_moves (pattern_macro_arg i p) = record { move = λ ts us l m. absurd l }

  patterns_move : (ts : PatternTrees) → Moves SpellsPatterns pattern_trees_without_pos ts
  patterns_move no_patterns = record { move = λ ts us l m. (no_patterns, subst (λ r. SameTokens r us) l m, refl) }
  patterns_move (more_patterns t rest) = more_moves t rest (pattern_moves t) (patterns_move rest)

-- ---- expressions

call_moves : (x : Ident) (args : ExprTrees) (p : Pos) → Moves SpellsExprs expr_trees_without_pos args
    → Moves SpellsExpr expr_tree_without_pos (expr_term x args p)
call_moves x args p below =
    let all = both (opens p) (both (symbol_of is_expr_term x) (both below closes)) in
    record {
      move = λ ts us l m.
          let r = all.move ts us l m in
          (expr_term r.0.1.0 r.0.1.1.0 r.0.0, r.1, (λ i. expr_term (r.2 i).1.0 (r.2 i).1.1.0 no_pos));
    }

let_moves : (defs : LetTrees) (body : ExprTree) (p : Pos) → Moves SpellsLets let_trees_without_pos defs → Moves SpellsExpr expr_tree_without_pos body
    → Moves SpellsExpr expr_tree_without_pos (expr_let defs body p)
let_moves defs body p bound below =
    let all = both (opens p) (both (says (codes "let")) (both opening_sign (both bound (both closes (both below closes))))) in
    record {
      move = λ ts us l m.
          let r = all.move ts us l m in (
            expr_let r.0.1.1.1.0 r.0.1.1.1.1.1.0 r.0.0,
            r.1,
            (λ i. expr_let (r.2 i).1.1.1.0 (r.2 i).1.1.1.1.1.0 no_pos),
          );
    }

binding_moves : (var ty : Ident) (val : ExprTree) (p : Pos) (rest : LetTrees) → Moves SpellsExpr expr_tree_without_pos val
    → Moves SpellsLets let_trees_without_pos rest → Moves SpellsLets let_trees_without_pos (more_lets var ty val p rest)
binding_moves var ty val p rest below others =
    let all = both (both (opens p) (both (symbol_of is_ident var) (both (symbol_of is_ident ty) (both below closes)))) others in
    record {
      move = λ ts us l m.
          let r = all.move ts us l m in (
            more_lets r.0.0.1.0 r.0.0.1.1.0 r.0.0.1.1.1.0 r.0.0.0 r.0.1,
            r.1,
            (λ i. more_lets (r.2 i).0.1.0 (r.2 i).0.1.1.0 (r.2 i).0.1.1.1.0 no_pos (r.2 i).1),
          );
    }

args_move : (t : ExprTree) (rest : ExprTrees) → Moves SpellsExpr expr_tree_without_pos t → Moves SpellsExprs expr_trees_without_pos rest
    → Moves SpellsExprs expr_trees_without_pos (more_exprs t rest)
args_move t rest first others =
    let two = both first others in
    record { move = λ ts us l m. let r = two.move ts us l m in (more_exprs r.0.0 r.0.1, r.1, (λ i. more_exprs (r.2 i).0 (r.2 i).1)) }

mutual
  pub expr_moves : (t : ExprTree) → Moves SpellsExpr expr_tree_without_pos t
  expr_moves (expr_term x args p) = call_moves x args p (exprs_move args)
  expr_moves (expr_var x p) = record {
    move = λ ts us l m.
        let r = (symbol_of is_name x).move ts us l.0 m in
        (expr_var r.0 r.0.1, (r.1, refl), (λ i. expr_var (r.2 i) no_pos));
  }
  expr_moves (expr_bool b p) = record {
    move = λ ts us l m.
        let r = (word (truth_word b) p).move ts us l m in
        (expr_bool b r.0, r.1, refl);
  }
  expr_moves (expr_int val big p) = record {
    move = λ ts us l m.
        let r = (integer_at val big p).move ts us l m in
        (expr_int val big r.0, r.1, refl);
  }
  expr_moves (expr_prim x p) = record {
    move = λ ts us l m.
        let r = (constant x).move ts us l.0 m in
        (expr_prim r.0 r.0.1, (r.1, refl), (λ i. expr_prim (r.2 i) no_pos));
  }
  expr_moves (expr_let defs body p) = let_moves defs body p (lets_move defs) (expr_moves body)

  exprs_move : (ts : ExprTrees) → Moves SpellsExprs expr_trees_without_pos ts
  exprs_move no_exprs = record { move = λ ts us l m. (no_exprs, subst (λ r. SameTokens r us) l m, refl) }
  exprs_move (more_exprs t rest) = args_move t rest (expr_moves t) (exprs_move rest)

  lets_move : (ds : LetTrees) → Moves SpellsLets let_trees_without_pos ds
  lets_move no_lets = record { move = λ ts us l m. (no_lets, subst (λ r. SameTokens r us) l m, refl) }
  lets_move (more_lets var ty val p rest) = binding_moves var ty val p rest (expr_moves val) (lets_move rest)

-- ---- kept items

list_moves : (items : ItemTrees) (p : Pos) → Moves SpellsItems item_trees_without_pos items
    → Moves SpellsItem item_tree_without_pos (item_list items p)
list_moves items p below =
    let all = both (opens p) (both below closes) in
    record { move = λ ts us l m. let r = all.move ts us l m in (item_list r.0.1.0 r.0.0, r.1, (λ i. item_list (r.2 i).1.0 no_pos)) }

items_moved : (t : ItemTree) (rest : ItemTrees) → Moves SpellsItem item_tree_without_pos t → Moves SpellsItems item_trees_without_pos rest
    → Moves SpellsItems item_trees_without_pos (more_items t rest)
items_moved t rest first others =
    let two = both first others in
    record { move = λ ts us l m. let r = two.move ts us l m in (more_items r.0.0 r.0.1, r.1, (λ i. more_items (r.2 i).0 (r.2 i).1)) }

mutual
  item_moves : (t : ItemTree) → Moves SpellsItem item_tree_without_pos t
  item_moves (item_int z p) = record {
    move = λ ts us l m.
        let r = (literal_at (small z) p).move ts us l m in
        (item_int z r.0, r.1, refl);
  }
  item_moves (item_big n p) = record {
    move = λ ts us l m.
        let r = (literal_at (large n) p).move ts us l m in
        (item_big n r.0, r.1, refl);
  }
  item_moves (item_symbol x) = record {
    move = λ ts us l m.
        let r = (symbol_of (λ s. true) x).move ts us (l, refl) m in
        (item_symbol r.0, r.1.0, ap item_symbol r.2);
  }
  item_moves (item_at p) = record {
    move = λ ts us l m.
        let r = at_moves.move ts us (p, l) m in
        (item_at r.1.0, r.1.1, refl);
  }
  item_moves (item_list items p) = list_moves items p (items_move items)

  pub items_move : (ts : ItemTrees) → Moves SpellsItems item_trees_without_pos ts
  items_move no_items = record { move = λ ts us l m. (no_items, subst (λ r. SameTokens r us) l m, refl) }
  items_move (more_items t rest) = items_moved t rest (item_moves t) (items_move rest)

-- ---- whole patterns and expressions

pub whole_pattern_moves : (p : Pattern) → Moves (λ q. SpellsPattern (pattern_of q)) pattern_without_pos p
whole_pattern_moves p = record {
  move = λ ts us l m.
      let r = (pattern_moves (pattern_of p)).move ts us l m in (
        pattern_from r.0,
        subst (λ t. SpellsPattern t us) (sym (pattern_there r.0)) r.1,
        pattern_moved r.0 ∙ ap pattern_from r.2 ∙ pattern_back p,
      );
}

pub whole_expr_moves : (e : Expr) → Moves (λ d. SpellsExpr (expr_of d)) expr_without_pos e
whole_expr_moves e = record {
  move = λ ts us l m.
      let r = (expr_moves (expr_of e)).move ts us l m in (
        expr_from r.0,
        subst (λ t. SpellsExpr t us) (sym (expr_there r.0)) r.1,
        expr_moved r.0 ∙ ap expr_from r.2 ∙ expr_back e,
      );
}
