-- Tokens of the S-expressions of patterns, expressions and kept items spell these again.
use Rattle.std.proofs.Common.{◌≡◌, ℕ, ◌^◌, List, [], ◌∷◌, Bool, true, false, refl, leb-true, ltb-true}
use Rattle.std.specs.Prelude.{ℤ, pos, ◌&&◌, ◌||◌, not, int_lt, nat_le, nat_lt, codes}
use Rattle.std.specs.Fmt.{decimal}
use Rattle.std.specs.Str.{IsUtf8}
use Rattle.isle_ast.specs.declared.pos.Pos.{Pos}
use Rattle.isle_ast.specs.declared.ast.Ident.{Ident}
use Rattle.isle_syntax.specs.Tokens.PlacedTokens.{large, Placed, int}
use Rattle.isle_syntax.specs.Tokens.Names.{is_symbol, is_ident, is_name, is_pname, is_const_name}
use Rattle.isle_syntax.specs.Grammar.Phrases.{◌⊙◌, Closes, Says, SymbolOf, Each}
use Rattle.isle_syntax.specs.Grammar.TreeGrammar.{Constant, truth_word, SpellsInteger, is_pattern_term, is_expr_term, SpellsPattern, SpellsPatterns}
use Rattle.isle_syntax.specs.Grammar.TreeGrammar.{SpellsExpr, SpellsExprs, SpellsLets, SpellsItem, SpellsItems}
use Rattle.isle_ast.specs.Trees.PatternTree.{PatternTree, PatternTrees, pattern_var, pattern_bind, pattern_bool, pattern_int, pattern_prim}
use Rattle.isle_ast.specs.Trees.PatternTree.{pattern_term, pattern_wildcard, pattern_and, pattern_macro_arg, no_patterns, more_patterns}
use Rattle.isle_ast.specs.Trees.ExprTree.{ExprTree, ExprTrees, LetTrees, expr_term, expr_var, expr_bool, expr_int, expr_prim, expr_let, no_exprs}
use Rattle.isle_ast.specs.Trees.ExprTree.{more_exprs, no_lets, more_lets}
use Rattle.isle_ast.specs.Trees.ItemTree.{ItemTree, ItemTrees, item_int, item_big, item_symbol, item_at, item_list, no_items, more_items}
use Rattle.isle_ast.specs.Trees.WithoutPos.{no_pos, ident_without_pos, pattern_tree_without_pos, pattern_trees_without_pos, expr_tree_without_pos}
use Rattle.isle_ast.specs.Trees.WithoutPos.{expr_trees_without_pos, let_trees_without_pos, item_tree_without_pos, item_trees_without_pos}
use Rattle.isle_syntax.proofs.Reading.SymbolKinds.{and_first, and_second}
use Rattle.isle_layout.specs.SExprTree.{sexpr_atom}
use Rattle.isle_layout.specs.Spellings.{listed, name_sexpr, integer_text, pattern_sexpr, pattern_sexprs, expr_sexpr, expr_sexprs, let_sexprs}
use Rattle.isle_layout.specs.Spellings.{item_sexpr, item_sexprs}
use Rattle.isle_layout.specs.Writable.{fits_i128, writable_ident, writable_int, writable_pattern, writable_patterns, writable_expr, writable_exprs}
use Rattle.isle_layout.specs.Writable.{writable_lets, writable_item, writable_items}
use Rattle.isle_layout.proofs.Atoms.AtomReadings.{symbol_reading, at_sign_reading, signed_reading, large_reading, integer_reading}
use Rattle.isle_layout.proofs.Atoms.IdentifierTexts.{ident_is_symbol, name_is_symbol, pname_is_symbol, constant_is_symbol}
use Rattle.isle_layout.proofs.Atoms.TreeAtoms.{fits_signed}
use Rattle.isle_layout.proofs.ReadsBack.Rows.{ReadsAtom, Reads, listed_row, listed_then, row_split, Again}

-- a name at another place
abbrev pub ident_at : Ident → Pos → Ident
ident_at x p = record { 0 = x.0; 1 = p }

-- ---- words and names

pub word_again : (w : List ℕ) (ts : List Placed) → is_symbol w ≡ true → ReadsAtom w ts → Says w tt ts
word_again w ts h l = symbol_reading w ts h l.1

pub name_again : (q : List ℕ → Bool) → ((s : List ℕ) → IsUtf8 s → q s ≡ true → is_symbol s ≡ true) → (x : Ident) (ts : List Placed) → q x.0 ≡ true
    → ReadsAtom x.0 ts → (p : Pos) × SymbolOf q (ident_at x p) ts
name_again q symbols x ts h l =
    let a = symbol_reading x.0 ts (symbols x.0 l.0 h) l.1 in
    (a.0, (a.1, h))

pub constant_again : (x : Ident) (ts : List Placed) → is_const_name x.0 ≡ true → ReadsAtom (36 ∷ x.0) ts → (p : Pos) × Constant (ident_at x p) ts
constant_again x ts h l =
    let a = symbol_reading (36 ∷ x.0) ts (constant_is_symbol x.0 l.0 h) l.1 in
    (a.0, (a.1, h))

truth_again : (b : Bool) (ts : List Placed) → ReadsAtom (truth_word b) ts → Says (truth_word b) tt ts
truth_again true ts l = word_again (truth_word true) ts refl l
truth_again false ts l = word_again (truth_word false) ts refl l

pub integer_again : (val : ℤ) (big : Bool) (ts : List Placed) → writable_int val big ≡ true → ReadsAtom (integer_text val big) ts
    → (p : Pos) × SpellsInteger val big p ts
integer_again val big ts h l =
    let sign = not big || int_lt val (pos 0) in
    integer_reading val big ts (fits_signed val (and_first (fits_i128 val) sign h)) (and_second (fits_i128 val) sign h) l.1

pub large_again : (n : ℕ) (ts : List Placed) → (nat_le (2 ^ 127) n && nat_lt n (2 ^ 128)) ≡ true → ReadsAtom (decimal n) ts
    → (p : Pos) × (ts ≡ int p (large n) ∷ [])
large_again n ts h l =
    let least = nat_le (2 ^ 127) n in
    let most = nat_lt n (2 ^ 128) in
    large_reading n ts (leb-true (2 ^ 127) n (and_first least most h)) (ltb-true n (2 ^ 128) (and_second least most h)) l.1

pattern_term_is_symbol : (s : List ℕ) → IsUtf8 s → is_pattern_term s ≡ true → is_symbol s ≡ true
pattern_term_is_symbol s u e = ident_is_symbol s u (and_first (is_ident s) _ e)

expr_term_is_symbol : (s : List ℕ) → IsUtf8 s → is_expr_term s ≡ true → is_symbol s ≡ true
expr_term_is_symbol s u e = ident_is_symbol s u (and_first (is_ident s) _ e)

-- ---- patterns

-- a row of patterns that spells them again
abbrev pub PatternsAgain : PatternTrees → List Placed → Type 0
PatternsAgain ps ts = (qs : PatternTrees) × SpellsPatterns qs ts × (pattern_trees_without_pos qs ≡ pattern_trees_without_pos ps)

mutual
  pub pattern_again : (t : PatternTree) (ts : List Placed) → writable_pattern t ≡ true → Reads (pattern_sexpr t) ts
      → Again SpellsPattern pattern_tree_without_pos t ts
  pattern_again (pattern_var x p) ts h l =
      let n = name_again is_pname pname_is_symbol x ts h l in
      (pattern_var (ident_at x n.0) n.0, (n.1, refl), refl)
  pattern_again (pattern_bind x t p) ts h l =
      let n = name_again is_pname pname_is_symbol x l.0 (and_first (is_pname x.0) (writable_pattern t) h) l.3 in
      let b = pattern_again t l.4.1 (and_second (is_pname x.0) (writable_pattern t) h) l.4.4 in (
        pattern_bind (ident_at x n.0) b.0 n.0,
        ((l.0, l.1, l.2, n.1, (l.4.0, l.4.1, l.4.2, l.4.3, b.1)), refl),
        (λ i. pattern_bind (ident_without_pos x) (b.2 i) no_pos),
      )
  pattern_again (pattern_bool b p) ts h l =
      let n = truth_again b ts l in
      (pattern_bool b n.0, n.1, refl)
  pattern_again (pattern_int val big p) ts h l =
      let n = integer_again val big ts h l in
      (pattern_int val big n.0, n.1, refl)
  pattern_again (pattern_prim x p) ts h l =
      let n = constant_again x ts h l in
      (pattern_prim (ident_at x n.0) n.0, (n.1, refl), refl)
  pattern_again (pattern_term x args p) ts h l =
      let r = listed_row (name_sexpr x ∷ pattern_sexprs args) ts l in
      let n = name_again is_pattern_term pattern_term_is_symbol x r.4.0 (and_first (is_pattern_term x.0) (writable_patterns args) h) r.4.3 in
      let s = row_split (pattern_sexprs args) (Closes tt) r.4.1 r.4.4 in
      let a = patterns_again args s.0 (and_second (is_pattern_term x.0) (writable_patterns args) h) s.3 in (
        pattern_term (ident_at x n.0) a.0 r.3.0,
        (r.0, r.1, r.2, r.3.1, (r.4.0, r.4.1, r.4.2, n.1, (s.0, s.1, s.2, a.1, s.4))),
        (λ i. pattern_term (ident_without_pos x) (a.2 i) no_pos),
      )
  pattern_again (pattern_wildcard p) ts h l =
      let n = word_again (codes "_") ts refl l in
      (pattern_wildcard n.0, n.1, refl)
  pattern_again (pattern_and args p) ts h l =
      let r = listed_row (sexpr_atom (codes "and") ∷ pattern_sexprs args) ts l in
      let n = word_again (codes "and") r.4.0 refl r.4.3 in
      let s = row_split (pattern_sexprs args) (Closes tt) r.4.1 r.4.4 in
      let a = patterns_again args s.0 h s.3 in (
        pattern_and a.0 r.3.0,
        (r.0, r.1, r.2, r.3.1, (r.4.0, r.4.1, r.4.2, n, (s.0, s.1, s.2, a.1, s.4))),
        (λ i. pattern_and (a.2 i) no_pos),
      )
  pattern_again (pattern_macro_arg k p) ts h l = absurd (cc)

  pub patterns_again : (ps : PatternTrees) (ts : List Placed) → writable_patterns ps ≡ true → Each Reads (pattern_sexprs ps) ts → PatternsAgain ps ts
  patterns_again no_patterns ts h l = (no_patterns, l, refl)
  patterns_again (more_patterns t ps) ts h l =
      let first = pattern_again t l.0 (and_first (writable_pattern t) (writable_patterns ps) h) l.3 in
      let others = patterns_again ps l.1 (and_second (writable_pattern t) (writable_patterns ps) h) l.4 in
      (more_patterns first.0 others.0, (l.0, l.1, l.2, first.1, others.1), (λ i. more_patterns (first.2 i) (others.2 i)))

-- ---- expressions

-- rows of expressions and of a `let`'s variables that spell them again
abbrev pub ExprsAgain : ExprTrees → List Placed → Type 0
ExprsAgain es ts = (ds : ExprTrees) × SpellsExprs ds ts × (expr_trees_without_pos ds ≡ expr_trees_without_pos es)

abbrev pub LetsAgain : LetTrees → List Placed → Type 0
LetsAgain es ts = (ds : LetTrees) × SpellsLets ds ts × (let_trees_without_pos ds ≡ let_trees_without_pos es)

mutual
  pub expr_again : (t : ExprTree) (ts : List Placed) → writable_expr t ≡ true → Reads (expr_sexpr t) ts → Again SpellsExpr expr_tree_without_pos t ts
  expr_again (expr_term x args p) ts h l =
      let r = listed_row (name_sexpr x ∷ expr_sexprs args) ts l in
      let n = name_again is_expr_term expr_term_is_symbol x r.4.0 (and_first (is_expr_term x.0) (writable_exprs args) h) r.4.3 in
      let s = row_split (expr_sexprs args) (Closes tt) r.4.1 r.4.4 in
      let a = exprs_again args s.0 (and_second (is_expr_term x.0) (writable_exprs args) h) s.3 in (
        expr_term (ident_at x n.0) a.0 r.3.0,
        (r.0, r.1, r.2, r.3.1, (r.4.0, r.4.1, r.4.2, n.1, (s.0, s.1, s.2, a.1, s.4))),
        (λ i. expr_term (ident_without_pos x) (a.2 i) no_pos),
      )
  expr_again (expr_var x p) ts h l =
      let n = name_again is_name name_is_symbol x ts h l in
      (expr_var (ident_at x n.0) n.0, (n.1, refl), refl)
  expr_again (expr_bool b p) ts h l =
      let n = truth_again b ts l in
      (expr_bool b n.0, n.1, refl)
  expr_again (expr_int val big p) ts h l =
      let n = integer_again val big ts h l in
      (expr_int val big n.0, n.1, refl)
  expr_again (expr_prim x p) ts h l =
      let n = constant_again x ts h l in
      (expr_prim (ident_at x n.0) n.0, (n.1, refl), refl)
  expr_again (expr_let ds t p) ts h l =
      let r = listed_row (sexpr_atom (codes "let") ∷ listed (let_sexprs ds) ∷ expr_sexpr t ∷ []) ts l in
      let n = word_again (codes "let") r.4.0 refl r.4.3 in
      let q = listed_then (let_sexprs ds) (Reads (expr_sexpr t) ⊙ Closes tt) r.4.1 r.4.4 in
      let s = row_split (let_sexprs ds) (Closes tt ⊙ (Reads (expr_sexpr t) ⊙ Closes tt)) q.1 q.4 in
      let a = lets_again ds s.0 (and_first (writable_lets ds) (writable_expr t) h) s.3 in
      let b = expr_again t s.4.4.0 (and_second (writable_lets ds) (writable_expr t) h) s.4.4.3 in (
        expr_let a.0 b.0 r.3.0,
        (
          r.0,
          r.1,
          r.2,
          r.3.1,
          (
            r.4.0,
            r.4.1,
            r.4.2,
            n,
            (q.0, q.1, q.2, q.3, (s.0, s.1, s.2, a.1, (s.4.0, s.4.1, s.4.2, s.4.3, (s.4.4.0, s.4.4.1, s.4.4.2, b.1, s.4.4.4)))),
          ),
        ),
        (λ i. expr_let (a.2 i) (b.2 i) no_pos),
      )

  pub exprs_again : (es : ExprTrees) (ts : List Placed) → writable_exprs es ≡ true → Each Reads (expr_sexprs es) ts → ExprsAgain es ts
  exprs_again no_exprs ts h l = (no_exprs, l, refl)
  exprs_again (more_exprs t es) ts h l =
      let first = expr_again t l.0 (and_first (writable_expr t) (writable_exprs es) h) l.3 in
      let others = exprs_again es l.1 (and_second (writable_expr t) (writable_exprs es) h) l.4 in
      (more_exprs first.0 others.0, (l.0, l.1, l.2, first.1, others.1), (λ i. more_exprs (first.2 i) (others.2 i)))

  pub lets_again : (es : LetTrees) (ts : List Placed) → writable_lets es ≡ true → Each Reads (let_sexprs es) ts → LetsAgain es ts
  lets_again no_lets ts h l = (no_lets, l, refl)
  lets_again (more_lets x y t p es) ts h l =
      let one = and_first (writable_ident x && writable_ident y && writable_expr t) (writable_lets es) h in
      let names = and_first (writable_ident x && writable_ident y) (writable_expr t) one in
      let r = listed_row (name_sexpr x ∷ name_sexpr y ∷ expr_sexpr t ∷ []) l.0 l.3 in
      let n = name_again is_ident ident_is_symbol x r.4.0 (and_first (writable_ident x) (writable_ident y) names) r.4.3 in
      let m = name_again is_ident ident_is_symbol y r.4.4.0 (and_second (writable_ident x) (writable_ident y) names) r.4.4.3 in
      let b = expr_again t r.4.4.4.0 (and_second (writable_ident x && writable_ident y) (writable_expr t) one) r.4.4.4.3 in
      let others = lets_again es l.1 (and_second (writable_ident x && writable_ident y && writable_expr t) (writable_lets es) h) l.4 in (
        more_lets (ident_at x n.0) (ident_at y m.0) b.0 r.3.0 others.0,
        (
          l.0,
          l.1,
          l.2,
          (
            r.0,
            r.1,
            r.2,
            r.3.1,
            (
              r.4.0,
              r.4.1,
              r.4.2,
              n.1,
              (r.4.4.0, r.4.4.1, r.4.4.2, m.1, (r.4.4.4.0, r.4.4.4.1, r.4.4.4.2, b.1, r.4.4.4.4)),
            ),
          ),
          others.1,
        ),
        (λ i. more_lets (ident_without_pos x) (ident_without_pos y) (b.2 i) no_pos (others.2 i)),
      )

-- ---- kept items

abbrev pub ItemsAgain : ItemTrees → List Placed → Type 0
ItemsAgain xs ts = (ys : ItemTrees) × SpellsItems ys ts × (item_trees_without_pos ys ≡ item_trees_without_pos xs)

mutual
  pub item_again : (t : ItemTree) (ts : List Placed) → writable_item t ≡ true → Reads (item_sexpr t) ts → Again SpellsItem item_tree_without_pos t ts
  item_again (item_int val p) ts h l =
      let n = signed_reading val ts (fits_signed val h) l.1 in
      (item_int val n.0, n.1, refl)
  item_again (item_big val p) ts h l =
      let n = large_again val ts h l in
      (item_big val n.0, n.1, refl)
  item_again (item_symbol x) ts h l =
      let n = symbol_reading x.0 ts h l.1 in
      (item_symbol (ident_at x n.0), n.1, refl)
  item_again (item_at p) ts h l =
      let n = at_sign_reading ts l.1 in
      (item_at n.0, n.1, refl)
  item_again (item_list items p) ts h l =
      let r = listed_row (item_sexprs items) ts l in
      let s = row_split (item_sexprs items) (Closes tt) r.1 r.4 in
      let a = items_again items s.0 h s.3 in
      (item_list a.0 r.3.0, (r.0, r.1, r.2, r.3.1, (s.0, s.1, s.2, a.1, s.4)), (λ i. item_list (a.2 i) no_pos))

  pub items_again : (xs : ItemTrees) (ts : List Placed) → writable_items xs ≡ true → Each Reads (item_sexprs xs) ts → ItemsAgain xs ts
  items_again no_items ts h l = (no_items, l, refl)
  items_again (more_items t xs) ts h l =
      let first = item_again t l.0 (and_first (writable_item t) (writable_items xs) h) l.3 in
      let others = items_again xs l.1 (and_second (writable_item t) (writable_items xs) h) l.4 in
      (more_items first.0 others.0, (l.0, l.1, l.2, first.1, others.1), (λ i. more_items (first.2 i) (others.2 i)))
