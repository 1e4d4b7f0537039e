-- Tokens of the S-expressions of rules spell these again.
use Rattle.std.proofs.Common.{◌≡◌, List, [], ◌∷◌, ◌++◌, map, true, Option, None, Some, refl, ap, ◌∙◌, sym, subst}
use Rattle.std.specs.Prelude.{ℤ, ◌&&◌, codes}
use Rattle.std.specs.Option.{option_map}
use Rattle.std.specs.List.{list_all}
use Rattle.isle_ast.specs.declared.ast.Ident.{Ident}
use Rattle.isle_ast.specs.declared.ast.Expr.{Expr}
use Rattle.isle_ast.specs.declared.ast.Expr.TheVariants as expr
use Rattle.isle_ast.specs.declared.ast.Pattern.{Pattern}
use Rattle.isle_ast.specs.declared.ast.IfLet.{IfLet}
use Rattle.isle_ast.specs.declared.ast.Rule.{Rule as RuleTree}
use Rattle.isle_ast.specs.Trees.PatternTree.{PatternTree, pattern_var, pattern_bind, pattern_bool, pattern_int, pattern_prim, pattern_term}
use Rattle.isle_ast.specs.Trees.PatternTree.{pattern_wildcard, pattern_and, pattern_macro_arg}
use Rattle.isle_ast.specs.Trees.PatternShape.{pattern_of}
use Rattle.isle_ast.specs.Trees.ExprTree.{ExprTree, expr_term, expr_var, expr_bool, expr_int, expr_prim, expr_let}
use Rattle.isle_ast.specs.Trees.ExprShape.{expr_of}
use Rattle.isle_syntax.specs.Inside.Reading.DefReading.{expr_from}
use Rattle.isle_syntax.specs.Tokens.PlacedTokens.{Placed}
use Rattle.isle_syntax.specs.Grammar.Phrases.{◌⊙◌, Closes, Each, first_pos}
use Rattle.isle_syntax.specs.Grammar.TreeGrammar.{IsList, SpellsExpr}
use Rattle.isle_syntax.specs.Grammar.DefGrammar.{SpellsName, SpellsPriority, SpellsIfLet, if_let, is_clause_word, IsRightSide, SpellsRule}
use Rattle.isle_ast.specs.Trees.WithoutPos.{no_pos, ident_without_pos, pattern_without_pos, expr_tree_without_pos, expr_without_pos}
use Rattle.isle_ast.specs.Trees.WithoutPos.{iflet_without_pos, rule_without_pos}
use Rattle.isle_syntax.proofs.Reading.Basics.{group_left}
use Rattle.isle_syntax.proofs.Reading.SymbolKinds.{and_first, and_second, not_false}
use Rattle.isle_layout.specs.SExprTree.{SExprTree, sexpr_atom}
use Rattle.isle_layout.specs.Spellings.{pattern_sexpr, expr_sexpr}
use Rattle.isle_layout.specs.DefSpellings.{rule_name, rule_priority, iflet_sexpr}
use Rattle.isle_layout.specs.Writable.{writable_pattern, writable_expr, writable_rule_name, writable_priority, writable_iflet, is_list, is_right_side}
use Rattle.isle_layout.specs.Writable.{writable_rule}
use Rattle.isle_layout.proofs.Atoms.AtomReadings.{signed_reading}
use Rattle.isle_layout.proofs.Atoms.DefAtoms.{fits_small, wider}
use Rattle.isle_layout.proofs.SpeltTexts.WithoutPos.{list_same, right_same}
use Rattle.isle_layout.proofs.ReadsBack.Rows.{Reads, Row, listed_row, row_append, Again, AllAgain}
use Rattle.isle_layout.proofs.ReadsBack.Trees.{word_again, expr_again}
use Rattle.isle_layout.proofs.ReadsBack.Types.{ident_again}
use Rattle.isle_layout.proofs.ReadsBack.Terms.{whole_pattern_again}

-- ---- whole expressions

pub expr_there : (t : ExprTree) → expr_of (expr_from t) ≡ t
expr_there (expr_term _ _ _) = refl
expr_there (expr_var _ _) = refl
expr_there (expr_bool _ _) = refl
expr_there (expr_int _ _ _) = refl
expr_there (expr_prim _ _) = refl
expr_there (expr_let _ _ _) = refl

pub expr_moved : (t : ExprTree) → expr_without_pos (expr_from t) ≡ expr_from (expr_tree_without_pos t)
expr_moved (expr_term _ _ _) = refl
expr_moved (expr_var _ _) = refl
expr_moved (expr_bool _ _) = refl
expr_moved (expr_int _ _ _) = refl
expr_moved (expr_prim _ _) = refl
expr_moved (expr_let _ _ _) = refl

pub expr_back : (e : Expr) → expr_from (expr_tree_without_pos (expr_of e)) ≡ expr_without_pos e
expr_back (expr.Term _ _ _) = refl
expr_back (expr.Var _ _) = refl
expr_back (expr.ConstBool _ _) = refl
expr_back (expr.ConstInt _ _ _) = refl
expr_back (expr.ConstPrim _ _) = refl
expr_back (expr.Let _ _ _) = refl

whole_expr_again : (e : Expr) (ts : List Placed) → writable_expr (expr_of e) ≡ true → Reads (expr_sexpr (expr_of e)) ts
    → Again (λ d. SpellsExpr (expr_of d)) expr_without_pos e ts
whole_expr_again e ts h l =
    let a = expr_again (expr_of e) ts h l in
    (expr_from a.0, subst (λ t. SpellsExpr t ts) (sym (expr_there a.0)) a.1, expr_moved a.0 ∙ ap expr_from a.2 ∙ expr_back e)

-- ---- lists and right sides

list_again : (t : PatternTree) → is_list t ≡ true → IsList t
list_again (pattern_var _ _) e = absurd (cc)
list_again (pattern_bind _ _ _) e = absurd (cc)
list_again (pattern_bool _ _) e = absurd (cc)
list_again (pattern_int _ _ _) e = absurd (cc)
list_again (pattern_prim _ _) e = absurd (cc)
list_again (pattern_term _ _ _) e = tt
list_again (pattern_wildcard _) e = absurd (cc)
list_again (pattern_and _ _) e = tt
list_again (pattern_macro_arg _ _) e = absurd (cc)

right_again : (t : ExprTree) → is_right_side t ≡ true → IsRightSide t
right_again (expr_term x _ _) e = not_false (is_clause_word x.0) e
right_again (expr_var _ _) e = tt
right_again (expr_bool _ _) e = tt
right_again (expr_int _ _ _) e = tt
right_again (expr_prim _ _) e = tt
right_again (expr_let _ _ _) e = tt

list_kept : (p q : Pattern) → pattern_without_pos q ≡ pattern_without_pos p → is_list (pattern_of p) ≡ true → IsList (pattern_of q)
list_kept p q e h = list_again (pattern_of q) (sym (list_same q) ∙ ap (λ x. is_list (pattern_of x)) e ∙ list_same p ∙ h)

right_kept : (e d : Expr) → expr_without_pos d ≡ expr_without_pos e → is_right_side (expr_of e) ≡ true → IsRightSide (expr_of d)
right_kept e d same h = right_again (expr_of d) (sym (right_same d) ∙ ap (λ x. is_right_side (expr_of x)) same ∙ right_same e ∙ h)

-- ---- names and priorities

name_part : (name : Option Ident) (K : List Placed → Type 0) (ts : List Placed) → writable_rule_name name ≡ true → Row (rule_name name) K ts
    → (x : Option Ident) × (SpellsName x ⊙ K) ts × (option_map ident_without_pos x ≡ option_map ident_without_pos name)
name_part None K ts h l = (None, ([], ts, refl, refl, l), refl)
name_part (Some x) K ts h l =
    let n = ident_again x l.0 h l.3 in
    (Some n.0, (l.0, l.1, l.2, n.1, l.4), (λ i. Some (n.2 i)))

priority_part : (prio : Option ℤ) (K : List Placed → Type 0) (ts : List Placed) → writable_priority prio ≡ true → Row (rule_priority prio) K ts
    → (SpellsPriority prio ⊙ K) ts
priority_part None K ts h l = ([], ts, refl, refl, l)
priority_part (Some z) K ts h l =
    let n = signed_reading z l.0 (wider z (fits_small z h)) l.3.1 in
    (l.0, l.1, l.2, (n.0, n.1, h), l.4)

-- ---- conditions

iflet_again : (c : IfLet) (ts : List Placed) → writable_iflet c ≡ true → Reads (iflet_sexpr c) ts → Again SpellsIfLet iflet_without_pos c ts
iflet_again c ts h l =
    let r = listed_row (sexpr_atom (codes "if-let") ∷ pattern_sexpr (pattern_of c.pattern) ∷ expr_sexpr (expr_of c.expr) ∷ []) ts l in
    let p = whole_pattern_again c.pattern r.4.4.0 (and_first (writable_pattern (pattern_of c.pattern)) (writable_expr (expr_of c.expr)) h) r.4.4.3 in
    let e = whole_expr_again c.expr r.4.4.4.0 (and_second (writable_pattern (pattern_of c.pattern)) (writable_expr (expr_of c.expr)) h) r.4.4.4.3 in (
      record { pattern = p.0; expr = e.0; pos = r.3.0 },
      if_let (
        r.0,
        r.1,
        r.2,
        r.3.1,
        (
          r.4.0,
          r.4.1,
          r.4.2,
          word_again (codes "if-let") r.4.0 refl r.4.3,
          (r.4.4.0, r.4.4.1, r.4.4.2, p.1, (r.4.4.4.0, r.4.4.4.1, r.4.4.4.2, e.1, r.4.4.4.4)),
        ),
      ),
      (λ i. record { pattern = p.2 i; expr = e.2 i; pos = no_pos }),
    )

iflets_again : (cs : List IfLet) (K : List Placed → Type 0) (ts : List Placed) → list_all writable_iflet cs ≡ true → Row (map iflet_sexpr cs) K ts
    → AllAgain SpellsIfLet iflet_without_pos cs K ts
iflets_again [] K ts h l = ([], ([], ts, refl, refl, l), refl)
iflets_again (c ∷ cs) K ts h l =
    let first = iflet_again c l.0 (and_first (writable_iflet c) (list_all writable_iflet cs) h) l.3 in
    let others = iflets_again cs K l.1 (and_second (writable_iflet c) (list_all writable_iflet cs) h) l.4 in (
      first.0 ∷ others.0,
      group_left (SpellsIfLet first.0) (Each SpellsIfLet others.0) K ts (l.0, l.1, l.2, first.1, others.1),
      (λ i. first.2 i ∷ others.2 i),
    )

-- ---- rules

abbrev pub right_row : RuleTree → List SExprTree
right_row r = expr_sexpr (expr_of r.expr) ∷ []

abbrev pub body_row : RuleTree → List SExprTree
body_row r = pattern_sexpr (pattern_of r.pattern) ∷ (map iflet_sexpr r.iflets ++ right_row r)

-- what stands behind the word `rule`
pub rule_again : (r : RuleTree) (ts : List Placed) → writable_rule r ≡ true
    → Row (rule_name r.name ++ (rule_priority r.prio ++ body_row r)) (Closes tt) ts → Again SpellsRule rule_without_pos r ts
rule_again r ts w l =
    let pattern = pattern_of r.pattern in
    let expr = expr_of r.expr in
    let start = writable_rule_name r.name && writable_priority r.prio in
    let five = and_first (start && is_list pattern && writable_pattern pattern && list_all writable_iflet r.iflets
    && is_right_side expr) (writable_expr expr) w in
    let four = and_first (start && is_list pattern && writable_pattern pattern && list_all writable_iflet r.iflets) (is_right_side expr) five in
    let three = and_first (start && is_list pattern && writable_pattern pattern) (list_all writable_iflet r.iflets) four in
    let two = and_first (start && is_list pattern) (writable_pattern pattern) three in
    let one = and_first start (is_list pattern) two in
    let n = name_part r.name (Row (rule_priority r.prio ++ body_row r) (Closes tt)) ts
    (and_first (writable_rule_name r.name) (writable_priority r.prio) one)
    (row_append (rule_name r.name) (rule_priority r.prio ++ body_row r) (Closes tt) ts l) in
    let q = priority_part r.prio (Row (body_row r) (Closes tt)) n.1.1 (and_second (writable_rule_name r.name) (writable_priority r.prio) one)
    (row_append (rule_priority r.prio) (body_row r) (Closes tt) n.1.1 n.1.4) in
    let p = whole_pattern_again r.pattern q.4.0 (and_second (start && is_list pattern) (writable_pattern pattern) three) q.4.3 in
    let c = iflets_again r.iflets (Row (right_row r) (Closes tt)) q.4.1 (and_second (start && is_list pattern
    && writable_pattern pattern) (list_all writable_iflet r.iflets) four)
    (row_append (map iflet_sexpr r.iflets) (right_row r) (Closes tt) q.4.1 q.4.4) in
    let e = whole_expr_again r.expr c.1.4.0
    (and_second (start && is_list pattern && writable_pattern pattern && list_all writable_iflet r.iflets
    && is_right_side expr) (writable_expr expr) w) c.1.4.3 in
    let list = list_kept r.pattern p.0 p.2 (and_second start (is_list pattern) two) in
    let right =
    right_kept r.expr e.0 e.2 (and_second (start && is_list pattern && writable_pattern pattern
    && list_all writable_iflet r.iflets) (is_right_side expr) five) in (
      record { pattern = p.0; iflets = c.0; expr = e.0; pos = first_pos ts; prio = r.prio; name = n.0 },
      (
        (
          n.1.0,
          n.1.1,
          n.1.2,
          n.1.3,
          (
            q.0,
            q.1,
            q.2,
            q.3,
            (q.4.0, q.4.1, q.4.2, p.1, (c.1.0, c.1.1, c.1.2, c.1.3, (c.1.4.0, c.1.4.1, c.1.4.2, (e.1, right), c.1.4.4))),
          ),
        ),
        list,
        refl,
      ),
      (λ i. record { pattern = p.2 i; iflets = c.2 i; expr = e.2 i; pos = no_pos; prio = r.prio; name = n.2 i }),
    )
