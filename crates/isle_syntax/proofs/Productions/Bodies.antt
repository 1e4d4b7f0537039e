-- Reading a rule's clauses and its right side follows the grammar.
use Rattle.std.proofs.Common.{◌≡◌, ℕ, zero, suc, ◌<◌, List, [], ◌∷◌, ◌++◌, length, Bool, true, false, refl, sym, ap, subst, ◌∙◌, length-append, arith}
use Rattle.std.specs.Prelude.{◌&&◌, ◌||◌, not, codes}
use Rattle.std.proofs.lemmas.Bool.{false≢true}
use Rattle.isle_ast.specs.declared.pos.Pos.{Pos}
use Rattle.isle_ast.specs.declared.ast.IfLet.{IfLet}
use Rattle.isle_ast.specs.Trees.PatternTree.{PatternTree, pattern_wildcard}
use Rattle.isle_ast.specs.Trees.PatternShape.{pattern_of}
use Rattle.isle_ast.specs.Trees.ExprTree.{ExprTree, expr_term, expr_var, expr_bool, expr_int, expr_prim, expr_let}
use Rattle.isle_ast.specs.Trees.ExprShape.{expr_of}
use Rattle.isle_syntax.specs.Tokens.PlacedTokens.{Placed, opening, closing, at_sign, symbol, int}
use Rattle.isle_syntax.specs.Tokens.Names.{is_word}
use Rattle.isle_syntax.specs.Grammar.Phrases.{◌⊙◌, Both, Opens, Closes, Word, Says, next_symbol_is, Each}
use Rattle.isle_syntax.specs.Grammar.TreeGrammar.{is_expr_term, SpellsPattern, SpellsExpr}
use Rattle.isle_syntax.specs.Inside.Reading.Readers.{Reader, seq, parens, closed, word, says}
use Rattle.isle_syntax.specs.Inside.Reading.TreeReading.{ident, pattern, expr, expr_inner, Inner, call, bound_in, inner_expr}
use Rattle.isle_syntax.specs.Grammar.DefGrammar.{SpellsIfLet, if_let, if_holds, is_clause_word, IsRightSide, SpellsRightSide}
use Rattle.isle_syntax.specs.Inside.Reading.DefReading.{pattern_from, expr_from, is_open_next, Body, Step, if_let_step, if_step, last_step, clause}
use Rattle.isle_syntax.specs.Inside.Reading.DefReading.{step_body, step_on, step, body_on, body, rule_body}
use Rattle.isle_syntax.proofs.Reading.Follows.{start, Begins, FollowsAt, Follows, Any, follows_seq, follows_seq_at}
use Rattle.isle_syntax.proofs.Reading.Cases.{Looks, follows_case}
use Rattle.isle_syntax.proofs.Reading.Flags.{names_looks}
use Rattle.isle_syntax.proofs.Reading.Basics.{follows_parens_at, follows_close, follows_word, follows_says, group_left, group_right, some_both}
use Rattle.isle_syntax.proofs.Reading.Basics.{some_closes, both_filled, opens_filled}
use Rattle.isle_syntax.proofs.Reading.Words.{underscores_are_ident}
use Rattle.isle_syntax.proofs.Trees.TreeForms.{pattern_of_from, pattern_from_of, expr_of_from, expr_from_of}
use Rattle.isle_syntax.proofs.Reading.PatternEnds.{follows_seq_before, both_not_at}
use Rattle.isle_syntax.proofs.Productions.Patterns.{some_pattern, follows_pattern}
use Rattle.isle_syntax.proofs.Productions.Exprs.{SpellsInner, Listed, inner_spelt, term_back, let_back, some_expr, expr_filled, expr_not_at}
use Rattle.isle_syntax.proofs.Productions.Exprs.{follows_expr, inner_filled, follows_inner}

-- the clauses, the right side and the closing parenthesis
abbrev pub SpellsBody : Body → List Placed → Type 0
SpellsBody b = Each SpellsIfLet b.0 ⊙ (SpellsRightSide b.1 ⊙ Closes tt)

-- no clause, in what stands in parentheses
abbrev NoClause : Inner → Type 0
NoClause (call x args) = is_clause_word x.0 ≡ false
NoClause (bound_in bindings e) = Unit {0}

-- a clause's inside, without its opening parenthesis
abbrev IfLetParts : PatternTree → ExprTree → List Placed → Type 0
IfLetParts pattern e = Says (codes "if-let") tt ⊙ (SpellsPattern pattern ⊙ (SpellsExpr e ⊙ Closes tt))

abbrev IfParts : Pos → ExprTree → List Placed → Type 0
IfParts q e = Word (codes "if") q ⊙ (SpellsExpr e ⊙ Closes tt)

abbrev SpellsStep : Step → List Placed → Type 0
SpellsStep (if_let_step pattern e more) = IfLetParts pattern e ⊙ SpellsBody more
SpellsStep (if_step q e more) = IfParts q e ⊙ SpellsBody more
SpellsStep (last_step x) = λ ts. (SpellsInner x ⊙ Closes tt) ts × NoClause x

-- ---- the first token

same_open : (t : Placed) (x y : List Placed) → is_open_next (t ∷ x) ≡ is_open_next (t ∷ y)
same_open (opening p) x y = refl
same_open (closing p) x y = refl
same_open (at_sign p) x y = refl
same_open (symbol p s) x y = refl
same_open (int p n) x y = refl

open_looks : Looks is_open_next
open_looks = record { same = same_open }

-- the words of clauses
abbrev words_at : List Placed → Bool × Bool
words_at ts = (next_symbol_is (is_word (codes "if-let")) ts, next_symbol_is (is_word (codes "if")) ts)

words_look : Looks words_at
words_look =
    record { same = λ t x y. (λ i. ((names_looks (is_word (codes "if-let"))).same t x y i, (names_looks (is_word (codes "if"))).same t x y i)) }

abbrev words_of : Step → Bool × Bool
words_of (if_let_step pattern e more) = (true, false)
words_of (if_step q e more) = (false, true)
words_of (last_step x) = (false, false)

or_false : (a b : Bool) → (a || b) ≡ false → (a ≡ false) × (b ≡ false)
or_false true b e = absurd (false≢true (sym e))
or_false false b e = (refl, e)

inner_words : (x : Inner) (M : List Placed → Type 0) (v : List Placed) → (SpellsInner x ⊙ M) v → NoClause x → words_at v ≡ (false, false)
inner_words (call x args) M v l clear =
    let first : v ≡ symbol x.1 x.0 ∷ (l.3.1 ++ l.1) = l.2 ∙ ap (λ k. k ++ l.1) (l.3.2 ∙ ap (λ k. k ++ l.3.1) l.3.3.0) in
    let no_words = or_false (is_word (codes "if-let") x.0) (is_word (codes "if") x.0) clear in
    ap words_at first ∙ (λ i. (no_words.0 i, no_words.1 i))
inner_words (bound_in bindings e) M v l clear = ap words_at (l.2 ∙ ap (λ k. k ++ l.1) (l.3.2 ∙ ap (λ k. k ++ l.3.1) l.3.3.1))

step_words : (b : Step) (v : List Placed) → SpellsStep b v → words_at v ≡ words_of b
step_words (if_let_step pattern e more) v l = ap words_at (l.2 ∙ ap (λ k. k ++ l.1) (l.3.2 ∙ ap (λ k. k ++ l.3.1) l.3.3.1))
step_words (if_step q e more) v l = ap words_at (l.2 ∙ ap (λ k. k ++ l.1) (l.3.2 ∙ ap (λ k. k ++ l.3.1) l.3.3))
step_words (last_step x) v l = inner_words x (Closes tt) v l.0 l.1

no_clause : (x : Inner) (v : List Placed) → (SpellsInner x ⊙ Closes tt) v → words_at v ≡ (false, false) → NoClause x
no_clause (call x args) v l at =
    let first : v ≡ symbol x.1 x.0 ∷ (l.3.1 ++ l.1) = l.2 ∙ ap (λ k. k ++ l.1) (l.3.2 ∙ ap (λ k. k ++ l.3.1) l.3.3.0) in
    let words : words_at (symbol x.1 x.0 ∷ (l.3.1 ++ l.1)) ≡ (false, false) = sym (ap words_at first) ∙ at in
    (λ i. (words i).0 || (words i).1)
no_clause (bound_in bindings e) v l at = tt

-- ---- what is filled

pub nothing_after : (u w : List Placed) → u ++ w ≡ [] → w ≡ []
nothing_after [] w e = e
nothing_after (t ∷ u) w e = absurd (cc)

right_side_filled : (e : ExprTree) (v : List Placed) → SpellsRightSide e v → v ≡ [] → ⊥
right_side_filled e v l h = expr_filled e v l.0 h

pub body_filled : (b : Body) (v : List Placed) → SpellsBody b v → v ≡ [] → ⊥
body_filled b v l e = both_filled SpellsRightSide Closes right_side_filled (b.1, tt) l.1 l.4 (nothing_after l.0 l.1 (sym l.2 ∙ e))

step_filled : (b : Step) (v : List Placed) → SpellsStep b v → v ≡ [] → ⊥
step_filled (if_let_step pattern e more) v l h = body_filled more l.1 l.4 (nothing_after l.0 l.1 (sym l.2 ∙ h))
step_filled (if_step q e more) v l h = body_filled more l.1 l.4 (nothing_after l.0 l.1 (sym l.2 ∙ h))
step_filled (last_step x) v l h = both_filled SpellsInner Closes inner_filled (x, tt) v l.0 h

some_right_expr : Begins SpellsRightSide []
some_right_expr = (expr_bool true start, symbol start (codes "true") ∷ [], (refl, tt))

some_right_side : Begins (Both SpellsRightSide Closes) []
some_right_side = some_both some_right_expr some_closes

pub some_body : Begins SpellsBody []
some_body = (([], some_right_side.0.0), some_right_side.1, ([], some_right_side.1, refl, refl, some_right_side.2))

underscores_are_term : is_expr_term (codes "__") ≡ true
underscores_are_term = ap (λ b. b && not (is_word (codes "let") (codes "__"))) underscores_are_ident

abbrev some_call : Inner
some_call = call (ident start (codes "__")) []

some_step : Begins SpellsStep []
some_step = (
  last_step some_call,
  symbol start (codes "__") ∷ closing start ∷ closing start ∷ [],
  (
    (
      symbol start (codes "__") ∷ closing start ∷ [],
      closing start ∷ [],
      refl,
      (symbol start (codes "__") ∷ [], closing start ∷ [], refl, (refl, underscores_are_term), ([], closing start ∷ [], refl, refl, (start, refl))),
      (start, refl),
    ),
    refl,
  ),
)

-- ---- clauses

-- a phrase and what follows it, as they are read together
abbrev pub IfLetRead : Unit {0} × (PatternTree × (ExprTree × Unit {0})) → List Placed → Type 0
IfLetRead = Both (Says (codes "if-let")) (Both SpellsPattern (Both SpellsExpr Closes))

abbrev pub IfRead : Pos × (ExprTree × Unit {0}) → List Placed → Type 0
IfRead = Both (Word (codes "if")) (Both SpellsExpr Closes)

some_expr_closed : Begins (Both SpellsExpr Closes) []
some_expr_closed = some_both some_expr some_closes

follows_expr_closed : (d : ℕ) → Follows (Both SpellsExpr Closes) Any d (suc d) (seq (expr d) closed)
follows_expr_closed d = follows_seq some_closes (follows_expr d) (follows_close d)

pub follows_if_let : (d : ℕ) → Follows IfLetRead Any d (suc d) (seq (says (codes "if-let")) (seq (pattern d) (seq (expr d) closed)))
follows_if_let d =
    follows_seq (some_both some_pattern some_expr_closed) (follows_says (codes "if-let") d)
    (follows_seq_before (λ b v w l fw. both_not_at SpellsExpr Closes expr_not_at b v w l) some_expr_closed (follows_pattern d)
    (follows_expr_closed d))

pub follows_if : (d : ℕ) → Follows IfRead Any d (suc d) (seq (word (codes "if")) (seq (expr d) closed))
follows_if d = follows_seq some_expr_closed (follows_word (codes "if") d) (follows_expr_closed d)

if_let_back : (b : Step) (v : List Placed) → SpellsStep b v → (words_at v).0 ≡ true → (a : (Unit {0} × (PatternTree × (ExprTree × Unit {0}))) × Body)
    × (b ≡ if_let_step a.0.1.0 a.0.1.1.0 a.1) × Both IfLetRead SpellsBody a v
if_let_back (if_let_step pattern e more) v l at = (((tt, (pattern, (e, tt))), more), refl, l)
if_let_back (if_step q e more) v l at = absurd (false≢true (sym (ap (λ k. k.0) (step_words (if_step q e more) v l)) ∙ at))
if_let_back (last_step x) v l at = absurd (false≢true (sym (ap (λ k. k.0) (step_words (last_step x) v l)) ∙ at))

if_back : (b : Step) (v : List Placed) → SpellsStep b v → words_at v ≡ (false, true) → (a : (Pos × (ExprTree × Unit {0})) × Body)
    × (b ≡ if_step a.0.0 a.0.1.0 a.1) × Both IfRead SpellsBody a v
if_back (if_let_step pattern e more) v l at =
    absurd (false≢true (sym (ap (λ k. k.0) at) ∙ ap (λ k. k.0) (step_words (if_let_step pattern e more) v l)))
if_back (if_step q e more) v l at = (((q, (e, tt)), more), refl, l)
if_back (last_step x) v l at = absurd (false≢true (sym (ap (λ k. k.1) (step_words (last_step x) v l)) ∙ ap (λ k. k.1) at))

last_back : (b : Step) (v : List Placed) → SpellsStep b v → words_at v ≡ (false, false) → (a : Inner × Unit {0}) × (b ≡ last_step a.0)
    × Both SpellsInner Closes a v
last_back (if_let_step pattern e more) v l at =
    absurd (false≢true (sym (ap (λ k. k.0) at) ∙ ap (λ k. k.0) (step_words (if_let_step pattern e more) v l)))
last_back (if_step q e more) v l at = absurd (false≢true (sym (ap (λ k. k.1) at) ∙ ap (λ k. k.1) (step_words (if_step q e more) v l)))
last_back (last_step x) v l at = ((x, tt), refl, l.0)

-- reading goes on with what is no longer
module _ (n d k : ℕ) (same : d ≡ suc n) (more : Reader Body) (ih : (r : List Placed) → length r < k
    → FollowsAt SpellsBody Any d (suc d) r (more r)) where
  follows_then : {A : Type 0} (L : A → List Placed → Type 0) (p : Reader A) → Follows L Any n (suc n) p → (ts : List Placed) → length ts < k
      → FollowsAt (Both L SpellsBody) Any n (suc d) ts (seq p more ts)
  follows_then L p good ts fits =
      follows_seq_at L SpellsBody Any Any n (suc n) (suc d) ts (λ b v w m fw. tt) some_body more (p ts) (good.reads ts)
      (λ a r g. subst (λ e. FollowsAt SpellsBody Any e (suc d) r (more r)) same
      (ih r (omega (arith, fits, ap length g.split, length-append g.used r))))

  follows_last : Follows (Both SpellsInner Closes) Any n (suc d) (seq (expr_inner n) closed)
  follows_last = follows_seq some_closes (follows_inner n) (subst (λ e. Follows Closes Any (suc n) (suc e) closed) (sym same) (follows_close (suc n)))

  follows_step_at : (ts : List Placed) → length ts < k → (b c : Bool) → words_at ts ≡ (b, c)
      → FollowsAt SpellsStep Any n (suc d) ts (step_on n more b c ts)
  follows_step_at ts fits true c at =
      follows_case (next_symbol_is (is_word (codes "if-let"))) (names_looks (is_word (codes "if-let"))) (Both IfLetRead SpellsBody) SpellsStep Any n
      (suc d) ts true (ap (λ k. k.0) at)
      (λ x. if_let_step x.0.1.0 x.0.1.1.0 x.1) (λ a u l h. l) if_let_back
      (λ a u l h. step_filled (if_let_step a.0.1.0 a.0.1.1.0 a.1) u l h) step_filled some_step
      (seq (seq (says (codes "if-let")) (seq (pattern n) (seq (expr n) closed))) more ts)
      (follows_then IfLetRead (seq (says (codes "if-let")) (seq (pattern n) (seq (expr n) closed))) (follows_if_let n) ts fits)
  follows_step_at ts fits false true at =
      follows_case words_at words_look (Both IfRead SpellsBody) SpellsStep Any n (suc d) ts (false, true) at (λ x. if_step x.0.0 x.0.1.0 x.1)
      (λ a u l h. l) if_back
      (λ a u l h. step_filled (if_step a.0.0 a.0.1.0 a.1) u l h) step_filled some_step
      (seq (seq (word (codes "if")) (seq (expr n) closed)) more ts)
      (follows_then IfRead (seq (word (codes "if")) (seq (expr n) closed)) (follows_if n) ts fits)
  follows_step_at ts fits false false at =
      follows_case words_at words_look (Both SpellsInner Closes) SpellsStep Any n (suc d) ts (false, false) at (λ x. last_step x.0)
      (λ a u l h. (l, no_clause a.0 u l h)) last_back
      (both_filled SpellsInner Closes inner_filled) step_filled some_step
      (seq (expr_inner n) closed ts) (follows_last.reads ts)

  follows_step : (ts : List Placed) → length ts < k → FollowsAt SpellsStep Any n (suc d) ts (step more n ts)
  follows_step ts fits = follows_step_at ts fits (next_symbol_is (is_word (codes "if-let")) ts) (next_symbol_is (is_word (codes "if")) ts) refl

-- ---- from steps to clauses and the right side

-- a clause with its trees
abbrev ClauseAt : PatternTree → ExprTree → Pos → List Placed → Type 0
ClauseAt pattern e p = Opens p ⊙ (Says (codes "if-let") tt ⊙ (SpellsPattern pattern ⊙ (SpellsExpr e ⊙ Closes tt)))

clause_spelt : (t : PatternTree) (e : ExprTree) (p : Pos) (u : List Placed) → ClauseAt t e p u → SpellsIfLet (clause t e p) u
clause_spelt t e p u l =
    if_let (subst (λ k. ClauseAt k (expr_of (expr_from e)) p u) (sym (pattern_of_from t)) (subst (λ k. ClauseAt t k p u) (sym (expr_of_from e)) l))

condition_spelt : (q : Pos) (e : ExprTree) (p : Pos) (u : List Placed) → (Opens p ⊙ IfParts q e) u → SpellsIfLet (clause (pattern_wildcard q) e p) u
condition_spelt q e p u l = if_holds q (subst (λ k. (Opens p ⊙ IfParts q k) u) (sym (expr_of_from e)) l) refl

right_side : (p : Pos) (x : Inner) → NoClause x → IsRightSide (inner_expr p x)
right_side p (call x args) h = h
right_side p (bound_in bindings e) h = tt

from_right_side : (p : Pos) (x : Inner) → IsRightSide (inner_expr p x) → NoClause x
from_right_side p (call x args) h = h
from_right_side p (bound_in bindings e) h = tt

-- one more clause before the rest
clause_before : (c : IfLet) (C : List Placed → Type 0) (b : Body) (p : Pos) (u : List Placed)
    → ((v : List Placed) → (Opens p ⊙ C) v → SpellsIfLet c v) → (Opens p ⊙ (C ⊙ SpellsBody b)) u → SpellsBody (c ∷ b.0, b.1) u
clause_before c C b p u spelt l =
    let h = group_left (Opens p) C (SpellsBody b) u l in
    group_left (SpellsIfLet c) (Each SpellsIfLet b.0) (SpellsRightSide b.1 ⊙ Closes tt) u (h.0, h.1, h.2, spelt h.0 h.3, h.4)

step_into : (p : Pos) (s : Step) (u : List Placed) → (Opens p ⊙ SpellsStep s) u → SpellsBody (step_body p s) u
step_into p (if_let_step t e more) u l = clause_before (clause t e p) (IfLetParts t e) more p u (clause_spelt t e p) l
step_into p (if_step q e more) u l = clause_before (clause (pattern_wildcard q) e p) (IfParts q e) more p u (condition_spelt q e p) l
step_into p (last_step x) u l =
    let h = group_left (Opens p) (SpellsInner x) (Closes tt) u (l.0, l.1, l.2, l.3, l.4.0) in
    ([], u, refl, refl, (h.0, h.1, h.2, (inner_spelt p x h.0 h.3, right_side p x l.4.1), h.4))

-- an expression that begins with a parenthesis
expr_opens : (e : ExprTree) (v w : List Placed) → SpellsExpr e v → is_open_next (v ++ w) ≡ true → (i : Pos × Inner) × (e ≡ inner_expr i.0 i.1)
    × Listed i v
expr_opens (expr_term x es p) v w l at = term_back x es p v l
expr_opens (expr_let ds e p) v w l at = let_back ds e p v l
expr_opens (expr_var x p) v w l at = absurd (false≢true (ap (λ k. is_open_next (k ++ w)) (sym l.0.0) ∙ at))
expr_opens (expr_bool b p) v w l at = absurd (false≢true (ap (λ k. is_open_next (k ++ w)) (sym l) ∙ at))
expr_opens (expr_int val big p) v w l at = absurd (false≢true (ap (λ k. is_open_next (k ++ w)) (sym l.1) ∙ at))
expr_opens (expr_prim x p) v w l at = absurd (false≢true (ap (λ k. is_open_next (k ++ w)) (sym l.0.0) ∙ at))

-- the clause of which these are the trees
clause_same : (c : IfLet) (t : PatternTree) → pattern_of c.pattern ≡ t → c ≡ clause t (expr_of c.expr) c.pos
clause_same c t e = (λ i. record {
  pattern = (sym (pattern_from_of c.pattern) ∙ ap pattern_from e) i;
  expr = sym (expr_from_of c.expr) i;
  pos = c.pos;
})

abbrev StepFor : Body → List Placed → Type 0
StepFor b v = (a : Pos × Step) × (b ≡ step_body a.0 a.1) × Both Opens SpellsStep a v

clause_back : (c : IfLet) (rest : List IfLet) (e : ExprTree) (v : List Placed) → (k : (SpellsIfLet c ⊙ SpellsBody (rest, e)) v) → SpellsIfLet c k.0
    → StepFor (c ∷ rest, e) v
clause_back c rest e v k (if_let l) = (
  (c.pos, if_let_step (pattern_of c.pattern) (expr_of c.expr) (rest, e)),
  (λ i. (clause_same c (pattern_of c.pattern) refl i ∷ rest, e)),
  group_right (Opens c.pos) (IfLetParts (pattern_of c.pattern) (expr_of c.expr)) (SpellsBody (rest, e)) v (k.0, k.1, k.2, l, k.4),
)
clause_back c rest e v k (if_holds q l same) = (
  (c.pos, if_step q (expr_of c.expr) (rest, e)),
  (λ i. (clause_same c (pattern_wildcard q) same i ∷ rest, e)),
  group_right (Opens c.pos) (IfParts q (expr_of c.expr)) (SpellsBody (rest, e)) v (k.0, k.1, k.2, l, k.4),
)

step_back : (b : Body) (v : List Placed) → SpellsBody b v → is_open_next v ≡ true → StepFor b v
step_back (c ∷ rest, e) v l at =
    let k = group_right (SpellsIfLet c) (Each SpellsIfLet rest) (SpellsRightSide e ⊙ Closes tt) v l in
    clause_back c rest e v k k.3
step_back ([], e) v l at =
    let whole : v ≡ l.4.0 ++ l.4.1 = l.2 ∙ ap (λ k. k ++ l.1) l.3 ∙ l.4.2 in
    let i = expr_opens e l.4.0 l.4.1 l.4.3.0 (ap is_open_next (sym whole) ∙ at) in
    let inside = group_right (Opens i.0.0) (SpellsInner i.0.1) (Closes tt) v (l.4.0, l.4.1, whole, i.2, l.4.4) in (
      (i.0.0, last_step i.0.1),
      ap (λ k. ([], k)) i.1,
      (inside.0, inside.1, inside.2, inside.3, (inside.4, from_right_side i.0.0 i.0.1 (subst IsRightSide i.1 l.4.3.1))),
    )

clause_opens : (c : IfLet) (v w : List Placed) → SpellsIfLet c v → is_open_next (v ++ w) ≡ true
clause_opens c v w (if_let l) = ap (λ k. is_open_next (k ++ w)) (l.2 ∙ ap (λ k. k ++ l.1) l.3)
clause_opens c v w (if_holds q l same) = ap (λ k. is_open_next (k ++ w)) (l.2 ∙ ap (λ k. k ++ l.1) l.3)

-- a right side without parentheses
plain_right_side : (e : ExprTree) (v : List Placed) → (SpellsExpr e ⊙ Closes tt) v → is_open_next v ≡ false → IsRightSide e
plain_right_side (expr_term x es p) v l at =
    absurd (false≢true (sym at ∙ ap is_open_next (l.2 ∙ ap (λ k. k ++ l.1) (l.3.2 ∙ ap (λ k. k ++ l.3.1) l.3.3))))
plain_right_side (expr_let ds e p) v l at = tt
plain_right_side (expr_var x p) v l at = tt
plain_right_side (expr_bool b p) v l at = tt
plain_right_side (expr_int val big p) v l at = tt
plain_right_side (expr_prim x p) v l at = tt

plain_back : (b : Body) (v : List Placed) → SpellsBody b v → is_open_next v ≡ false → (a : ExprTree × Unit {0}) × (b ≡ ([], a.0))
    × Both SpellsExpr Closes a v
plain_back (c ∷ rest, e) v l at =
    let k = group_right (SpellsIfLet c) (Each SpellsIfLet rest) (SpellsRightSide e ⊙ Closes tt) v l in
    absurd (false≢true (sym at ∙ ap is_open_next k.2 ∙ clause_opens c k.0 k.1 k.3))
plain_back ([], e) v l at = ((e, tt), refl, (l.4.0, l.4.1, l.2 ∙ ap (λ k. k ++ l.1) l.3 ∙ l.4.2, l.4.3.0, l.4.4))

-- ---- the body

follows_body_turn : (d k : ℕ) (more : Reader Body) → ((r : List Placed) → length r < k → FollowsAt SpellsBody Any d (suc d) r (more r))
    → (ts : List Placed) → length ts < suc k
    → (b : Bool) → is_open_next ts ≡ b → FollowsAt SpellsBody Any d (suc d) ts (body_on d more b ts)
follows_body_turn d k more ih ts fits true at =
    follows_case is_open_next open_looks (Both Opens SpellsStep) SpellsBody Any d (suc d) ts true at (λ x. step_body x.0 x.1)
    (λ a u l h. step_into a.0 a.1 u l) step_back
    (both_filled Opens SpellsStep opens_filled) body_filled some_body (parens d (step more) ts)
    (follows_parens_at Any d (suc d) (step more) ts some_step (λ n same r shorter. follows_step n d k same more ih r (omega (arith, shorter, fits))))
follows_body_turn d k more ih ts fits false at =
    follows_case is_open_next open_looks (Both SpellsExpr Closes) SpellsBody Any d (suc d) ts false at (λ x. ([], x.0))
    (λ a u l h. ([], u, refl, refl, (l.0, l.1, l.2, (l.3, plain_right_side a.0 u l h), l.4))) plain_back
    (both_filled SpellsExpr Closes expr_filled) body_filled some_body (seq (expr d) closed ts) ((follows_expr_closed d).reads ts)

follows_body : (d k : ℕ) (ts : List Placed) → length ts < k → FollowsAt SpellsBody Any d (suc d) ts (body d k ts)
unfolding body
follows_body d zero ts fits = absurd (omega arith)
follows_body d (suc k) ts fits = follows_body_turn d k (body d k) (follows_body d k) ts fits (is_open_next ts) refl

pub follows_rule_body : (d : ℕ) → Follows SpellsBody Any d (suc d) (rule_body d)
follows_rule_body d = record { reads = λ ts. follows_body d (suc (length ts)) ts (omega arith) }
