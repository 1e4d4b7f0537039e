-- A loop that reads the clauses of a rule, a turn at a time.
use Rattle.std.proofs.Common.{◌≡◌, ℕ, zero, suc, ◌-◌, ◌<◌, ◌≤◌, List, [], ◌∷◌, ◌++◌, length, true, false, refl, sym, ap, ◌∙◌, append_assoc}
use Rattle.std.proofs.Common.{append-nil, length-append, arith}
use Rattle.std.specs.Prelude.{codes}
use Rattle.isle_ast.specs.declared.pos.Pos.{Pos}
use Rattle.isle_ast.specs.declared.ast.IfLet.{IfLet}
use Rattle.isle_ast.specs.Trees.PatternTree.{PatternTree, pattern_wildcard}
use Rattle.isle_ast.specs.Trees.ExprTree.{ExprTree}
use Rattle.isle_syntax.specs.Tokens.PlacedTokens.{Placed, opening, closing, at_sign, symbol, int}
use Rattle.isle_syntax.specs.Tokens.Names.{is_word}
use Rattle.isle_syntax.specs.Grammar.Phrases.{next_symbol_is}
use Rattle.isle_syntax.specs.Inside.Reading.Parsing.{Stop, nowhere, stop_of}
use Rattle.isle_syntax.specs.Inside.Reading.Readers.{Read, done, fault, deep, Reader, read_map, seq, opened, shut, opened_within, closed}
use Rattle.isle_syntax.specs.Inside.Reading.TreeReading.{expr, expr_inner, inner_expr}
use Rattle.isle_syntax.specs.Inside.Reading.DefReading.{is_open_next, Body, if_let_step, if_step, last_step, clause, step_body, step_on, step, body_on, body}
use Rattle.isle_syntax.specs.Inside.Reading.DefReading.{rule_body, if_let_read, if_read}
use Rattle.isle_syntax.proofs.Reading.Follows.{FollowsAt, Any}
use Rattle.isle_syntax.proofs.Reading.ReadSteps.{fuse, map_seq_done}
use Rattle.isle_syntax.proofs.Reading.Loops.{stop_map, stop_after}
use Rattle.isle_syntax.proofs.Productions.Bodies.{IfLetRead, IfRead, follows_if_let, follows_if}

-- ---- lengths

shut_nothing : (ts r : List Placed) (p : Pos) → shut ts ≡ done p r → ⊥
shut_nothing [] r p e = cc
shut_nothing (opening q ∷ ts) r p e = cc
shut_nothing (closing q ∷ ts) r p e = cc
shut_nothing (at_sign q ∷ ts) r p e = cc
shut_nothing (symbol q s ∷ ts) r p e = cc
shut_nothing (int q z ∷ ts) r p e = cc

pub opened_shorter : (ts r : List Placed) (p : Pos) → opened ts ≡ done p r → length r < length ts
opened_shorter [] r p e = absurd (cc)
opened_shorter (opening q ∷ ts) r p e = let same : ts ≡ r = cc in omega (arith, ap length same)
opened_shorter (closing q ∷ ts) r p e = absurd (cc)
opened_shorter (at_sign q ∷ ts) r p e = absurd (cc)
opened_shorter (symbol q s ∷ ts) r p e = absurd (cc)
opened_shorter (int q z ∷ ts) r p e = absurd (cc)

pub opened_within_shorter : (d : ℕ) (ts r : List Placed) (p : Pos) → opened_within d ts ≡ done p r → length r < length ts
opened_within_shorter zero ts r p e = absurd (shut_nothing ts r p e)
opened_within_shorter (suc d) ts r p e = opened_shorter ts r p e

no_longer : {A : Type 0} (L : A → List Placed → Type 0) (d e : ℕ) (ts : List Placed) (x : Read A) → FollowsAt L Any d e ts x
    → (a : A) (r : List Placed) → x ≡ done a r → length r ≤ length ts
no_longer L d e ts (done b q) g a r h = let same : q ≡ r = cc in omega (arith, ap length same, ap length g.split, length-append g.used q)
no_longer L d e ts (fault q) g a r h = absurd (cc)
no_longer L d e ts (deep q) g a r h = absurd (cc)

pub if_let_no_longer : (n : ℕ) (ts r : List Placed) (x : Unit {0} × (PatternTree × (ExprTree × Unit {0}))) → if_let_read n ts ≡ done x r
    → length r ≤ length ts
if_let_no_longer n ts r x e = no_longer IfLetRead n (suc n) ts (if_let_read n ts) ((follows_if_let n).reads ts) x r e

pub if_no_longer : (n : ℕ) (ts r : List Placed) (x : Pos × (ExprTree × Unit {0})) → if_read n ts ≡ done x r → length r ≤ length ts
if_no_longer n ts r x e = no_longer IfRead n (suc n) ts (if_read n ts) ((follows_if n).reads ts) x r e

-- ---- one step

module _ (n : ℕ) (more : Reader Body) (p : Pos) (ts : List Placed) where
  step_if_let : next_symbol_is (is_word (codes "if-let")) ts ≡ true → (r : List Placed) (x : Unit {0} × (PatternTree × (ExprTree × Unit {0})))
      → if_let_read n ts ≡ done x r
      → read_map (step_body p) (step more n ts) ≡ read_map (λ b. (clause x.1.0 x.1.1.0 p ∷ b.0, b.1)) (more r)
  step_if_let at r x e =
      ap (λ b. read_map (step_body p) (step_on n more b (next_symbol_is (is_word (codes "if")) ts) ts)) at
      ∙ ap (read_map (step_body p)) (map_seq_done (if_let_read n) more ts r (λ x. if_let_step x.0.1.0 x.0.1.1.0 x.1) x e)
      ∙ fuse (step_body p) (λ b. if_let_step x.1.0 x.1.1.0 b) (more r)

  step_if : next_symbol_is (is_word (codes "if-let")) ts ≡ false → next_symbol_is (is_word (codes "if")) ts ≡ true
      → (r : List Placed) (x : Pos × (ExprTree × Unit {0})) → if_read n ts ≡ done x r
      → read_map (step_body p) (step more n ts) ≡ read_map (λ b. (clause (pattern_wildcard x.0) x.1.0 p ∷ b.0, b.1)) (more r)
  step_if other at r x e =
      (λ i. read_map (step_body p) (step_on n more (other i) (at i) ts))
      ∙ ap (read_map (step_body p)) (map_seq_done (if_read n) more ts r (λ x. if_step x.0.0 x.0.1.0 x.1) x e)
      ∙ fuse (step_body p) (λ b. if_step x.0 x.1.0 b) (more r)

  step_last : next_symbol_is (is_word (codes "if-let")) ts ≡ false → next_symbol_is (is_word (codes "if")) ts ≡ false
      → read_map (step_body p) (step more n ts) ≡ read_map (λ x. ([], inner_expr p x.0)) (seq (expr_inner n) closed ts)
  step_last other none = (λ i. read_map (step_body p) (step_on n more (other i) (none i) ts))
      ∙ fuse (step_body p) (λ x. last_step x.0) (seq (expr_inner n) closed ts)

  module _ (s : Stop) (some : s ≡ nowhere → ⊥) where
    if_let_stops : next_symbol_is (is_word (codes "if-let")) ts ≡ true → stop_of (if_let_read n ts) ≡ s
        → stop_of (read_map (step_body p) (step more n ts)) ≡ s
    if_let_stops at e =
        stop_map (step_body p) (step more n ts)
        ∙ ap (λ b. stop_of (step_on n more b (next_symbol_is (is_word (codes "if")) ts) ts)) at
        ∙ stop_map (λ x. if_let_step x.0.1.0 x.0.1.1.0 x.1) (seq (if_let_read n) more ts)
        ∙ stop_after (if_let_read n ts) _ s e some

    if_stops : next_symbol_is (is_word (codes "if-let")) ts ≡ false → next_symbol_is (is_word (codes "if")) ts ≡ true → stop_of (if_read n ts) ≡ s
        → stop_of (read_map (step_body p) (step more n ts)) ≡ s
    if_stops other at e =
        stop_map (step_body p) (step more n ts)
        ∙ (λ i. stop_of (step_on n more (other i) (at i) ts))
        ∙ stop_map (λ x. if_step x.0.0 x.0.1.0 x.1) (seq (if_read n) more ts)
        ∙ stop_after (if_read n ts) _ s e some

module _ (d : ℕ) (ts : List Placed) where
  body_opens : (k : ℕ) (r : List Placed) (p : Pos) → length ts < k → is_open_next ts ≡ true → opened_within d ts ≡ done p r
      → body d k ts ≡ read_map (step_body p) (step (body d (k - 1)) (d - 1) r)
  unfolding body
  body_opens zero r p fits at e = absurd (omega arith)
  body_opens (suc k) r p fits at e =
      let same : k ≡ suc k - 1 = omega arith in
      ap (λ b. body_on d (body d k) b ts) at
      ∙ map_seq_done (opened_within d) (step (body d k) (d - 1)) ts r (λ x. step_body x.0 x.1) p e
      ∙ ap (λ j. read_map (step_body p) (step (body d j) (d - 1) r)) same

  body_plain : (k : ℕ) → length ts < k → is_open_next ts ≡ false → body d k ts ≡ read_map (λ x. ([], x.0)) (seq (expr d) closed ts)
  unfolding body
  body_plain zero fits at = absurd (omega arith)
  body_plain (suc k) fits at = ap (λ b. body_on d (body d k) b ts) at

  body_stops : (k : ℕ) (s : Stop) → length ts < k → is_open_next ts ≡ true → stop_of (opened_within d ts) ≡ s → (s ≡ nowhere → ⊥)
      → stop_of (body d k ts) ≡ s
  unfolding body
  body_stops zero s fits at e some = absurd (omega arith)
  body_stops (suc k) s fits at e some =
      ap (λ b. stop_of (body_on d (body d k) b ts)) at
      ∙ stop_map (λ x. step_body x.0 x.1) (seq (opened_within d) (step (body d k) (d - 1)) ts)
      ∙ stop_after (opened_within d ts) _ s e some

-- ---- turns

-- what was found before goes in front
abbrev pub clauses_before : List IfLet → Read Body → Read Body
clauses_before cs read = read_map (λ b. (cs ++ b.0, b.1)) read

none_before : (x : Read Body) → x ≡ clauses_before [] x
none_before (done b r) = refl
none_before (fault r) = refl
none_before (deep r) = refl

one_more : (cs : List IfLet) (c : IfLet) (x : Read Body) → clauses_before cs (read_map (λ b. (c ∷ b.0, b.1)) x) ≡ clauses_before (cs ++ c ∷ []) x
one_more cs c (done b r) = ap (λ l. done (l, b.1) r) (sym (append_assoc cs (c ∷ []) b.0))
one_more cs c (fault r) = refl
one_more cs c (deep r) = refl

no_more : {A : Type 0} (cs : List IfLet) (f : A → ExprTree) (x : Read A)
    → clauses_before cs (read_map (λ a. ([], f a)) x) ≡ read_map (λ a. (cs, f a)) x
no_more cs f (done a r) = ap (λ l. done (l, f a) r) (append-nil cs)
no_more cs f (fault r) = refl
no_more cs f (deep r) = refl

-- what a loop has read and what is left, against all that there is to read
pub record BodyTurns (d : ℕ) (all : Read Body) (cs : List IfLet) (left : List Placed) : Type 0 where
  pub turns : ℕ
  pub enough : length left < turns
  pub same : all ≡ clauses_before cs (body d turns left)

module _ (d : ℕ) (all : Read Body) (cs : List IfLet) (left : List Placed) (t : BodyTurns d all cs left) where
  -- a right side that begins with no parenthesis
  pub turn_plain : is_open_next left ≡ false → all ≡ read_map (λ x. (cs, x.0)) (seq (expr d) closed left)
  turn_plain at = t.same ∙ ap (clauses_before cs) (body_plain d left t.turns t.enough at) ∙ no_more cs (λ x. x.0) (seq (expr d) closed left)

  -- a parenthesis that can't be read
  pub turn_opening_stops : (s : Stop) → is_open_next left ≡ true → stop_of (opened_within d left) ≡ s → (s ≡ nowhere → ⊥) → stop_of all ≡ s
  turn_opening_stops s at e some = ap stop_of t.same ∙ stop_map (λ b. (cs ++ b.0, b.1)) (body d t.turns left)
      ∙ body_stops d left t.turns s t.enough at e some

  -- behind an opening parenthesis
  module _ (at : is_open_next left ≡ true) (p : Pos) (ts : List Placed) (opens : opened_within d left ≡ done p ts) where
    begun : all ≡ clauses_before cs (read_map (step_body p) (step (body d (t.turns - 1)) (d - 1) ts))
    begun = t.same ∙ ap (clauses_before cs) (body_opens d left t.turns ts p t.enough at opens)

    pub turn_if_let : next_symbol_is (is_word (codes "if-let")) ts ≡ true → (r : List Placed) (x : Unit {0} × (PatternTree × (ExprTree × Unit {0})))
        → if_let_read (d - 1) ts ≡ done x r
        → BodyTurns d all (cs ++ clause x.1.0 x.1.1.0 p ∷ []) r
    turn_if_let word r x e = record {
      turns = t.turns - 1;
      enough = omega (arith, t.enough, opened_within_shorter d left ts p opens, if_let_no_longer (d - 1) ts r x e);
      same = begun ∙ ap (clauses_before cs) (step_if_let (d - 1) (body d (t.turns - 1)) p ts word r x e)
          ∙ one_more cs (clause x.1.0 x.1.1.0 p) (body d (t.turns - 1) r);
    }

    pub turn_if : next_symbol_is (is_word (codes "if-let")) ts ≡ false → next_symbol_is (is_word (codes "if")) ts ≡ true
        → (r : List Placed) (x : Pos × (ExprTree × Unit {0})) → if_read (d - 1) ts ≡ done x r
        → BodyTurns d all (cs ++ clause (pattern_wildcard x.0) x.1.0 p ∷ []) r
    turn_if other word r x e = record {
      turns = t.turns - 1;
      enough = omega (arith, t.enough, opened_within_shorter d left ts p opens, if_no_longer (d - 1) ts r x e);
      same = begun ∙ ap (clauses_before cs) (step_if (d - 1) (body d (t.turns - 1)) p ts other word r x e)
          ∙ one_more cs (clause (pattern_wildcard x.0) x.1.0 p) (body d (t.turns - 1) r);
    }

    -- a right side in parentheses
    pub turn_last : next_symbol_is (is_word (codes "if-let")) ts ≡ false → next_symbol_is (is_word (codes "if")) ts ≡ false
        → all ≡ read_map (λ x. (cs, inner_expr p x.0)) (seq (expr_inner (d - 1)) closed ts)
    turn_last other none = begun ∙ ap (clauses_before cs) (step_last (d - 1) (body d (t.turns - 1)) p ts other none)
        ∙ no_more cs (λ x. inner_expr p x.0) (seq (expr_inner (d - 1)) closed ts)

    -- clauses that can't be read
    pub turn_if_let_stops : (s : Stop) → next_symbol_is (is_word (codes "if-let")) ts ≡ true → stop_of (if_let_read (d - 1) ts) ≡ s
        → (s ≡ nowhere → ⊥) → stop_of all ≡ s
    turn_if_let_stops s word e some = ap stop_of begun ∙ stop_map (λ b. (cs ++ b.0, b.1)) _
        ∙ if_let_stops (d - 1) (body d (t.turns - 1)) p ts s some word e

    pub turn_if_stops : (s : Stop) → next_symbol_is (is_word (codes "if-let")) ts ≡ false → next_symbol_is (is_word (codes "if")) ts ≡ true
        → stop_of (if_read (d - 1) ts) ≡ s → (s ≡ nowhere → ⊥) → stop_of all ≡ s
    turn_if_stops s other word e some = ap stop_of begun ∙ stop_map (λ b. (cs ++ b.0, b.1)) _
        ∙ if_stops (d - 1) (body d (t.turns - 1)) p ts s some other word e
