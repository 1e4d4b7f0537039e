-- A turn of the loop that reads a rule's clauses, where each call of it may be refused.
use Rattle.std.proofs.Common.{◌≡◌, ℕ, ◌-◌, ◌<◌, List, [], ◌∷◌, ◌++◌, length, true, false, sym, ap, subst, ◌∙◌, arith}
use Rattle.std.specs.Prelude.{codes}
use Rattle.isle_ast.specs.declared.pos.Pos.{Pos}
use Rattle.isle_ast.specs.declared.error.Error.{Error}
use Rattle.isle_ast.specs.declared.refusal.Refusal.{Refusal}
use Rattle.isle_ast.specs.declared.ast.IfLet.{IfLet}
use Rattle.isle_ast.specs.Trees.PatternTree.{pattern_wildcard}
use Rattle.isle_ast.specs.Trees.ExprTree.{ExprTree}
use Rattle.isle_syntax.specs.Tokens.PlacedTokens.{Placed}
use Rattle.isle_syntax.specs.Tokens.Names.{is_word}
use Rattle.isle_syntax.specs.Grammar.Phrases.{next_symbol_is}
use Rattle.isle_syntax.specs.Tokens.RemainingTokens.{RemainingTokens}
use Rattle.isle_syntax.specs.Inside.Reading.Parsing.{bounds, stop_of, at_fault, RefusesAt, NoToken, IsKnown}
use Rattle.isle_syntax.specs.Inside.Reading.Readers.{Read, done, read_map, seq, opened_within, closed}
use Rattle.isle_syntax.specs.Inside.Reading.TreeReading.{expr, expr_inner, inner_expr}
use Rattle.isle_syntax.specs.Inside.Reading.DefReading.{is_open_next, Body, clause, if_let_read, if_read}
use Rattle.isle_syntax.proofs.Reading.ReadSteps.{fuse}
use Rattle.isle_syntax.proofs.Reading.Beginnings.{mapped_from}
use Rattle.isle_syntax.proofs.Reading.Loops.{stop_map, refuses_later, refuses_no_token, known_refuses}
use Rattle.isle_syntax.proofs.Reading.Opening.{refuses_with}
use Rattle.isle_syntax.proofs.Productions.BodyTurns.{BodyTurns, opened_within_shorter, if_let_no_longer, if_no_longer, turn_plain, turn_opening_stops}
use Rattle.isle_syntax.proofs.Productions.BodyTurns.{turn_if_let, turn_if, turn_last, turn_if_let_stops, turn_if_stops}

-- a part of what a reading gives
mapped_part : {A B C : Type 0} (f : A → B) (g : B → C) (x : Read A) (b : B) (r : List Placed) → read_map f x ≡ done b r
    → read_map (λ a. g (f a)) x ≡ done (g b) r
mapped_part f g x b r e = sym (fuse g f x) ∙ ap (read_map g) e

same_stop : {A B C : Type 0} (f : A → B) (g : A → C) (x : Read A) → stop_of (read_map f x) ≡ stop_of (read_map g x)
same_stop f g x = stop_map f x ∙ sym (stop_map g x)

-- ---- before the parenthesis

module _ (d : ℕ) (all : Read Body) (cs : List IfLet) (old begun : RemainingTokens) (t : BodyTurns d all cs begun.left) (same : bounds begun
    ≡ bounds old) where
  nothing_left : begun.left ≡ [] → at_fault [] ≡ stop_of all
  nothing_left none =
      sym (ap stop_of (turn_plain d all cs begun.left t (ap is_open_next none)) ∙ stop_map (λ x. (cs, x.0)) (seq (expr d) closed begun.left)
      ∙ ap (λ l. stop_of (seq (expr d) closed l)) none)

  pub turn_no_token : (new : RemainingTokens) (r : Refusal Error) → NoToken begun new r → RefusesAt old new r (stop_of all)
  turn_no_token new r h = refuses_no_token old begun new r (stop_of all) same h nothing_left

  module _ (mid new : RemainingTokens) (known : IsKnown begun mid) where
    pub plain_refuses : (r : Refusal Error) → is_open_next begun.left ≡ false
        → RefusesAt mid new r (stop_of (read_map (λ x. x.0) (seq (expr d) closed mid.left))) → RefusesAt old new r (stop_of all)
    plain_refuses r at h =
        let inner = known_refuses begun mid new r known (λ ts. read_map (λ x. x.0) (seq (expr d) closed ts)) h in
        let stops = ap stop_of (turn_plain d all cs begun.left t at) ∙ same_stop (λ x. (cs, x.0)) (λ x. x.0) (seq (expr d) closed begun.left) in
        refuses_later old begun new r _ same (subst (RefusesAt begun new r) (sym stops) inner)

    pub plain_reads : (e : ExprTree) → is_open_next begun.left ≡ false → read_map (λ x. x.0) (seq (expr d) closed mid.left) ≡ done e new.left
        → all ≡ done (cs, e) new.left
    plain_reads e at h =
        turn_plain d all cs begun.left t at
        ∙ mapped_part (λ x. x.0) (λ y. (cs, y)) (seq (expr d) closed begun.left) e new.left
        (ap (λ u. read_map (λ x. x.0) (seq (expr d) closed u.left)) (sym known.same) ∙ h)

    pub opening_refuses : (r : Refusal Error) → is_open_next begun.left ≡ true → RefusesAt mid new r (stop_of (opened_within d mid.left))
        → RefusesAt old new r (stop_of all)
    opening_refuses r at h =
        refuses_later old begun new r _ same
        (refuses_with (opened_within d begun.left) all begun new r (λ s e some. turn_opening_stops d all cs begun.left t s at e some)
        (known_refuses begun mid new r known (opened_within d) h))

-- ---- behind the parenthesis

-- what was read before an opening parenthesis, and the parenthesis
pub record Opened (d : ℕ) (all : Read Body) (cs : List IfLet) (old : RemainingTokens) (begun : List Placed) (p : Pos) (now : RemainingTokens) : Type 0
  where
    pub turns : BodyTurns d all cs begun
    pub at : is_open_next begun ≡ true
    pub opens : opened_within d begun ≡ done p now.left
    pub within : bounds now ≡ bounds old

pub goes_in : (d : ℕ) (all : Read Body) (cs : List IfLet) (old begun mid now : RemainingTokens) (p : Pos) → BodyTurns d all cs begun.left
    → bounds begun ≡ bounds old → IsKnown begun mid → is_open_next begun.left ≡ true
    → (opened_within d mid.left ≡ done p now.left) × (bounds now ≡ bounds mid) → Opened d all cs old begun.left p now
goes_in d all cs old begun mid now p t same known at opens = record {
  turns = t;
  at = at;
  opens = ap (λ u. opened_within d u.left) (sym known.same) ∙ opens.0;
  within = opens.1 ∙ ap bounds known.same ∙ same;
}

module _ (d : ℕ) (all : Read Body) (cs : List IfLet) (old : RemainingTokens) (begun : List Placed) (p : Pos) (now : RemainingTokens)
    (o : Opened d all cs old begun p now) where
  -- the same where the next word was looked at
  pub looked : (later : RemainingTokens) → IsKnown now later → Opened d all cs old begun p later
  looked later known = subst (Opened d all cs old begun p) (sym known.same) o

  nothing_inside : now.left ≡ [] → at_fault [] ≡ stop_of all
  nothing_inside none =
      sym (ap stop_of (turn_last d all cs begun o.turns o.at p now.left o.opens (ap (next_symbol_is (is_word (codes "if-let"))) none)
      (ap (next_symbol_is (is_word (codes "if"))) none))
      ∙ stop_map (λ x. (cs, inner_expr p x.0)) (seq (expr_inner (d - 1)) closed now.left)
      ∙ ap (λ l. stop_of (seq (expr_inner (d - 1)) closed l)) none)

  pub inside_no_token : (new : RemainingTokens) (r : Refusal Error) → NoToken now new r → RefusesAt old new r (stop_of all)
  inside_no_token new r h = refuses_no_token old now new r (stop_of all) o.within h nothing_inside

  module _ (new : RemainingTokens) where
    pub if_let_refuses : (r : Refusal Error) → next_symbol_is (is_word (codes "if-let")) now.left ≡ true
        → RefusesAt now new r (stop_of (read_map (λ x. clause x.1.0 x.1.1.0 p) (if_let_read (d - 1) now.left))) → RefusesAt old new r (stop_of all)
    if_let_refuses r word h =
        refuses_later old now new r _ o.within
        (refuses_with (if_let_read (d - 1) now.left) all now new r
        (λ s e some. turn_if_let_stops d all cs begun o.turns o.at p now.left o.opens s word e some)
        (subst (RefusesAt now new r) (stop_map (λ x. clause x.1.0 x.1.1.0 p) (if_let_read (d - 1) now.left)) h))

    pub if_refuses : (r : Refusal Error) → next_symbol_is (is_word (codes "if-let")) now.left ≡ false
        → next_symbol_is (is_word (codes "if")) now.left ≡ true
        → RefusesAt now new r (stop_of (read_map (λ x. clause (pattern_wildcard x.0) x.1.0 p) (if_read (d - 1) now.left)))
        → RefusesAt old new r (stop_of all)
    if_refuses r other word h =
        refuses_later old now new r _ o.within
        (refuses_with (if_read (d - 1) now.left) all now new r
        (λ s e some. turn_if_stops d all cs begun o.turns o.at p now.left o.opens s other word e some)
        (subst (RefusesAt now new r) (stop_map (λ x. clause (pattern_wildcard x.0) x.1.0 p) (if_read (d - 1) now.left)) h))

    pub last_refuses : (r : Refusal Error) → next_symbol_is (is_word (codes "if-let")) now.left ≡ false
        → next_symbol_is (is_word (codes "if")) now.left ≡ false
        → RefusesAt now new r (stop_of (read_map (λ x. inner_expr p x.0) (seq (expr_inner (d - 1)) closed now.left)))
        → RefusesAt old new r (stop_of all)
    last_refuses r other none h =
        let stops = ap stop_of (turn_last d all cs begun o.turns o.at p now.left o.opens other none)
        ∙ same_stop (λ x. (cs, inner_expr p x.0)) (λ x. inner_expr p x.0) (seq (expr_inner (d - 1)) closed now.left) in
        refuses_later old now new r _ o.within (subst (RefusesAt now new r) (sym stops) h)

    pub last_reads : (e : ExprTree) → next_symbol_is (is_word (codes "if-let")) now.left ≡ false
        → next_symbol_is (is_word (codes "if")) now.left ≡ false
        → read_map (λ x. inner_expr p x.0) (seq (expr_inner (d - 1)) closed now.left) ≡ done e new.left → all ≡ done (cs, e) new.left
    last_reads e other none h =
        turn_last d all cs begun o.turns o.at p now.left o.opens other none
        ∙ mapped_part (λ x. inner_expr p x.0) (λ y. (cs, y)) (seq (expr_inner (d - 1)) closed now.left) e new.left h

    module _ (c : IfLet) where
      pub if_let_adds : next_symbol_is (is_word (codes "if-let")) now.left ≡ true
          → read_map (λ x. clause x.1.0 x.1.1.0 p) (if_let_read (d - 1) now.left) ≡ done c new.left → BodyTurns d all (cs ++ c ∷ []) new.left
      if_let_adds word h =
          let x = mapped_from (λ x. clause x.1.0 x.1.1.0 p) (if_let_read (d - 1) now.left) c new.left h in
          subst (λ c. BodyTurns d all (cs ++ c ∷ []) new.left) x.2 (turn_if_let d all cs begun o.turns o.at p now.left o.opens word new.left x.0 x.1)

      pub if_adds : next_symbol_is (is_word (codes "if-let")) now.left ≡ false → next_symbol_is (is_word (codes "if")) now.left ≡ true
          → read_map (λ x. clause (pattern_wildcard x.0) x.1.0 p) (if_read (d - 1) now.left) ≡ done c new.left
          → BodyTurns d all (cs ++ c ∷ []) new.left
      if_adds other word h =
          let x = mapped_from (λ x. clause (pattern_wildcard x.0) x.1.0 p) (if_read (d - 1) now.left) c new.left h in
          subst (λ c. BodyTurns d all (cs ++ c ∷ []) new.left) x.2
          (turn_if d all cs begun o.turns o.at p now.left o.opens other word new.left x.0 x.1)

      pub if_let_shorter : read_map (λ x. clause x.1.0 x.1.1.0 p) (if_let_read (d - 1) now.left) ≡ done c new.left → length new.left < length begun
      if_let_shorter h =
          let x = mapped_from (λ x. clause x.1.0 x.1.1.0 p) (if_let_read (d - 1) now.left) c new.left h in
          omega (arith, opened_within_shorter d begun now.left p o.opens, if_let_no_longer (d - 1) now.left new.left x.0 x.1)

      pub if_shorter : read_map (λ x. clause (pattern_wildcard x.0) x.1.0 p) (if_read (d - 1) now.left) ≡ done c new.left
          → length new.left < length begun
      if_shorter h =
          let x = mapped_from (λ x. clause (pattern_wildcard x.0) x.1.0 p) (if_read (d - 1) now.left) c new.left h in
          omega (arith, opened_within_shorter d begun now.left p o.opens, if_no_longer (d - 1) now.left new.left x.0 x.1)
