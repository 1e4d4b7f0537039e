-- A rule's name and priority, and what follows.
use Rattle.std.proofs.Common.{◌≡◌, ℕ, zero, suc, ℤ, List, [], ◌∷◌, true, cond, Option, Some, None, refl, sym, ap, subst, ◌∙◌}
use Rattle.isle_ast.specs.declared.pos.Pos.{Pos}
use Rattle.isle_ast.specs.declared.ast.Ident.{Ident}
use Rattle.isle_ast.specs.declared.ast.IfLet.{IfLet}
use Rattle.isle_ast.specs.declared.ast.Expr.{Expr}
use Rattle.isle_ast.specs.declared.ast.Pattern.{Pattern}
use Rattle.isle_syntax.specs.declared.kind.Literal.{Literal as LiteralValue}
use Rattle.isle_ast.specs.Trees.PatternTree.{PatternTree}
use Rattle.isle_ast.specs.Trees.PatternShape.{pattern_of}
use Rattle.isle_ast.specs.Trees.ExprShape.{expr_of}
use Rattle.isle_syntax.specs.Tokens.PlacedTokens.{Placed, opening, closing, at_sign, symbol, int, Literal}
use Rattle.isle_syntax.specs.Tokens.RemainingTokens.{RemainingTokens, remaining_pos}
use Rattle.isle_syntax.specs.Grammar.TreeGrammar.{bits_of}
use Rattle.isle_syntax.specs.Grammar.Phrases.{first_pos}
use Rattle.isle_syntax.specs.Inside.Reading.KindOf.{literal_of}
use Rattle.isle_syntax.specs.Inside.Reading.TreeReading.{pattern_list}
use Rattle.isle_syntax.specs.Inside.Reading.DefReading.{identifier, is_priority, is_priority_next, name_on, with_name, priority_on, with_priority, Body}
use Rattle.isle_syntax.specs.Inside.Reading.DefReading.{rule_of, rule_body, rule}
use Rattle.isle_syntax.specs.Inside.Reading.Parsing.{bounds, stop_of, at_fault, IsKnown, TakesName, TakesPriority}
use Rattle.isle_syntax.specs.Inside.Reading.Readers.{done, fault, Reader, read_map, seq, integer}
use Rattle.isle_syntax.proofs.Reading.ReadSteps.{fuse, seq_fault, map_seq_done}
use Rattle.isle_syntax.proofs.Trees.TreeForms.{pattern_from_of, expr_from_of}
use Rattle.isle_syntax.proofs.Reading.Beginnings.{stands_at}

-- ---- priorities

-- an integer that stands where a priority does is one
priority_is : (ts r : List Placed) (p : Pos) (n : Literal) → is_priority_next ts ≡ true → integer ts ≡ done (p, n) r → is_priority n ≡ true
priority_is [] r p n next e = cc
priority_is (opening q ∷ ts) r p n next e = cc
priority_is (closing q ∷ ts) r p n next e = cc
priority_is (at_sign q ∷ ts) r p n next e = cc
priority_is (symbol q s ∷ ts) r p n next e = cc
priority_is (int q m ∷ ts) r p n next e = let same : ◌≡◌ {A = Pos × Literal} (q, m) (p, n) = cc in sym (ap (λ x. is_priority x.1) same) ∙ next

pub takes_priority : (old mid new : RemainingTokens) (p : Pos) (n : LiteralValue) → IsKnown old mid → is_priority_next old.left ≡ true
    → (integer mid.left ≡ done (p, literal_of n) new.left) × (bounds new ≡ bounds mid)
    → (o : Option ℤ) → o ≡ cond (is_priority (literal_of n)) (Some (bits_of (literal_of n))) None → TakesPriority old new o
takes_priority old mid new p n known next reads o e =
    let read : integer old.left ≡ done (p, literal_of n) new.left = ap (λ u. integer u.left) (sym known.same) ∙ reads.0 in
    let some : o ≡ Some (bits_of (literal_of n)) =
    e ∙ ap (λ b. cond b (Some (bits_of (literal_of n))) None) (priority_is old.left new.left p (literal_of n) next read) in
    subst (TakesPriority old new) (sym some) (next, (p, literal_of n, read, refl), reads.1 ∙ ap bounds known.same)

-- ---- what was taken

module _ {A : Type 0} (q : Reader A) (old new : RemainingTokens) where
  took_name : (o : Option Ident) → TakesName old new o → with_name q old.left ≡ read_map (λ x. (o, x)) (q new.left)
  took_name (Some x) t = ap (λ b. name_on q b old.left) t.0 ∙ map_seq_done identifier q old.left new.left (λ y. (Some y.0, y.1)) x t.1
  took_name None t = ap (λ b. name_on q b old.left) t.0 ∙ ap (λ u. read_map (λ x. (None, x)) (q u.left)) (sym t.1)

  took_priority : (o : Option ℤ) → TakesPriority old new o → with_priority q old.left ≡ read_map (λ x. (o, x)) (q new.left)
  took_priority (Some z) t =
      ap (λ b. priority_on q b old.left) t.0
      ∙ map_seq_done integer q old.left new.left (λ y. (Some (bits_of y.0.1), y.1)) (t.1.0, t.1.1) t.1.2
      ∙ ap (λ k. read_map (λ x. (Some k, x)) (q new.left)) (sym t.1.3)
  took_priority None t = ap (λ b. priority_on q b old.left) t.0 ∙ ap (λ u. read_map (λ x. (None, x)) (q u.left)) (sym t.1)

pub named_bounds : (old new : RemainingTokens) (o : Option Ident) → TakesName old new o → bounds new ≡ bounds old
named_bounds old new (Some x) t = t.2
named_bounds old new None t = ap bounds t.1

ranked_bounds : (old new : RemainingTokens) (o : Option ℤ) → TakesPriority old new o → bounds new ≡ bounds old
ranked_bounds old new (Some z) t = t.2
ranked_bounds old new None t = ap bounds t.1

-- ---- rules

pattern_list_at_end : (d : ℕ) → pattern_list d [] ≡ fault []
unfolding pattern_list
pattern_list_at_end zero = refl
pattern_list_at_end (suc d) = refl

module _ (d : ℕ) where
  pattern_and_body : Reader (PatternTree × Body)
  pattern_and_body = seq (pattern_list d) (rule_body d)

  nothing_follows : with_priority pattern_and_body [] ≡ fault []
  unfolding pattern_and_body
  nothing_follows =
      ap (read_map {B = Option ℤ × (PatternTree × Body)} (λ b. (None, b))) (seq_fault (pattern_list d) (rule_body d) [] [] (pattern_list_at_end d))

  pub rule_at_end : rule d [] ≡ fault []
  unfolding pattern_and_body
  rule_at_end = ap (λ x. read_map rule_of (read_map (λ a. (first_pos [], a)) (read_map (λ b. (None, b)) x))) nothing_follows

  module _ (u0 u1 : RemainingTokens) (name : Option Ident) (t1 : TakesName u0 u1 name) where
    named : rule d u0.left ≡ read_map (λ b. rule_of (first_pos u0.left, (name, b))) (with_priority pattern_and_body u1.left)
    unfolding pattern_and_body
    named =
        ap (λ x. read_map rule_of (read_map (λ a. (first_pos u0.left, a)) x)) (took_name (with_priority pattern_and_body) u0 u1 name t1)
        ∙ ap (read_map rule_of) (fuse (λ a. (first_pos u0.left, a)) (λ b. (name, b)) (with_priority pattern_and_body u1.left))
        ∙ fuse rule_of (λ b. (first_pos u0.left, (name, b))) (with_priority pattern_and_body u1.left)

    -- nothing behind the name
    pub named_at_end : u1.left ≡ [] → at_fault [] ≡ stop_of (rule d u0.left)
    named_at_end none =
        sym (ap stop_of named ∙ ap (λ l. stop_of (read_map (λ b. rule_of (first_pos u0.left, (name, b))) (with_priority pattern_and_body l))) none
        ∙ ap (λ x. stop_of (read_map (λ b. rule_of (first_pos u0.left, (name, b))) x)) nothing_follows)

    module _ (u2 : RemainingTokens) (prio : Option ℤ) (t2 : TakesPriority u1 u2 prio) where
      ranked : rule d u0.left ≡ read_map (λ b. rule_of (first_pos u0.left, (name, (prio, b)))) (pattern_and_body u2.left)
      ranked =
          named
          ∙ ap (read_map (λ b. rule_of (first_pos u0.left, (name, b)))) (took_priority pattern_and_body u1 u2 prio t2)
          ∙ fuse (λ b. rule_of (first_pos u0.left, (name, b))) (λ b. (prio, b)) (pattern_and_body u2.left)

      pub ranked_within : bounds u2 ≡ bounds u0
      ranked_within = ranked_bounds u1 u2 prio t2 ∙ named_bounds u0 u1 name t1

      module _ (p : Pattern) (r : List Placed) (reads : pattern_list d u2.left ≡ done (pattern_of p) r) (iflets : List IfLet) (e : Expr)
          (new : List Placed) (ends : rule_body d r ≡ done (iflets, expr_of e) new) where
        read_through : rule d u0.left ≡ done (rule_of (first_pos u0.left, (name, (prio, (pattern_of p, (iflets, expr_of e)))))) new
        unfolding pattern_and_body
        read_through =
            ranked
            ∙ map_seq_done (pattern_list d) (rule_body d) u2.left r (λ b. rule_of (first_pos u0.left, (name, (prio, b)))) (pattern_of p) reads
            ∙ ap (read_map (λ b. rule_of (first_pos u0.left, (name, (prio, (pattern_of p, b)))))) ends

        filled : u0.left ≡ [] → ⊥
        filled none =
            let empty : fault [] ≡ done (rule_of (first_pos u0.left, (name, (prio, (pattern_of p, (iflets, expr_of e)))))) new =
            sym rule_at_end ∙ ap (rule d) (sym none) ∙ read_through in
            cc

        pub rule_reads : rule d u0.left ≡ done (record {
          pattern = p;
          iflets = iflets;
          expr = e;
          pos = remaining_pos u0;
          prio = prio;
          name = name;
        }) new
        rule_reads =
            read_through
            ∙ (λ i. done (record {
              pattern = pattern_from_of p i;
              iflets = iflets;
              expr = expr_from_of e i;
              pos = sym (stands_at u0 filled) i;
              prio = prio;
              name = name;
            }) new)
