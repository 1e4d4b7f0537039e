-- Productions that the next token chooses.
use Rattle.std.proofs.Common.{◌≡◌, ℕ, List, [], ◌∷◌, ◌++◌, refl, sym, ap, subst, ◌∙◌, append_assoc}
use Rattle.isle_ast.specs.declared.pos.Pos.{Pos}
use Rattle.isle_syntax.specs.Tokens.PlacedTokens.{Placed, opening}
use Rattle.isle_syntax.specs.Grammar.Phrases.{From, first_pos}
use Rattle.isle_syntax.specs.Inside.Reading.Readers.{Read, done, fault, deep, Reader, read_map, from}
use Rattle.isle_syntax.proofs.Reading.Follows.{SameNext, same_next_append, Begins, FollowsAt, Follows, follows_refusal}

-- a test of the next token alone
pub record Looks {X : Type 0} (c : List Placed → X) : Type 0 where
  pub same : (t : Placed) (x y : List Placed) → c (t ∷ x) ≡ c (t ∷ y)

module _ {X : Type 0} (c : List Placed → X) (looks : Looks c) where
  pub looks_same_next : (r s : List Placed) → SameNext r s → c s ≡ c r
  looks_same_next [] s same_next = ap c same_next
  looks_same_next (t ∷ r) s same_next = ap c same_next.1 ∙ looks.same t same_next.0 r

  pub looks_append : (u v : List Placed) → (u ≡ [] → ⊥) → c (u ++ v) ≡ c u
  looks_append [] v e = absurd (e refl)
  looks_append (t ∷ u) v e = looks.same t (u ++ v) u

  -- of a phrase that something begins with the same token
  pub looks_phrase : (ts v w x : List Placed) → (v ≡ [] → ⊥) → SameNext ts x → v ++ w ≡ x → c v ≡ c ts
  looks_phrase ts v w x some same_next e = sym (looks_append v w some) ∙ ap c e ∙ looks_same_next ts x same_next

module _ {X A B : Type 0} (c : List Placed → X) (looks : Looks c) (L : A → List Placed → Type 0) (K : B → List Placed → Type 0) (F : List Placed
    → Type 0) (d e : ℕ)
    (ts : List Placed) (x : X) (at : c ts ≡ x) (f : A → B)
    (into : (a : A) (u : List Placed) → L a u → c u ≡ x → K (f a) u)
    (back : (b : B) (v : List Placed) → K b v → c v ≡ x → (a : A) × (b ≡ f a) × L a v)
    (filled : (a : A) (u : List Placed) → L a u → u ≡ [] → ⊥) (each_filled : (b : B) (v : List Placed) → K b v → v ≡ []
    → ⊥) (some : Begins K []) where
  begins_more : (u v r : List Placed) → (u ≡ [] → ⊥) → ts ≡ u ++ r → c (u ++ v) ≡ x
  begins_more u v r more e = looks_append c looks u v more ∙ sym (looks_append c looks u r more) ∙ ap c (sym e) ∙ at

  begins_case : (u r : List Placed) → ts ≡ u ++ r → Begins L u → Begins K u
  begins_case [] r e b = some
  begins_case (t ∷ u) r e b = (f b.0, b.1, into b.0 _ b.2 (begins_more (t ∷ u) b.1 r (λ h. cc) e))

  begins_deep : (u r : List Placed) (p : Pos) → ts ≡ u ++ opening p ∷ r → Begins L (u ++ opening p ∷ []) → Begins K (u ++ opening p ∷ [])
  begins_deep [] r p e b = begins_case (opening p ∷ []) r e b
  begins_deep (t ∷ u) r p e b = begins_case (t ∷ (u ++ opening p ∷ [])) r (e ∙ ap (λ k. t ∷ k) (sym (append_assoc u (opening p ∷ []) r))) b

  pub follows_case : (r : Read A) → FollowsAt L F d e ts r → FollowsAt K F d e ts (read_map f r)
  follows_case (done a r) g = record {
    used = g.used;
    split = g.split;
    spelt = into a g.used g.spelt (sym (looks_append c looks g.used r (filled a g.used g.spelt)) ∙ ap c (sym g.split) ∙ at);
    nests = g.nests;
    only = record {
      holds = λ s same_next b v w k fw q.
          let near' = subst (λ z. SameNext z (g.used ++ s)) (sym g.split) (same_next_append g.used r s same_next) in
          let pre = back b v k (looks_phrase c looks ts v w (g.used ++ s) (each_filled b v k) near' q ∙ at) in
          let same = g.only.holds s same_next pre.0 v w pre.2 fw q in
          (pre.1 ∙ ap f same.0, same.1);
    };
  }
  follows_case (fault r) g = record {
    used = g.used;
    split = g.split;
    begins = begins_case g.used r g.split g.begins;
    left = g.left;
    nests = g.nests;
    never = record {
      holds = λ s same_next b v w k fw q.
          let near' = subst (λ z. SameNext z (g.used ++ s)) (sym g.split) (same_next_append g.used r s same_next) in
          let pre = back b v k (looks_phrase c looks ts v w (g.used ++ s) (each_filled b v k) near' q ∙ at) in
          g.never.holds s same_next pre.0 v w pre.2 fw q;
    };
  }
  follows_case (deep r) g = record {
    used = g.used;
    split = g.split;
    pos = g.pos;
    rest = g.rest;
    parenthesis = g.parenthesis;
    begins = begins_deep g.used g.rest g.pos (g.split ∙ ap (λ k. g.used ++ k) g.parenthesis) g.begins;
    nests = g.nests;
  }

-- where no phrase begins with such a token
pub follows_no_case : {X B : Type 0} (c : List Placed → X) (looks : Looks c) (K : B → List Placed → Type 0) (F : List Placed
    → Type 0) (d e : ℕ) (ts : List Placed)
    (x : X) → c ts ≡ x → ((b : B) (v : List Placed) → K b v → c v ≡ x → ⊥) → ((b : B) (v : List Placed) → K b v → v ≡ [] → ⊥) → Begins K []
    → FollowsAt K F d e ts (fault ts)
follows_no_case c looks K F d e ts x at none filled some =
    follows_refusal e ts some (λ b v w y same_next l q. none b v l (looks_phrase c looks ts v w y (filled b v l) same_next q ∙ at))

-- ---- with the place of the first token

first_append : (u v : List Placed) → (u ≡ [] → ⊥) → first_pos (u ++ v) ≡ first_pos u
first_append [] v e = absurd (e refl)
first_append (t ∷ u) v e = refl

module _ {A : Type 0} (L : A → List Placed → Type 0) (F : List Placed → Type 0) (d e : ℕ) (ts : List Placed) (filled : (a : A) (u : List Placed)
    → L a u → u ≡ [] → ⊥) where
  follows_from_at : (r : Read A) → FollowsAt L F d e ts r → FollowsAt (From L) F d e ts (read_map (λ a. (first_pos ts, a)) r)
  follows_from_at (done a r) g = record {
    used = g.used;
    split = g.split;
    spelt = (g.spelt, here);
    nests = g.nests;
    only = record {
      holds = λ s same_next b v w l fw q.
          let same = g.only.holds s same_next b.1 v w l.0 fw q in
          ((λ i. ((sym l.1 ∙ ap first_pos same.1 ∙ here) i, same.0 i)), same.1);
    };
  }
    where
      here : first_pos g.used ≡ first_pos ts
      here = sym (first_append g.used r (filled a g.used g.spelt)) ∙ ap first_pos (sym g.split)
  follows_from_at (fault r) g = record {
    used = g.used;
    split = g.split;
    begins = ((first_pos (g.used ++ g.begins.1), g.begins.0), g.begins.1, (g.begins.2, refl));
    left = g.left;
    nests = g.nests;
    never = record { holds = λ s same_next b v w l fw q. g.never.holds s same_next b.1 v w l.0 fw q };
  }
  follows_from_at (deep r) g = record {
    used = g.used;
    split = g.split;
    pos = g.pos;
    rest = g.rest;
    parenthesis = g.parenthesis;
    begins = ((first_pos ((g.used ++ opening g.pos ∷ []) ++ g.begins.1), g.begins.0), g.begins.1, (g.begins.2, refl));
    nests = g.nests;
  }

pub follows_from : {A : Type 0} {L : A → List Placed → Type 0} {F : List Placed → Type 0} {d e : ℕ} {p : Reader A}
    → ((a : A) (u : List Placed) → L a u → u ≡ [] → ⊥)
    → Follows L F d e p → Follows (From L) F d e (from p)
follows_from {L = L} {F = F} {d = d} {e = e} {p = p} filled g = record { reads = λ ts. follows_from_at L F d e ts filled (p ts) (g.reads ts) }
