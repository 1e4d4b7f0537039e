-- What it takes for reading to follow what is spelt: on success the tokens before are the only ones that spell
-- anything there, and at a fault some spelt text goes on from before the token, and none from it on.
use Rattle.std.proofs.Common.{◌≡◌, ℕ, zero, suc, ◌<◌, List, [], ◌∷◌, ◌++◌, length, Option, Some, None, refl, sym, ap, subst, ◌∙◌, append_assoc}
use Rattle.std.proofs.Common.{length-append, arith}
use Rattle.std.specs.Prelude.{option_and_then}
use Rattle.isle_syntax.specs.Tokens.PlacedTokens.{Placed, opening, closing, at_sign, symbol, int}
use Rattle.isle_syntax.specs.Inside.Reading.Readers.{Read, done, fault, deep, Reader, after, read_map, seq, after_close, many, many_turn, at_end, rest_of}
use Rattle.isle_syntax.specs.Inside.Reading.Readers.{all_of}
use Rattle.isle_ast.specs.declared.pos.Pos.{Pos}
use Rattle.isle_syntax.specs.Grammar.Phrases.{Both, Each, Closed, depth_left_after, depth_left}

-- a place, where any will do
abbrev pub start : Pos
start = record { file = 0; offset = 0 }

-- the same next token, or both at the end
abbrev pub SameNext : List Placed → List Placed → Type 0
SameNext [] s = s ≡ []
SameNext (t ∷ x) s = (y : List Placed) × (s ≡ t ∷ y)

pub record Unique {A : Type 0} (L : A → List Placed → Type 0) (F : List Placed → Type 0) (a : A) (u r : List Placed) : Type 0 where
  pub holds : (s : List Placed) → SameNext r s → (b : A) (v w : List Placed) → L b v → F w → v ++ w ≡ u ++ s → (b ≡ a) × (v ≡ u)

pub record Impossible {A : Type 0} (L : A → List Placed → Type 0) (F : List Placed → Type 0) (u r : List Placed) : Type 0 where
  pub holds : (s : List Placed) → SameNext r s → (b : A) (v w : List Placed) → L b v → F w → v ++ w ≡ u ++ s → ⊥

abbrev pub Begins : {A : Type 0} → (A → List Placed → Type 0) → List Placed → Type 0
Begins {A} L u = (a : A) × (v : List Placed) × L a (u ++ v)

pub record Done {A : Type 0} (L : A → List Placed → Type 0) (F : List Placed
    → Type 0) (d e : ℕ) (ts : List Placed) (a : A) (r : List Placed) : Type 0 where
  pub used : List Placed
  pub split : ts ≡ used ++ r
  pub spelt : L a used
  pub nests : depth_left d used ≡ Some e
  pub only : Unique L F a used r

pub record Faulty {A : Type 0} (L : A → List Placed → Type 0) (F : List Placed → Type 0) (d : ℕ) (ts r : List Placed) : Type 0 where
  pub used : List Placed
  pub split : ts ≡ used ++ r
  pub begins : Begins L used
  pub left : ℕ
  pub nests : depth_left d used ≡ Some left
  pub never : Impossible L F used r

pub record TooDeep {A : Type 0} (L : A → List Placed → Type 0) (d : ℕ) (ts r : List Placed) : Type 0 where
  pub used : List Placed
  pub split : ts ≡ used ++ r
  pub pos : Pos
  pub rest : List Placed
  pub parenthesis : r ≡ opening pos ∷ rest
  pub begins : Begins L (used ++ opening pos ∷ [])
  pub nests : depth_left d used ≡ Some 0

abbrev pub FollowsAt : {A : Type 0} → (A → List Placed → Type 0) → (List Placed → Type 0) → ℕ → ℕ → List Placed → Read A → Type 0
FollowsAt L F d e ts (done a r) = Done L F d e ts a r
FollowsAt L F d e ts (fault r) = Faulty L F d ts r
FollowsAt L F d e ts (deep r) = TooDeep L d ts r

-- Reading by p follows L, where F holds of what stands behind. With room for d more open parentheses before, there is room for e after.
pub record Follows {A : Type 0} (L : A → List Placed → Type 0) (F : List Placed → Type 0) (d e : ℕ) (p : Reader A) : Type 0 where
  pub reads : (ts : List Placed) → FollowsAt L F d e ts (p ts)

-- ---- lists

pub cancel : (u v w : List Placed) → u ++ v ≡ u ++ w → v ≡ w
cancel [] v w e = e
cancel (t ∷ u) v w e = cancel u v w (cc)

pub same_next_append : (v r s : List Placed) → SameNext r s → SameNext (v ++ r) (v ++ s)
same_next_append [] r s n = n
same_next_append (t ∷ v) r s n = (v ++ s, refl)

depth_left-append_some : (o : Option ℕ) (u v : List Placed) (e : ℕ) → ((d : ℕ) → depth_left d u ≡ Some e → depth_left d (u ++ v) ≡ depth_left e v)
    → option_and_then (λ m. depth_left m u) o ≡ Some e → option_and_then (λ m. depth_left m (u ++ v)) o ≡ depth_left e v
depth_left-append_some None u v e ih h = absurd (cc)
depth_left-append_some (Some m) u v e ih h = ih m h

pub depth_left-append : (d : ℕ) (u v : List Placed) (e : ℕ) → depth_left d u ≡ Some e → depth_left d (u ++ v) ≡ depth_left e v
depth_left-append d [] v e h = let same : d ≡ e = cc in ap (λ n. depth_left n v) same
depth_left-append d (t ∷ u) v e h = depth_left-append_some (depth_left_after d t) u v e (λ m k. depth_left-append m u v e k) h

nothing_before : (u v : List Placed) → [] ≡ u ++ v → u ≡ []
nothing_before [] v e = refl
nothing_before (t ∷ u) v e = absurd (cc)

-- ---- one and then another

module _ {A B : Type 0} (L : A → List Placed → Type 0) (M : B → List Placed → Type 0) (F1 F : List Placed → Type 0) (d e f : ℕ) (ts : List Placed)
    (follows : (b : B) (v w : List Placed) → M b v → F w → F1 (v ++ w)) (some : Begins M []) where
  regroup : (x : A × B) (v w s : List Placed) (bl : Both L M x v) → v ++ w ≡ s → bl.0 ++ (bl.1 ++ w) ≡ s
  regroup x v w s bl h = sym (append_assoc bl.0 bl.1 w) ∙ ap (λ y. y ++ w) (sym bl.2) ∙ h

  longer : (u : List Placed) → Begins L u → Begins (Both L M) u
  longer u b = ((b.0, some.0), b.1 ++ some.1, (u ++ b.1, some.1, sym (append_assoc u b.1 some.1), b.2, some.2))

  seq_second : (a : A) (r : List Placed) → Done L F1 d e ts a r → (y : Read B) → FollowsAt M F e f r y
      → FollowsAt (Both L M) F d f ts (read_map (λ b. (a, b)) y)
  seq_second a r g (done b r2) h = record {
    used = g.used ++ h.used;
    split = g.split ∙ ap (λ x. g.used ++ x) h.split ∙ sym (append_assoc g.used h.used r2);
    spelt = (g.used, h.used, refl, g.spelt, h.spelt);
    nests = depth_left-append d g.used h.used e g.nests ∙ h.nests;
    only = record {
      holds = λ s same_next x v w bl fw q.
          let q' = regroup x v w _ bl q ∙ append_assoc g.used h.used s in
          let near' = subst (λ z. SameNext z (h.used ++ s)) (sym h.split) (same_next_append h.used r2 s same_next) in
          let first = g.only.holds (h.used ++ s) near' x.0 bl.0 (bl.1 ++ w) bl.3 (follows x.1 bl.1 w bl.4 fw) q' in
          let rest : bl.1 ++ w ≡ h.used ++ s = cancel g.used (bl.1 ++ w) (h.used ++ s) (ap (λ z. z ++ (bl.1 ++ w)) (sym first.1) ∙ q') in
          let second = h.only.holds s same_next x.1 bl.1 w bl.4 fw rest in
          ((λ i. (first.0 i, second.0 i)), bl.2 ∙ (λ i. first.1 i ++ second.1 i));
    };
  }
  seq_second a r g (fault r2) h = record {
    used = g.used ++ h.used;
    split = g.split ∙ ap (λ x. g.used ++ x) h.split ∙ sym (append_assoc g.used h.used r2);
    begins = ((a, h.begins.0), h.begins.1, (g.used, h.used ++ h.begins.1, append_assoc g.used h.used h.begins.1, g.spelt, h.begins.2));
    left = h.left;
    nests = depth_left-append d g.used h.used e g.nests ∙ h.nests;
    never = record {
      holds = λ s same_next x v w bl fw q.
          let q' = regroup x v w _ bl q ∙ append_assoc g.used h.used s in
          let near' = subst (λ z. SameNext z (h.used ++ s)) (sym h.split) (same_next_append h.used r2 s same_next) in
          let first = g.only.holds (h.used ++ s) near' x.0 bl.0 (bl.1 ++ w) bl.3 (follows x.1 bl.1 w bl.4 fw) q' in
          let rest : bl.1 ++ w ≡ h.used ++ s = cancel g.used (bl.1 ++ w) (h.used ++ s) (ap (λ z. z ++ (bl.1 ++ w)) (sym first.1) ∙ q') in
          h.never.holds s same_next x.1 bl.1 w bl.4 fw rest;
    };
  }
  seq_second a r g (deep r2) h = record {
    used = g.used ++ h.used;
    split = g.split ∙ ap (λ x. g.used ++ x) h.split ∙ sym (append_assoc g.used h.used r2);
    pos = h.pos;
    rest = h.rest;
    parenthesis = h.parenthesis;
    begins = (
      (a, h.begins.0),
      h.begins.1,
      (
        g.used,
        (h.used ++ opening h.pos ∷ []) ++ h.begins.1,
        ap (λ z. z ++ h.begins.1) (append_assoc g.used h.used ((opening h.pos) ∷ [])) ∙ append_assoc g.used (h.used ++ opening h.pos ∷ []) h.begins.1,
        g.spelt,
        h.begins.2,
      ),
    );
    nests = depth_left-append d g.used h.used e g.nests ∙ h.nests;
  }

  pub follows_seq_at : (q : Reader B) (x : Read A) → FollowsAt L F1 d e ts x
      → ((a : A) (r : List Placed) → Done L F1 d e ts a r → FollowsAt M F e f r (q r))
      → FollowsAt (Both L M) F d f ts (after x (λ a r. read_map (λ b. (a, b)) (q r)))
  follows_seq_at q (done a r) g gq = seq_second a r g (q r) (gq a r g)
  follows_seq_at q (fault r) g gq = record {
    used = g.used;
    split = g.split;
    begins = longer g.used g.begins;
    left = g.left;
    nests = g.nests;
    never = record {
      holds = λ s same_next x v w bl fw q'. g.never.holds s same_next x.0 bl.0 (bl.1
          ++ w) bl.3 (follows x.1 bl.1 w bl.4 fw) (regroup x v w _ bl q');
    };
  }
  follows_seq_at q (deep r) g gq = record {
    used = g.used;
    split = g.split;
    pos = g.pos;
    rest = g.rest;
    parenthesis = g.parenthesis;
    begins = longer _ g.begins;
    nests = g.nests;
  }

-- nothing is asked of what follows
abbrev pub Any : List Placed → Type 0
Any ts = Unit {0}

pub follows_seq : {A B : Type 0} {L : A → List Placed → Type 0} {M : B → List Placed → Type 0} {F : List Placed
    → Type 0} {d e f : ℕ} {p : Reader A} {q : Reader B}
    → Begins M [] → Follows L Any d e p → Follows M F e f q → Follows (Both L M) F d f (seq p q)
follows_seq {L = L} {M = M} {F = F} {d = d} {e = e} {f = f} {p = p} {q = q} some gp gq =
    record { reads = λ ts. follows_seq_at L M Any F d e f ts (λ b v w m fw. tt) some q (p ts) (gp.reads ts) (λ a r g. gq.reads r) }

-- ---- the same under another name

module _ {A B : Type 0} (L : A → List Placed → Type 0) (K : B → List Placed → Type 0) (F : List Placed → Type 0) (d e : ℕ) (ts : List Placed) (f : A
    → B)
    (into : (a : A) (u : List Placed) → L a u → K (f a) u)
    (from : (b : B) (v w x : List Placed) → SameNext ts x → K b v → F w → v ++ w ≡ x → (a : A) × (b ≡ f a) × L a v) where
  pub follows_image : (x : Read A) → FollowsAt L F d e ts x → FollowsAt K F d e ts (read_map f x)
  follows_image (done a r) g = record {
    used = g.used;
    split = g.split;
    spelt = into a g.used g.spelt;
    nests = g.nests;
    only = record {
      holds = λ s same_next b v w k fw q.
          let near' = subst (λ z. SameNext z (g.used ++ s)) (sym g.split) (same_next_append g.used r s same_next) in
          let pre = from b v w (g.used ++ s) near' k fw q in
          let same = g.only.holds s same_next pre.0 v w pre.2 fw q in
          (pre.1 ∙ ap f same.0, same.1);
    };
  }
  follows_image (fault r) g = record {
    used = g.used;
    split = g.split;
    begins = (f g.begins.0, g.begins.1, into g.begins.0 _ g.begins.2);
    left = g.left;
    nests = g.nests;
    never = record {
      holds = λ s same_next b v w k fw q.
          let near' = subst (λ z. SameNext z (g.used ++ s)) (sym g.split) (same_next_append g.used r s same_next) in
          let pre = from b v w (g.used ++ s) near' k fw q in
          g.never.holds s same_next pre.0 v w pre.2 fw q;
    };
  }
  follows_image (deep r) g = record {
    used = g.used;
    split = g.split;
    pos = g.pos;
    rest = g.rest;
    parenthesis = g.parenthesis;
    begins = (f g.begins.0, g.begins.1, into g.begins.0 _ g.begins.2);
    nests = g.nests;
  }

-- ---- single tokens, and refusals

pub follows_refusal : {A : Type 0} {L : A → List Placed → Type 0} {F : List Placed → Type 0} {d : ℕ} (e : ℕ) (ts : List Placed) → Begins L []
    → ((b : A) (v w x : List Placed) → SameNext ts x → L b v → v ++ w ≡ x → ⊥) → FollowsAt L F d e ts (fault ts)
follows_refusal {d = d} e ts some none = record {
  used = [];
  split = refl;
  begins = some;
  left = d;
  nests = refl;
  never = record { holds = λ s same_next b v w l fw q. none b v w s same_next l q };
}

pub follows_token : {A : Type 0} {L : A → List Placed → Type 0} {F : List Placed → Type 0} {d e : ℕ} (t : Placed) (ts : List Placed) (a : A)
    → L a (t ∷ [])
    → depth_left_after d t ≡ Some e
    → ((b : A) (v w y : List Placed) → L b v → F w → v ++ w ≡ t ∷ y → (b ≡ a) × (v ≡ t ∷ [])) → FollowsAt L F d e (t ∷ ts) (done a ts)
follows_token {d = d} {e = e} t ts a l r only = record {
  used = t ∷ [];
  split = refl;
  spelt = l;
  nests = ap (option_and_then (λ m. Some m)) r;
  only = record { holds = λ s same_next b v w l' fw q. only b v w s l' fw q };
}

-- ---- one after another, up to a closing parenthesis

-- no phrase is empty or begins with a closing parenthesis
pub record Starts {A : Type 0} (L : A → List Placed → Type 0) : Type 0 where
  pub filled : (b : A) (v : List Placed) → L b v → v ≡ [] → ⊥
  pub inside : (b : A) (v w y : List Placed) (q : Pos) → L b v → v ++ w ≡ closing q ∷ y → ⊥

positive : {A : Type 0} (L : A → List Placed → Type 0) (s : Starts L) (a : A) (u : List Placed) → L a u → 0 < length u
positive L s a [] l = absurd (s.filled a [] l refl)
positive L s a (t ∷ u) l = omega arith

shorter : (u r ts : List Placed) (n : ℕ) → ts ≡ u ++ r → 0 < length u → length ts < suc n → length r < n
shorter u r ts n e h k = omega (arith, ap length e, length-append u r)

module _ {A : Type 0} (L : A → List Placed → Type 0) (F1 F : List Placed
    → Type 0) (d : ℕ) (p : Reader A) (good : Follows L F1 d d p) (starts : Starts L)
    (before : (b : A) (v w : List Placed) → L b v → F1 (v ++ w)) (last : (q : Pos) (w : List Placed) → F1 (closing q ∷ w)) where
  closed_before : (b : List A) (v w : List Placed) → Closed L b v → F w → F1 (v ++ w)
  closed_before [] v w c fw =
      let whole : closing c.4.0 ∷ w ≡ v ++ w = ap (λ x. x ++ w) (sym (c.2 ∙ (λ i. c.3 i ++ c.4.1 i))) in
      subst F1 whole (last c.4.0 w)
  closed_before (a ∷ rest) v w c fw =
      let e = c.3 in
      let whole : e.0 ++ (e.1 ++ (c.1 ++ w)) ≡ v ++ w = sym (append_assoc e.0 e.1 (c.1 ++ w)) ∙ ap (λ x. x ++ (c.1 ++ w)) (sym e.2)
      ∙ sym (append_assoc c.0 c.1 w) ∙ ap (λ x. x ++ w) (sym c.2) in
      subst F1 whole (before a e.0 (e.1 ++ (c.1 ++ w)) e.3)

  one_more : (x : A × List A) (v : List Placed) → Both L (Closed L) x v → Closed L (x.0 ∷ x.1) v
  one_more x v b = let c = b.4 in (b.0 ++ c.0, c.1, b.2 ∙ ap (λ y. b.0 ++ y) c.2 ∙ sym (append_assoc b.0 c.0 c.1), (b.0, c.0, refl, b.3, c.3), c.4)

  not_empty : (b : List A) (v w y : List Placed) (q : Pos) → Closed L b v → ((q : Pos) (y : List Placed) → v ++ w ≡ closing q ∷ y → ⊥)
      → (x : A × List A) × (b ≡ x.0 ∷ x.1) × Both L (Closed L) x v
  not_empty [] v w y q c none = absurd (none c.4.0 w (ap (λ x. x ++ w) (c.2 ∙ (λ i. c.3 i ++ c.4.1 i))))
  not_empty (a ∷ rest) v w y q c none = let e = c.3 in
      ((a, rest), refl, (e.0, e.1 ++ c.1, c.2 ∙ ap (λ x. x ++ c.1) e.2 ∙ append_assoc e.0 e.1 c.1, e.3, (e.1, c.1, refl, e.4, c.4)))

  closed_some : Begins (Closed L) []
  closed_some = ([], closing start ∷ [], ([], closing start ∷ [], refl, refl, (start, refl)))

  closed_here : (b : List A) (v w y : List Placed) (q : Pos) → Closed L b v → v ++ w ≡ closing q ∷ y → (b ≡ []) × (v ≡ closing q ∷ [])
  closed_here [] v w y q c e =
      let whole = c.2 ∙ (λ i. c.3 i ++ c.4.1 i) in
      let same : closing c.4.0 ∷ w ≡ closing q ∷ y = ap (λ x. x ++ w) (sym whole) ∙ e in
      (refl, whole ∙ ap (λ k. closing k ∷ []) (cc))
  closed_here (a ∷ rest) v w y q c e =
      let h = c.3 in
      absurd (starts.inside a h.0 (h.1 ++ (c.1 ++ w)) y q h.3 (sym (append_assoc h.0 h.1 (c.1 ++ w)) ∙ ap (λ x. x ++ (c.1 ++ w)) (sym h.2)
      ∙ sym (append_assoc c.0 c.1 w) ∙ ap (λ x. x ++ w) (sym c.2) ∙ e))

  closed_turn_follows : (n : ℕ) (ts : List Placed) → length ts < suc n → after_close ts ≡ None
      → ((x : List Placed) (q : Pos) (y : List Placed) → SameNext ts x → x ≡ closing q ∷ y → ⊥)
      → ((r : List Placed) → length r < n → FollowsAt (Closed L) F d (suc d) r (many after_close p n r))
      → FollowsAt (Closed L) F d (suc d) ts (many_turn p (many after_close p n) None ts)
  closed_turn_follows n ts fits going none ih =
      follows_image (Both L (Closed L)) (Closed L) F d (suc d) ts (λ x. x.0 ∷ x.1) one_more
      (λ b v w x same_next c fw e. not_empty b v w [] start c (λ q y h. none x q y same_next (sym e ∙ h)))
      (seq p (many after_close p n) ts)
      (follows_seq_at L (Closed L) F1 F d d (suc d) ts closed_before closed_some (many after_close p n) (p ts) (good.reads ts)
      (λ a r g. ih r (shorter g.used r ts n g.split (positive L starts a g.used g.spelt) fits)))

  pub follows_closed : (n : ℕ) (ts : List Placed) → length ts < n → FollowsAt (Closed L) F d (suc d) ts (many after_close p n ts)
  unfolding many
  follows_closed zero ts fits = absurd (omega arith)
  follows_closed (suc n) [] fits = closed_turn_follows n [] fits refl (λ x q y same_next e. cc (same_next, e)) (follows_closed n)
  follows_closed (suc n) (closing q ∷ ts) fits =
      follows_token (closing q) ts [] ([], closing q ∷ [], refl, refl, (q, refl)) refl (λ b v w y c fw e. closed_here b v w y q c e)
  follows_closed (suc n) (opening q ∷ ts) fits = closed_turn_follows n _ fits refl (λ x k y same_next e. cc (same_next.1, e)) (follows_closed n)
  follows_closed (suc n) (at_sign q ∷ ts) fits = closed_turn_follows n _ fits refl (λ x k y same_next e. cc (same_next.1, e)) (follows_closed n)
  follows_closed (suc n) (symbol q s ∷ ts) fits = closed_turn_follows n _ fits refl (λ x k y same_next e. cc (same_next.1, e)) (follows_closed n)
  follows_closed (suc n) (int q z ∷ ts) fits = closed_turn_follows n _ fits refl (λ x k y same_next e. cc (same_next.1, e)) (follows_closed n)

  pub follows_rest_of : Follows (Closed L) F d (suc d) (rest_of p)
  follows_rest_of = record { reads = λ ts. follows_closed (suc (length ts)) ts (omega arith) }

-- what was read is shorter than what it was read from
pub shorter_after : {A : Type 0} (L : A → List Placed → Type 0) (F : List Placed → Type 0) (d e : ℕ) (ts : List Placed) → Starts L → (x : Read A)
    → FollowsAt L F d e ts x → (a : A) (r : List Placed) → x ≡ done a r → length r < length ts
shorter_after L F d e ts s (done b q) g a r h = let same : q ≡ r = cc in
    omega (arith, ap length same, ap length g.split, length-append g.used q, positive L s b g.used g.spelt)
shorter_after L F d e ts s (fault q) g a r h = cc
shorter_after L F d e ts s (deep q) g a r h = cc

-- ---- one after another, up to the end

abbrev pub AtEnd : List Placed → Type 0
AtEnd ts = ts ≡ []

module _ {A : Type 0} (L : A → List Placed → Type 0) (F1 : List Placed
    → Type 0) (d : ℕ) (p : Reader A) (good : Follows L F1 d d p) (starts : Starts L)
    (before : (b : A) (v w : List Placed) → L b v → F1 (v ++ w)) (last : F1 []) where
  each_before : (b : List A) (v w : List Placed) → Each L b v → AtEnd w → F1 (v ++ w)
  each_before [] v w c fw = subst F1 ((λ i. sym c i ++ sym fw i)) last
  each_before (a ∷ rest) v w c fw = subst F1 (sym (append_assoc c.0 c.1 w) ∙ ap (λ x. x ++ w) (sym c.2)) (before a c.0 (c.1 ++ w) c.3)

  each_empty : (b : List A) (v : List Placed) → Each L b v → v ≡ [] → b ≡ []
  each_empty [] v c e = refl
  each_empty (a ∷ rest) v c e = absurd (starts.filled a c.0 c.3 (nothing_before c.0 c.1 (sym e ∙ c.2)))

  each_some : (b : List A) (v w y : List Placed) (t : Placed) → Each L b v → AtEnd w → v ++ w ≡ t ∷ y
      → (x : A × List A) × (b ≡ x.0 ∷ x.1) × Both L (Each L) x v
  each_some [] v w y t c fw e = let k : [] ≡ t ∷ y = (λ i. sym c i ++ sym fw i) ∙ e in absurd (cc)
  each_some (a ∷ rest) v w y t c fw e = ((a, rest), refl, c)

  all_follows : (n : ℕ) (ts : List Placed) → length ts < n → FollowsAt (Each L) AtEnd d d ts (many at_end p n ts)
  unfolding many
  all_follows zero ts fits = absurd (omega arith)
  all_follows (suc n) [] fits = record {
    used = [];
    split = refl;
    spelt = refl;
    nests = refl;
    only = record {
      holds = λ s same_next b v w c fw e.
          let none = nothing_before v w (sym same_next ∙ sym e) in (each_empty b v c none, none);
    };
  }
  all_follows (suc n) (t ∷ ts) fits =
      follows_image (Both L (Each L)) (Each L) AtEnd d d (t ∷ ts) (λ x. x.0 ∷ x.1) (λ x v l. l)
      (λ b v w x same_next c fw e. each_some b v w same_next.0 t c fw (e ∙ same_next.1))
      (seq p (many at_end p n) (t ∷ ts))
      (follows_seq_at L (Each L) F1 AtEnd d d d (t ∷ ts) each_before ([], [], refl) (many at_end p n) (p (t ∷ ts)) (good.reads (t ∷ ts))
      (λ a r g. all_follows n r (shorter g.used r (t ∷ ts) n g.split (positive L starts a g.used g.spelt) fits)))

  pub follows_all_of : Follows (Each L) AtEnd d d (all_of p)
  follows_all_of = record { reads = λ ts. all_follows (suc (length ts)) ts (omega arith) }
