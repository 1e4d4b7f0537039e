-- Single tokens, names and what stands in parentheses.
use Rattle.std.proofs.Common.{◌≡◌, ℕ, zero, suc, ◌-◌, ◌<◌, List, [], ◌∷◌, ◌++◌, length, Bool, true, false, cond, refl, sym, ap, subst, ◌∙◌}
use Rattle.std.proofs.Common.{append_assoc, length-append, arith}
use Rattle.std.proofs.lemmas.Bool.{false≢true}
use Rattle.isle_ast.specs.declared.pos.Pos.{Pos}
use Rattle.isle_ast.specs.declared.ast.Ident.{Ident}
use Rattle.isle_syntax.specs.Tokens.PlacedTokens.{Placed, opening, closing, at_sign, symbol, int}
use Rattle.isle_syntax.specs.Grammar.Phrases.{◌⊙◌, Both, Opens, Closes, Closed, Word, Says, SymbolOf, next_symbol_is}
use Rattle.isle_syntax.specs.Tokens.Names.{is_word}
use Rattle.std.specs.Cmp.Lexicographic.{same_text}
use Rattle.std.proofs.lemmas.Cmp.{nat_list_eq_equiv}
use Rattle.isle_syntax.specs.Inside.Reading.Readers.{done, fault, Reader, read_map, seq, opened, shut, parens, closed, symbol_of, word, says}
use Rattle.isle_syntax.proofs.Reading.Follows.{start, SameNext, Begins, FollowsAt, Follows, Any, Starts, follows_refusal, follows_token}
use Rattle.isle_syntax.proofs.Reading.Follows.{follows_seq_at, follows_image}

-- the first token of a phrase is the first of what begins with it
pub first_is : (t s : Placed) (rest v w y : List Placed) → v ≡ s ∷ rest → v ++ w ≡ t ∷ y → s ≡ t
first_is t s rest v w y e h = let k : s ∷ (rest ++ w) ≡ t ∷ y = ap (λ x. x ++ w) (sym e) ∙ h in cc

-- ---- parentheses

opens_nothing : (ts : List Placed) → ((x : List Placed) (p : Pos) (y : List Placed) → SameNext ts x → x ≡ opening p ∷ y → ⊥)
    → (b : Pos) (v w x : List Placed) → SameNext ts x → Opens b v → v ++ w ≡ x → ⊥
opens_nothing ts other b v w x same_next o e = other x b w same_next (sym e ∙ ap (λ z. z ++ w) o)

abbrev pub some_opens : Begins Opens []
some_opens = (start, opening start ∷ [], refl)

pub follows_opened : (d : ℕ) → Follows Opens Any (suc d) d opened
follows_opened d = record { reads = go }
  where
    go : (ts : List Placed) → FollowsAt Opens Any (suc d) d ts (opened ts)
    go [] = follows_refusal d [] some_opens (opens_nothing [] (λ x p y same_next e. cc (same_next, e)))
    go (opening p ∷ ts) = follows_token (opening p) ts p refl refl (λ b v w y o fw e. let h : opening b ∷ w ≡ opening p ∷ y = ap (λ x. x ++ w) (sym o)
        ∙ e in let same : b ≡ p = cc in (same, o ∙ ap (λ k. opening k ∷ []) same))
    go (closing p ∷ ts) = follows_refusal d (closing p ∷ ts) some_opens (opens_nothing (closing p ∷ ts) (λ x k y same_next e. cc (same_next.1, e)))
    go (at_sign p ∷ ts) = follows_refusal d (at_sign p ∷ ts) some_opens (opens_nothing (at_sign p ∷ ts) (λ x k y same_next e. cc (same_next.1, e)))
    go (symbol p s ∷ ts) = follows_refusal d (symbol p s ∷ ts) some_opens (opens_nothing (symbol p s ∷ ts) (λ x k y same_next e. cc (same_next.1, e)))
    go (int p z ∷ ts) = follows_refusal d (int p z ∷ ts) some_opens (opens_nothing (int p z ∷ ts) (λ x k y same_next e. cc (same_next.1, e)))

-- where no more may be open
module _ {B : Type 0} (L : B → List Placed → Type 0) (F : List Placed → Type 0) (some : Begins L []) (opens : (b : B) (v : List Placed) → L b v
    → (p : Pos) × (u : List Placed) × (v ≡ opening p ∷ u))
    (first : (p : Pos) → Begins L (opening p ∷ [])) where
  none_opens : (ts : List Placed) → ((x : List Placed) (p : Pos) (y : List Placed) → SameNext ts x → x ≡ opening p ∷ y → ⊥)
      → (b : B) (v w x : List Placed) → SameNext ts x → L b v → v ++ w ≡ x → ⊥
  none_opens ts other b v w x same_next l e = let o = opens b v l in other x o.0 (o.1 ++ w) same_next (sym e ∙ ap (λ z. z ++ w) o.2)

  pub follows_shut : (e : ℕ) → Follows L F 0 e shut
  follows_shut e = record { reads = go }
    where
      go : (ts : List Placed) → FollowsAt L F 0 e ts (shut ts)
      go [] = follows_refusal e [] some (none_opens [] (λ x p y same_next h. cc (same_next, h)))
      go (opening p ∷ ts) = record { used = []; split = refl; pos = p; rest = ts; parenthesis = refl; nests = refl; begins = first p }
      go (closing p ∷ ts) = follows_refusal e (closing p ∷ ts) some (none_opens (closing p ∷ ts) (λ x k y same_next h. cc (same_next.1, h)))
      go (at_sign p ∷ ts) = follows_refusal e (at_sign p ∷ ts) some (none_opens (at_sign p ∷ ts) (λ x k y same_next h. cc (same_next.1, h)))
      go (symbol p s ∷ ts) = follows_refusal e (symbol p s ∷ ts) some (none_opens (symbol p s ∷ ts) (λ x k y same_next h. cc (same_next.1, h)))
      go (int p z ∷ ts) = follows_refusal e (int p z ∷ ts) some (none_opens (int p z ∷ ts) (λ x k y same_next h. cc (same_next.1, h)))

shut_seq : {A B : Type 0} (q : Reader B) (ts : List Placed) → shut {A = A × B} ts ≡ seq (shut {A = A}) q ts
shut_seq q [] = refl
shut_seq q (opening p ∷ ts) = refl
shut_seq q (closing p ∷ ts) = refl
shut_seq q (at_sign p ∷ ts) = refl
shut_seq q (symbol p s ∷ ts) = refl
shut_seq q (int p z ∷ ts) = refl

-- what stands in parentheses, and goes on where there is another room, of which nothing is asked of what follows its opening
pub follows_parens_at : {B : Type 0} {M : B → List Placed → Type 0} (F : List Placed → Type 0) (d e : ℕ) (q : ℕ → Reader B) (ts : List Placed)
    → Begins M []
    → ((n : ℕ) → d ≡ suc n → (r : List Placed) → length r < length ts → FollowsAt M F n e r (q n r))
    → FollowsAt (Both Opens M) F d e ts (parens d q ts)
follows_parens_at {M = M} F zero e q ts some inner =
    subst (FollowsAt (Both Opens M) F 0 e ts) (shut_seq (q (0 - 1)) ts)
    ((follows_shut (Both Opens M) F ((start, some.0), opening start ∷ some.1, (opening start ∷ [], some.1, refl, refl, some.2))
    (λ b v l. (b.0, l.1, l.2 ∙ ap (λ k. k ++ l.1) l.3)) (λ p. ((p, some.0), some.1, (opening p ∷ [], some.1, refl, refl, some.2))) e).reads ts)
follows_parens_at {M = M} F (suc d) e q ts some inner =
    let same : d ≡ suc d - 1 = omega arith in
    follows_seq_at Opens M Any F (suc d) d e ts (λ b v w m fw. tt) some (q (suc d - 1)) (opened ts) ((follows_opened d).reads ts)
    (λ a r g. subst (λ n. FollowsAt M F d e r (q n r)) same
    (inner d refl r (omega (arith, ap length g.split, length-append g.used r, ap length g.spelt))))

pub follows_parens_to : {B : Type 0} {M : B → List Placed → Type 0} {F : List Placed → Type 0} (d e : ℕ) (q : ℕ → Reader B) → Begins M []
    → ((n : ℕ) → d ≡ suc n → Follows M F n e (q n))
    → Follows (Both Opens M) F d e (parens d q)
follows_parens_to {M = M} {F = F} d e q some inner = record { reads = λ ts. follows_parens_at F d e q ts some (λ n same r h. (inner n same).reads r) }

-- what stands in parentheses up to the closing one
pub follows_parens : {B : Type 0} {M : B → List Placed → Type 0} {F : List Placed → Type 0} (d : ℕ) (q : ℕ → Reader B) → Begins M []
    → ((n : ℕ) → Follows M F n (suc n) (q n))
    → Follows (Both Opens M) F d d (parens d q)
follows_parens {M = M} {F = F} d q some inner = follows_parens_to d d q some (λ n same. subst (λ e. Follows M F n e (q n)) (sym same) (inner n))

-- ---- a closing parenthesis

closes_nothing : (ts : List Placed) → ((x : List Placed) (p : Pos) (y : List Placed) → SameNext ts x → x ≡ closing p ∷ y → ⊥)
    → (b : Unit {0}) (v w x : List Placed) → SameNext ts x → Closes b v → v ++ w ≡ x → ⊥
closes_nothing ts other b v w x same_next c e = other x c.0 w same_next (sym e ∙ ap (λ z. z ++ w) c.1)

abbrev pub some_closes : Begins Closes []
some_closes = (tt, closing start ∷ [], (start, refl))

pub follows_close : (d : ℕ) → Follows Closes Any d (suc d) closed
follows_close d = record { reads = go }
  where
    go : (ts : List Placed) → FollowsAt Closes Any d (suc d) ts (closed ts)
    go [] = follows_refusal (suc d) [] some_closes (closes_nothing [] (λ x p y same_next e. cc (same_next, e)))
    go (closing p ∷ ts) = follows_token (closing p) ts tt (p, refl) refl (λ b v w y c fw e. let h : closing c.0 ∷ w
        ≡ closing p ∷ y = ap (λ x. x ++ w) (sym c.1) ∙ e in let same : c.0 ≡ p = cc in (refl, c.1 ∙ ap (λ k. closing k ∷ []) same))
    go (opening p ∷ ts) =
        follows_refusal (suc d) (opening p ∷ ts) some_closes (closes_nothing (opening p ∷ ts) (λ x k y same_next e. cc (same_next.1, e)))
    go (at_sign p ∷ ts) =
        follows_refusal (suc d) (at_sign p ∷ ts) some_closes (closes_nothing (at_sign p ∷ ts) (λ x k y same_next e. cc (same_next.1, e)))
    go (symbol p s ∷ ts) =
        follows_refusal (suc d) (symbol p s ∷ ts) some_closes (closes_nothing (symbol p s ∷ ts) (λ x k y same_next e. cc (same_next.1, e)))
    go (int p z ∷ ts) = follows_refusal (suc d) (int p z ∷ ts) some_closes (closes_nothing (int p z ∷ ts) (λ x k y same_next e. cc (same_next.1, e)))

-- ---- symbols

abbrev pub ident : Pos → List ℕ → Ident
ident p s = record { 0 = s; 1 = p }

pub symbol_here : (p : List ℕ → Bool) (b : Ident) (v w y : List Placed) (q : Pos) (s : List ℕ) → SymbolOf p b v → v ++ w ≡ symbol q s ∷ y
    → (b ≡ ident q s) × (v ≡ symbol q s ∷ []) × (p s ≡ true)
symbol_here p b v w y q s n e =
    let h : symbol b.1 b.0 ∷ w ≡ symbol q s ∷ y = ap (λ x. x ++ w) (sym n.0) ∙ e in
    let place : b.1 ≡ q = cc in
    let text : b.0 ≡ s = cc in
    ((λ i. ident (place i) (text i)), n.0 ∙ (λ i. symbol (place i) (text i) ∷ []), sym (ap p text) ∙ n.1)

symbols_nothing : (p : List ℕ → Bool) (ts : List Placed)
    → ((x : List Placed) (k : Pos) (s : List ℕ) (y : List Placed) → SameNext ts x → x ≡ symbol k s ∷ y → ⊥) → (b : Ident) (v w x : List Placed)
    → SameNext ts x → SymbolOf p b v → v ++ w ≡ x → ⊥
symbols_nothing p ts other b v w x same_next n e = other x b.1 b.0 w same_next (sym e ∙ ap (λ z. z ++ w) n.0)

pub follows_symbol_at : (p : List ℕ → Bool) (some : Begins (SymbolOf p) []) (d : ℕ) (q : Pos) (s : List ℕ) (ts : List Placed) (b : Bool) → p s ≡ b
    → FollowsAt (SymbolOf p) Any d d (symbol q s ∷ ts) (cond b (done (ident q s) ts) (fault (symbol q s ∷ ts)))
follows_symbol_at p some d q s ts true h =
    follows_token (symbol q s) ts (ident q s) (refl, h) refl (λ b v w y n fw e. let r = symbol_here p b v w y q s n e in (r.0, r.1))
follows_symbol_at p some d q s ts false h = follows_refusal d _ some (λ b v w x same_next n e. let r = symbol_here p b v w same_next.0 q s n (e
    ∙ same_next.1) in false≢true (sym h ∙ r.2))

pub follows_symbol_of : (p : List ℕ → Bool) (some : Begins (SymbolOf p) []) (d : ℕ) → Follows (SymbolOf p) Any d d (symbol_of p)
follows_symbol_of p some d = record { reads = go }
  where
    go : (ts : List Placed) → FollowsAt (SymbolOf p) Any d d ts (symbol_of p ts)
    go [] = follows_refusal d [] some (symbols_nothing p [] (λ x k s y same_next e. cc (same_next, e)))
    go (opening q ∷ ts) = follows_refusal d (opening q ∷ ts) some (symbols_nothing p (opening q ∷ ts) (λ x k s y same_next e. cc (same_next.1, e)))
    go (closing q ∷ ts) = follows_refusal d (closing q ∷ ts) some (symbols_nothing p (closing q ∷ ts) (λ x k s y same_next e. cc (same_next.1, e)))
    go (at_sign q ∷ ts) = follows_refusal d (at_sign q ∷ ts) some (symbols_nothing p (at_sign q ∷ ts) (λ x k s y same_next e. cc (same_next.1, e)))
    go (symbol q s ∷ ts) = follows_symbol_at p some d q s ts (p s) refl
    go (int q z ∷ ts) = follows_refusal d (int q z ∷ ts) some (symbols_nothing p (int q z ∷ ts) (λ x k s y same_next e. cc (same_next.1, e)))

pub symbol_filled : (p : List ℕ → Bool) (b : Ident) (v : List Placed) → SymbolOf p b v → v ≡ [] → ⊥
symbol_filled p b v l e = let k : [] ≡ symbol b.1 b.0 ∷ [] = sym e ∙ l.0 in cc

pub symbol_starts : (p : List ℕ → Bool) → Starts (SymbolOf p)
symbol_starts p = record {
  filled = symbol_filled p;
  inside = λ b v w y q l e. (let k : symbol b.1 b.0 ∷ w ≡ closing q ∷ y = ap (λ x. x ++ w) (sym l.0) ∙ e in cc);
}

-- ---- phrases of several parts

abbrev pub some_both : {A B : Type 0} {L : A → List Placed → Type 0} {M : B → List Placed → Type 0} → Begins L [] → Begins M [] → Begins (Both L M) []
some_both l m = ((l.0, m.0), l.1 ++ m.1, (l.1, m.1, refl, l.2, m.2))

abbrev pub some_closed : {A : Type 0} (L : A → List Placed → Type 0) → Begins (Closed L) []
some_closed L = ([], closing start ∷ [], ([], closing start ∷ [], refl, refl, (start, refl)))

-- a phrase is filled where its first part is
pub both_filled : {A B : Type 0} (L : A → List Placed → Type 0) (M : B → List Placed → Type 0) → ((a : A) (u : List Placed) → L a u → u ≡ [] → ⊥)
    → (x : A × B) (v : List Placed) → Both L M x v → v ≡ [] → ⊥
both_filled L M filled x v l e = filled x.0 l.0 l.3 (nothing l.0 l.1 (sym e ∙ l.2))
  where
    nothing : (u w : List Placed) → [] ≡ u ++ w → u ≡ []
    nothing [] w h = refl
    nothing (t ∷ u) w h = absurd (cc)

pub opens_filled : (p : Pos) (v : List Placed) → Opens p v → v ≡ [] → ⊥
opens_filled p v o e = let k : [] ≡ opening p ∷ [] = sym e ∙ o in cc

pub closes_filled : (x : Unit {0}) (v : List Placed) → Closes x v → v ≡ [] → ⊥
closes_filled x v c e = let k : [] ≡ closing c.0 ∷ [] = sym e ∙ c.1 in cc

-- ---- words

pub word_same : (w s : List ℕ) → is_word w s ≡ true → s ≡ w
word_same w s e = same_text s w (sym e)

pub word_is : (w : List ℕ) → is_word w w ≡ true
word_is w = nat_list_eq_equiv.refl w

pub some_word : (w : List ℕ) → Begins (SymbolOf (is_word w)) []
some_word w = (ident start w, symbol start w ∷ [], (refl, word_is w))

pub some_says : (w : List ℕ) → Begins (Says w) []
some_says w = (tt, symbol start w ∷ [], (start, refl))

pub follows_says : (w : List ℕ) (d : ℕ) → Follows (Says w) Any d d (says w)
follows_says w d = record {
  reads = λ ts. follows_image (SymbolOf (is_word w)) (Says w) Any d d ts (λ x. tt) (λ a u l. (
    a.1,
    l.0
        ∙ ap (λ s. symbol a.1 s ∷ []) (word_same w a.0 l.1),
  ))
      (λ b v x y same_next l fw e. (ident l.0 w, refl, (l.1, word_is w))) (symbol_of (is_word w) ts)
      ((follows_symbol_of (is_word w) (some_word w) d).reads ts);
}

pub says_filled : (w : List ℕ) (x : Unit {0}) (v : List Placed) → Says w x v → v ≡ [] → ⊥
says_filled w x v l e = let k : [] ≡ symbol l.0 w ∷ [] = sym e ∙ l.1 in cc

pub says_names : (p : List ℕ → Bool) (w : List ℕ) (x : Unit {0}) (u v : List Placed) → Says w x u → next_symbol_is p (u ++ v) ≡ p w
says_names p w x u v l = ap (λ k. next_symbol_is p (k ++ v)) l.1

-- the word with its place
pub some_place : (w : List ℕ) → Begins (Word w) []
some_place w = (start, symbol start w ∷ [], refl)

pub follows_word : (w : List ℕ) (d : ℕ) → Follows (Word w) Any d d (word w)
follows_word w d = record {
  reads = λ ts. follows_image (SymbolOf (is_word w)) (Word w) Any d d ts (λ x. x.1) (λ a u l. l.0 ∙ ap (λ s. symbol a.1 s ∷ []) (word_same w a.0 l.1))
      (λ b v x y same_next l fw e. (ident b w, refl, (l, word_is w))) (symbol_of (is_word w) ts)
      ((follows_symbol_of (is_word w) (some_word w) d).reads ts);
}

pub word_filled : (w : List ℕ) (p : Pos) (v : List Placed) → Word w p v → v ≡ [] → ⊥
word_filled w p v l e = let k : [] ≡ symbol p w ∷ [] = sym e ∙ l in cc

-- ---- phrases under other names

pub follows_map : {A B : Type 0} {L : A → List Placed → Type 0} {K : B → List Placed → Type 0} {F : List Placed
    → Type 0} {d e : ℕ} {p : Reader A} (f : A → B)
    → ((a : A) (u : List Placed) → L a u → K (f a) u) → ((b : B) (v : List Placed) → K b v → (a : A) × (b ≡ f a) × L a v) → Follows L F d e p
    → Follows K F d e (λ ts. read_map f (p ts))
follows_map {L = L} {K = K} {F = F} {d = d} {e = e} {p = p} f into back g =
    record { reads = λ ts. follows_image L K F d e ts f into (λ b v w x same_next k fw q. back b v k) (p ts) (g.reads ts) }

-- three phrases, grouped to the right and to the left
pub group_right : (L M N : List Placed → Type 0) (ts : List Placed) → ((L ⊙ M) ⊙ N) ts → (L ⊙ (M ⊙ N)) ts
group_right L M N ts l = let h = l.3 in (h.0, h.1 ++ l.1, l.2 ∙ ap (λ k. k ++ l.1) h.2 ∙ append_assoc h.0 h.1 l.1, h.3, (h.1, l.1, refl, h.4, l.4))

pub group_left : (L M N : List Placed → Type 0) (ts : List Placed) → (L ⊙ (M ⊙ N)) ts → ((L ⊙ M) ⊙ N) ts
group_left L M N ts l = let h = l.4 in (
  l.0 ++ h.0,
  h.1,
  l.2 ∙ ap (λ k. l.0 ++ k) h.2
      ∙ sym (append_assoc l.0 h.0 h.1),
  (l.0, h.0, refl, l.3, h.3),
  h.4,
)

pub closed_is_filled : {A : Type 0} (L : A → List Placed → Type 0) (b : List A) (v : List Placed) → Closed L b v → v ≡ [] → ⊥
closed_is_filled L b v c e = ends c.0 c.4.0 (ap (λ k. c.0 ++ k) (sym c.4.1) ∙ sym c.2 ∙ e)
  where
    ends : (u : List Placed) (q : Pos) → u ++ closing q ∷ [] ≡ [] → ⊥
    ends [] q h = cc
    ends (t ∷ u) q h = cc
