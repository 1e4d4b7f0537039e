-- Reading a pattern follows the grammar, where no `@` comes next.
use Rattle.std.proofs.Common.{◌≡◌, ℕ, zero, suc, ◌<◌, List, [], ◌∷◌, ◌++◌, length, Bool, true, false, cond, Option, Some, None, append-nil, refl, sym}
use Rattle.std.proofs.Common.{ap, subst, ◌∙◌}
use Rattle.std.specs.Prelude.{◌&&◌, ◌||◌, not, codes}
use Rattle.isle_syntax.specs.declared.kind.Kind.{Kind}
use Rattle.isle_syntax.specs.declared.kind.Kind.TheVariants.{True, False, Const, Wildcard, Name, Other}
use Rattle.isle_ast.specs.declared.pos.Pos.{Pos}
use Rattle.isle_ast.specs.declared.ast.Ident.{Ident}
use Rattle.isle_syntax.specs.Tokens.PlacedTokens.{Placed, opening, closing, at_sign, symbol, int}
use Rattle.isle_syntax.specs.Tokens.Names.{is_ident, is_word, is_pname}
use Rattle.isle_syntax.specs.Grammar.Phrases.{◌⊙◌, Both, Opens, AtSign, SymbolOf, Each, Closed}
use Rattle.isle_syntax.specs.Inside.Reading.KindOf.{symbol_kind}
use Rattle.isle_syntax.specs.Inside.Reading.Readers.{Read, done, fault, Reader, read_map, seq, rest_of, opened, symbol_of}
use Rattle.isle_ast.specs.Trees.PatternTree.{PatternTree, PatternTrees, pattern_var, pattern_bind, pattern_bool, pattern_int, pattern_prim}
use Rattle.isle_ast.specs.Trees.PatternTree.{pattern_term, pattern_wildcard, pattern_and, pattern_macro_arg, no_patterns, more_patterns}
use Rattle.isle_syntax.specs.Grammar.TreeGrammar.{bits_of, is_large, is_pattern_term, SpellsPattern, SpellsPatterns, IsList, ListPattern}
use Rattle.isle_syntax.specs.Inside.Reading.TreeReading.{ident, after_dollar, pattern_trees, is_head, listed, named, symbol_pattern, pattern_with, bound}
use Rattle.isle_syntax.specs.Inside.Reading.TreeReading.{pattern_list, pattern}
use Rattle.isle_syntax.proofs.Reading.Follows.{start, SameNext, Begins, FollowsAt, Follows, Any, Starts, follows_refusal, follows_token}
use Rattle.isle_syntax.proofs.Reading.Follows.{follows_image, follows_seq, follows_seq_at, follows_rest_of, shorter_after}
use Rattle.isle_syntax.proofs.Reading.Basics.{first_is, follows_opened, follows_shut, follows_symbol_of, symbol_here, some_both, some_closed}
use Rattle.isle_syntax.proofs.Reading.Basics.{word_same}
use Rattle.isle_syntax.proofs.Reading.SymbolKinds.{and_first, and_second, not_false, Known, symbol_known, true_kind, false_kind, wildcard_kind}
use Rattle.isle_syntax.proofs.Reading.SymbolKinds.{const_kind, const_from, const_text, const_name, pname_kind}
use Rattle.isle_syntax.proofs.Reading.ReadSteps.{fuse}
use Rattle.isle_syntax.proofs.Reading.PatternEnds.{NotAt, same_next_not_at}

pub patterns_from_each : (l : List PatternTree) (ts : List Placed) → Each SpellsPattern l ts → SpellsPatterns (pattern_trees l) ts
patterns_from_each [] ts e = e
patterns_from_each (i ∷ l) ts e = (e.0, e.1, e.2, e.3, patterns_from_each l e.1 e.4)

pub each_from_patterns : (ps : PatternTrees) (ts : List Placed) → SpellsPatterns ps ts → (l : List PatternTree) × (ps ≡ pattern_trees l)
    × Each SpellsPattern l ts
each_from_patterns no_patterns ts e = ([], refl, e)
each_from_patterns (more_patterns i ps) ts e = let r = each_from_patterns ps e.1 e.4 in (i ∷ r.0, ap (more_patterns i) r.1, (e.0, e.1, e.2, e.3, r.2))

-- what may follow a name
abbrev Tail : Option PatternTree → List Placed → Type 0
Tail None ts = ts ≡ []
Tail (Some sub) ts = (AtSign tt ⊙ SpellsPattern sub) ts

abbrev Listed : Pos × (Ident × List PatternTree) → List Placed → Type 0
Listed = Both Opens (Both (SymbolOf is_head) (Closed SpellsPattern))

-- what a pattern is that begins with a symbol of a kind, and one that begins with a token
abbrev SymbolAt : Pos → List ℕ → Kind → PatternTree → List Placed → Type 0
SymbolAt p s True b v = (b ≡ pattern_bool true p) × (v ≡ symbol p s ∷ [])
SymbolAt p s False b v = (b ≡ pattern_bool false p) × (v ≡ symbol p s ∷ [])
SymbolAt p s Const b v = (b ≡ pattern_prim (ident p (after_dollar s)) p) × (v ≡ symbol p s ∷ [])
SymbolAt p s Wildcard b v = (b ≡ pattern_wildcard p) × (v ≡ symbol p s ∷ [])
SymbolAt p s Name b v = (o : Option PatternTree) × (b ≡ named (ident p s) o) × (SymbolOf is_pname (ident p s) ⊙ Tail o) v
SymbolAt p s _ b v = ⊥

abbrev PatternAt : Placed → PatternTree → List Placed → Type 0
PatternAt (opening p) b v = (x : Pos × (Ident × List PatternTree)) × (b ≡ listed x) × Listed x v
PatternAt (closing p) b v = ⊥
PatternAt (at_sign p) b v = ⊥
PatternAt (symbol p s) b v = SymbolAt p s (symbol_kind s) b v
PatternAt (int p n) b v = (b ≡ pattern_int (bits_of n) (is_large n) p) × (v ≡ int p n ∷ [])

-- ---- a list

or_left : (a b : Bool) → a ≡ true → (a || b) ≡ true
or_left a b e = rw e refl

or_right : (a b : Bool) → b ≡ true → (a || b) ≡ true
or_right true b e = refl
or_right false b e = e

pub term_is_ident : (s : List ℕ) → is_pattern_term s ≡ true → is_ident s ≡ true
term_is_ident s e = and_first (is_ident s) _ e

term_no_and : (s : List ℕ) → is_pattern_term s ≡ true → is_word (codes "and") s ≡ false
term_no_and s e = not_false _ (and_second (is_ident s) _ e)

-- a spelt list is read as one
listed_back : (b : PatternTree) (v : List Placed) → SpellsPattern b v → IsList b → (x : Pos × (Ident × List PatternTree)) × (b ≡ listed x)
    × Listed x v
listed_back (pattern_term x ps p) v l is_list =
    let h = l.4 in
    let each = each_from_patterns ps h.4.0 h.4.3 in (
      (p, (x, each.0)),
      rw (term_no_and x.0 h.3.1) (ap (λ ps. pattern_term x ps p) each.1),
      (
        l.0,
        l.1,
        l.2,
        l.3,
        (
          h.0,
          h.1,
          h.2,
          (h.3.0, or_right (is_word (codes "and") x.0) (is_ident x.0) (term_is_ident x.0 h.3.1)),
          (h.4.0, h.4.1, h.4.2, each.2, h.4.4),
        ),
      ),
    )
listed_back (pattern_and ps p) v l is_list =
    let h = l.4 in
    let each = each_from_patterns ps h.4.0 h.4.3 in (
      (p, (ident h.3.0 (codes "and"), each.0)),
      ap (λ ps. pattern_and ps p) each.1,
      (l.0, l.1, l.2, l.3, (h.0, h.1, h.2, (h.3.1, refl), (h.4.0, h.4.1, h.4.2, each.2, h.4.4))),
    )
listed_back (pattern_var _ _) v l is_list = absurd is_list
listed_back (pattern_bind _ _ _) v l is_list = absurd is_list
listed_back (pattern_bool _ _) v l is_list = absurd is_list
listed_back (pattern_int _ _ _) v l is_list = absurd is_list
listed_back (pattern_prim _ _) v l is_list = absurd is_list
listed_back (pattern_wildcard _) v l is_list = absurd is_list
listed_back (pattern_macro_arg _ _) v l is_list = absurd is_list

listed_by : (p : Pos) (x : Ident) (l : List PatternTree) (u : List Placed) (b : Bool) → is_word (codes "and") x.0 ≡ b → Listed (p, (x, l)) u
    → ListPattern (cond b (pattern_and (pattern_trees l) p) (pattern_term x (pattern_trees l) p)) u
listed_by p x l u true e h =
    let k = h.4.4 in
    let word = h.4.3.0 ∙ ap (λ s. symbol x.1 s ∷ []) (word_same (codes "and") x.0 e) in
    ((h.0, h.1, h.2, h.3, (h.4.0, h.4.1, h.4.2, (x.1, word), (k.0, k.1, k.2, patterns_from_each l k.0 k.3, k.4))), tt)
listed_by p x l u false e h =
    let k = h.4.4 in
    let head : is_ident x.0 ≡ true = sym (ap (λ b. b || is_ident x.0) e) ∙ h.4.3.1 in
    let term : is_pattern_term x.0 ≡ true = (λ i. head i && not (e i)) in
    ((h.0, h.1, h.2, h.3, (h.4.0, h.4.1, h.4.2, (h.4.3.0, term), (k.0, k.1, k.2, patterns_from_each l k.0 k.3, k.4))), tt)

listed_spelt : (x : Pos × (Ident × List PatternTree)) (u : List Placed) → Listed x u → ListPattern (listed x) u
listed_spelt x u l = listed_by x.0 x.1.0 x.1.1 u (is_word (codes "and") x.1.0.0) refl l

-- ---- the first token

pattern_at_first : (b : PatternTree) (v w y : List Placed) (t : Placed) → SpellsPattern b v → v ++ w ≡ t ∷ y → PatternAt t b v
pattern_at_first (pattern_var x p) v w y t l e =
    subst (λ k. PatternAt k (pattern_var x p) v) (first_is t _ [] v w y l.0.0 e)
    (subst (λ k. SymbolAt x.1 x.0 k (pattern_var x p) v) (sym (pname_kind x.0 l.0.1))
    (None, ap (pattern_var x) l.1, (v, [], sym (append-nil v), l.0, refl)))
pattern_at_first (pattern_bind x sub p) v w y t l e =
    subst (λ k. PatternAt k (pattern_bind x sub p) v) (first_is t _ l.0.1 v w y (l.0.2 ∙ ap (λ k. k ++ l.0.1) l.0.3.0) e)
    (subst (λ k. SymbolAt x.1 x.0 k (pattern_bind x sub p) v) (sym (pname_kind x.0 l.0.3.1)) (Some sub, ap (pattern_bind x sub) l.1, l.0))
pattern_at_first (pattern_bool true p) v w y t l e =
    subst (λ k. PatternAt k (pattern_bool true p) v) (first_is t _ [] v w y l e)
    (subst (λ k. SymbolAt p (codes "true") k (pattern_bool true p) v) (sym true_kind) (refl, l))
pattern_at_first (pattern_bool false p) v w y t l e =
    subst (λ k. PatternAt k (pattern_bool false p) v) (first_is t _ [] v w y l e)
    (subst (λ k. SymbolAt p (codes "false") k (pattern_bool false p) v) (sym false_kind) (refl, l))
pattern_at_first (pattern_int val big p) v w y t l e =
    subst (λ k. PatternAt k (pattern_int val big p) v) (first_is t _ [] v w y l.1 e) ((λ i. pattern_int (l.2 i) (l.3 i) p), l.1)
pattern_at_first (pattern_prim x p) v w y t l e =
    subst (λ k. PatternAt k (pattern_prim x p) v) (first_is t _ [] v w y l.0.0 e)
    (subst (λ k. SymbolAt x.1 (36 ∷ x.0) k (pattern_prim x p) v) (sym (const_kind (36 ∷ x.0) (const_from x.0 l.0.1)))
    (ap (pattern_prim x) l.1, l.0.0))
pattern_at_first (pattern_term x ps p) v w y t l e =
    subst (λ k. PatternAt k (pattern_term x ps p) v) (first_is t (opening p) l.1 v w y (l.2 ∙ ap (λ k. k ++ l.1) l.3) e)
    (listed_back (pattern_term x ps p) v l tt)
pattern_at_first (pattern_wildcard p) v w y t l e =
    subst (λ k. PatternAt k (pattern_wildcard p) v) (first_is t _ [] v w y l e)
    (subst (λ k. SymbolAt p (codes "_") k (pattern_wildcard p) v) (sym wildcard_kind) (refl, l))
pattern_at_first (pattern_and ps p) v w y t l e =
    subst (λ k. PatternAt k (pattern_and ps p) v) (first_is t (opening p) l.1 v w y (l.2 ∙ ap (λ k. k ++ l.1) l.3) e)
    (listed_back (pattern_and ps p) v l tt)
pattern_at_first (pattern_macro_arg i p) v w y t l e = absurd l

pub pattern_filled : (b : PatternTree) (v : List Placed) → SpellsPattern b v → v ≡ [] → ⊥
pattern_filled (pattern_var x p) v l e = let k : [] ≡ symbol x.1 x.0 ∷ [] = sym e ∙ l.0.0 in cc
pattern_filled (pattern_bind x sub p) v l e = let k : [] ≡ symbol x.1 x.0 ∷ l.0.1 = sym e ∙ l.0.2 ∙ ap (λ k. k ++ l.0.1) l.0.3.0 in cc
pattern_filled (pattern_bool b p) v l e = cc
pattern_filled (pattern_int val big p) v l e = let k : [] ≡ int p l.0 ∷ [] = sym e ∙ l.1 in cc
pattern_filled (pattern_prim x p) v l e = let k : [] ≡ symbol x.1 (36 ∷ x.0) ∷ [] = sym e ∙ l.0.0 in cc
pattern_filled (pattern_term x ps p) v l e = let k : [] ≡ opening p ∷ l.1 = sym e ∙ l.2 ∙ ap (λ x. x ++ l.1) l.3 in cc
pattern_filled (pattern_wildcard p) v l e = cc
pattern_filled (pattern_and ps p) v l e = let k : [] ≡ opening p ∷ l.1 = sym e ∙ l.2 ∙ ap (λ x. x ++ l.1) l.3 in cc
pattern_filled (pattern_macro_arg i p) v l e = l

pub pattern_starts : Starts SpellsPattern
pattern_starts = record { filled = pattern_filled; inside = λ b v w y q l e. pattern_at_first b v w y (closing q) l e }

pub some_pattern : Begins SpellsPattern []
some_pattern = (pattern_wildcard start, symbol start (codes "_") ∷ [], refl)

nothing_at_end : (b : PatternTree) (v w x : List Placed) → SameNext [] x → SpellsPattern b v → v ++ w ≡ x → ⊥
nothing_at_end b [] w x same_next l e = pattern_filled b [] l refl
nothing_at_end b (t ∷ v) w x same_next l e = cc (same_next, e)

-- no pattern begins with `@`
pub pattern_not_at : (b : PatternTree) (v w : List Placed) → SpellsPattern b v → NotAt (v ++ w)
pattern_not_at b [] w l = absurd (pattern_filled b [] l refl)
pattern_not_at b (opening p ∷ v) w l = tt
pattern_not_at b (closing p ∷ v) w l = tt
pattern_not_at b (at_sign p ∷ v) w l = pattern_at_first b (at_sign p ∷ v) w (v ++ w) (at_sign p) l refl
pattern_not_at b (symbol p s ∷ v) w l = tt
pattern_not_at b (int p z ∷ v) w l = tt

-- ---- reading a list

some_head : Begins (SymbolOf is_head) []
some_head = (ident start (codes "and"), symbol start (codes "and") ∷ [], (refl, refl))

follows_patterns_of : (F : List Placed → Type 0) (d : ℕ) → Follows SpellsPattern NotAt d d (pattern d)
    → Follows (Closed SpellsPattern) F d (suc d) (rest_of (pattern d))
follows_patterns_of F d g = follows_rest_of SpellsPattern NotAt F d (pattern d) g pattern_starts pattern_not_at (λ q w. tt)

follows_listed : (F : List Placed → Type 0) (d : ℕ) → Follows SpellsPattern NotAt d d (pattern d)
    → Follows Listed F (suc d) (suc d) (seq opened (seq (symbol_of is_head) (rest_of (pattern d))))
follows_listed F d g = follows_seq (some_both some_head (some_closed SpellsPattern)) (follows_opened d)
    (follows_seq (some_closed SpellsPattern) (follows_symbol_of is_head some_head d) (follows_patterns_of F d g))

list_first : (p : Pos) → Begins ListPattern (opening p ∷ [])
list_first p = (
  pattern_and no_patterns p,
  symbol start (codes "and") ∷ closing start ∷ [],
  (
    (
      opening p ∷ [],
      symbol start (codes "and") ∷ closing start ∷ [],
      refl,
      refl,
      (symbol start (codes "and") ∷ [], closing start ∷ [], refl, (start, refl), ([], closing start ∷ [], refl, refl, (start, refl))),
    ),
    tt,
  ),
)

follows_list_here : (d : ℕ) (p : Pos) (ts : List Placed) → Follows SpellsPattern NotAt d d (pattern d)
    → FollowsAt SpellsPattern NotAt (suc d) (suc d) (opening p ∷ ts) (pattern_list (suc d) (opening p ∷ ts))
unfolding pattern_list
follows_list_here d p ts ih =
    follows_image Listed SpellsPattern NotAt (suc d) (suc d) (opening p ∷ ts) listed
    (λ a u l. (listed_spelt a u l).0)
    (λ b v w x same_next l fw e. pattern_at_first b v w same_next.0 (opening p) l (e ∙ same_next.1))
    (seq opened (seq (symbol_of is_head) (rest_of (pattern d))) (opening p ∷ ts))
    ((follows_listed NotAt d ih).reads (opening p ∷ ts))

follows_list_shut : (p : Pos) (ts : List Placed) → FollowsAt SpellsPattern NotAt 0 0 (opening p ∷ ts) (pattern_list zero (opening p ∷ ts))
unfolding pattern_list
follows_list_shut p ts =
    let first = list_first p in record {
      used = [];
      split = refl;
      pos = p;
      rest = ts;
      parenthesis = refl;
      nests = refl;
      begins = (first.0, first.1, first.2.0);
    }

-- ---- names and what follows them

tail_at : (b : Option PatternTree) (v w s : List Placed) → Tail b v → NotAt w → v ++ w ≡ s → NotAt s → (b ≡ None) × (v ≡ [])
tail_at None v w s l fw e n = (refl, l)
tail_at (Some sub) v w s l fw e n = let k : s ≡ at_sign l.3.0 ∷ (l.1 ++ w) = sym e ∙ ap (λ x. x ++ w) (l.2 ∙ ap (λ x. x ++ l.1) l.3.1) in
    absurd (subst NotAt k n)

no_tail : (d : ℕ) (r : List Placed) → NotAt r → FollowsAt Tail NotAt d d r (done None r)
no_tail d r n = record {
  used = [];
  split = refl;
  spelt = refl;
  nests = refl;
  only = record { holds = λ s same_next b v w l fw e. tail_at b v w s l fw e (same_next_not_at r s same_next n) };
}

follows_at_token : (d : ℕ) (q : Pos) (ts : List Placed) → FollowsAt AtSign Any d d (at_sign q ∷ ts) (done tt ts)
follows_at_token d q ts = follows_token (at_sign q) ts tt (q, refl) refl
    (λ b v w y l fw e. let h : at_sign l.0 ∷ w ≡ at_sign q ∷ y = ap (λ x. x ++ w) (sym l.1)
    ∙ e in let k : l.0 ≡ q = cc in (refl, l.1 ∙ ap (λ j. at_sign j ∷ []) k))

after_one : (t k : Placed) (ts r u : List Placed) → t ∷ ts ≡ u ++ r → u ≡ k ∷ [] → ts ≡ r
after_one t k ts r u e f = let h : t ∷ ts ≡ k ∷ r = e ∙ ap (λ x. x ++ r) f in cc

tail_from : (q : Pos) (ts : List Placed) (b : Option PatternTree) (v w x : List Placed) → SameNext (at_sign q ∷ ts) x → Tail b v → NotAt w
    → v ++ w ≡ x → (a : Unit {0} × PatternTree) × (b ≡ Some a.1) × Both AtSign SpellsPattern a v
tail_from q ts None v w x same_next l fw e = absurd (subst NotAt (ap (λ k. k ++ w) (sym l) ∙ e ∙ same_next.1) fw)
tail_from q ts (Some sub) v w x same_next l fw e = ((tt, sub), refl, l)

follows_tail : (d : ℕ) (q : Pos) (ts : List Placed) (x : Read PatternTree) → FollowsAt SpellsPattern NotAt d d ts x
    → FollowsAt Tail NotAt d d (at_sign q ∷ ts) (read_map Some x)
follows_tail d q ts x g =
    subst (FollowsAt Tail NotAt d d (at_sign q ∷ ts)) (fuse (λ a. Some a.1) (λ b. (tt, b)) x)
    (follows_image (Both AtSign SpellsPattern) Tail NotAt d d (at_sign q ∷ ts) (λ a. Some a.1) (λ a u l. l) (tail_from q ts)
    (read_map (λ b. (tt, b)) x)
    (follows_seq_at AtSign SpellsPattern Any NotAt d d d (at_sign q ∷ ts) (λ b v w m fw. tt) some_pattern (λ r. x) (done tt ts)
    (follows_at_token d q ts) (λ a r h. subst (λ z. FollowsAt SpellsPattern NotAt d d z x)
    (after_one (at_sign q) (at_sign h.spelt.0) ts r h.used h.split h.spelt.1) g)))

named_spelt : (a : Ident × Option PatternTree) (u : List Placed) → Both (SymbolOf is_pname) Tail a u → SpellsPattern (named a.0 a.1) u
named_spelt a u l = by_tail a.1 l.4
  where
    by_tail : (o : Option PatternTree) → Tail o l.1 → SpellsPattern (named a.0 o) u
    by_tail None t = ((l.2 ∙ (λ i. l.0 ++ t i) ∙ append-nil l.0 ∙ l.3.0, l.3.1), refl)
    by_tail (Some sub) t = ((l.0, l.1, l.2, l.3, t), refl)

-- ---- patterns that begin with a symbol

module _ (d : ℕ) (p : Pos) (s : List ℕ) (ts : List Placed) (x : Read (Option PatternTree)) (g : FollowsAt Tail NotAt d d ts x) where
  begun : (k : Kind) → symbol_kind s ≡ k → (b : PatternTree) (v w y : List Placed) → SpellsPattern b v → v ++ w ≡ symbol p s ∷ y → SymbolAt p s k b v
  begun k e b v w y l q = subst (λ k. SymbolAt p s k b v) e (pattern_at_first b v w y (symbol p s) l q)

  follows_name : symbol_kind s ≡ Name → is_pname s ≡ true → FollowsAt SpellsPattern NotAt d d (symbol p s ∷ ts) (read_map (named (ident p s)) x)
  follows_name e n =
      subst (FollowsAt SpellsPattern NotAt d d (symbol p s ∷ ts)) (fuse (λ a. named a.0 a.1) (λ b. (ident p s, b)) x)
      (follows_image (Both (SymbolOf is_pname) Tail) SpellsPattern NotAt d d (symbol p s ∷ ts) (λ a. named a.0 a.1) named_spelt
      (λ b v w y same_next l fw q. let h = begun Name e b v w same_next.0 l (q ∙ same_next.1) in ((ident p s, h.0), h.1, h.2))
      (read_map (λ b. (ident p s, b)) x)
      (follows_seq_at (SymbolOf is_pname) Tail Any NotAt d d d (symbol p s ∷ ts) (λ b v w m fw. tt) (None, [], refl) (λ r. x) (done (ident p s) ts)
      (follows_token (symbol p s) ts (ident p s) (refl, n) refl (λ b v w y l fw e. let r = symbol_here is_pname b v w y p s l e in (r.0, r.1)))
      (λ a r h. subst (λ z. FollowsAt Tail NotAt d d z x) (after_one (symbol p s) _ ts r h.used h.split h.spelt.0) g)))

  follows_symbol_kind : (k : Kind) → symbol_kind s ≡ k → Known s k → FollowsAt SpellsPattern NotAt d d (symbol p s ∷ ts) (symbol_pattern p s ts x k)
  follows_symbol_kind True e h = follows_token (symbol p s) ts (pattern_bool true p) (ap (λ s. symbol p s ∷ []) h) refl
      (λ b v w y l fw q. begun True e b v w y l q)
  follows_symbol_kind False e h = follows_token (symbol p s) ts (pattern_bool false p) (ap (λ s. symbol p s ∷ []) h) refl
      (λ b v w y l fw q. begun False e b v w y l q)
  follows_symbol_kind Const e h =
      follows_token (symbol p s) ts (pattern_prim (ident p (after_dollar s)) p) ((ap (λ s. symbol p s ∷ []) (const_text s h), const_name s h), refl)
      refl (λ b v w y l fw q. begun Const e b v w y l q)
  follows_symbol_kind Wildcard e h = follows_token (symbol p s) ts (pattern_wildcard p) (ap (λ s. symbol p s ∷ []) h) refl
      (λ b v w y l fw q. begun Wildcard e b v w y l q)
  follows_symbol_kind Name e h = follows_name e h
  follows_symbol_kind Other e h = follows_refusal d (symbol p s ∷ ts) some_pattern (λ b v w y same_next l q. begun Other e b v w same_next.0 l (q
      ∙ same_next.1))
  follows_symbol_kind _ e h = absurd h

-- ---- patterns, and what follows a name, where lists are read well

module _ (d : ℕ) (list : Reader PatternTree) (lists : (p : Pos) (ts : List Placed)
    → FollowsAt SpellsPattern NotAt d d (opening p ∷ ts) (list (opening p ∷ ts))) where
  refused : (t : Placed) (ts : List Placed) → ((b : PatternTree) (v : List Placed) → PatternAt t b v → ⊥)
      → FollowsAt SpellsPattern NotAt d d (t ∷ ts) (fault (t ∷ ts))
  refused t ts none =
      follows_refusal d (t ∷ ts) some_pattern (λ b v w x same_next l e. none b v (pattern_at_first b v w same_next.0 t l (e ∙ same_next.1)))

  follows_both : (ts : List Placed) → FollowsAt SpellsPattern NotAt d d ts (pattern_with list ts) × FollowsAt Tail NotAt d d ts (bound list ts)
  unfolding pattern_with bound
  follows_both [] = (follows_refusal d [] some_pattern nothing_at_end, no_tail d [] tt)
  follows_both (opening p ∷ ts) = (lists p ts, no_tail d (opening p ∷ ts) tt)
  follows_both (closing p ∷ ts) = (refused (closing p) ts (λ b v h. h), no_tail d (closing p ∷ ts) tt)
  follows_both (at_sign p ∷ ts) = (refused (at_sign p) ts (λ b v h. h), follows_tail d p ts (pattern_with list ts) (follows_both ts).0)
  follows_both (symbol p s ∷ ts) =
      (follows_symbol_kind d p s ts (bound list ts) (follows_both ts).1 (symbol_kind s) refl (symbol_known s), no_tail d (symbol p s ∷ ts) tt)
  follows_both (int p n ∷ ts) = (
    follows_token (int p n) ts (pattern_int (bits_of n) (is_large n) p) (n, refl, refl, refl) refl
        (λ b v w y l fw e. pattern_at_first b v w y (int p n) l e),
    no_tail d (int p n ∷ ts) tt,
  )

follows_lists : (d : ℕ) (p : Pos) (ts : List Placed) → FollowsAt SpellsPattern NotAt d d (opening p ∷ ts) (pattern_list d (opening p ∷ ts))
follows_lists zero p ts = follows_list_shut p ts
follows_lists (suc d) p ts = follows_list_here d p ts (record { reads = λ r. (follows_both d (pattern_list d) (follows_lists d) r).0 })

pub follows_pattern : (d : ℕ) → Follows SpellsPattern NotAt d d (pattern d)
follows_pattern d = record { reads = λ r. (follows_both d (pattern_list d) (follows_lists d) r).0 }

pub list_opens : (b : PatternTree) (v : List Placed) → ListPattern b v → (p : Pos) × (u : List Placed) × (v ≡ opening p ∷ u)
list_opens b v l = let x = listed_back b v l.0 l.1 in (x.0.0, x.2.1, x.2.2 ∙ ap (λ k. k ++ x.2.1) x.2.3)

pub list_pattern_filled : (b : PatternTree) (v : List Placed) → ListPattern b v → v ≡ [] → ⊥
list_pattern_filled b v l e = pattern_filled b v l.0 e

pub some_list_pattern : Begins ListPattern []
some_list_pattern = let first = list_first start in (first.0, opening start ∷ first.1, first.2)

-- a term or an `and`
pub follows_pattern_list : (d : ℕ) → Follows ListPattern Any d d (pattern_list d)
unfolding pattern_list
follows_pattern_list zero = follows_shut ListPattern Any some_list_pattern list_opens list_first 0
follows_pattern_list (suc d) = record {
  reads = λ ts. follows_image Listed ListPattern Any (suc d) (suc d) ts listed listed_spelt (λ b v w x same_next l fw e. listed_back b v l.0 l.1)
      (seq opened (seq (symbol_of is_head) (rest_of (pattern d))) ts) ((follows_listed Any d (follows_pattern d)).reads ts);
}

pub pattern_shorter : (d : ℕ) (ts r : List Placed) (a : PatternTree) → pattern d ts ≡ done a r → length r < length ts
pattern_shorter d ts r a h = shorter_after SpellsPattern NotAt d d ts pattern_starts (pattern d ts) ((follows_pattern d).reads ts) a r h
