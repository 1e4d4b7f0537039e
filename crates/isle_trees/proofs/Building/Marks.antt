-- What is available, marked over lists of sites whose parts come first.
use Rattle.std.proofs.Common.{◌≡◌, ◌≢◌, inl, inr, ℕ, ◌+◌, ◌<◌, List, [], Bool, true, false, Option, Some, None, length, refl, sym, ◌∙◌, subst, get_or, set, take, length-set}
use Rattle.std.proofs.lemmas.List.{get_or-set_same, get_or-set_other}
use Rattle.isle_trees.specs.Rules.{Tests, Source, Rules, Elem, Asked}
use Rattle.isle_trees.specs.Scopes.{Scope, IsAvailable}
use Rattle.isle_trees.specs.Search.{is_marked, is_made, can_bind, AreSound, AreMarked, ArePartsFirst}
use Rattle.isle_trees.proofs.Basics.{SameIs, SameSelf, and_both, both_and, all_gives, all_from, eq_or, clash, is_want_is, is_want_same}
use Rattle.isle_trees.proofs.Building.Lists.{last_or}
use Rattle.isle_trees.proofs.Path.{available_parts}

-- the test that makes a site has passed
pub made_sound : {C V : Type 0} (T : Tests C V) (sc : Scope C) (o : Option (Source C)) → SameIs T → is_made T sc o ≡ true
    → (m : Source C) → o ≡ Some m → sc.passed m.site ≡ Some m.want
made_sound T sc None k e m f = cc
made_sound {C} T sc (Some n) k e m f =
    let g : n ≡ m = cc in
    let P : Source C → Type 0 = λ x. sc.passed x.site ≡ Some x.want in
    subst P g (is_want_is T n.want (sc.passed n.site) k e)

pub made_full : {C V : Type 0} (T : Tests C V) (sc : Scope C) (o : Option (Source C)) → SameSelf T
    → ((m : Source C) → o ≡ Some m → sc.passed m.site ≡ Some m.want) → is_made T sc o ≡ true
made_full T sc None k h = refl
made_full T sc (Some m) k h = is_want_same T m.want (sc.passed m.site) k (h m refl)

pub bind_sound : {C V : Type 0} (R : Rules C V) (sc : Scope C) (marks : List Bool) (s : ℕ) → SameIs R.tests → AreSound R sc marks
    → can_bind R sc marks s ≡ true → IsAvailable R sc s
bind_sound R sc marks s k h e =
    let both = and_both (is_made R.tests sc (R.made s)) _ e in
    IsAvailable.from_parts s (λ p m. h p (all_gives (is_marked marks) (R.parts s) p (both.1) m)) (made_sound R.tests sc (R.made s) k (both.0))

pub bind_full : {C V : Type 0} (R : Rules C V) (sc : Scope C) (marks : List Bool) (s : ℕ) → SameSelf R.tests
    → ((p : ℕ) → Elem p (R.parts s) → IsAvailable R sc p → is_marked marks p ≡ true)
    → IsAvailable R sc s → can_bind R sc marks s ≡ true
bind_full R sc marks s k h a =
    let both = available_parts R sc s a in
    both_and (is_made R.tests sc (R.made s)) _ (made_full R.tests sc (R.made s) k (both.1))
    (all_from (is_marked marks) (R.parts s) (λ p m. h p m (both.0 p m)))

pub marked_new : (marks : List Bool) (s x : ℕ) → s < length marks → x ≡ s → is_marked (set marks s true) x ≡ true
marked_new marks s x l e = rw e (get_or-set_same marks s true false l)

pub marked_kept : (marks : List Bool) (s x : ℕ) → s < length marks → is_marked marks x ≡ true → is_marked (set marks s true) x ≡ true
marked_kept marks s x l e = elim (eq_or x s) [ inl same ↦ marked_new marks s x l same | inr n ↦ get_or-set_other marks s x true false n ∙ e ]

pub marked_old : (marks : List Bool) (s x : ℕ) → x ≢ s → is_marked (set marks s true) x ≡ true → is_marked marks x ≡ true
marked_old marks s x n e = sym (get_or-set_other marks s x true false n) ∙ e

-- so far, over a list of sites
pub record Marking {C V : Type 0} (R : Rules C V) (sc : Scope C) (sites : List ℕ) (start marks : List Bool) : Type 0 where
  pub size : length marks ≡ length start
  pub sound : AreSound R sc marks
  pub full : (s : ℕ) → Elem s sites → IsAvailable R sc s → is_marked marks s ≡ true
  pub kept : (s : ℕ) → is_marked start s ≡ true → is_marked marks s ≡ true

module _ {C V : Type 0} (R : Rules C V) (is : SameIs R.tests) (self : SameSelf R.tests) (sc : Scope C) (sites : List ℕ)
    (start marks : List Bool) (i : ℕ) (l : i < length sites) (first : ArePartsFirst R sites) (h : Marking R sc (take i sites) start marks) where
  parts_marked : (p : ℕ) → Elem p (R.parts (get_or sites i 0)) → IsAvailable R sc p → is_marked marks p ≡ true
  parts_marked p m a = h.full p (first i p l m) a

  pub marking_set : get_or sites i 0 < length marks → can_bind R sc marks (get_or sites i 0) ≡ true
      → Marking R sc (take (i + 1) sites) start (set marks (get_or sites i 0) true)
  marking_set b e = record {
    size = length-set marks (get_or sites i 0) true ∙ h.size;
    sound = λ s m. elim (eq_or s (get_or sites i 0)) [
      | inl same ↦ let P : ℕ → Type 0 = λ x. IsAvailable R sc x in subst P (sym same) (bind_sound R sc marks (get_or sites i 0) is h.sound e)
      | inr n ↦ h.sound s (marked_old marks (get_or sites i 0) s n m)
    ];
    full = λ s m a. elim (last_or s 0 sites i l m) [
      | inl o ↦ marked_kept marks (get_or sites i 0) s b (h.full s o a)
      | inr same ↦ marked_new marks (get_or sites i 0) s b same
    ];
    kept = λ s m. marked_kept marks (get_or sites i 0) s b (h.kept s m);
  }

  pub marking_same : can_bind R sc marks (get_or sites i 0) ≡ false → Marking R sc (take (i + 1) sites) start marks
  marking_same e = record {
    size = h.size;
    sound = h.sound;
    full = λ s m a. elim (last_or s 0 sites i l m) [
      | inl o ↦ h.full s o a
      | inr same ↦
          let P : ℕ → Type 0 = λ x. IsAvailable R sc x in
          let t : can_bind R sc marks (get_or sites i 0) ≡ true = bind_full R sc marks (get_or sites i 0) self parts_marked (subst P same a) in
          clash _ t e
    ];
    kept = h.kept;
  }

-- over the rules left
pub record Group {C V : Type 0} (R : Rules C V) (sc : Scope C) (left : List ℕ) (n : ℕ) (marks : List Bool) : Type 0 where
  pub size : length marks ≡ n
  pub marked : AreMarked R left sc marks

pub group_more : {C V : Type 0} (R : Rules C V) (sc : Scope C) (left : List ℕ) (i n : ℕ) (asked : List ℕ) (old new : List Bool) → i < length left
    → Group R sc (take i left) n old
    → ((s : ℕ) → Asked R (get_or left i 0) s → Elem s asked) → AreSound R sc new
    → ((s : ℕ) → Elem s asked → IsAvailable R sc s → is_marked new s ≡ true)
    → ((s : ℕ) → is_marked old s ≡ true → is_marked new s ≡ true) → length new ≡ length old → Group R sc (take (i + 1) left) n new
group_more R sc left i n asked old new l g all sound full kept size = record {
  size = size ∙ g.size;
  marked = record {
    sound = sound;
    full = λ j s m a v.
        elim (last_or j 0 left i l m) [
          | inl p ↦ kept s (g.marked.full j s p a v)
          | inr e ↦ let P : ℕ → Type 0 = λ x. Asked R x s in full s (all s (subst P e a)) v
        ];
  };
}
