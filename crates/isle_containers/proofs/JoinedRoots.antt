-- How the representatives change where two sets are joined and where one is removed.
-- The representative of each item is given by a function, which a merge of x and y changes.
use Rattle.std.proofs.Common.{◌≡◌, Bool, true, false, not, cond, ◌&&◌, ◌||◌, ◌⊎◌, inl, inr, ⊎_elim, refl, sym, ap, ◌∙◌}
use Rattle.std.specs.Prelude.{Option, Some, None, unwrap_or, is_some, option_map}
use Rattle.std.specs.Option.{option_or}
use Rattle.std.specs.Cmp.{IsEquivalence}
use Rattle.std.proofs.lemmas.Map.Entries.{option_filter}
use Rattle.std.proofs.lemmas.Bool.{or_left, or_right, or_from, or_cases, and_left, and_right, false≢true, false_from_ne_true}
use Rattle.isle_containers.proofs.RootedTables.{same_root}

-- whether a is x or y, or has the representative of one of them
abbrev pub comes : {T : Type 0} → (T → T → Bool) → (T → Option T) → T → T → T → Bool
comes eq r x y a = (eq a x || eq a y) || (same_root eq (r x) (r a) || same_root eq (r y) (r a))

-- the representative after x is entered
abbrev pub after_entry : {T : Type 0} → (T → T → Bool) → (T → Option T) → T → T → Option T
after_entry eq r x a = cond (is_some (r x)) (r a) (cond (eq a x) (Some x) (r a))

-- the representative of x after it is entered
abbrev pub entered_root : {T : Type 0} → (T → Option T) → T → T
entered_root r x = unwrap_or (r x) x

-- the representative after x and y are merged
abbrev pub after_merge : {T : Type 0} → (T → T → Bool) → (T → Option T) → T → T → T → Option T
after_merge eq r x y a = cond (comes eq r x y a) (Some (entered_root r x)) (r a)

pub Some≢None : {T : Type 0} {v : T} → Some v ≡ None → ⊥
Some≢None e = cc

pub Some_same : {T : Type 0} {v w : T} → Some v ≡ Some w → v ≡ w
Some_same e = cc

pub and_true : (b : Bool) → (b && true) ≡ b
and_true true = refl
and_true false = refl

pub cond_alike : {X : Type 0} (b : Bool) (x : X) → cond b x x ≡ x
cond_alike true x = refl
cond_alike false x = refl

module _ {T : Type 0} {eq : T → T → Bool} (laws : IsEquivalence eq) where
  has_root_None : (p : Option T) → same_root eq p None ≡ false
  has_root_None None = refl
  has_root_None (Some a) = refl

  module _ (r : T → Option T) (alike : (x y : T) → eq x y ≡ true → r x ≡ r y) where
    entry_step : (x a : T) (p q : Option T) (b : Bool) → r x ≡ p → r a ≡ q → eq a x ≡ b
        → cond (is_some p) q (cond b (Some x) q) ≡ option_or q (cond b (Some x) None)
    entry_step x a (Some u) (Some v) b e f g = refl
    entry_step x a (Some u) None true e f g = absurd (Some≢None (sym e ∙ sym (alike a x g) ∙ f))
    entry_step x a (Some u) None false e f g = refl
    entry_step x a None (Some v) true e f g = absurd (Some≢None (sym f ∙ alike a x g ∙ e))
    entry_step x a None (Some v) false e f g = refl
    entry_step x a None None b e f g = refl

    -- an item that has no representative gets x, where it equals x
    pub after_entry_is : (x a : T) → after_entry eq r x a ≡ option_or (r a) (cond (eq a x) (Some x) None)
    after_entry_is x a = entry_step x a (r x) (r a) (eq a x) refl refl refl

  module _ (r : T → Option T) (alike : (x y : T) → eq x y ≡ true → r x ≡ r y) (rooted : (x v : T) → r x ≡ Some v → r v ≡ Some v) where
    -- equal representatives are one
    pub same_value : (x y v w : T) → r x ≡ Some v → r y ≡ Some w → eq v w ≡ true → v ≡ w
    same_value x y v w p q h =
        let a = rooted x v p in
        let b = rooted y w q in
        let c = alike v w h in
        cc

    same_roots_step : (a b : T) (p q : Option T) → r a ≡ p → r b ≡ q → same_root eq p q ≡ true → p ≡ q
    same_roots_step a b None q e f h = absurd (false≢true h)
    same_roots_step a b (Some v) None e f h = absurd (false≢true h)
    same_roots_step a b (Some v) (Some w) e f h = ap Some (sym (same_value b a w v f e h))

    -- members of one set have one representative
    pub same_roots : (a b : T) → same_root eq (r a) (r b) ≡ true → r a ≡ r b
    same_roots a b = same_roots_step a b (r a) (r b) refl refl

    -- a member is in its own set
    pub own_root : (a v : T) → r a ≡ Some v → same_root eq (r a) (r a) ≡ true
    own_root a v e = rw e (laws.refl v)

    -- what comes together with v has the representative of y, or that of x
    gathered : (x y a v : T) → r a ≡ Some v → comes eq r x y a ≡ true → (eq v (entered_root r y) ≡ true) ⊎ (v ≡ entered_root r x)
    gathered x y a v e h = ⊎_elim
        (λ h. ⊎_elim
        (λ k. let f : r x ≡ Some v = sym (alike a x k) ∙ e in inr (rw f refl))
        (λ k. let f : r y ≡ Some v = sym (alike a y k) ∙ e in inl (rw f (laws.refl v)))
        (or_cases (eq a x) (eq a y) h))
        (λ h. ⊎_elim
        (λ k. let f : r x ≡ Some v = same_roots x a k ∙ e in inr (rw f refl))
        (λ k. let f : r y ≡ Some v = same_roots y a k ∙ e in inl (rw f (laws.refl v)))
        (or_cases (same_root eq (r x) (r a)) (same_root eq (r y) (r a)) h))
        (or_cases (eq a x || eq a y) _ h)

    has_entered_step : (x a v : T) → r a ≡ Some v → (p : Option T) → r x ≡ p → eq v (unwrap_or p x) ≡ true → same_root eq p (Some v) ≡ true
    has_entered_step x a v e None f h = absurd (Some≢None (sym (rooted a v e) ∙ alike v x h ∙ f))
    has_entered_step x a v e (Some u) f h = h

    has_entered : (x a v : T) → r a ≡ Some v → eq v (entered_root r x) ≡ true → same_root eq (r x) (r a) ≡ true
    has_entered x a v e h = rw e (has_entered_step x a v e (r x) refl h)

    -- a member with the representative that x or y has once it is entered comes along
    pub comes_by_x : (x y a v : T) → r a ≡ Some v → eq v (entered_root r x) ≡ true → comes eq r x y a ≡ true
    comes_by_x x y a v e h = or_right (eq a x || eq a y) _ (or_left (same_root eq (r x) (r a)) _ (has_entered x a v e h))

    pub comes_by_y : (x y a v : T) → r a ≡ Some v → eq v (entered_root r y) ≡ true → comes eq r x y a ≡ true
    comes_by_y x y a v e h = or_right (eq a x || eq a y) _ (or_right (same_root eq (r x) (r a)) _ (has_entered y a v e h))

    comes_along_step : (x y a b : T) (p : Option T) → r b ≡ p → r a ≡ r b → comes eq r x y a ≡ true → same_root eq (r a) (r b) ≡ true
        → comes eq r x y b ≡ true
    comes_along_step x y a b None f e k h = absurd (false≢true (sym (rw (e, f) refl) ∙ h))
    comes_along_step x y a b (Some v) f e k h = ⊎_elim
        (λ near. comes_by_y x y b v f near)
        (λ same. comes_by_x x y b v f (ap (λ (w : T). eq v w) (sym same) ∙ laws.refl v))
        (gathered x y a v (e ∙ f) k)

    -- what follows a member in its set comes along with it
    comes_along : (x y a b : T) → same_root eq (r a) (r b) ≡ true → comes eq r x y a ≡ true → comes eq r x y b ≡ true
    comes_along x y a b h k = comes_along_step x y a b (r b) refl (same_roots a b h) k h

    merged_some : (x y a v : T) → r a ≡ Some v → (b c : Bool) → eq v (entered_root r y) ≡ b → comes eq r x y a ≡ c
        → Some (cond b (entered_root r x) v) ≡ cond c (Some (entered_root r x)) (Some v)
    merged_some x y a v e true true p q = refl
    merged_some x y a v e true false p q = absurd (false≢true (sym q ∙ comes_by_y x y a v e p))
    merged_some x y a v e false false p q = refl
    merged_some x y a v e false true p q = ⊎_elim (λ near. absurd (false≢true (sym p ∙ near))) (λ same. ap Some same) (gathered x y a v e q)

    merged_none : (x y a : T) → r a ≡ None → (b c : Bool) → eq a x ≡ b → eq a y ≡ c
        → option_map (λ v. cond (eq v (entered_root r y)) (entered_root r x) v) (option_or (cond b (Some x) None) (cond c (Some y) None)) ≡ cond
        (b || c) (Some (entered_root r x)) None
    merged_none x y a e true c p q =
        let f : r x ≡ None = sym (alike a x p) ∙ e in
        rw f (ap Some (cond_alike (eq x (entered_root r y)) x))
    merged_none x y a e false true p q =
        let f : r y ≡ None = sym (alike a y q) ∙ e in
        rw f (rw (laws.refl y) refl)
    merged_none x y a e false false p q = refl

    or_false : (b : Bool) → (b || false) ≡ b
    or_false true = refl
    or_false false = refl

    none_comes : (x y a : T) → r a ≡ None → comes eq r x y a ≡ (eq a x || eq a y)
    none_comes x y a e = rw (e, has_root_None (r x), has_root_None (r y)) (or_false (eq a x || eq a y))

    merged_step : (x y a : T) (p : Option T) → r a ≡ p
        → option_map (λ v. cond (eq v (entered_root r y)) (entered_root r x) v)
        (option_or (option_or p (cond (eq a x) (Some x) None)) (cond (eq a y) (Some y) None)) ≡ cond (comes eq r x y a)
        (Some (entered_root r x)) p
    merged_step x y a None e = merged_none x y a e (eq a x) (eq a y) refl refl
        ∙ ap (λ b. cond b (Some (entered_root r x)) None) (sym (none_comes x y a e))
    merged_step x y a (Some v) e = merged_some x y a v e (eq v (entered_root r y)) (comes eq r x y a) refl refl

    -- the entries of x and y, then the representative of y replaced by that of x
    pub merged_root : (x y a : T) → option_map (λ v. cond (eq v (entered_root r y)) (entered_root r x) v)
        (option_or (option_or (r a) (cond (eq a x) (Some x) None)) (cond (eq a y) (Some y) None)) ≡ after_merge eq r x y a
    merged_root x y a = merged_step x y a (r a) refl

    comes_not : (x y b : T) (p : Option T) → r b ≡ p → same_root eq (Some (entered_root r x)) p ≡ true → comes eq r x y b ≡ false → ⊥
    comes_not x y b None e h q = false≢true h
    comes_not x y b (Some w) e h q = false≢true (sym q ∙ comes_by_x x y b w e h)

    same_flip : (p q : Option T) → same_root eq p q ≡ true → same_root eq q p ≡ true
    same_flip None q h = absurd (false≢true h)
    same_flip (Some v) None h = absurd (false≢true h)
    same_flip (Some v) (Some w) h = laws.symm v w ∙ h

    joined_step : (x y a b : T) (c d : Bool) → comes eq r x y a ≡ c → comes eq r x y b ≡ d
        → same_root eq (cond c (Some (entered_root r x)) (r a)) (cond d (Some (entered_root r x)) (r b)) ≡ (same_root eq (r a) (r b) || (c && d))
    joined_step x y a b true true p q = laws.refl (entered_root r x) ∙ sym (or_right (same_root eq (r a) (r b)) true refl)
    joined_step x y a b true false p q =
        false_from_ne_true _ (λ h. comes_not x y b (r b) refl h q)
        ∙ sym (or_from (same_root eq (r a) (r b)) false (false_from_ne_true _ (λ h. false≢true (sym q ∙ comes_along x y a b h p))) refl)
    joined_step x y a b false true p q =
        false_from_ne_true _ (λ h. comes_not x y a (r a) refl (same_flip _ _ h) p)
        ∙ sym (or_from (same_root eq (r a) (r b)) false
        (false_from_ne_true _ (λ h. false≢true (sym p ∙ comes_along x y b a (same_flip _ _ h) q))) refl)
    joined_step x y a b false false p q = sym (or_false (same_root eq (r a) (r b)))

    -- who is joined after a merge
    pub merged_joined : (x y a b : T)
        → same_root eq (after_merge eq r x y a) (after_merge eq r x y b) ≡ (same_root eq (r a) (r b) || (comes eq r x y a && comes eq r x y b))
    merged_joined x y a b = joined_step x y a b (comes eq r x y a) (comes eq r x y b) refl refl

    removed_test : (b : Bool) (w : T) → cond (not b) (Some w) None ≡ cond b None (Some w)
    removed_test true w = refl
    removed_test false w = refl

    removed_step : (v : T) (p : Option T) → option_filter (λ u. not (eq u v)) p ≡ cond (same_root eq (Some v) p) None p
    removed_step v None = refl
    removed_step v (Some w) = removed_test (eq w v) w

    -- the representatives after the set of x is removed
    pub removed_root : (x v a : T) → r x ≡ Some v → option_filter (λ u. not (eq u v)) (r a) ≡ cond (same_root eq (r x) (r a)) None (r a)
    removed_root x v a e = rw e (removed_step v (r a))

    removed_joined_step : (x a b : T) (c d : Bool) → same_root eq (r x) (r a) ≡ c → same_root eq (r x) (r b) ≡ d
        → same_root eq (cond c None (r a)) (cond d None (r b)) ≡ (same_root eq (r a) (r b) && not c)
    removed_joined_step x a b true d p q = sym (and_right (same_root eq (r a) (r b)) false refl)
    removed_joined_step x a b false false p q = sym (and_true (same_root eq (r a) (r b)))
    removed_joined_step x a b false true p q = has_root_None (r a)
        ∙ sym (and_left (same_root eq (r a) (r b)) true
        (false_from_ne_true _ (λ h. false≢true (sym p ∙ ap (same_root eq (r x)) (same_roots a b h) ∙ q))))

    -- who is joined after the set of x is removed
    pub removed_joined : (x a b : T)
        → same_root eq (cond (same_root eq (r x) (r a)) None (r a)) (cond (same_root eq (r x) (r b)) None (r b)) ≡
        (same_root eq (r a) (r b) && not (same_root eq (r x) (r a)))
    removed_joined x a b = removed_joined_step x a b (same_root eq (r x) (r a)) (same_root eq (r x) (r b)) refl refl
