-- A list of sites is gone over, which grows by what is made of them and can be bound.
use Rattle.std.proofs.Common.{◌≡◌, ◌≢◌, ◌⊎◌, inl, inr, ℕ, zero, suc, ◌+◌, ◌<◌, ◌≤◌, ◌&&◌, not, ◌++◌, List, [], ◌∷◌, Bool, true, false, Option, Some, None, length, refl, sym, ◌∙◌, ap, subst, arith, get_or, set, drop, append_assoc, add-one}
use Rattle.std.proofs.lemmas.List.{append-nil}
use Rattle.isle_trees.specs.Inside.Gathering.{IsGathering}
use Rattle.isle_trees.specs.Rules.{Want, Source, Rules, Elem, Asked}
use Rattle.isle_trees.specs.Scopes.{Scope, join, inside, IsAvailable}
use Rattle.isle_trees.specs.Search.{AreMarked, AreSound, IsSamePath, all_marked, can_bind, is_made, is_marked}
use Rattle.isle_trees.proofs.Asking.{elem_append}
use Rattle.isle_trees.proofs.Basics.{SameIs, SameSelf, true_or, eq_or, and_both, both_and, and_fails, all_gives, all_from, clash}
use Rattle.isle_trees.proofs.Building.Enter.{available_still, marked_path, same_path_self, sound_join, sound_path}
use Rattle.isle_trees.proofs.Building.Gathering.{gathering_none, gathers_new}
use Rattle.isle_trees.proofs.Building.Lists.{elem_left, elem_right, not_same}
use Rattle.isle_trees.proofs.Building.Marks.{bind_sound, made_full, made_sound, marked_old}
use Rattle.isle_blocks.specs.Inside.Trees.Marking.{IsPast, IsSpread, Spreads}

not_false : (b : Bool) → not b ≡ false → b ≡ true
not_false true e = refl
not_false false e = cc

not_true : (b : Bool) → not b ≡ true → b ≡ false
not_true true e = cc
not_true false e = refl

-- what could be bound still can where more is marked
can_still : {C V : Type 0} (R : Rules C V) (sc : Scope C) (old new : List Bool) (x : ℕ) → ((y : ℕ) → is_marked old y ≡ true → is_marked new y ≡ true)
    → can_bind R sc old x ≡ true → can_bind R sc new x ≡ true
can_still R sc old new x kept e =
    let both = and_both (is_made R.tests sc (R.made x)) _ e in
    both_and (is_made R.tests sc (R.made x)) _ (both.0)
    (all_from (is_marked new) (R.parts x) (λ p m. kept p (all_gives (is_marked old) (R.parts x) p (both.1) m)))

-- a list that is not gone over, and a site that needs no mark
pub spreads_none : {C V : Type 0} (R : Rules C V) (sc : Scope C) (marks : List Bool) (list : List ℕ) → Spreads R sc [] marks marks list list
spreads_none R sc marks list = record {
  more = [];
  list = sym (append-nil list);
  bound = λ x m e. absurd m;
  kept = λ x e. e;
  size = refl;
  sound = λ h. h;
  gathering = λ start g. g;
}

pub spreads_over : {C V : Type 0} (R : Rules C V) (sc : Scope C) (s : ℕ) (marks : List Bool) (list : List ℕ)
    → (not (is_marked marks s) && can_bind R sc marks s) ≡ false → Spreads R sc (s ∷ []) marks marks list list
spreads_over R sc s marks list n = record {
  more = [];
  list = sym (append-nil list);
  bound = λ x m e.
      elim m [
        | inl same ↦
            let P : ℕ → Type 0 = λ y. can_bind R sc marks y ≡ true in
            let Q : ℕ → Type 0 = λ y. is_marked marks y ≡ true in
            subst Q (sym same) (elim (and_fails (not (is_marked marks s)) _ n) [ inl f ↦ not_false _ f | inr f ↦ clash _ (subst P same e) f ])
        | inr o ↦ absurd o
      ];
  kept = λ x e. e;
  size = refl;
  sound = λ h. h;
  gathering = λ start g. g;
}

-- a site that needs one
pub spreads_new : {C V : Type 0} (R : Rules C V) → SameIs R.tests → (sc : Scope C) (s : ℕ) (marks new : List Bool) (list more : List ℕ)
    → s < length marks
    → (not (is_marked marks s) && can_bind R sc marks s) ≡ true → new ≡ set marks s true → more ≡ list ++ s ∷ []
    → Spreads R sc (s ∷ []) marks new list more
spreads_new {C} R same sc s marks new list more l n e h =
    let both = and_both (not (is_marked marks s)) _ n in
    let g = gathers_new s marks new list more l (not_true _ (both.0)) e h in
    record {
      more = s ∷ [];
      list = h;
      bound = λ x m c. g.bound x m;
      kept = g.kept;
      size = g.size;
      sound = λ k x m. elim (eq_or x s) [
        | inl here ↦ (let P : ℕ → Type 0 = λ y. IsAvailable R sc y in subst P (sym here) (bind_sound R sc marks s same k (both.1)))
        | inr other ↦ k x (marked_old marks s x other (ap (λ (b : List Bool). is_marked b x) (sym e) ∙ m))
      ];
      gathering = g.gathering;
    }

-- one site more
pub spreads_more : {C V : Type 0} (R : Rules C V) (sc : Scope C) (xs : List ℕ) (x : ℕ) (m0 m1 m2 : List Bool) (l0 l1 l2 : List ℕ)
    → Spreads R sc xs m0 m1 l0 l1
    → Spreads R sc (x ∷ []) m1 m2 l1 l2 → Spreads R sc (xs ++ x ∷ []) m0 m2 l0 l2
spreads_more R sc xs x m0 m1 m2 l0 l1 l2 g h = record {
  more = g.more ++ h.more;
  list = h.list ∙ ap (λ (y : List ℕ). y ++ h.more) g.list ∙ append_assoc l0 g.more h.more;
  bound = λ y m e. elim (elem_append y xs (x ∷ []) m) [
    | inl k ↦ h.kept y (g.bound y k e)
    | inr k ↦ h.bound y k (can_still R sc m0 m1 y g.kept e)
  ];
  kept = λ y e. h.kept y (g.kept y e);
  size = h.size ∙ g.size;
  sound = λ k. h.sound (g.sound k);
  gathering = λ start k. h.gathering start (g.gathering start k);
}

-- all that the tests of a rule ask is marked, as far as it is available
abbrev pub IsFull : {C V : Type 0} → Rules C V → ℕ → Scope C → List Bool → Type 0
IsFull R i sc marks = (x : ℕ) → Asked R i x → IsAvailable R sc x → is_marked marks x ≡ true

-- what isn't marked but can be bound has one of these sites among its parts
abbrev pub IsWaiting : {C V : Type 0} → Rules C V → ℕ → Scope C → List Bool → List ℕ → Type 0
IsWaiting R i sc marks rest =
    (x : ℕ) → Asked R i x → can_bind R sc marks x ≡ true → (is_marked marks x ≡ true) ⊎ ((p : ℕ) × Elem p rest × Elem p (R.parts x))

-- one turn of the loop over what is listed
pub record IsSpreading {C V : Type 0} (R : Rules C V) (sc : Scope C) (s : ℕ) (start marks : List Bool) (list : List ℕ) (at : ℕ) : Type 0 where
  pub gathering : IsGathering start marks list
  pub sound : AreSound R sc marks
  pub waiting : (i : ℕ) (before : Scope C) → AreSound R before start → IsFull R i before start → IsPast before s sc
      → IsWaiting R i sc marks (drop at list)

-- all of these sites are marked, or one is not
some_unmarked : (marks : List Bool) (xs : List ℕ) → (all_marked marks xs ≡ true) ⊎ ((p : ℕ) × Elem p xs × (is_marked marks p ≡ false))
some_unmarked marks [] = inl refl
some_unmarked marks (x ∷ xs) = elim (true_or (is_marked marks x)) [
  | inl e ↦ elim (some_unmarked marks xs) [ inl f ↦ inl (both_and (is_marked marks x) _ e f) | inr (p, m, f) ↦ inr (p, inr m, f) ]
  | inr e ↦ inr (x, inl refl, e)
]

-- what can be bound could be before, or has a part that was marked since
bind_or : {C V : Type 0} (R : Rules C V) (sc : Scope C) (sites : List ℕ) (start m0 m1 : List Bool) (l0 l1 : List ℕ)
    (g : Spreads R sc sites m0 m1 l0 l1)
    → IsGathering start m0 l0 → (x : ℕ) → can_bind R sc m1 x ≡ true
    → (can_bind R sc m0 x ≡ true) ⊎ ((p : ℕ) × Elem p g.more × Elem p (R.parts x))
bind_or R sc sites start m0 m1 l0 l1 g before x e =
    let both = and_both (is_made R.tests sc (R.made x)) _ e in
    let after : IsGathering start m1 l1 = g.gathering start before in
    elim (some_unmarked m0 (R.parts x)) [
      | inl all ↦ inl (both_and (is_made R.tests sc (R.made x)) _ (both.0) all)
      | inr (p, m, f) ↦
          let Q : List ℕ → Type 0 = λ y. Elem p y in
          elim (after.either p (all_gives (is_marked m1) (R.parts x) p (both.1) m)) [
            | inl old ↦ clash _ (before.kept p old) f
            | inr k ↦ elim (elem_append p l0 g.more (subst Q g.list k)) [
              | inl o ↦ clash _ (before.here p o) f
              | inr n ↦ inr (p, n, m)
            ]
          ]
    ]

-- the test of a site makes another, or it doesn't
made_or : {C : Type 0} (o : Option (Source C)) (s : ℕ) → ((m : Source C) × (o ≡ Some m) × (m.site ≡ s)) ⊎ ((m : Source C) → o ≡ Some m → m.site ≢ s)
made_or None s = inr (λ m e. cc)
made_or {C} (Some m) s = elim (eq_or m.site s) [
  | inl e ↦ inl (m, refl, e)
  | inr n ↦ inr (λ k e. let f : m ≡ k = cc in let P : Source C → Type 0 = λ y. y.site ≢ s in subst P f n)
]

-- where a test has passed, what it makes is gone over first
pub spreading_start : {C V : Type 0} (R : Rules C V) → SameIs R.tests → (sc : Scope C) (s : ℕ) (made : List ℕ) (start marks : List Bool)
    (none list : List ℕ) → none ≡ [] → ((x : ℕ) (m : Source C) → R.made x ≡ Some m → m.site ≡ s → Elem x made) → AreSound R sc start
    → Spreads R sc made start marks none list → IsSpreading R sc s start marks list 0
spreading_start {C} R same sc s made start marks none list e all sound g =
    let P : List ℕ → Type 0 = λ y. IsGathering start start y in
    let begun : IsGathering start start none = subst P (sym e) (gathering_none start) in
    record {
      gathering = g.gathering start begun;
      sound = g.sound sound;
      waiting = λ i before so full past x a can. elim (bind_or R sc made start start marks none list g begun x can) [
        | inl old ↦ inl
            (let both = and_both (is_made R.tests sc (R.made x)) _ old in
            elim (made_or (R.made x) s) [
              | inl (m, f, at) ↦ g.bound x (all x m f at) old
              | inr away ↦
                  let parts : (p : ℕ) → Elem p (R.parts x) → IsAvailable R before p =
                  λ p m. so p (all_gives (is_marked start) (R.parts x) p (both.1) m) in
                  let tested : (m : Source C) → R.made x ≡ Some m → before.passed m.site ≡ Some m.want = λ m f.
                  sym (past m.site (away m f)) ∙ made_sound R.tests sc (R.made x) same (both.0) m f in
                  g.kept x (full x a (IsAvailable.from_parts x parts tested))
            ])
        | inr (p, n, m) ↦ inr (p, (let Q : List ℕ → Type 0 = λ y. Elem p y in subst Q (sym g.list) (elem_right p none g.more n)), m)
      ];
    }

drop_here : (xs : List ℕ) (k : ℕ) (p : ℕ) → k < length xs → Elem p (drop k xs) → (p ≡ get_or xs k 0) ⊎ Elem p (drop (suc k) xs)
drop_here [] k p l m = absurd (omega arith)
drop_here (x ∷ xs) zero p l m = m
drop_here (x ∷ xs) (suc k) p l m = drop_here xs k p (omega arith) m

drop_left : (xs ys : List ℕ) (k : ℕ) (p : ℕ) → Elem p (drop k xs) → Elem p (drop k (xs ++ ys))
drop_left xs ys zero p m = elem_left p xs ys m
drop_left [] ys (suc k) p m = absurd m
drop_left (x ∷ xs) ys (suc k) p m = drop_left xs ys k p m

drop_right : (xs ys : List ℕ) (k : ℕ) (p : ℕ) → k ≤ length xs → Elem p ys → Elem p (drop k (xs ++ ys))
drop_right xs ys zero p l m = elem_right p xs ys m
drop_right [] ys (suc k) p l m = absurd (omega arith)
drop_right (x ∷ xs) ys (suc k) p l m = drop_right xs ys k p (omega arith) m

-- the next site of the list is gone over
spreading_more : {C V : Type 0} (R : Rules C V) (sc : Scope C) (s : ℕ) (sites : List ℕ) (start m0 m1 : List Bool) (l0 l1 : List ℕ) (at : ℕ)
    → at < length l0 → ((i x : ℕ) → Asked R i x → Elem (get_or l0 at 0) (R.parts x) → Elem x sites) → Spreads R sc sites m0 m1 l0 l1
    → IsSpreading R sc s start m0 l0 at → IsSpreading R sc s start m1 l1 (suc at)
spreading_more R sc s sites start m0 m1 l0 l1 at l all g h = record {
  gathering = g.gathering start h.gathering;
  sound = g.sound h.sound;
  waiting = λ i before so full past x a can.
      let in_list : (p : ℕ) → Elem p (drop (suc at) (l0 ++ g.more)) → Elem p (drop (suc at) l1) = λ p m.
      let Q : List ℕ → Type 0 = λ y. Elem p (drop (suc at) y) in subst Q (sym g.list) m in
      elim (bind_or R sc sites start m0 m1 l0 l1 g h.gathering x can) [
        | inl old ↦ elim (h.waiting i before so full past x a old) [
          | inl e ↦ inl (g.kept x e)
          | inr (p, n, m) ↦ elim (drop_here l0 at p l n) [
            | inl here ↦ inl (g.bound x (all i x a (let P : ℕ → Type 0 = λ y. Elem y (R.parts x) in subst P here m)) old)
            | inr later ↦ inr (p, in_list p (drop_left l0 g.more (suc at) p later), m)
          ]
        ]
        | inr (p, n, m) ↦ inr (p, in_list p (drop_right l0 g.more (suc at) p (omega arith) n), m)
      ];
}

pub spreading_next : {C V : Type 0} (R : Rules C V) (sc : Scope C) (s : ℕ) (sites : List ℕ) (start m0 m1 : List Bool) (l0 l1 : List ℕ) (at : ℕ)
    → at < length l0 → ((i x : ℕ) → Asked R i x → Elem (get_or l0 at 0) (R.parts x) → Elem x sites) → Spreads R sc sites m0 m1 l0 l1
    → IsSpreading R sc s start m0 l0 at → IsSpreading R sc s start m1 l1 (at + 1)
spreading_next R sc s sites start m0 m1 l0 l1 at l all g h = rw add-one (spreading_more R sc s sites start m0 m1 l0 l1 at l all g h)

drop_ended : (xs : List ℕ) (k : ℕ) → length xs ≤ k → drop k xs ≡ []
drop_ended [] zero l = refl
drop_ended [] (suc k) l = refl
drop_ended (x ∷ xs) zero l = absurd (omega arith)
drop_ended (x ∷ xs) (suc k) l = drop_ended xs k (omega arith)

-- where nothing waits any more, all that is available is marked
nothing_waits : {C V : Type 0} (R : Rules C V) (sc : Scope C) (i : ℕ) (marks : List Bool) → SameSelf R.tests → IsWaiting R i sc marks [] → (x : ℕ)
    → Asked R i x → IsAvailable R sc x → is_marked marks x ≡ true
nothing_waits R sc i marks self w _ a (IsAvailable.from_parts x parts tested) =
    let can : can_bind R sc marks x ≡ true = both_and (is_made R.tests sc (R.made x)) _ (made_full R.tests sc (R.made x) self tested)
    (all_from (is_marked marks) (R.parts x) (λ p m. nothing_waits R sc i marks self w p (Asked.by_part x p a m) (parts p m))) in
    elim (w x a can) [ inl e ↦ e | inr (p, n, m) ↦ absurd n ]

pub spread : {C V : Type 0} (R : Rules C V) → SameSelf R.tests → (sc : Scope C) (s : ℕ) (start marks : List Bool) (list : List ℕ) (at : ℕ)
    → length list ≤ at → IsSpreading R sc s start marks list at → IsSpread R sc s start marks list
spread R self sc s start marks list at l h = record {
  size = h.gathering.size;
  either = h.gathering.either;
  marked = λ left before m past. record {
    sound = h.sound;
    full = λ i x k a v.
        let P : List ℕ → Type 0 = λ r. IsWaiting R i sc marks r in
        nothing_waits R sc i marks self (subst P (drop_ended list at l) (h.waiting i before m.sound (λ y b u. m.full i y k b u) past)) x a v;
  };
}

-- where sites are joined nothing more is available
pub marked_joined : {C V : Type 0} (R : Rules C V) (left rest : List ℕ) (sc mid after : Scope C) (a b : ℕ) (marks : List Bool) → IsSamePath sc mid
    → after ≡ join mid a b → ((i : ℕ) → Elem i rest → Elem i left) → AreMarked R left sc marks → AreMarked R rest after marks
marked_joined {C} R left rest sc mid after a b marks p e sub h =
    let S : Scope C → Type 0 = λ x. AreMarked R rest x marks in
    subst S (sym e) (record {
      sound = sound_join R mid a b marks (sound_path R sc mid marks p h.sound);
      full = λ i s m q v. h.full i s (sub i m) q (available_still R (join mid a b) sc s (λ x k f. sym (p.passed x) ∙ f) v);
    })

-- inside a test of a site
pub past_inside : {C V : Type 0} (R : Rules C V) (sc mid after : Scope C) (s : ℕ) (w : Want C) → IsSamePath sc mid → after ≡ inside R mid s w
    → IsPast sc s after
past_inside {C} R sc mid after s w p e y n =
    ap (λ (x : Scope C). x.passed y) e ∙ (let f : (inside R mid s w).passed y ≡ mid.passed y = rw (not_same y s n) refl in f) ∙ p.passed y

pub marked_inside : {C V : Type 0} (R : Rules C V) (left rest : List ℕ) (sc mid after : Scope C) (s : ℕ) (w : Want C) (start marks : List Bool)
    (list : List ℕ) → IsSamePath sc mid → after ≡ inside R mid s w → ((i : ℕ) → Elem i rest → Elem i left) → AreMarked R left sc start
    → IsSpread R after s start marks list → AreMarked R rest after marks
marked_inside R left rest sc mid after s w start marks list p e sub h g =
    g.marked rest sc (marked_path R left rest sc sc start (same_path_self sc) sub h) (past_inside R sc mid after s w p e)
