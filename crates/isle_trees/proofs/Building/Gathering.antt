-- Sites with what they are made of, gathered by marks.
use Rattle.std.proofs.Common.{◌≡◌, ◌≢◌, ◌⊎◌, inl, inr, ℕ, suc, zero, ◌+◌, ◌<◌, ◌≤◌, ◌==◌, ◌++◌, List, [], ◌∷◌, Bool, true, false, Some, length, refl, sym, ◌∙◌, ap, subst, arith, get_or, take, set, length-set, append_assoc, add-one, eqb-true, eq-eqb}
use Rattle.std.proofs.lemmas.List.{append-nil, take_more, take_all, get_or-set_same, get_or-set_other}
use Rattle.std.specs.List.{filter}
use Rattle.isle_trees.specs.Bag.{IsAscending, IsSameBag}
use Rattle.isle_trees.specs.Builds.{IsOrder}
use Rattle.isle_trees.specs.Inside.Gathering.{IsGathering, Gathers, IsClosure}
use Rattle.isle_trees.specs.Ranking.{PartsAreLower, Emits}
use Rattle.isle_trees.specs.Rules.{Want, Rules, Elem, IsPartOf, Asked}
use Rattle.isle_trees.specs.Scopes.{Scope, emit, emit_all}
use Rattle.isle_trees.specs.Search.{is_marked, AreDistinct, ArePartsFirst, IsClean, IsSamePath, IsAskedBy}
use Rattle.isle_trees.specs.Rules.{below}
use Rattle.isle_trees.proofs.Asking.{elem_append}
use Rattle.isle_trees.proofs.Basics.{true_or, or_right, eq_or, clash}
use Rattle.isle_trees.proofs.Building.Bound.{distinct_short}
use Rattle.isle_trees.proofs.Building.Lists.{both_ways, elem_left, elem_right, elem_at, elem_below, length_below, distinct_push, ascending_front, last_or}
use Rattle.isle_trees.proofs.Building.Marks.{marked_new, marked_kept, marked_old}
use Rattle.isle_trees.proofs.Building.Reorder.{same_elem, same_turned}
use Rattle.isle_trees.proofs.Building.Scopes.{scope_same}
use Rattle.isle_trees.proofs.Path.{still_emitted, emitted_or, passed_bound, label_bound}

pub gathering_none : (marks : List Bool) → IsGathering marks marks []
gathering_none marks = record {
  size = refl;
  either = λ x e. inl e;
  kept = λ x e. e;
  here = λ x m. absurd m;
  fresh = λ x m. absurd m;
  below = λ x m. absurd m;
  distinct = tt;
}

pub gathers_new : (s : ℕ) (marks new : List Bool) (list more : List ℕ) → s < length marks → is_marked marks s ≡ false → new ≡ set marks s true
    → more ≡ list ++ s ∷ []
    → Gathers (s ∷ []) marks new list more
gathers_new s marks new list more l e f h =
    let here : is_marked new s ≡ true = ap (λ (m : List Bool). is_marked m s) f ∙ marked_new marks s s l refl in
    let still : (x : ℕ) → is_marked marks x ≡ true → is_marked new x ≡ true = λ x q. ap (λ (m : List Bool). is_marked m x) f
    ∙ marked_kept marks s x l q in
    let size : length new ≡ length marks = ap length f ∙ length-set marks s true in
    record {
      more = s ∷ [];
      list = h;
      from = λ x m. m;
      bound = λ x m. elim m [ inl p ↦ ap (is_marked new) p ∙ here | inr n ↦ absurd n ];
      kept = still;
      size = size;
      gathering = λ start g.
          let fresh : is_marked start s ≡ false = elim (true_or (is_marked start s)) [ inl q ↦ clash _ (g.kept s q) e | inr q ↦ q ] in
          let P : List ℕ → Type 0 = λ y. AreDistinct y in
          let in_more : (x : ℕ) → Elem x list → Elem x more = λ x m. let Q : List ℕ → Type 0 = λ y. Elem x y in
          subst Q (sym h) (elem_left x list (s ∷ []) m) in
          let s_more : Elem s more = let Q : List ℕ → Type 0 = λ y. Elem s y in subst Q (sym h) (elem_right s list (s ∷ []) (inl refl)) in
          let cases : (x : ℕ) → Elem x more → Elem x list ⊎ (x ≡ s) = λ x m.
          let Q : List ℕ → Type 0 = λ y. Elem x y in
          elim (elem_append x list (s ∷ []) (subst Q h m)) [ inl k ↦ inl k | inr k ↦ elim k [ inl p ↦ inr p | inr o ↦ absurd o ] ] in
          let gone : Elem s list → ⊥ = λ m. clash _ (g.here s m) e in
          record {
            size = size ∙ g.size;
            either = λ x q. elim (eq_or x s) [
              | inl p ↦ inr (let Q : ℕ → Type 0 = λ y. Elem y more in subst Q (sym p) s_more)
              | inr n ↦ elim (g.either x (marked_old marks s x n (ap (λ (m : List Bool). is_marked m x) (sym f) ∙ q)))
                  [ inl o ↦ inl o | inr k ↦ inr (in_more x k) ]
            ];
            kept = λ x q. still x (g.kept x q);
            here = λ x m. elim (cases x m) [ inl k ↦ still x (g.here x k) | inr p ↦ ap (is_marked new) p ∙ here ];
            fresh = λ x m. elim (cases x m) [ inl k ↦ g.fresh x k | inr p ↦ ap (is_marked start) p ∙ fresh ];
            below = λ x m. elim (cases x m) [ inl k ↦ g.below x k | inr p ↦ (let z = g.size in omega arith) ];
            distinct = subst P (sym h) (distinct_push list s g.distinct gone);
          };
    }

pub gathers_more : (xs : List ℕ) (x : ℕ) (m0 m1 m2 : List Bool) (l0 l1 l2 : List ℕ) → Gathers xs m0 m1 l0 l1 → Gathers (x ∷ []) m1 m2 l1 l2
    → Gathers (xs ++ x ∷ []) m0 m2 l0 l2
gathers_more xs x m0 m1 m2 l0 l1 l2 g h = record {
  more = g.more ++ h.more;
  list = h.list ∙ ap (λ (y : List ℕ). y ++ h.more) g.list ∙ append_assoc l0 g.more h.more;
  from = λ y m. elim (elem_append y g.more h.more m) [ inl k ↦ elem_left y xs (x ∷ []) (g.from y k) | inr k ↦ elem_right y xs (x ∷ []) (h.from y k) ];
  bound = λ y m. elim (elem_append y xs (x ∷ []) m) [ inl k ↦ h.kept y (g.bound y k) | inr k ↦ h.bound y k ];
  kept = λ y e. h.kept y (g.kept y e);
  size = h.size ∙ g.size;
  gathering = λ start k. h.gathering start (g.gathering start k);
}

-- there are no more than sites
pub gathering_short : (start marks : List Bool) (list : List ℕ) → IsGathering start marks list → length list ≤ length start
gathering_short start marks list g =
    let l : length list ≤ length (below (length start)) = distinct_short list (below (length start)) g.distinct
    (λ x m. elem_below x (length start) (g.below x m)) in
    let e = length_below (length start) in
    omega arith

-- one turn of the loop over what is listed
pub record IsClosing {C V : Type 0} (R : Rules C V) (sites : List ℕ) (start marks : List Bool) (list : List ℕ) (at : ℕ) : Type 0 where
  pub gathering : IsGathering start marks list
  pub only : (x : ℕ) → Elem x list → IsPartOf R sites x
  pub bound : (x : ℕ) → Elem x sites → is_marked marks x ≡ true
  pub done : (x p : ℕ) → Elem x (take at list) → Elem p (R.parts x) → is_marked marks p ≡ true

pub closing_start : {C V : Type 0} (R : Rules C V) (sites : List ℕ) (start marks : List Bool) (none list : List ℕ) → none ≡ []
    → Gathers sites start marks none list → IsClosing R sites start marks list 0
closing_start R sites start marks none list e g =
    let f : list ≡ g.more = g.list ∙ ap (λ (y : List ℕ). y ++ g.more) e in
    let P : List ℕ → Type 0 = λ y. IsGathering start start y in
    record {
      gathering = g.gathering start (subst P (sym e) (gathering_none start));
      only = λ x m. let Q : List ℕ → Type 0 = λ y. Elem x y in IsPartOf.itself x (g.from x (subst Q f m));
      bound = g.bound;
      done = λ x p m. absurd m;
    }

take_append_short : (k : ℕ) (xs ys : List ℕ) → k ≤ length xs → take k (xs ++ ys) ≡ take k xs
take_append_short zero xs ys l = refl
take_append_short (suc k) [] ys l = absurd (omega arith)
take_append_short (suc k) (x ∷ xs) ys l = ap (λ (y : List ℕ). x ∷ y) (take_append_short k xs ys (omega arith))

pub closing_more : {C V : Type 0} (R : Rules C V) (sites : List ℕ) (start m0 m1 : List Bool) (l0 l1 parts : List ℕ) (at : ℕ) → at < length l0
    → parts ≡ R.parts (get_or l0 at 0) → Gathers parts m0 m1 l0 l1
    → IsClosing R sites start m0 l0 at → IsClosing R sites start m1 l1 (at + 1)
closing_more R sites start m0 m1 l0 l1 parts at l e g c =
    let here : Elem (get_or l0 at 0) l0 = elem_at l0 at 0 l in
    let f : take (at + 1) l1 ≡ take at l0 ++ get_or l0 at 0 ∷ [] =
    ap (take (at + 1)) g.list ∙ take_append_short (at + 1) l0 g.more (omega arith) ∙ take_more l0 at 0 l in
    record {
      gathering = g.gathering start c.gathering;
      only = λ x m.
          let Q : List ℕ → Type 0 = λ y. Elem x y in
          elim (elem_append x l0 g.more (subst Q g.list m)) [
            | inl k ↦ c.only x k
            | inr k ↦ IsPartOf.of_part (get_or l0 at 0) x (c.only (get_or l0 at 0) here) (subst Q e (g.from x k))
          ];
      bound = λ x m. g.kept x (c.bound x m);
      done = λ x p m q.
          let Q : List ℕ → Type 0 = λ y. Elem x y in
          elim (elem_append x (take at l0) (get_or l0 at 0 ∷ []) (subst Q f m)) [
            | inl k ↦ g.kept p (c.done x p k q)
            | inr k ↦ elim k [
              | inl same ↦ g.bound p (let S : List ℕ → Type 0 = λ y. Elem p y in subst S (ap R.parts same ∙ sym e) q)
              | inr o ↦ absurd o
            ]
          ];
    }

pub closed : {C V : Type 0} (R : Rules C V) (sites : List ℕ) (start marks : List Bool) (list sorted : List ℕ) (at : ℕ) → take at list ≡ list
    → IsAscending sorted → IsSameBag list sorted
    → IsClosing R sites start marks list at → IsClosure R sites start marks sorted
closed R sites start marks list sorted at all up same c =
    let back : (x : ℕ) → Elem x sorted → Elem x list = λ x m. same_elem sorted list x (same_turned list sorted same) m in
    let g = c.gathering in
    record {
      size = g.size;
      either = λ x e. elim (g.either x e) [ inl o ↦ inl o | inr m ↦ inr (same_elem list sorted x same m) ];
      kept = g.kept;
      here = λ x m. g.here x (back x m);
      fresh = λ x m. g.fresh x (back x m);
      below = λ x m. g.below x (back x m);
      ascend = up;
      only = λ x m. c.only x (back x m);
      bound = c.bound;
      closed = λ x p m q. c.done x p (let Q : List ℕ → Type 0 = λ y. Elem x y in subst Q (sym all) (back x m)) q;
    }

-- ascending, each stands after its parts
pub order_up : {C V : Type 0} (R : Rules C V) (xs : List ℕ) (sc : Scope C) → PartsAreLower R → IsAscending xs
    → ((x : ℕ) → Elem x xs → sc.emitted x ≡ false)
    → ((x p : ℕ) → Elem x xs → Elem p (R.parts x) → (sc.emitted p ≡ true) ⊎ Elem p xs) → IsOrder R sc xs
order_up R [] sc low up fresh parts = tt
order_up R (y ∷ ys) sc low up fresh parts = (
  fresh y (inl refl),
  λ p m.
      let l : p < y = low y p m in
      elim (parts y p (inl refl) m) [
        | inl e ↦ e
        | inr h ↦ elim h [ inl e ↦ absurd (omega arith) | inr k ↦ (let q = up.0 p k in absurd (omega arith)) ]
      ],
  order_up R ys (emit sc y) low up.1
      (λ x m. let q = up.0 x m in elim (true_or (x == y)) [
        | inl e ↦ (let f : x ≡ y = eqb-true x y e in absurd (omega arith))
        | inr e ↦
            rw e (fresh x (inr m))
      ])
      (λ x p m q. elim (parts x p (inr m) q) [
        | inl e ↦ inl (or_right (p == y) (sc.emitted p) e)
        | inr h ↦ elim h [ inl e ↦ inl (rw (eq-eqb p y e) refl) | inr k ↦ inr k ]
      ]),
)

emitted_elem : {C : Type 0} (sc : Scope C) (xs : List ℕ) (x : ℕ) → Elem x xs → (emit_all sc xs).emitted x ≡ true
emitted_elem sc [] x m = absurd m
emitted_elem sc (y ∷ ys) x (inl e) = still_emitted (emit sc y) ys x (rw (eq-eqb x y e) refl)
emitted_elem sc (y ∷ ys) x (inr m) = emitted_elem (emit sc y) ys x m

pub emits_closure : {C V : Type 0} (R : Rules C V) (sites : List ℕ) (sc after : Scope C) (old new : List Bool) (list order more : List ℕ)
    → PartsAreLower R → IsClosure R sites old new list
    → ((s : ℕ) → sc.emitted s ≡ is_marked old s) → ((s : ℕ) → after.emitted s ≡ is_marked new s) → IsSamePath sc after
    → more ≡ order ++ filter R.stands list
    → Emits R sc sites order more after
emits_closure R sites sc after old new list order more low c before now path w = record {
  all = list;
  order = order_up R list sc low c.ascend (λ x m. before x ∙ c.fresh x m)
      (λ x p m q. elim (c.either p (c.closed x p m q)) [ inl o ↦ inl (before p ∙ o) | inr k ↦ inr k ]);
  only = c.only;
  ending = scope_same after (emit_all sc list)
      (λ s. path.passed s ∙ sym (passed_bound sc list s))
      (λ s. path.label s ∙ sym (label_bound sc list s))
      (λ s. both_ways (after.emitted s) ((emit_all sc list).emitted s)
      (λ e. elim (c.either s (sym (now s) ∙ e)) [ inl o ↦ still_emitted sc list s (before s ∙ o) | inr m ↦ emitted_elem sc list s m ])
      (λ e. now s ∙ elim (emitted_or sc list s e) [ inl m ↦ c.here s m | inr o ↦ c.kept s (sym (before s) ∙ o) ]));
  bound = λ x m. now x ∙ c.bound x m;
  written = w;
}

pub closure_first : {C V : Type 0} (R : Rules C V) (n : ℕ) (sites : List ℕ) (old new : List Bool) (list : List ℕ) → PartsAreLower R → IsClean n old
    → IsClosure R sites old new list → ArePartsFirst R list
closure_first R n sites old new list low clean c j p l m =
    let here = elem_at list j 0 l in
    ascending_front list j p c.ascend l
    (elim (c.either p (c.closed (get_or list j 0) p here m)) [ inl o ↦ clash _ o (clean.clean p) | inr k ↦ k ])
    (low (get_or list j 0) p m)

pub closure_full : {C V : Type 0} (R : Rules C V) (n : ℕ) (sites : List ℕ) (old new : List Bool) (list : List ℕ) → IsClean n old
    → IsClosure R sites old new list → (x : ℕ) → is_marked new x ≡ true → Elem x list
closure_full R n sites old new list clean c x e = elim (c.either x e) [ inl o ↦ clash _ o (clean.clean x) | inr k ↦ k ]

-- a sort of numbers that stand once
all_up : (xs : List ℕ) → ((k : ℕ) → suc k < length xs → get_or xs k 0 ≤ get_or xs (suc k) 0) → AreDistinct xs → IsAscending xs
all_up [] h d = tt
all_up (x ∷ []) h d = (λ y m. absurd m, tt)
all_up (x ∷ y ∷ ys) h d =
    let rest : IsAscending (y ∷ ys) = all_up (y ∷ ys) (λ k l. h (suc k) (omega arith)) d.1 in
    let first : x ≤ y = h 0 (omega arith) in
    let apart : x ≢ y = λ e. d.0 (inl e) in (
      λ z m. elim m [ inl e ↦ omega arith | inr n ↦ (let q = rest.0 z n in omega arith) ],
      rest,
    )

pub sorted_up : (xs ys : List ℕ) → AreDistinct ys → ((k : ℕ) → k + 1 < length ys → get_or ys k 0 ≤ get_or ys (k + 1) 0) → IsAscending ys
sorted_up xs ys d h = all_up ys (λ k l. rw add-one at (h k (omega arith))) d

unmarked_here : (marks : List Bool) (s x : ℕ) → s < length marks → x ≡ s → is_marked (set marks s false) x ≡ false
unmarked_here marks s x b e = rw e (get_or-set_same marks s false false b)

unmarked_old : (marks : List Bool) (s x : ℕ) → x ≢ s → is_marked (set marks s false) x ≡ true → is_marked marks x ≡ true
unmarked_old marks s x n e = sym (get_or-set_other marks s x false false n) ∙ e

-- what was marked for a list that is done with is taken away
pub unmark_gone : (sites : List ℕ) (i : ℕ) (marks : List Bool) → i < length sites → get_or sites i 0 < length marks
    → ((x : ℕ) → Elem x (take i sites) → is_marked marks x ≡ true → ⊥)
    → (x : ℕ) → Elem x (take (i + 1) sites) → is_marked (set marks (get_or sites i 0) false) x ≡ true → ⊥
unmark_gone sites i marks l b h x m e = elim (eq_or x (get_or sites i 0)) [
  | inl same ↦ clash _ e (unmarked_here marks (get_or sites i 0) x b same)
  | inr other ↦ elim (last_or x 0 sites i l m) [
    | inl o ↦ h x o (unmarked_old marks (get_or sites i 0) x other e)
    | inr same ↦ other same
  ]
]

pub unmark_old : (marks start : List Bool) (s : ℕ) → s < length marks → ((x : ℕ) → is_marked marks x ≡ true → is_marked start x ≡ true) → (x : ℕ)
    → is_marked (set marks s false) x ≡ true → is_marked start x ≡ true
unmark_old marks start s b h x e = elim (eq_or x s) [
  | inl same ↦ clash _ e (unmarked_here marks s x b same)
  | inr other ↦ h x (unmarked_old marks s x other e)
]

-- where none of a list is marked any more, and nothing else was, nothing is marked
pub clean_again : (n i : ℕ) (sites : List ℕ) (start marks : List Bool) → length marks ≡ n → length sites ≤ i
    → ((x : ℕ) → is_marked start x ≡ true → Elem x sites)
    → ((x : ℕ) → Elem x (take i sites) → is_marked marks x ≡ true → ⊥) → ((x : ℕ) → is_marked marks x ≡ true → is_marked start x ≡ true)
    → IsClean n marks
clean_again n i sites start marks size l all gone old = record {
  size = size;
  clean = λ x. elim (true_or (is_marked marks x)) [
    | inl e ↦ absurd (gone x (rw (take_all i sites l) (all x (old x e))) e)
    | inr e ↦ e
  ];
}

-- a rule's tests ask the site itself
pub data IsTestedSite {C V : Type 0} (R : Rules C V) (i : ℕ) : ℕ → Type 0 where
  wanted : (s : ℕ) (w : Want C) → R.at i s ≡ Some w → IsTestedSite R i s
  joined : (a b : ℕ) → R.joins i a b ≡ true → IsTestedSite R i a

asked_in : {C V : Type 0} (R : Rules C V) (n i : ℕ) (sites : List ℕ) (old new : List Bool) (list : List ℕ) → IsClean n old
    → IsClosure R sites old new list
    → ((s : ℕ) → IsTestedSite R i s → Elem s sites) → (s : ℕ) → Asked R i s → Elem s list
asked_in R n i sites old new list clean c all _ (Asked.by_demand s w e) =
    closure_full R n sites old new list clean c s (c.bound s (all s (IsTestedSite.wanted s w e)))
asked_in R n i sites old new list clean c all _ (Asked.by_class a b e) =
    closure_full R n sites old new list clean c a (c.bound a (all a (IsTestedSite.joined a b e)))
asked_in R n i sites old new list clean c all _ (Asked.by_part s p h m) =
    closure_full R n sites old new list clean c p (c.closed s p (asked_in R n i sites old new list clean c all s h) m)
