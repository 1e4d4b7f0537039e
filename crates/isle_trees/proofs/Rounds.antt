-- The walk that makes rounds answers the bag.
use Rattle.std.proofs.Common.{◌≡◌, ◌≢◌, inl, inr, ℕ, zero, suc, ◌<◌, ◌==◌, not, List, [], ◌∷◌, Bool, true, false, Option, Some, None, refl, sym, ◌∙◌, ap, subst, arith, eqb-true, eq-eqb, sum_by, is_some}
use Rattle.std.specs.List.{filter}
use Rattle.std.specs.Prelude.{if◌then◌else◌}
use Rattle.isle_trees.specs.Got.{Got}
use Rattle.isle_trees.specs.Answers.{HasValue}
use Rattle.isle_trees.specs.Bag.{Picks, pick, Model, IsModel, IsAscending, Tells, Round, gave, ways}
use Rattle.isle_trees.specs.Builds.{without}
use Rattle.isle_trees.specs.Premises.{IsWellMade}
use Rattle.isle_trees.specs.Rules.{Want, one_value, Rules, Elem, Meets, Matches}
use Rattle.isle_trees.specs.Scopes.{Scope, join, emit, emit_all, inside, IsAvailable}
use Rattle.isle_trees.proofs.Basics.{true_or, none_or, eq_or, from_filter, source_part}
use Rattle.isle_trees.proofs.Path.{Holds, label_cases, available_parts}
use Rattle.isle_trees.proofs.Sums.{sum_same, sum_zero, sum_flat, sum_swap, elem_flat, filter_all}

-- picks
pick_self : {V : Type 0} (h : Picks V) (s : ℕ) (c : V) → pick h s c s ≡ c
pick_self h s c = rw (eq-eqb s s refl) refl

pub differ : (x s : ℕ) → x ≢ s → (x == s) ≡ false
differ x s n = elim (true_or (x == s)) [ inl e ↦ absurd (n (eqb-true x s e)) | inr e ↦ e ]

pub pick_other : {V : Type 0} (h : Picks V) (s x : ℕ) (c : V) → x ≢ s → pick h s c x ≡ h x
pick_other h s x c n = rw (differ x s n) refl

swap_at : {V : Type 0} (h : Picks V) (s t x : ℕ) (b c : V) → t ≢ s → pick (pick h t b) s c x ≡ pick (pick h s c) t b x
swap_at h s t x b c n = elim (eq_or x s) [
  | inl e ↦
      let m : x ≢ t = λ p. n (sym p ∙ e) in
      rw (e, eq-eqb s s refl, differ s t (λ p. n (sym p))) refl
  | inr d ↦ rw (differ x s d) refl
]

pick_swap : {V : Type 0} (h : Picks V) (s t : ℕ) (b c : V) → t ≢ s → pick (pick h t b) s c ≡ pick (pick h s c) t b
pick_swap h s t b c n = λ i. λ x. swap_at h s t x b c n i

-- picks that are the same for what the path looped over
abbrev pub SamePicks : {C V : Type 0} → Rules C V → Scope C → Picks V → Picks V → Type 0
SamePicks R sc h g = (s : ℕ) → sc.passed s ≡ Some one_value → h s ≡ g s

not_some : {A : Type 0} (a : A) → None ≡ Some a → ⊥
not_some a e = cc

pub agree_pick : {C V : Type 0} (R : Rules C V) (sc : Scope C) (h : Picks V) (s : ℕ) (c : V) → sc.passed s ≡ None → SamePicks R sc h (pick h s c)
agree_pick R sc h s c none x e = sym (pick_other h s x c (λ p. not_some _ (sym none ∙ sym (ap sc.passed p) ∙ e)))

-- what is available is the same then
pub same_there : {C V : Type 0} (R : Rules C V) (M : Model V) (sc : Scope C) (h g : Picks V) (x : ℕ) → IsModel R M
    → SamePicks R sc h g → IsAvailable R sc x → M.values h x ≡ M.values g x
same_there R M sc h g _ im ag (IsAvailable.from_parts x parts tested) =
    im.by_parts h g x (λ p m. same_there R M sc h g p im ag (parts p m)) (λ m e f. ag m.site (tested m e ∙ ap Some f))

many_there : {C V : Type 0} (R : Rules C V) (M : Model V) (sc : Scope C) (h g : Picks V) (s : ℕ) → IsModel R M
    → SamePicks R sc h g → IsAvailable R sc s → M.many h s ≡ M.many g s
many_there R M sc h g s im ag a = im.many_by_parts h g s (λ p m. same_there R M sc h g p im ag ((available_parts R sc s a).0 p m))

-- a site is the same where the multi calls below it are
same_below : {C V : Type 0} (R : Rules C V) (M : Model V) (h g : Picks V) → IsModel R M → IsWellMade R → (n x : ℕ)
    → x < n → ((u : ℕ) → u < x → h u ≡ g u) → M.values h x ≡ M.values g x
same_below R M h g im w zero x l f = absurd (omega arith)
same_below R M h g im w (suc n) x l f =
    im.by_parts h g x
    (λ p m. let q : p < x = w.lower x p m in same_below R M h g im w n p (omega arith) (λ u r. f u (omega arith)))
    (λ m e one. f m.site (w.lower x m.site (source_part R x m w e)))

many_below : {C V : Type 0} (R : Rules C V) (M : Model V) (h g : Picks V) (s : ℕ) → IsModel R M → IsWellMade R
    → ((u : ℕ) → u < s → h u ≡ g u) → M.many h s ≡ M.many g s
many_below R M h g s im w f =
    im.many_by_parts h g s (λ p m. let q : p < s = w.lower s p m in same_below R M h g im w (suc p) p (omega arith) (λ u r. f u (omega arith)))

-- an available multi call may be taken first
pub ways_cons : {V : Type 0} (M : Model V) (F : Picks V → ℕ) (t : ℕ) (ts : List ℕ) (h : Picks V)
    → sum_by F (ways M (t ∷ ts) h) ≡ sum_by (λ b. sum_by F (ways M ts (pick h t b))) (M.many h t)
ways_cons M F t ts h = sum_flat F (λ b. ways M ts (pick h t b)) (M.many h t)

pub taken_first : {C V : Type 0} (R : Rules C V) (M : Model V) (sc : Scope C) (s : ℕ) (F : Picks V → ℕ) → IsModel R M
    → IsWellMade R → IsAvailable R sc s
    → (ss : List ℕ) (h : Picks V) → ((t : ℕ) → Elem t ss → sc.passed t ≡ None) → IsAscending ss → Elem s ss
    → sum_by F (ways M ss h) ≡ sum_by (λ c. sum_by F (ways M (without s ss) (pick h s c))) (M.many h s)
taken_first R M sc s F im w a [] h un asc m = absurd m
taken_first R M sc s F im w a (t ∷ ts) h un asc (inl e) =
    let gone : without s (t ∷ ts) ≡ ts =
    rw (eq-eqb t s (sym e)) (filter_all (λ j. not (j == s)) ts (λ x n. let l : t < x = asc.0 x n in ap not (differ x s (λ p. omega arith)))) in
    let P : ℕ → Type 0 = λ y. sum_by F (ways M (t ∷ ts) h) ≡ sum_by (λ c. sum_by F (ways M ts (pick h y c))) (M.many h y) in
    let Q : List ℕ → Type 0 = λ l. sum_by F (ways M (t ∷ ts) h) ≡ sum_by (λ c. sum_by F (ways M l (pick h s c))) (M.many h s) in
    subst Q (sym gone) (subst P (sym e) (ways_cons M F t ts h))
taken_first {V = V} R M sc s F im w a (t ∷ ts) h un asc (inr m) =
    let l : t < s = asc.0 s m in
    let n : t ≢ s = λ p. omega arith in
    let kept : without s (t ∷ ts) ≡ t ∷ without s ts = rw (differ t s n) refl in
    let none : sc.passed t ≡ None = un t (inl refl) in
    let inner : (b : V) → sum_by F (ways M ts (pick h t b)) ≡ sum_by (λ c. sum_by F (ways M (without s ts) (pick (pick h s c) t b)))
    (M.many h s) = λ b.
    taken_first R M sc s F im w a ts (pick h t b) (λ x q. un x (inr q)) (asc.1) m
    ∙ ap (λ (l : List V). sum_by (λ c. sum_by F (ways M (without s ts) (pick (pick h t b) s c))) l)
    (sym (many_there R M sc h (pick h t b) s im (agree_pick R sc h t b none) a))
    ∙ sum_same _ _ (M.many h s) (λ c _. ap (λ (g : Picks V). sum_by F (ways M (without s ts) g)) (pick_swap h s t b c n)) in
    let outer : (c : V) → sum_by F (ways M (t ∷ without s ts) (pick h s c)) ≡ sum_by (λ b. sum_by F (ways M (without s ts) (pick (pick h s c) t b)))
    (M.many h t) = λ c.
    ways_cons M F t (without s ts) (pick h s c)
    ∙ ap (λ (l : List V). sum_by (λ b. sum_by F (ways M (without s ts) (pick (pick h s c) t b))) l)
    (many_below R M (pick h s c) h t im w (λ u q. pick_other h s u c (λ p. omega arith))) in
    ways_cons M F t ts h
    ∙ sum_same _ _ (M.many h t) (λ b _. inner b)
    ∙ sum_swap (λ b c. sum_by F (ways M (without s ts) (pick (pick h s c) t b))) (M.many h t) (M.many h s)
    ∙ sum_same _ _ (M.many h s) (λ c _. sym (outer c) ∙ ap (λ (l : List ℕ). sum_by F (ways M l (pick h s c))) (sym kept))

-- the ways of calls that aren't looped yet change nothing that is available
pub ways_agree : {C V : Type 0} (R : Rules C V) (M : Model V) (sc : Scope C) (ss : List ℕ) (h g : Picks V)
    → ((t : ℕ) → Elem t ss → sc.passed t ≡ None) → Elem g (ways M ss h) → SamePicks R sc h g
ways_agree {V = V} R M sc [] h g un (inl e) = λ s f. ap (λ (p : Picks V). p s) (sym e)
ways_agree R M sc [] h g un (inr m) = absurd m
ways_agree {C = C} R M sc (t ∷ ts) h g un m =
    let c = elem_flat (λ b. ways M ts (pick h t b)) g (M.many h t) m in
    let one = agree_pick R sc h t (c.0) (un t (inl refl)) in
    let two = ways_agree R M sc ts (pick h t (c.0)) g (λ x q. un x (inr q)) (c.2) in
    λ s f. one s f ∙ two s f

-- what a rule's calls that aren't looped yet are worth
abbrev pub rest_of : {C V : Type 0} → Rules C V → (ℕ → Option (Want C)) → ℕ → List ℕ
rest_of R passed i = filter (λ s. not (is_some (passed s))) (R.loops i)

abbrev pub gain : {V : Type 0} → (Round V → ℕ) → (Picks V → ℕ → Bool) → ℕ → Picks V → ℕ
gain f d i g = if d g i then f (gave i g) else 0

abbrev pub worth : {C V : Type 0} → Rules C V → Model V → (Picks V → ℕ → Bool) → (Round V → ℕ) → (ℕ → Option (Want C)) → Picks V → ℕ → ℕ
worth R M d f passed h i = sum_by (gain f d i) (ways M (rest_of R passed i) h)

pub rest_open : {C V : Type 0} (R : Rules C V) (sc : Scope C) (i t : ℕ) → Elem t (rest_of R sc.passed i) → sc.passed t ≡ None
rest_open R sc i t m = elim (none_or (sc.passed t)) [
  | inl e ↦ e
  | inr k ↦
      let f : not (is_some (sc.passed t)) ≡ true = (from_filter _ (R.loops i) t m).1 in
      let g : not (is_some (sc.passed t)) ≡ false = rw (k.1) refl in cc
]

-- a rule that can't match here is worth nothing
pub worthless : {C V : Type 0} (R : Rules C V) (M : Model V) (d : Picks V → ℕ → Bool) (f : Round V → ℕ) (sc : Scope C) (h : Picks V) (i : ℕ)
    → Tells R M d
    → ((g : Picks V) → SamePicks R sc h g → Matches R (M.values g) i → ⊥) → worth R M d f sc.passed h i ≡ 0
worthless {C = C} R M d f sc h i tells never =
    sum_zero (gain f d i) (ways M (rest_of R sc.passed i) h) (λ g m. elim (true_or (d g i)) [
      | inl e ↦ absurd (never g (ways_agree R M sc (rest_of R sc.passed i) h g (λ t q. rest_open R sc i t q) m) (tells.sound g i e))
      | inr e ↦ rw e refl
    ])

-- what the path knows is available
pub record IsPlaced {C V : Type 0} (R : Rules C V) (sc : Scope C) : Type 0 where
  pub tested : (x : ℕ) (w : Want C) → sc.passed x ≡ Some w → IsAvailable R sc x
  pub joined : (a b : ℕ) → sc.label a ≡ sc.label b → a ≢ b → IsAvailable R sc a

pub more_there : {C V : Type 0} (R : Rules C V) (sc to : Scope C) (x : ℕ) → ((y : ℕ) (k : Want C) → sc.passed y ≡ Some k → to.passed y ≡ Some k)
    → IsAvailable R sc x → IsAvailable R to x
more_there R sc to _ f (IsAvailable.from_parts x parts tested) =
    IsAvailable.from_parts x (λ p m. more_there R sc to p f (parts p m)) (λ m e. f m.site m.want (tested m e))

pub emit_passed : {C : Type 0} (sc : Scope C) (xs : List ℕ) → (emit_all sc xs).passed ≡ sc.passed
emit_passed sc [] = refl
emit_passed sc (x ∷ xs) = emit_passed (emit sc x) xs

pub emit_label : {C : Type 0} (sc : Scope C) (xs : List ℕ) → (emit_all sc xs).label ≡ sc.label
emit_label sc [] = refl
emit_label sc (x ∷ xs) = emit_label (emit sc x) xs

pub placed_same : {C V : Type 0} (R : Rules C V) (sc to : Scope C) → to.passed ≡ sc.passed → to.label ≡ sc.label → IsPlaced R sc → IsPlaced R to
placed_same {C = C} R sc to e l p =
    let f : (y : ℕ) (k : Want C) → sc.passed y ≡ Some k → to.passed y ≡ Some k = λ y k q. ap (λ (g : ℕ → Option (Want C)). g y) e ∙ q in
    record {
      tested = λ x k q. more_there R sc to x f (p.tested x k (ap (λ (g : ℕ → Option (Want C)). g x) (sym e) ∙ q));
      joined = λ a b q n. more_there R sc to a f (p.joined a b (ap (λ (g : ℕ → ℕ). g a) (sym l) ∙ q ∙ ap (λ (g : ℕ → ℕ). g b) l) n);
    }

passed_more : {C V : Type 0} (R : Rules C V) (sc : Scope C) (s : ℕ) (k : Want C) → sc.passed s ≡ None → (y : ℕ) (j : Want C)
    → sc.passed y ≡ Some j → (inside R sc s k).passed y ≡ Some j
passed_more R sc s k none y j e = rw (differ y s (λ p. let f : None ≡ Some j = sym none ∙ sym (ap sc.passed p) ∙ e in cc)) e

pub placed_inside : {C V : Type 0} (R : Rules C V) (sc : Scope C) (s : ℕ) (k : Want C) → sc.passed s ≡ None
    → IsAvailable R sc s → IsPlaced R sc → IsPlaced R (inside R sc s k)
placed_inside R sc s k none a p = record {
  tested = λ x j e. elim (eq_or x s) [
    | inl q ↦ more_there R sc (inside R sc s k) x (passed_more R sc s k none) (subst (IsAvailable R sc) (sym q) a)
    | inr n ↦ let e2 : sc.passed x ≡ Some j = rw (differ x s n) at e in more_there R sc (inside R sc s k) x
        (passed_more R sc s k none) (p.tested x j e2)
  ];
  joined = λ x y q n. more_there R sc (inside R sc s k) x (passed_more R sc s k none) (p.joined x y q n);
}

pub placed_join : {C V : Type 0} (R : Rules C V) (sc : Scope C) (a b : ℕ) → IsAvailable R sc a → IsAvailable R sc b
    → IsPlaced R sc → IsPlaced R (join sc a b)
placed_join R sc a b there here p =
    let up : (x : ℕ) → IsAvailable R sc x → IsAvailable R (join sc a b) x = λ x q. more_there R sc (join sc a b) x (λ y k e. e) q in
    let at_label : (x y : ℕ) → sc.label x ≡ sc.label y → IsAvailable R sc y → IsAvailable R sc x = λ x y e q. elim (eq_or x y) [
      | inl same ↦ subst (IsAvailable R sc) (sym same) q
      | inr n ↦ p.joined x y e n
    ] in
    record {
      tested = λ x k e. up x (p.tested x k e);
      joined = λ x y l n. up x (elim (label_cases (sc.label x) (sc.label a) (sc.label b)) [
        | inl q ↦ at_label x a (q.0) there
        | inr q ↦ elim (label_cases (sc.label y) (sc.label a) (sc.label b)) [
          | inl r ↦ at_label x b (sym (q.1) ∙ l ∙ r.1) here
          | inr r ↦ p.joined x y (sym (q.1) ∙ l ∙ r.1) n
        ]
      ]);
    }

-- another pick changes nothing that the path knows
pub holds_agree : {C V : Type 0} (R : Rules C V) (M : Model V) (sc : Scope C) (h g : Picks V) → IsModel R M
    → IsPlaced R sc → SamePicks R sc h g → Holds R (M.values h) sc → Holds R (M.values g) sc
holds_agree {V = V} R M sc h g im p ag hold =
    let same : (x : ℕ) → IsAvailable R sc x → M.values h x ≡ M.values g x = λ x a. same_there R M sc h g x im ag a in
    record {
      wants = λ x w e. subst (λ (y : Got V). Meets R w y) (same x (p.tested x w e)) (hold.wants x w e);
      same = λ a b e. elim (eq_or a b) [
        | inl q ↦ ap (M.values g) q
        | inr n ↦ sym (same a (p.joined a b e n)) ∙ hold.same a b e ∙ same b (p.joined b a (sym e) (λ q. n (sym q)))
      ];
      there = λ a b e n. subst HasValue (same a (p.joined a b e n)) (hold.there a b e n);
    }
