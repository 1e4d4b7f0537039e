-- Whether effects and answers are one is decided.
use Rattle.std.proofs.Common.{◌≡◌, ◌≢◌, ◌⊎◌, inl, inr, ℕ, ℤ, List, [], ◌∷◌, ◌++◌, Bool, true, false, Option, Some, None, refl, sym, ◌∙◌, ap}
use Rattle.std.proofs.Math.Decide.{ℕ_discrete}
use Rattle.std.proofs.lemmas.Bool.Decides.{Decides-int_eq}
use Rattle.std.specs.Ordering.{int_eq}
use Rattle.std.specs.Bool.{Decides}
use Rattle.isle_rules.specs.Values.{ValueTree, ValueTrees, bool_tree, int_tree, big_tree, const_tree, opaque_tree, data_tree, no_trees}
use Rattle.isle_rules.specs.Values.{more_trees}
use Rattle.isle_meaning.specs.Values.{Value}
use Rattle.isle_meaning.specs.Worlds.{Event}
use Rattle.isle_meaning.proofs.Matching.Deciding.{Decided, decide}
use Rattle.isle_meaning.specs.Laws.Calls.{FirstDiffer, AreOne, Surely}
use Rattle.isle_meaning.proofs.Chains.Unique.{behind}

-- numbers are equal or not
number : (k j : ℕ) → Decided k j
number k j = elim (ℕ_discrete k j) [ yes e ↦ inl e | no n ↦ inr n ]

-- so are truth values
truth : (a b : Bool) → Decided a b
truth true true = inl refl
truth true false = inr (λ e. cc)
truth false true = inr (λ e. cc)
truth false false = inl refl

-- so are integers
integer : (a b : ℤ) → Decided a b
integer a b = go (int_eq a b) (Decides-int_eq a b)
  where
    go : (r : Bool) → Decides r (a ≡ b) → Decided a b
    go true d = inl (d.0 refl)
    go false d = inr (λ p. let q = d.1 p in cc)

-- equal or not by a part, and then by the rest
both : {A : Type 0} (x y : A) (P : Type 0) → Decided x y → (x ≡ y → P ⊎ (P → ⊥)) → (P → x ≡ y) → P ⊎ (P → ⊥)
both x y P (inl e) f g = f e
both x y P (inr n) f g = inr (λ p. n (g p))

-- so are names
text : (a b : List ℕ) → Decided a b
text [] [] = inl refl
text (x ∷ xs) (y ∷ ys) = both x y _ (number x y) (λ e. both xs ys _ (text xs ys) (λ g. inl cc) (λ p. cc)) (λ p. cc)
text xs ys = inr (λ e. cc)

mutual
  -- trees are equal or not
  pub tree : (x y : ValueTree) → Decided x y
  tree (bool_tree a) (bool_tree b) = both a b _ (truth a b) (λ e. inl cc) (λ e. cc)
  tree (int_tree a) (int_tree b) = both a b _ (integer a b) (λ e. inl cc) (λ e. cc)
  tree (big_tree a) (big_tree b) = both a b _ (number a b) (λ e. inl cc) (λ e. cc)
  tree (const_tree a) (const_tree b) = both a b _ (text a b) (λ e. inl cc) (λ e. cc)
  tree (opaque_tree a) (opaque_tree b) = both a b _ (number a b) (λ e. inl cc) (λ e. cc)
  tree (data_tree t xs) (data_tree u ys) = both t u _ (text t u) (λ e. both xs ys _ (trees xs ys) (λ g. inl cc) (λ p. cc)) (λ p. cc)
  tree x y = inr (λ e. cc)

  -- so are lists of trees
  pub trees : (xs ys : ValueTrees) → Decided xs ys
  trees no_trees no_trees = inl refl
  trees (more_trees x xs) (more_trees y ys) = both x y _ (tree x y) (λ e. both xs ys _ (trees xs ys) (λ g. inl cc) (λ p. cc)) (λ p. cc)
  trees xs ys = inr (λ e. cc)

-- so are answers
answer : (x y : Option ValueTree) → Decided x y
answer None None = inl refl
answer None (Some y) = inr (λ e. cc)
answer (Some x) None = inr (λ e. cc)
answer (Some x) (Some y) = both x y _ (tree x y) (λ e. inl cc) (λ e. cc)

-- effects are equal or not
event : (x y : Event) → Decided x y
event x y =
    both (x.term) (y.term) _ (number (x.term) (y.term)) (λ e. both (x.args) (y.args) _ (trees (x.args) (y.args))
    (λ d. both (x.answer) (y.answer) _ (answer (x.answer) (y.answer)) (λ q. inl (parts x y e d q)) (λ p. ap (λ (z : Event). z.answer) p))
    (λ p. ap (λ (z : Event). z.args) p)) (λ p. ap (λ (z : Event). z.term) p)
  where
    parts : (x y : Event) → x.term ≡ y.term → x.args ≡ y.args → x.answer ≡ y.answer → x ≡ y
    parts x y e d q =
        ap (λ (t : ℕ). record { term = t; args = x.args; answer = x.answer }) e
        ∙ (ap (λ (t : ValueTrees). record { term = y.term; args = t; answer = x.answer }) d
        ∙ ap (λ (t : Option ValueTree). record { term = y.term; args = y.args; answer = t }) q)

-- so are lists of effects
events : (xs ys : List Event) → Decided xs ys
events [] [] = inl refl
events [] (y ∷ ys) = inr (λ e. cc)
events (x ∷ xs) [] = inr (λ e. cc)
events (x ∷ xs) (y ∷ ys) = both x y _ (event x y) (λ e. both xs ys _ (events xs ys) (λ g. inl cc) (λ p. cc)) (λ p. cc)

-- the one effect with different answers
record Differ (x y : Event) : Type 0 where
  term : x.term ≡ y.term
  args : x.args ≡ y.args
  answer : x.answer ≢ y.answer

-- they are so or not
differ : (x y : Event) → Differ x y ⊎ (Differ x y → ⊥)
differ x y =
    both (x.term) (y.term) _ (number (x.term) (y.term)) (λ e. both (x.args) (y.args) _ (trees (x.args) (y.args)) (λ d.
    answers e d (answer (x.answer) (y.answer))) (λ h. h.args)) (λ h. h.term)
  where
    answers : x.term ≡ y.term → x.args ≡ y.args → Decided (x.answer) (y.answer) → Differ x y ⊎ (Differ x y → ⊥)
    answers e d (inl q) = inr (λ h. h.answer q)
    answers e d (inr n) = inl (record { term = e; args = d; answer = n })

-- no effects don't differ from others
pub none_first : (other : List Event) → FirstDiffer [] other → ⊥
none_first other d = go (d.shared) (d.one_is)
  where
    go : (shared : List Event) → [] ≡ shared ++ d.here ∷ d.more → ⊥
    go [] e = cc
    go (x ∷ xs) e = cc

-- nor do others from none
none_second : (one : List Event) → FirstDiffer one [] → ⊥
none_second one d = go (d.shared) (d.other_is)
  where
    go : (shared : List Event) → [] ≡ shared ++ d.there ∷ d.others → ⊥
    go [] e = cc
    go (x ∷ xs) e = cc

-- where they first differ: here, or later
split : (x y : Event) (xs ys : List Event) → FirstDiffer (x ∷ xs) (y ∷ ys) → Differ x y ⊎ ((x ≡ y) × FirstDiffer xs ys)
split x y xs ys d = go (d.shared) (d.one_is) (d.other_is)
  where
    go : (shared : List Event) → x ∷ xs ≡ shared ++ d.here ∷ d.more → y ∷ ys ≡ shared ++ d.there ∷ d.others
        → Differ x y ⊎ ((x ≡ y) × FirstDiffer xs ys)
    go [] e f =
        let p : x ≡ d.here = cc in let q : y ≡ d.there = cc in
        inl (record {
          term = ap (λ (z : Event). z.term) p ∙ (d.term ∙ ap (λ (z : Event). z.term) (sym q));
          args = ap (λ (z : Event). z.args) p ∙ (d.args ∙ ap (λ (z : Event). z.args) (sym q));
          answer = λ h. d.answer (ap (λ (z : Event). z.answer) (sym p) ∙ (h ∙ ap (λ (z : Event). z.answer) q));
        })
    go (s ∷ shared) e f = inr (
      cc,
      record {
        shared = shared;
        here = d.here;
        there = d.there;
        more = d.more;
        others = d.others;
        one_is = cc;
        other_is = cc;
        term = d.term;
        args = d.args;
        answer = d.answer;
      },
    )

-- they first differ here
here_first : (x y : Event) (xs ys : List Event) → Differ x y → FirstDiffer (x ∷ xs) (y ∷ ys)
here_first x y xs ys h = record {
  shared = [];
  here = x;
  there = y;
  more = xs;
  others = ys;
  one_is = refl;
  other_is = refl;
  term = h.term;
  args = h.args;
  answer = h.answer;
}

-- they first differ later
later : (x y : Event) (xs ys : List Event) → x ≡ y → FirstDiffer xs ys → FirstDiffer (x ∷ xs) (y ∷ ys)
later x y xs ys e d = record {
  shared = x ∷ d.shared;
  here = d.here;
  there = d.there;
  more = d.more;
  others = d.others;
  one_is = ap (λ (l : List Event). x ∷ l) (d.one_is);
  other_is = ap (λ (z : Event). z ∷ ys) (sym e) ∙ ap (λ (l : List Event). x ∷ l) (d.other_is);
  term = d.term;
  args = d.args;
  answer = d.answer;
}

-- effects first differ in an answer, or not
pub first_differ : (xs ys : List Event) → FirstDiffer xs ys ⊎ (FirstDiffer xs ys → ⊥)
first_differ [] ys = inr (none_first ys)
first_differ (x ∷ xs) [] = inr (none_second (x ∷ xs))
first_differ (x ∷ xs) (y ∷ ys) = elim (differ x y) [
  | inl h ↦ inl (here_first x y xs ys h)
  | inr n ↦ elim (event x y) [
    | inr m ↦ inr (λ d. elim (split x y xs ys d) [ inl h ↦ n h | inr h ↦ m (h.0) ])
    | inl e ↦ elim (first_differ xs ys) [
      | inl d ↦ inl (later x y xs ys e d)
      | inr m ↦ inr (λ d. elim (split x y xs ys d) [ inl h ↦ n h | inr h ↦ m (h.1) ])
    ]
  ]
]

-- effects don't first differ where what begins with them doesn't
pub front_alike : (xs ys more others : List Event) → (FirstDiffer (xs ++ more) (ys ++ others) → ⊥) → FirstDiffer xs ys → ⊥
front_alike xs ys more others alike d = alike (behind xs ys more others d)

-- nor where the same effects before them don't
pub rest_alike : (es xs ys : List Event) → (FirstDiffer (es ++ xs) (es ++ ys) → ⊥) → FirstDiffer xs ys → ⊥
rest_alike [] xs ys alike d = alike d
rest_alike (e ∷ es) xs ys alike d = rest_alike es xs ys (λ f. alike (later e e (es ++ xs) (es ++ ys) refl f)) d

-- one call is answered one way, where effects don't first differ in its answer
pub one_answer : (x y : Event) → x.term ≡ y.term → x.args ≡ y.args → (FirstDiffer (x ∷ []) (y ∷ []) → ⊥) → x.answer ≡ y.answer
one_answer x y term args alike = elim (answer (x.answer) (y.answer)) [
  | inl e ↦ e
  | inr n ↦ absurd (alike (here_first x y [] [] (record { term = term; args = args; answer = n })))
]

-- answers are equal or not
answers_are : (x y : Option Value) → Decided x y
answers_are None None = inl refl
answers_are None (Some y) = inr (λ e. cc)
answers_are (Some x) None = inr (λ e. cc)
answers_are (Some x) (Some y) = both x y _ (decide x y) (λ e. inl cc) (λ e. cc)

-- What can't but be one is one.
pub one_is_stable : (one other : List Event) (x y : Option Value) → Surely (AreOne one x other y) → AreOne one x other y
one_is_stable one other x y h = elim (first_differ one other) [
  | inl d ↦ inr d
  | inr n ↦ elim (events one other) [
    | inr m ↦ absurd (h (λ a. elim a [ inl e ↦ m (e.0) | inr d ↦ n d ]))
    | inl e ↦ elim (answers_are x y) [
      | inl q ↦ inl (e, q)
      | inr m ↦ absurd (h (λ a. elim a [ inl k ↦ m (k.1) | inr d ↦ n d ]))
    ]
  ]
]
