-- What the rules left have still to learn falls with each test, and bounds the steps of a walk.
use Rattle.std.proofs.Common.{◌≡◌, ◌≢◌, ◌⊎◌, inl, inr, ℕ, ◌+◌, ◌<◌, ◌≤◌, ◌==◌, not, List, [], ◌∷◌, Bool, true, false, Some, None, length, refl, sym, ◌∙◌, ap, subst, arith, map, eqb-true, eq-eqb, sum_by}
use Rattle.std.specs.List.{filter, list_any}
use Rattle.std.specs.Prelude.{if◌then◌else◌}
use Rattle.std.proofs.lemmas.List.Sums.{sum_by-cons}
use Rattle.std.proofs.lemmas.List.Filters.{sum_by-filter_both}
use Rattle.isle_trees.specs.Answers.{Answers}
use Rattle.isle_trees.specs.Builds.{wanting, not_wanting, Builds, BuildsArms}
use Rattle.isle_trees.specs.Counting.{fresh, different, untested, unlearned, weight, after, if_bound, reached, reached_arms}
use Rattle.isle_trees.specs.Rules.{Want, has, one_value, Rules, Elem, passes_got, alike_got}
use Rattle.isle_trees.specs.Scopes.{Scope, join, emit, emit_all, is_want, inside, Test, on_match, on_equal, on_loop, counts, counted, others}
use Rattle.isle_trees.specs.Tree.{Steps, done, «match», equal, loop, give, Arms, no_arm, arm}
use Rattle.isle_trees.specs.Walk.{Bound, goes, opens, breaks, Outcome, chooses, ends, waits, stops, bind, walk, walk_arms}
use Rattle.isle_trees.proofs.Basics.{true_or, to_filter, has_length, some_elem, SameIs, SameSelf, is_want_same, counted_has}
use Rattle.isle_trees.proofs.Path.{wanting_is, some_counted, passed_bound, label_bound}

any_elem : (x : ℕ) (xs : List ℕ) → Elem x xs → list_any (λ y. y == x) xs ≡ true
any_elem x [] m = absurd m
any_elem x (y ∷ ys) (inl e) = rw (eq-eqb y x (sym e)) refl
any_elem x (y ∷ ys) (inr m) = elim (true_or (y == x)) [ inl e ↦ rw e refl | inr e ↦ rw e (any_elem x ys m) ]

elem_any : (x : ℕ) (xs : List ℕ) → list_any (λ y. y == x) xs ≡ true → Elem x xs
elem_any x [] e = cc
elem_any x (y ∷ ys) e = elim (true_or (y == x)) [ inl f ↦ inl (sym (eqb-true y x f)) | inr f ↦ inr (elem_any x ys (rw f at e)) ]

fresh_in : (x : ℕ) (xs : List ℕ) → Elem x xs → fresh x xs ≡ 0
fresh_in x xs m = rw (any_elem x xs m) refl

pub fresh_small : (x : ℕ) (xs : List ℕ) → fresh x xs ≤ 1
fresh_small x xs = elim (true_or (list_any (λ y. y == x) xs)) [ inl e ↦ rw e (omega arith) | inr e ↦ rw e (omega arith) ]

elem_or : (x : ℕ) (xs : List ℕ) → Elem x xs ⊎ (fresh x xs ≡ 1)
elem_or x xs = elim (true_or (list_any (λ y. y == x) xs)) [ inl e ↦ inl (elem_any x xs e) | inr e ↦ inr (rw e refl) ]

elem_map : {A B : Type 0} (f : A → B) (x : A) (xs : List A) → Elem x xs → Elem (f x) (map f xs)
elem_map f x [] m = absurd m
elem_map f x (y ∷ ys) (inl e) = inl (ap f e)
elem_map f x (y ∷ ys) (inr m) = inr (elem_map f x ys m)

-- no more numbers after a map
fresh_map : (f : ℕ → ℕ) (x : ℕ) (xs : List ℕ) → fresh (f x) (map f xs) ≤ fresh x xs
fresh_map f x xs = elim (elem_or x xs) [
  | inl m ↦ let e : fresh (f x) (map f xs) ≡ 0 = fresh_in (f x) (map f xs) (elem_map f x xs m) in omega arith
  | inr e ↦ let l : fresh (f x) (map f xs) ≤ 1 = fresh_small (f x) (map f xs) in omega arith
]

no_more : (f : ℕ → ℕ) (xs : List ℕ) → different (map f xs) ≤ different xs
no_more f [] = omega arith
no_more f (x ∷ xs) = let p = fresh_map f x xs in let q = no_more f xs in omega arith

-- the first number goes the way of another
head_less : (f : ℕ → ℕ) (b x : ℕ) (xs : List ℕ) → f x ≡ f b → Elem b xs → (Elem x xs → different (map f xs) + 1 ≤ different xs)
    → different (map f (x ∷ xs)) + 1 ≤ different (x ∷ xs)
head_less f b x xs e mb ih = elim (elem_or x xs) [
  | inl m ↦ let q : different (map f xs) + 1 ≤ different xs = ih m in let r = fresh_map f x xs in omega arith
  | inr one ↦
      let P : ℕ → Type 0 = λ y. Elem y (map f xs) in
      let z : fresh (f x) (map f xs) ≡ 0 = fresh_in (f x) (map f xs) (subst P (sym e) (elem_map f b xs mb)) in
      let q = no_more f xs in omega arith
]

-- one less, where two of them become one
pub one_less : (f : ℕ → ℕ) (a b : ℕ) (xs : List ℕ) → a ≢ b → f a ≡ f b → Elem a xs → Elem b xs → different (map f xs) + 1 ≤ different xs
one_less f a b [] n e ma mb = absurd ma
one_less f a b (x ∷ xs) n e (inl p) (inl q) = absurd (n (p ∙ sym q))
one_less f a b (x ∷ xs) n e (inl p) (inr mb) =
    let P : ℕ → Type 0 = λ y. Elem y xs in
    head_less f b x xs (ap f (sym p) ∙ e) mb (λ m. one_less f a b xs n e (subst P (sym p) m) mb)
one_less f a b (x ∷ xs) n e (inr ma) (inl q) =
    let P : ℕ → Type 0 = λ y. Elem y xs in
    head_less f a x xs (ap f (sym q) ∙ sym e) ma (λ m. one_less f a b xs n e ma (subst P (sym q) m))
one_less f a b (x ∷ xs) n e (inr ma) (inr mb) = let p = fresh_map f x xs in let q = one_less f a b xs n e ma mb in omega arith

-- the labels of a class after a join
pub map_map : (f g : ℕ → ℕ) (xs : List ℕ) → map (λ x. f (g x)) xs ≡ map f (map g xs)
map_map f g [] = refl
map_map f g (x ∷ xs) = ap (λ (ys : List ℕ). f (g x) ∷ ys) (map_map f g xs)

relabel : ℕ → ℕ → ℕ → ℕ
relabel m n l = if l == m then n else l

joined : (m n : ℕ) → relabel m n m ≡ relabel m n n
unfolding relabel
joined m n = elim (true_or (n == m)) [
  | inl e ↦ rw (e, eq-eqb m m refl) refl
  | inr e ↦ rw (e, eq-eqb m m refl) refl
]

class_no_more : {C : Type 0} (sc : Scope C) (a b : ℕ) (c : List ℕ) → different (map (join sc a b).label c) ≤ different (map sc.label c)
unfolding relabel
class_no_more sc a b c =
    let e : map (join sc a b).label c ≡ map (relabel (sc.label a) (sc.label b)) (map sc.label c) =
    map_map (relabel (sc.label a) (sc.label b)) sc.label c in
    rw e (no_more (relabel (sc.label a) (sc.label b)) (map sc.label c))

class_one_less : {C : Type 0} (sc : Scope C) (a b : ℕ) (c : List ℕ) → sc.label a ≢ sc.label b → Elem a c → Elem b c
    → different (map (join sc a b).label c) + 1 ≤ different (map sc.label c)
unfolding relabel
class_one_less sc a b c n ma mb =
    let e : map (join sc a b).label c ≡ map (relabel (sc.label a) (sc.label b)) (map sc.label c) =
    map_map (relabel (sc.label a) (sc.label b)) sc.label c in
    rw e (one_less (relabel (sc.label a) (sc.label b)) (sc.label a) (sc.label b) (map sc.label c) n (joined (sc.label a) (sc.label b))
    (elem_map sc.label a c ma) (elem_map sc.label b c mb))

-- sums
pub sums_le : {A : Type 0} (f g : A → ℕ) (xs : List A) → ((x : A) → Elem x xs → f x ≤ g x) → sum_by f xs ≤ sum_by g xs
sums_le f g [] h = omega arith
sums_le f g (x ∷ xs) h = let p = h x (inl refl) in let q = sums_le f g xs (λ y m. h y (inr m)) in
    omega (arith, sum_by-cons f x xs, sum_by-cons g x xs)

pub sums_lt : {A : Type 0} (f g : A → ℕ) (xs : List A) (x : A) → ((y : A) → Elem y xs → f y ≤ g y) → Elem x xs
    → f x + 1 ≤ g x → sum_by f xs + 1 ≤ sum_by g xs
sums_lt f g [] x h m l = absurd m
sums_lt f g (y ∷ ys) x h (inl e) l =
    let p : f y + 1 ≤ g y = rw e at l in let q = sums_le f g ys (λ z n. h z (inr n)) in omega (arith, sum_by-cons f y ys, sum_by-cons g y ys)
sums_lt f g (y ∷ ys) x h (inr m) l = let p = h y (inl refl) in let q = sums_lt f g ys x (λ z n. h z (inr n)) m l in
    omega (arith, sum_by-cons f y ys, sum_by-cons g y ys)

-- what a rule wants is listed, and so are its classes
abbrev pub WantsAreListed : {C V : Type 0} → Rules C V → Type 0
WantsAreListed {C} R = (i s : ℕ) (w : Want C) → R.at i s ≡ Some w → Elem s (R.demands i)

abbrev pub ClassesAreListed : {C V : Type 0} → Rules C V → Type 0
ClassesAreListed R = (i a b : ℕ) → R.joins i a b ≡ true → (c : List ℕ) × Elem c (R.classes i) × Elem a c × Elem b c

-- a join takes one from a rule that has it
pub join_less : {C V : Type 0} (R : Rules C V) (sc : Scope C) (a b i : ℕ) → ClassesAreListed R → R.joins i a b ≡ true
    → sc.label a ≢ sc.label b → unlearned R (join sc a b) i + 1 ≤ unlearned R sc i
join_less R sc a b i w j n =
    let g = w i a b j in
    let l : sum_by (λ c. different (map (join sc a b).label c)) (R.classes i) + 1 ≤ sum_by (λ c. different (map sc.label c)) (R.classes i) =
    sums_lt (λ c. different (map (join sc a b).label c)) (λ c. different (map sc.label c)) (R.classes i) (g.0)
    (λ c _. class_no_more sc a b c) (g.1) (class_one_less sc a b (g.0) n (g.2) (g.3)) in
    omega arith

-- a passed test takes one from a rule that has it
tested_no_more : {C V : Type 0} (R : Rules C V) (sc : Scope C) (s x : ℕ) (k : Want C) → untested (inside R sc s k) x ≤ untested sc x
tested_no_more R sc s x k = elim (true_or (x == s)) [ inl e ↦ rw e (omega arith) | inr e ↦ rw e (omega arith) ]

tested_one_less : {C V : Type 0} (R : Rules C V) (sc : Scope C) (s : ℕ) (k : Want C) → sc.passed s ≡ None
    → untested (inside R sc s k) s + 1 ≤ untested sc s
tested_one_less R sc s k e = rw (eq-eqb s s refl, e) (omega arith)

pub pass_less : {C V : Type 0} (R : Rules C V) (sc : Scope C) (s : ℕ) (k : Want C) (i : ℕ) → WantsAreListed R
    → sc.passed s ≡ None → R.at i s ≡ Some k → unlearned R (inside R sc s k) i + 1 ≤ unlearned R sc i
pass_less R sc s k i w e d =
    let l : sum_by (untested (inside R sc s k)) (R.demands i) + 1 ≤ sum_by (untested sc) (R.demands i) =
    sums_lt (untested (inside R sc s k)) (untested sc) (R.demands i) s (λ x _. tested_no_more R sc s x k) (w i s k d) (tested_one_less R sc s k e) in
    omega arith

-- what the weights of a tree's rules ask of a rule set
pub record IsWeighed {C V : Type 0} (R : Rules C V) : Type 0 where
  pub same : SameIs R.tests
  pub same_self : SameSelf R.tests
  pub listed : WantsAreListed R
  pub grouped : ClassesAreListed R

-- binding changes nothing
pub bound_same : {C V : Type 0} (R : Rules C V) (sc : Scope C) (xs left : List ℕ) → weight R (emit_all sc xs) left ≡ weight R sc left
bound_same R sc [] left = refl
bound_same R sc (x ∷ xs) left = bound_same R (emit sc x) xs left

pub fewer_weigh : {C V : Type 0} (R : Rules C V) (sc : Scope C) (p : ℕ → Bool) (left : List ℕ) → weight R sc (filter p left) ≤ weight R sc left
fewer_weigh R sc p left = let e = sum_by-filter_both p (λ i. not (p i)) (λ i. refl) (λ i. unlearned R sc i + 1) left in omega arith

pub split_weighs : {C V : Type 0} (R : Rules C V) (sc : Scope C) (t : Test) (left : List ℕ)
    → weight R sc (counted R t left) + weight R sc (others R t left) ≡ weight R sc left
split_weighs R sc t left = sum_by-filter_both (counts R t left) (λ i. not (counts R t left i)) (λ i. refl) (λ i. unlearned R sc i + 1) left

-- where each rule has what a test takes from it, they weigh less
all_less : {C V : Type 0} (R : Rules C V) (sc to : Scope C) (left : List ℕ) → ((j : ℕ) → Elem j left → unlearned R to j + 1 ≤ unlearned R sc j)
    → (i : ℕ) → Elem i left
    → weight R to left + 1 ≤ weight R sc left
all_less R sc to left less i m =
    sums_lt (λ j. unlearned R to j + 1) (λ j. unlearned R sc j + 1) left i (λ j n. let q = less j n in omega arith) m
    (let q = less i m in omega arith)

-- the rules in an arm weigh less there
pub arm_weighs : {C V : Type 0} (R : Rules C V) (sc : Scope C) (s : ℕ) (c : C) (left : List ℕ) → SameIs R.tests
    → SameSelf R.tests → WantsAreListed R → sc.passed s ≡ None → (i : ℕ) → Elem i left → R.at i s ≡ Some (has c)
    → weight R (inside R sc s (has c)) (wanting R s c left) + 1 ≤ weight R sc left
arm_weighs R sc s c left is self w e i m d =
    let l = all_less R sc (inside R sc s (has c)) (wanting R s c left) (λ j n. pass_less R sc s (has c) j w e ((wanting_is R left s c is j n).1)) i
    (to_filter _ left i m (is_want_same R.tests (has c) _ self d)) in
    let r = fewer_weigh R sc (λ j. is_want R.tests (has c) (R.at j s)) left in
    omega arith

pub join_weighs : {C V : Type 0} (R : Rules C V) (sc : Scope C) (a b : ℕ) (left : List ℕ) → ClassesAreListed R
    → sc.label a ≢ sc.label b → ((i : ℕ) → Elem i left → R.joins i a b ≡ true)
    → 0 < length left → weight R (join sc a b) left + 1 ≤ weight R sc left
join_weighs R sc a b left w n all l =
    let one = some_elem left l in
    all_less R sc (join sc a b) left (λ j m. join_less R sc a b j w (all j m) n) (one.0) (one.1)

-- the rules in a loop weigh less there
pub loop_weighs : {C V : Type 0} (R : Rules C V) (sc : Scope C) (s : ℕ) (left : List ℕ) → WantsAreListed R
    → sc.passed s ≡ None → ((i : ℕ) → Elem i left → R.at i s ≡ Some one_value)
    → 0 < length left → weight R (inside R sc s one_value) left + 1 ≤ weight R sc left
loop_weighs R sc s left w e all l =
    let one = some_elem left l in
    all_less R sc (inside R sc s one_value) left (λ j m. pass_less R sc s one_value j w e (all j m)) (one.0) (one.1)

-- one return is reached
pub first_weighs : {C V : Type 0} (R : Rules C V) (sc : Scope C) (left : List ℕ) (i : ℕ) → Elem i left → 1 ≤ weight R sc left
first_weighs R sc [] i m = absurd m
first_weighs R sc (x ∷ xs) i m = omega (arith, sum_by-cons (λ i. unlearned R sc i + 1) x xs)

after_small : (o : Outcome) (n : ℕ) → after o n ≤ n
after_small (chooses i b e) n = omega arith
after_small ends n = omega arith
after_small (waits s) n = omega arith
after_small stops n = omega arith

if_small : (b : Bound) (n : ℕ) → if_bound b n ≤ n
if_small goes n = omega arith
if_small (opens s) n = omega arith
if_small breaks n = omega arith

nothing : (left : List ℕ) → 0 < length left → left ≡ [] → ⊥
nothing [] l e = omega arith
nothing (x ∷ xs) l e = cc

equal_bounded : (t : Bool) (o : Outcome) (m n c d k x y : ℕ) → m ≤ c → c + 1 ≤ d → n ≤ k → d + k ≡ x → x ≡ y
    → 1 + ((if t then m else 0) + after (if t then o else ends) n) ≤ y
equal_bounded true o m n c d k x y p l q e f = let r = after_small o n in omega arith
equal_bounded false o m n c d k x y p l q e f = omega arith

-- the rules that want no such test weigh no more
not_bounded : {C V : Type 0} (arms : Arms C) (R : Rules C V) (v : Answers V) (left : List ℕ) (sc : Scope C) (s : ℕ) (c : C) → (i : ℕ) → Elem i left
    → (0 < length (not_wanting R s c left) → reached_arms R v s arms + 1 ≤ weight R sc (not_wanting R s c left))
    → BuildsArms R (not_wanting R s c left) sc s arms → reached_arms R v s arms + 1 ≤ weight R sc left
not_bounded no_arm R v left sc s c i m h b = first_weighs R sc left i m
not_bounded (arm d bindings body later) R v left sc s c i m h b =
    let p = h (has_length (not_wanting R s c left) (b.0.0.0) (b.0.0.1)) in
    let q = fewer_weigh R sc (λ j. not (is_want R.tests (has c) (R.at j s))) left in
    omega arith

mutual
  -- a walk reaches no more steps than the rules left weigh
  pub bounded : {C V : Type 0} (t : Steps C) (R : Rules C V) (v : Answers V) (left : List ℕ) (sc : Scope C)
      → IsWeighed R → Builds R left sc t → reached R v t ≤ weight R sc left
  bounded done R v left sc w b = omega arith
  bounded (give binds i next) R v left sc w b = first_weighs R sc left i (b.1.0.0)
  bounded (loop binds x body next) R v left sc w (s, made, best, rest) = let one = some_counted R left sc (on_loop s) best in
      first_weighs R sc left (one.0) (one.1)
  bounded («match» binds s arms next) R v left sc w (best, (aft, bs, inner, rest)) =
      let same : weight R aft left ≡ weight R sc left = rw bs.ending (bound_same R sc bs.all left) in
      let split = split_weighs R aft (on_match s) left in
      let clear : aft.passed s ≡ None = rw bs.ending (passed_bound sc bs.all s ∙ best.ready.1) in
      let p : reached_arms R v s arms + 1 ≤ weight R aft (counted R (on_match s) left) =
      bounded_arms arms R v (counted R (on_match s) left) aft s w clear best.useful inner in
      let q : reached R v next ≤ weight R aft (others R (on_match s) left) = bounded next R v (others R (on_match s) left) aft w rest in
      let r = after_small (walk_arms R v s arms) (reached R v next) in
      let t = if_small (bind v binds) (reached_arms R v s arms + after (walk_arms R v s arms) (reached R v next)) in
      omega arith
  bounded (equal binds a b body next) R v left sc w (best, (aft, bs, inner, rest)) =
      let same : weight R aft left ≡ weight R sc left = rw bs.ending (bound_same R sc bs.all left) in
      let split = split_weighs R aft (on_equal a b) left in
      let apart : aft.label a ≢ aft.label b = λ e. best.ready.5 (sym (label_bound sc bs.all a) ∙ rw bs.ending at e ∙ label_bound sc bs.all b) in
      let p : reached R v body ≤ weight R (join aft a b) (counted R (on_equal a b) left) = bounded body R v
      (counted R (on_equal a b) left) (join aft a b) w inner in
      let l : weight R (join aft a b) (counted R (on_equal a b) left) + 1 ≤ weight R aft (counted R (on_equal a b) left) =
      join_weighs R aft a b (counted R (on_equal a b) left) w.grouped apart (λ i m. (counted_has R (on_equal a b) left i m).1) best.useful in
      let q : reached R v next ≤ weight R aft (others R (on_equal a b) left) = bounded next R v (others R (on_equal a b) left) aft w rest in
      let e = equal_bounded (alike_got R (v a) (v b)) (walk R v body) (reached R v body) (reached R v next) _ _ _ _ _ p l q split same in
      let t = if_small (bind v binds) ((if alike_got R (v a) (v b) then reached R v body else 0) + after
      (if alike_got R (v a) (v b) then walk R v body else ends) (reached R v next)) in
      omega arith

  pub bounded_arms : {C V : Type 0} (arms : Arms C) (R : Rules C V) (v : Answers V) (left : List ℕ) (sc : Scope C) (s : ℕ)
      → IsWeighed R → sc.passed s ≡ None → 0 < length left
      → BuildsArms R left sc s arms → reached_arms R v s arms + 1 ≤ weight R sc left
  bounded_arms no_arm R v left sc s w e l b = absurd (nothing left l b)
  bounded_arms (arm c bindings body later) R v left sc s w e l b = elim (true_or (passes_got R c (v s))) [
    | inl y ↦ rw y (
        let p : reached R v body ≤ weight R (inside R sc s (has c)) (wanting R s c left) = bounded body R v
        (wanting R s c left) (inside R sc s (has c)) w (b.2) in
        let q : weight R (inside R sc s (has c)) (wanting R s c left) + 1 ≤ weight R sc left =
        arm_weighs R sc s c left w.same w.same_self w.listed e (b.0.0.0) (b.0.0.1) (b.0.0.2) in
        omega arith)
    | inr n ↦ rw n (not_bounded later R v left sc s c (b.0.0.0) (b.0.0.1)
        (λ h. bounded_arms later R v (not_wanting R s c left) sc s w e h (b.3)) (b.3))
  ]
