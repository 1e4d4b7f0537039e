-- Members of lists, tests, and which rules a test counts.
use Rattle.std.proofs.Common.{◌≡◌, Contains, ◌≢◌, ◌⊎◌, inl, inr, ℕ, ℤ, zero, suc, ◌<◌, ◌≤ℤ◌, ◌==◌, ◌&&◌, ◌||◌, not, int_le, List, [], ◌∷◌, Bool, true, false, Option, Some, None, length, refl, sym, ◌∙◌, ap, subst, arith, cond, eqb-true, eq-eqb}
use Rattle.std.proofs.lemmas.Bool.{eqb-false}
use Rattle.std.proofs.lemmas.Int.{ints}
use Rattle.std.specs.List.{filter, list_all}
use Rattle.isle_trees.specs.Got.{Got, unknown, fails, gives}
use Rattle.isle_trees.specs.Answers.{HasValue, has_value}
use Rattle.isle_trees.specs.Premises.{IsWellMade}
use Rattle.isle_trees.specs.Rules.{Tests, Want, has, one_value, Source, Rules, Elem, passes_got, alike_got, Meets}
use Rattle.isle_trees.specs.Scopes.{same_want, is_want, is_source, Test, is_test, is_one, has_test, allows, counts, counted, others}

pub true_or : (b : Bool) → (b ≡ true) ⊎ (b ≡ false)
true_or true = inl refl
true_or false = inr refl

pub none_or : {A : Type 0} (o : Option A) → (o ≡ None) ⊎ ((x : A) × (o ≡ Some x))
none_or None = inl refl
none_or (Some x) = inr (x, refl)

pub eq_or : (a b : ℕ) → (a ≡ b) ⊎ (a ≢ b)
eq_or a b = elim (true_or (a == b)) [ inl e ↦ inl (eqb-true a b e) | inr e ↦ inr (eqb-false a b e) ]

pub and_both : (a b : Bool) → (a && b) ≡ true → (a ≡ true) × (b ≡ true)
and_both true true e = (refl, refl)
and_both true false e = cc
and_both false b e = cc

pub both_and : (a b : Bool) → a ≡ true → b ≡ true → (a && b) ≡ true
both_and true true e f = refl
both_and true false e f = cc
both_and false b e f = cc

pub and_fails : (a b : Bool) → (a && b) ≡ false → (a ≡ false) ⊎ (b ≡ false)
and_fails true true e = cc
and_fails true false e = inr refl
and_fails false b e = inl refl

pub or_holds : (a b : Bool) → (a || b) ≡ true → (a ≡ true) ⊎ (b ≡ true)
or_holds true b e = inl refl
or_holds false b e = inr e

pub or_left : (a b : Bool) → a ≡ true → (a || b) ≡ true
or_left true b e = refl
or_left false b e = cc

pub or_right : (a b : Bool) → b ≡ true → (a || b) ≡ true
or_right true b e = refl
or_right false b e = e

pub or_fails : (a b : Bool) → (a || b) ≡ false → (a ≡ false) × (b ≡ false)
or_fails true b e = cc
or_fails false b e = (refl, e)

pub not_true : (b : Bool) → not b ≡ true → b ≡ false
not_true true e = cc
not_true false e = refl

pub clash : {A : Type 0} (b : Bool) → b ≡ true → b ≡ false → A
clash b e f = absurd (let g : true ≡ false = sym e ∙ f in cc)

-- members of a filter
elem_of_cond : {A : Type 0} (b : Bool) (x y : A) (ys : List A) → Elem x (cond b (y ∷ ys) ys) → ((x ≡ y) × (b ≡ true)) ⊎ Elem x ys
elem_of_cond true x y ys (inl e) = inl (e, refl)
elem_of_cond true x y ys (inr m) = inr m
elem_of_cond false x y ys m = inr m

pub from_filter : {A : Type 0} (p : A → Bool) (xs : List A) (x : A) → Elem x (filter p xs) → Elem x xs × (p x ≡ true)
from_filter p [] x m = absurd m
from_filter p (y ∷ ys) x m = elim (elem_of_cond (p y) x y (filter p ys) m) [
  | inl h ↦ (inl (h.0), ap p (h.0) ∙ h.1)
  | inr h ↦ let rest : Elem x ys × (p x ≡ true) = from_filter p ys x h in (inr (rest.0), rest.1)
]

to_cond : {A : Type 0} (b : Bool) (x y : A) (ys : List A) → Elem x ys → Elem x (cond b (y ∷ ys) ys)
to_cond true x y ys m = inr m
to_cond false x y ys m = m

pub to_filter : {A : Type 0} (p : A → Bool) (xs : List A) (x : A) → Elem x xs → p x ≡ true → Elem x (filter p xs)
to_filter p [] x m e = absurd m
to_filter p (y ∷ ys) x (inl h) e = rw (sym (ap p h) ∙ e) (inl h)
to_filter p (y ∷ ys) x (inr h) e = to_cond (p y) x y (filter p ys) (to_filter p ys x h e)

pub has_length : (xs : List ℕ) (x : ℕ) → Elem x xs → 0 < length xs
has_length [] x m = absurd m
has_length (y ∷ ys) x m = omega arith

pub some_elem : (xs : List ℕ) → 0 < length xs → (i : ℕ) × Elem i xs
some_elem [] l = absurd (omega arith)
some_elem (x ∷ xs) l = (x, inl refl)

pub all_gives : (p : ℕ → Bool) (xs : List ℕ) (x : ℕ) → list_all p xs ≡ true → Elem x xs → p x ≡ true
all_gives p [] x e m = absurd m
all_gives p (y ∷ ys) x e (inl h) = ap p h ∙ (and_both (p y) (list_all p ys) e).0
all_gives p (y ∷ ys) x e (inr h) = all_gives p ys x ((and_both (p y) (list_all p ys) e).1) h

pub all_from : (p : ℕ → Bool) (xs : List ℕ) → ((x : ℕ) → Elem x xs → p x ≡ true) → list_all p xs ≡ true
all_from p [] h = refl
all_from p (y ∷ ys) h = both_and (p y) (list_all p ys) (h y (inl refl)) (all_from p ys (λ x m. h x (inr m)))

one_fails : (p : ℕ → Bool) (xs : List ℕ) → list_all p xs ≡ false → (x : ℕ) × Elem x xs × (p x ≡ false)
one_fails p [] e = cc
one_fails p (y ∷ ys) e = elim (and_fails (p y) (list_all p ys) e) [
  | inl h ↦ (y, inl refl, h)
  | inr h ↦ let rest : (x : ℕ) × Elem x ys × (p x ≡ false) = one_fails p ys h in (rest.0, inr (rest.1), rest.2)
]

-- what is known
pub value_or : {V : Type 0} (g : Got V) → (g ≡ unknown) ⊎ ((g ≡ fails) ⊎ HasValue g)
value_or unknown = inl refl
value_or fails = inr (inl refl)
value_or (gives x) = inr (inr (x, refl))

pub gives_true : {V : Type 0} (g : Got V) → HasValue g → has_value g ≡ true
gives_true g h = rw (h.1) refl

pub true_gives : {V : Type 0} (g : Got V) → has_value g ≡ true → HasValue g
true_gives unknown e = cc
true_gives fails e = cc
true_gives (gives x) e = (x, refl)

pub given_known : {V : Type 0} (g : Got V) → HasValue g → g ≢ unknown
given_known g h e = let f : gives (h.0) ≡ unknown = sym (h.1) ∙ e in cc

pub given_holds : {V : Type 0} (g : Got V) → HasValue g → g ≢ fails
given_holds g h e = let f : gives (h.0) ≡ fails = sym (h.1) ∙ e in cc

pub failed_known : {V : Type 0} (g : Got V) → g ≡ fails → g ≢ unknown
failed_known g h e = let f : fails ≡ unknown = sym h ∙ e in cc

pub passed_value : {C V : Type 0} (R : Rules C V) (c : C) (g : Got V) → passes_got R c g ≡ true → HasValue g
passed_value R c unknown e = cc
passed_value R c fails e = cc
passed_value R c (gives x) e = (x, refl)

pub met_value : {C V : Type 0} (R : Rules C V) (w : Want C) (g : Got V) → Meets R w g → HasValue g
met_value R (has c) g m = passed_value R c g m
met_value R one_value g m = m

-- two tests that pass of one site are one
pub same_test : {C V : Type 0} (R : Rules C V) (g : Got V) (i j s : ℕ) (c d : C) → IsWellMade R → R.at i s ≡ Some (has c) → R.at j s ≡ Some (has d)
    → passes_got R c g ≡ true → passes_got R d g ≡ true → c ≡ d
same_test R unknown i j s c d w e f p q = cc
same_test R fails i j s c d w e f p q = cc
same_test R (gives x) i j s c d w e f p q = w.one_test i j s c d x e f p q

pub alike_sound : {C V : Type 0} (R : Rules C V) (g h : Got V) → IsWellMade R → alike_got R g h ≡ true → g ≡ h
alike_sound R (gives x) (gives y) w e = ap gives (w.exact.alike x y e)
alike_sound R (gives x) unknown w e = cc
alike_sound R (gives x) fails w e = cc
alike_sound R unknown h w e = cc
alike_sound R fails h w e = cc

pub alike_full : {C V : Type 0} (R : Rules C V) (g h : Got V) → IsWellMade R → HasValue g → g ≡ h → alike_got R g h ≡ true
alike_full R g h w given e = rw (sym e) (rw (given.1) (w.exact.alike_self (given.0)))

-- wants, where `same` tells tests apart
abbrev pub SameIs : {C V : Type 0} → Tests C V → Type 0
SameIs {C} T = (c d : C) → T.same c d ≡ true → c ≡ d

abbrev pub SameSelf : {C V : Type 0} → Tests C V → Type 0
SameSelf {C} T = (c : C) → T.same c c ≡ true

pub want_is : {C V : Type 0} (T : Tests C V) (w u : Want C) → SameIs T → same_want T w u ≡ true → u ≡ w
want_is T (has c) (has d) k e = ap has (sym (k c d e))
want_is T (has c) one_value k e = cc
want_is T one_value (has d) k e = cc
want_is T one_value one_value k e = refl

pub want_same : {C V : Type 0} (T : Tests C V) (w : Want C) → SameSelf T → same_want T w w ≡ true
want_same T (has c) k = k c
want_same T one_value k = refl

pub is_want_is : {C V : Type 0} (T : Tests C V) (w : Want C) (o : Option (Want C)) → SameIs T → is_want T w o ≡ true → o ≡ Some w
is_want_is T w None k e = cc
is_want_is T w (Some u) k e = ap Some (want_is T w u k e)

pub is_want_same : {C V : Type 0} (T : Tests C V) (w : Want C) (o : Option (Want C)) → SameSelf T → o ≡ Some w → is_want T w o ≡ true
is_want_same T w o k e = rw e (want_same T w k)

pub source_is : {C V : Type 0} (T : Tests C V) (s : ℕ) (w : Want C) (o : Option (Source C)) → SameIs T → is_source T s w o ≡ true
    → o ≡ Some (record { site = s; want = w })
source_is T s w None k e = cc
source_is T s w (Some m) k e =
    let both = and_both (m.site == s) _ e in
    let p : m.site ≡ s = eqb-true _ _ (both.0) in
    let q : m.want ≡ w = want_is T w m.want k (both.1) in
    ap Some (λ i. record { site = p i; want = q i })

pub source_same : {C V : Type 0} (T : Tests C V) (s : ℕ) (w : Want C) (o : Option (Source C)) → SameSelf T → o ≡ Some (record { site = s; want = w })
    → is_source T s w o ≡ true
source_same T s w o k e = rw e (both_and (s == s) _ (eq-eqb s s refl) (want_same T w k))

-- two sites are joined in both directions
abbrev pub JoinsBothWays : {C V : Type 0} → Rules C V → Type 0
JoinsBothWays R = (i a b : ℕ) → R.joins i a b ≡ true → R.joins i b a ≡ true

pub is_want_sound : {C V : Type 0} (R : Rules C V) (w : Want C) (o : Option (Want C)) → IsWellMade R → is_want R.tests w o ≡ true → o ≡ Some w
is_want_sound R w o k e = is_want_is R.tests w o k.exact.same e

pub is_want_full : {C V : Type 0} (R : Rules C V) (w : Want C) (o : Option (Want C)) → IsWellMade R → o ≡ Some w → is_want R.tests w o ≡ true
is_want_full R w o k e = is_want_same R.tests w o k.exact.same_self e

-- a field is made by its test
pub source_made : {C V : Type 0} (R : Rules C V) (s : ℕ) (w : Want C) (o : Option (Source C)) → IsWellMade R → is_source R.tests s w o ≡ true
    → o ≡ Some (record { site = s; want = w })
source_made R s w o k e = source_is R.tests s w o k.exact.same e

pub by_made : {C V : Type 0} (R : Rules C V) (s : ℕ) (w : Want C) (o : Option (Source C)) → IsWellMade R → o ≡ Some (record { site = s; want = w })
    → is_source R.tests s w o ≡ true
by_made R s w o k e = source_same R.tests s w o k.exact.same_self e

pub source_part : {C V : Type 0} (R : Rules C V) (s : ℕ) (m : Source C) → IsWellMade R → R.made s ≡ Some m → Elem m.site (R.parts s)
source_part R s m w e = subst (λ (l : List ℕ). Elem m.site l) (sym (w.source s m e)) (inl refl)

pub test_of : {C : Type 0} (o : Option (Want C)) → is_test o ≡ true → (c : C) × (o ≡ Some (has c))
test_of None e = cc
test_of (Some (has c)) e = (c, refl)
test_of (Some one_value) e = cc

pub one_of : {C : Type 0} (o : Option (Want C)) → is_one o ≡ true → o ≡ Some one_value
one_of None e = cc
one_of (Some (has c)) e = cc
one_of (Some one_value) e = refl

-- rules that a test counts
pub counted_has : {C V : Type 0} (R : Rules C V) (t : Test) (left : List ℕ) (i : ℕ) → Elem i (counted R t left)
    → Elem i left × (has_test R i t ≡ true)
counted_has R t left i m =
    let f = from_filter (counts R t left) left i m in
    (f.0, (and_both (has_test R i t) _ (f.1)).0)

pub counted_left : {C V : Type 0} (R : Rules C V) (t : Test) (left : List ℕ) (i : ℕ) → Elem i (counted R t left) → Elem i left
counted_left R t left i m = (counted_has R t left i m).0

pub others_left : {C V : Type 0} (R : Rules C V) (t : Test) (left : List ℕ) (i : ℕ) → Elem i (others R t left) → Elem i left
others_left R t left i m = (from_filter (λ j. not (counts R t left j)) left i m).0

pub counted_or : {C V : Type 0} (R : Rules C V) (t : Test) (left : List ℕ) (i : ℕ) → Elem i left
    → Elem i (counted R t left) ⊎ Elem i (others R t left)
counted_or R t left i m = elim (true_or (counts R t left i)) [
  | inl e ↦ inl (to_filter (counts R t left) left i m e)
  | inr e ↦ inr (to_filter (λ j. not (counts R t left j)) left i m (ap not e))
]

-- a rule above all that are left is counted
pub top_counts : {C V : Type 0} (R : Rules C V) (t : Test) (left : List ℕ) (i : ℕ) → Elem i left → has_test R i t ≡ true
    → ((j : ℕ) → Elem j left → R.prio j ≤ℤ R.prio i) → Elem i (counted R t left)
top_counts R t left i m h top =
    to_filter (counts R t left) left i m
    (both_and (has_test R i t) _ h (all_from _ left (λ j n. or_right (has_test R j t) _ (let l = top j n in grind (arith, ints)))))

below : (b : Bool) (m n : ℤ) → b ≡ false → (b || int_le m n) ≡ true → m ≤ℤ n
below true m n e h = cc
below false m n e h = grind (arith, ints)

-- each rule that is counted is above each that isn't
pub counted_above : {C V : Type 0} (R : Rules C V) (t : Test) (left : List ℕ) (i j : ℕ) → Elem i (counted R t left) → Elem j (others R t left)
    → R.prio j ≤ℤ R.prio i
counted_above R t left i j m n =
    let f = from_filter (counts R t left) left i m in
    let g = from_filter (λ x. not (counts R t left x)) left j n in
    let all : list_all (allows R t i) left ≡ true = (and_both (has_test R i t) _ (f.1)).1 in
    let beats : (x : ℕ) → Elem x left → has_test R x t ≡ false → R.prio x ≤ℤ R.prio i =
    λ x mx hx. below (has_test R x t) (R.prio x) (R.prio i) hx (all_gives (allows R t i) left x all mx) in
    elim (and_fails (has_test R j t) _ (not_true _ (g.1))) [
      | inl lacks ↦ beats j (g.0) lacks
      | inr low ↦
          let other = one_fails (allows R t j) left low in
          let parts = or_fails (has_test R (other.0) t) (int_le (R.prio (other.0)) (R.prio j)) (other.2) in
          let up : R.prio (other.0) ≤ℤ R.prio i = beats (other.0) (other.1) (parts.0) in
          let down = parts.1 in
          grind (arith, ints)
    ]

-- std's word for a member
pub elem_contains : {A : Type 0} (x : A) (xs : List A) → Elem x xs → Contains xs x
elem_contains x [] m = absurd m
elem_contains x (y ∷ ys) (inl e) = (0, omega arith, sym e)
elem_contains x (y ∷ ys) (inr m) = let (k, l, e) = elem_contains x ys m in (suc k, omega arith, e)

pub contains_elem : {A : Type 0} (x : A) (xs : List A) → Contains xs x → Elem x xs
contains_elem x [] (k, l, e) = absurd (omega arith)
contains_elem x (y ∷ ys) (zero, l, e) = inl (sym e)
contains_elem x (y ∷ ys) (suc k, l, e) = inr (contains_elem x ys (k, omega arith, e))
