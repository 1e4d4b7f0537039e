-- How the best test is found: rules in order, the tests that the top rules offer, and what is marked as available.
use Rattle.std.specs.Prelude.{◌≡◌, ◌⊎◌, ℕ, ℤ, pos, ◌<◌, ◌≤◌, ◌<ℤ◌, ◌≤ℤ◌, ◌==◌, ◌&&◌, ◌||◌, ◌++◌, not, nat_lt, int_le, int_lt, Bool, true, false}
use Rattle.std.specs.Prelude.{List, [], ◌∷◌, Option, Some, None, is_some, if◌then◌else◌, length, take, drop, slice_index_or}
use Rattle.std.specs.List.{list_all}
use Rattle.std.specs.Ordering.{int_eq}
use Rattle.isle_trees.specs.Rules.{Tests, Want, has, one_value, Source, Rules, rights, Elem, Asked, below}
use Rattle.isle_trees.specs.Scopes.{Scope, emit, is_want, is_source, IsAvailable, Test, on_match, on_equal, on_loop, has_test}
use Rattle.isle_trees.specs.Builds.{IsLeast, wanting, not_wanting}
use Rattle.isle_trees.specs.Bag.{IsAscending}
use Rattle.isle_trees.specs.Ranking.{AllBelow, AreAllWithin}

-- no number stands twice
abbrev pub AreDistinct : List ℕ → Type 0
AreDistinct [] = Unit {0}
AreDistinct (x ∷ xs) = (Elem x xs → ⊥) × AreDistinct xs

-- What the tree of rules is built from, whatever terms they call: parts stand before what is made of them, a field's source is a part
-- of it, wants and classes are listed, all lies below a number of sites, and each multi call that is used has a site of its value.
pub record IsBuildable {C V : Type 0} (R : Rules C V) (n : ℕ) (rules : List ℕ) : Type 0 where
  pub same : (c d : C) → R.tests.same c d ≡ true → c ≡ d
  pub same_self : (c : C) → R.tests.same c c ≡ true
  pub least_self : (c : C) → R.tests.at_most c c ≡ true
  pub least_chain : (c d e : C) → R.tests.at_most c d ≡ true → R.tests.at_most d e ≡ true → R.tests.at_most c e ≡ true
  pub least_both : (c d : C) → R.tests.at_most c d ≡ true → R.tests.at_most d c ≡ true → c ≡ d
  pub least_either : (c d : C) → R.tests.at_most c d ≡ false → R.tests.at_most d c ≡ true
  pub lower : (s p : ℕ) → Elem p (R.parts s) → p < s
  pub source : (s : ℕ) (m : Source C) → R.made s ≡ Some m → Elem m.site (R.parts s)
  pub both : (i a b : ℕ) → R.joins i a b ≡ true → R.joins i b a ≡ true
  pub listed : (i s : ℕ) (w : Want C) → R.at i s ≡ Some w → Elem s (R.demands i)
  pub grouped : (i a b : ℕ) → R.joins i a b ≡ true → (c : List ℕ) × Elem c (R.classes i) × Elem a c × Elem b c
  pub within : AreAllWithin R n
  pub rights : (i x : ℕ) → Elem i rules → Elem x (rights R i) → x < n
  pub values : (i s : ℕ) → R.at i s ≡ Some one_value → (x : ℕ) × (R.value s ≡ Some x)

-- the first rule has the greater priority, or the same and the lesser number
abbrev pub Precedes : {C V : Type 0} → Rules C V → ℕ → ℕ → Type 0
Precedes R i j = (R.prio j <ℤ R.prio i) ⊎ ((R.prio j ≡ R.prio i) × (i < j))

abbrev pub precedes : {C V : Type 0} → Rules C V → ℕ → ℕ → Bool
precedes R i j = int_lt (R.prio j) (R.prio i) || (int_eq (R.prio i) (R.prio j) && nat_lt i j)

-- the rules by descending priority, then by order
abbrev pub IsInOrder : {C V : Type 0} → Rules C V → List ℕ → Type 0
IsInOrder R [] = Unit {0}
IsInOrder R (i ∷ is) = ((j : ℕ) → Elem j is → Precedes R i j) × IsInOrder R is

-- the priority of the first rule that lacks the test
abbrev pub floor : {C V : Type 0} → Rules C V → Test → List ℕ → Option ℤ
floor R t [] = None
floor R t (i ∷ is) = if has_test R i t then floor R t is else Some (R.prio i)

abbrev pub reaches : {C V : Type 0} → Rules C V → Option ℤ → ℕ → Bool
reaches R None i = true
reaches R (Some p) i = int_le p (R.prio i)

-- the rules that a test counts, once the floor is known
abbrev pub picks : {C V : Type 0} → Rules C V → Test → Option ℤ → ℕ → Bool
picks R t f i = reaches R f i && has_test R i t

-- the greatest priority of rules in order
abbrev pub top : {C V : Type 0} → Rules C V → List ℕ → ℤ
top R [] = pos 0
top R (i ∷ is) = R.prio i

abbrev pub is_marked : List Bool → ℕ → Bool
is_marked marks s = slice_index_or marks s false

abbrev pub all_marked : List Bool → List ℕ → Bool
all_marked marks sites = list_all (is_marked marks) sites

-- the test that makes a site has passed
abbrev pub is_made : {C V : Type 0} → Tests C V → Scope C → Option (Source C) → Bool
is_made T sc None = true
is_made T sc (Some m) = is_want T m.want (sc.passed m.site)

abbrev pub can_bind : {C V : Type 0} → Rules C V → Scope C → List Bool → ℕ → Bool
can_bind R sc marks s = is_made R.tests sc (R.made s) && all_marked marks (R.parts s)

-- the site is marked, and not tested
abbrev pub is_open : {C : Type 0} → Scope C → List Bool → ℕ → Bool
is_open sc marks s = is_marked marks s && not (is_some (sc.passed s))

abbrev pub is_ready : {C : Type 0} → Scope C → List Bool → Test → Bool
is_ready sc marks (on_match s) = is_open sc marks s
is_ready sc marks (on_equal a b) = nat_lt a b && (is_open sc marks a && (is_open sc marks b && not (sc.label a == sc.label b)))
is_ready sc marks (on_loop s) = is_open sc marks s

-- all that the top rules have and that can be made, and nothing that can't
pub record AreOffers {C V : Type 0} (R : Rules C V) (left : List ℕ) (sc : Scope C) (marks : List Bool) (offers : List Test) : Type 0 where
  pub ready : (t : Test) → Elem t offers → is_ready sc marks t ≡ true
  pub full : (i : ℕ) (t : Test) → Elem i left → top R left ≤ℤ R.prio i → has_test R i t ≡ true → is_ready sc marks t ≡ true → Elem t offers

-- the same of one rule
pub record AreOffersOf {C V : Type 0} (R : Rules C V) (i : ℕ) (sc : Scope C) (marks : List Bool) (offers : List Test) : Type 0 where
  pub ready : (t : Test) → Elem t offers → is_ready sc marks t ≡ true
  pub full : (t : Test) → has_test R i t ≡ true → is_ready sc marks t ≡ true → Elem t offers

-- what is marked is available
abbrev pub AreSound : {C V : Type 0} → Rules C V → Scope C → List Bool → Type 0
AreSound R sc marks = (s : ℕ) → is_marked marks s ≡ true → IsAvailable R sc s

-- and of what the rules left ask, all that is available is marked
pub record AreMarked {C V : Type 0} (R : Rules C V) (left : List ℕ) (sc : Scope C) (marks : List Bool) : Type 0 where
  pub sound : AreSound R sc marks
  pub full : (i s : ℕ) → Elem i left → Asked R i s → IsAvailable R sc s → is_marked marks s ≡ true

-- each site stands after its parts
abbrev pub ArePartsFirst : {C V : Type 0} → Rules C V → List ℕ → Type 0
ArePartsFirst R sites = (j p : ℕ) → j < length sites → Elem p (R.parts (slice_index_or sites j 0)) → Elem p (take j sites)

-- the site of a test, or the first of two
abbrev pub first_of : Test → ℕ
first_of (on_match s) = s
first_of (on_equal a b) = a
first_of (on_loop s) = s

-- each rule that has a test is listed at its site
abbrev pub HasUsers : {C V : Type 0} → Rules C V → (ℕ → List ℕ) → Type 0
HasUsers R users = (i : ℕ) (t : Test) → has_test R i t ≡ true → Elem i (users (first_of t))

-- what the tests of a rule ask, parts first
pub record IsAskedBy {C V : Type 0} (R : Rules C V) (n i : ℕ) (list : List ℕ) : Type 0 where
  pub below : AllBelow list n
  pub first : ArePartsFirst R list
  pub full : (s : ℕ) → Asked R i s → Elem s list

-- of the sites below n, those that tests of one site make
pub record AreMadeBelow {C V : Type 0} (R : Rules C V) (n s : ℕ) (list : List ℕ) : Type 0 where
  pub below : AllBelow list n
  pub all : (x : ℕ) (m : Source C) → x < n → R.made x ≡ Some m → m.site ≡ s → Elem x list
  pub ascend : IsAscending list

-- what the tests of each rule ask, parts first; what the tests of each site make; the rules that test each site
pub record IsIndex {C V : Type 0} (R : Rules C V) (n : ℕ) (asked made users : ℕ → List ℕ) : Type 0 where
  pub within : (i s : ℕ) → Elem s (asked i) → s < n
  pub full : (i s : ℕ) → Asked R i s → Elem s (asked i)
  pub first : (i : ℕ) → ArePartsFirst R (asked i)
  pub made_within : (s x : ℕ) → Elem x (made s) → x < n
  pub made_from : (s x : ℕ) (m : Source C) → R.made x ≡ Some m → m.site ≡ s → Elem x (made s)
  pub made_ascend : (s : ℕ) → IsAscending (made s)
  pub used : HasUsers R users

-- what passed and which sites are joined is the same
pub record IsSamePath {C : Type 0} (a b : Scope C) : Type 0 where
  pub passed : (s : ℕ) → b.passed s ≡ a.passed s
  pub label : (s : ℕ) → b.label s ≡ a.label s

-- a site is bound where meeting this want makes it
abbrev pub with_made : {C V : Type 0} → Rules C V → ℕ → Want C → Scope C → ℕ → Scope C
with_made R s w sc x = if is_source R.tests s w (R.made x) then emit sc x else sc

-- nothing is marked
pub record IsClean (n : ℕ) (marks : List Bool) : Type 0 where
  pub size : length marks ≡ n
  pub clean : (x : ℕ) → is_marked marks x ≡ false

-- a list of what one site's tests make, with a site that has this source
abbrev pub added_at : List ℕ → ℕ → ℕ → ℕ → List ℕ
added_at list at site s = if s == at then list ++ site ∷ [] else list

abbrev pub made_more : Option ℕ → List ℕ → ℕ → ℕ → List ℕ
made_more None list x s = list
made_more (Some t) list x s = added_at list t x s

-- wants in their order: none, the tests by their order, one value
abbrev pub lesser_want : {C V : Type 0} → Tests C V → Option (Want C) → Option (Want C) → Bool
lesser_want T None None = false
lesser_want T None (Some w) = true
lesser_want T (Some w) None = false
lesser_want T (Some (has c)) (Some (has d)) = not (T.at_most d c)
lesser_want T (Some (has c)) (Some one_value) = true
lesser_want T (Some one_value) (Some w) = false

abbrev pub same_wants : {C V : Type 0} → Tests C V → Option (Want C) → Option (Want C) → Bool
same_wants T None None = true
same_wants T None (Some w) = false
same_wants T (Some w) o = is_want T w o

-- the first rule has the lesser want of the site, or the same and precedes
abbrev pub comes_first : {C V : Type 0} → Rules C V → ℕ → ℕ → ℕ → Bool
comes_first R s i j = lesser_want R.tests (R.at i s) (R.at j s) || (same_wants R.tests (R.at i s) (R.at j s) && precedes R i j)

-- by the test that they want of a site, those of one test in order
abbrev pub AreGrouped : {C V : Type 0} → Rules C V → ℕ → List ℕ → Type 0
AreGrouped R s [] = Unit {0}
AreGrouped R s (i ∷ is) = ((j : ℕ) → Elem j is → comes_first R s i j ≡ true) × AreGrouped R s is

-- each of the rules wants a test of the site
abbrev pub AllWant : {C V : Type 0} → Rules C V → List ℕ → ℕ → Type 0
AllWant {C} R left s = (i : ℕ) → Elem i left → (c : C) × (R.at i s ≡ Some (has c))

-- the rules at the front that want a test
abbrev pub front : {C V : Type 0} → Rules C V → ℕ → C → List ℕ → List ℕ
front R s c [] = []
front R s c (i ∷ is) = if is_want R.tests (has c) (R.at i s) then i ∷ front R s c is else []

-- the rules of a group that want the least test, from a place on
pub record IsRun {C V : Type 0} (R : Rules C V) (s start : ℕ) (group : List ℕ) (test : C) (rules : List ℕ) (end : ℕ) : Type 0 where
  pub least : IsLeast R s (drop start group) test
  pub run : rules ≡ wanting R s test (drop start group)
  pub rest : drop end group ≡ not_wanting R s test (drop start group)
  pub order : IsInOrder R rules
  pub more : start < end
  pub ends : end ≤ length group
