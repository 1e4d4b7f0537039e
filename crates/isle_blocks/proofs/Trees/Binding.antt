-- Sites by their numbers, as lists of them change.
use Rattle.std.proofs.Common.{◌≡◌, inl, inr, ℕ, zero, suc, ◌+◌, ◌<◌, ◌≤◌, ◌++◌, List, [], ◌∷◌, length, refl, sym, ◌∙◌, ap, arith, get_or, take, append_assoc, append-nil, slice_get, Some, IsPermutation}
use Rattle.std.proofs.lemmas.List.{map-append, length-map, take_more}
use Rattle.std.proofs.lemmas.List.Sorted.{sum_by-IsPermutation}
use Rattle.std.proofs.lemmas.List.Sums.{sum_by-cons}
use Rattle.std.specs.List.{filter}
use Rattle.std.specs.Prelude.{sum_by}
use Rattle.isle_meaning.specs.Held.{Held}
use Rattle.isle_trees.specs.Bag.{IsAscending}
use Rattle.isle_trees.specs.Builds.{own}
use Rattle.isle_trees.specs.Rules.{Rules, Elem, rights}
use Rattle.isle_trees.specs.Search.{AreDistinct}
use Rattle.isle_trees.proofs.Building.Emission.{own_filter}
use Rattle.isle_trees.proofs.Building.Gathering.{sorted_up}
use Rattle.isle_trees.proofs.Building.Lists.{filter_append}
use Rattle.isle_trees.proofs.Building.Ordered.{same_distinct}
use Rattle.isle_blocks.specs.declared.binding.Binding.{Binding}
use Rattle.isle_blocks.specs.declared.constraint.Constraint.{Constraint}
use Rattle.isle_blocks.specs.declared.ids.BindingId.{BindingId}
use Rattle.isle_blocks.specs.declared.rule.Rule.{Rule}
use Rattle.isle_blocks.specs.RuleSets.{RulesOverSites}
use Rattle.isle_blocks.specs.Rows.{numbers_of}
use Rattle.isle_blocks.specs.Inside.Trees.Builder.{rules_in}
use Rattle.isle_blocks.specs.Trees.View.{id_of, call_at, calls_at}
use Rattle.isle_blocks.specs.Inside.Trees.Work.{rights_in}

pub numbers_push : (new old : List BindingId) (x : BindingId) → new ≡ old ++ x ∷ [] → numbers_of new ≡ numbers_of old ++ x.0 ∷ []
numbers_push new old x e = ap numbers_of e ∙ map-append (λ (id : BindingId). id.0) old (x ∷ [])

pub numbers_length : (xs : List BindingId) → length (numbers_of xs) ≡ length xs
numbers_length xs = length-map xs (λ (id : BindingId). id.0)

pub number_elem : (xs : List BindingId) (i : ℕ) (d : BindingId) → i < length xs → Elem (get_or xs i d).0 (numbers_of xs)
number_elem [] i d l = absurd (omega arith)
number_elem (y ∷ ys) zero d l = inl refl
number_elem (y ∷ ys) (suc i) d l = inr (number_elem ys i d (omega arith))

-- a number is that of a site
pub number_of : (s : ℕ) (xs : List BindingId) → Elem s (numbers_of xs) → (x : BindingId) × Elem x xs × (x.0 ≡ s)
number_of s [] m = absurd m
number_of s (y ∷ ys) (inl e) = (y, inl refl, sym e)
number_of s (y ∷ ys) (inr m) = let rest = number_of s ys m in (rest.0, inr rest.1, rest.2)

pub numbers_more : (xs : List BindingId) (i : ℕ) (d : BindingId) → i < length xs
    → numbers_of (take (i + 1) xs) ≡ numbers_of (take i xs) ++ (get_or xs i d).0 ∷ []
numbers_more xs i d l = numbers_push (take (i + 1) xs) (take i xs) (get_or xs i d) (take_more xs i d l)

-- the number at a place
pub number_get : (xs : List BindingId) (i : ℕ) → get_or (numbers_of xs) i 0 ≡ (get_or xs i (id_of 0)).0
number_get [] i = refl
number_get (y ∷ ys) zero = refl
number_get (y ∷ ys) (suc i) = number_get ys i

pub numbers_sum : (f : ℕ → ℕ) (xs : List BindingId) → sum_by f (numbers_of xs) ≡ sum_by (λ (id : BindingId). f id.0) xs
numbers_sum f [] = refl
numbers_sum f (y ∷ ys) =
    sum_by-cons f y.0 (numbers_of ys) ∙ ap (λ (n : ℕ). f y.0 + n) (numbers_sum f ys) ∙ sym (sum_by-cons (λ (id : BindingId). f id.0) y ys)

-- a sort only moves sites
pub numbers_moved : (f : ℕ → ℕ) (xs ys : List BindingId) → IsPermutation xs ys → sum_by f (numbers_of xs) ≡ sum_by f (numbers_of ys)
numbers_moved f xs ys p =
    numbers_sum f xs ∙ sym (sum_by-IsPermutation (λ (id : BindingId). f id.0) xs ys p) ∙ sym (numbers_sum f ys)

pub numbers_up : (xs ys : List BindingId) → AreDistinct (numbers_of xs) → IsPermutation xs ys
    → ((k : ℕ) → k + 1 < length ys → (get_or ys k (id_of 0)).0 ≤ (get_or ys (k + 1) (id_of 0)).0) → IsAscending (numbers_of ys)
numbers_up xs ys d p h =
    sorted_up (numbers_of xs) (numbers_of ys) (same_distinct (numbers_of xs) (numbers_of ys) (λ f. numbers_moved f xs ys p) d)
    (λ k l.
    let n = numbers_length ys in
    let a = number_get ys k in
    let b = number_get ys (k + 1) in
    let c = h k (omega arith) in omega arith)

-- sites that stand are written behind others
pub written_more : (R : Rules Constraint Held) (xs : List ℕ) (s : ℕ) (old mid new : List ℕ) → mid ≡ old ++ filter R.stands xs → new ≡ mid ++ own R s
    → new ≡ old ++ filter R.stands (xs ++ s ∷ [])
written_more R xs s old mid new e f =
    f ∙ ap (λ (l : List ℕ). l ++ own R s) e ∙ append_assoc old (filter R.stands xs) (own R s)
    ∙ ap (λ (l : List ℕ). old ++ l) (ap (λ (l : List ℕ). filter R.stands xs ++ l) (sym (own_filter R s))
    ∙ sym (filter_append R.stands xs (s ∷ [])))

calls_append : (table : List Binding) (xs : List BindingId) (x : BindingId) → calls_at table (xs ++ x ∷ []) ≡ calls_at table xs ++ call_at table x
calls_append table [] x = append-nil (call_at table x)
calls_append table (y ∷ ys) x =
    ap (λ (l : List ℕ). call_at table y ++ l) (calls_append table ys x)
    ∙ sym (append_assoc (call_at table y) (calls_at table ys) (call_at table x))

pub calls_more : (table : List Binding) (xs : List BindingId) (x : BindingId) (mid new : List ℕ) → mid ≡ calls_at table xs
    → new ≡ mid ++ call_at table x
    → new ≡ calls_at table (xs ++ x ∷ [])
calls_more table xs x mid new e f = f ∙ ap (λ (l : List ℕ). l ++ call_at table x) e ∙ sym (calls_append table xs x)

-- a rule's right side, by the rule's number
pub rights_are : (set : RulesOverSites) (i : ℕ) (rule : Rule) → slice_get set.rules i ≡ Some rule → rights (rules_in set) i ≡ rights_in set.sites rule
rights_are set i rule e = rw e refl
