-- Worked cases: the set whose members came as 30, 10 and 20, and the lists of numbers that are its order or aren't.
use Rattle.std.proofs.Common.{◌≡◌, ℕ, zero, suc, ◌<◌, List, [], ◌∷◌, Option, Some, None, refl, ap, ◌∙◌, arith, length, slice_get}
use Rattle.std.specs.List.{All, Contains}
use Rattle.std.specs.List.Sorted.{IsStrictlySortedBy}
use Rattle.std.specs.Ordering.{nat_cmp}
use Rattle.std.specs.declared.cmp.Ordering.TheVariants.{Equal}
use Rattle.std.proofs.lemmas.Option.{none-some, same_Some}
use Rattle.isle_containers.specs.SortedSets.{AreUnequal, IsOrderOf, number_in, with_member}

abbrev members : List ℕ
members = 30 ∷ 10 ∷ 20 ∷ []

-- the first member has the number 0, the last one 2, and what is no member none
first_has_0 : number_in nat_cmp members 30 ≡ Some 0
first_has_0 = refl

last_has_2 : number_in nat_cmp members 20 ≡ Some 2
last_has_2 = refl

no_member_has_none : number_in nat_cmp members 15 ≡ None
no_member_has_none = refl

none_in_empty : number_in nat_cmp [] 30 ≡ None
none_in_empty = refl

-- a new member goes behind the others, and one that is there isn't put in again
new_goes_behind : with_member nat_cmp members 15 ≡ 30 ∷ 10 ∷ 20 ∷ 15 ∷ []
new_goes_behind = refl

first_stays : with_member nat_cmp members 30 ≡ members
first_stays = refl

last_stays : with_member nat_cmp members 20 ≡ members
last_stays = refl

compared : (a b x y : ℕ) → Some a ≡ Some x → Some b ≡ Some y → nat_cmp x y ≡ Equal → nat_cmp a b ≡ Equal
compared a b x y p q e = ap (λ n. nat_cmp n b) (same_Some a x p) ∙ ap (nat_cmp x) (same_Some b y q) ∙ e

-- no two of the members are equal, but 30 is equal to itself at another number
unequal : AreUnequal nat_cmp members
unequal zero zero x y p q e = refl
unequal zero (suc zero) x y p q e = absurd (cc (compared 30 10 x y p q e))
unequal zero (suc (suc zero)) x y p q e = absurd (cc (compared 30 20 x y p q e))
unequal (suc zero) zero x y p q e = absurd (cc (compared 10 30 x y p q e))
unequal (suc zero) (suc zero) x y p q e = refl
unequal (suc zero) (suc (suc zero)) x y p q e = absurd (cc (compared 10 20 x y p q e))
unequal (suc (suc zero)) zero x y p q e = absurd (cc (compared 20 30 x y p q e))
unequal (suc (suc zero)) (suc zero) x y p q e = absurd (cc (compared 20 10 x y p q e))
unequal (suc (suc zero)) (suc (suc zero)) x y p q e = refl
unequal (suc (suc (suc i))) j x y p q e = absurd (none-some x p)
unequal i (suc (suc (suc j))) x y p q e = absurd (none-some y q)

equal_twice : AreUnequal nat_cmp (30 ∷ 10 ∷ 30 ∷ []) → ⊥
equal_twice once = absurd (cc (once 0 2 30 30 refl refl refl))

numbers_in_range : All (λ number. number < length members) (1 ∷ 2 ∷ 0 ∷ [])
numbers_in_range zero d inside = omega arith
numbers_in_range (suc zero) d inside = omega arith
numbers_in_range (suc (suc zero)) d inside = omega arith
numbers_in_range (suc (suc (suc k))) d inside = omega arith

all_numbers : (number : ℕ) → number < length members → Contains (1 ∷ 2 ∷ 0 ∷ []) number
all_numbers zero inside = (2, omega arith, refl)
all_numbers (suc zero) inside = (0, omega arith, refl)
all_numbers (suc (suc zero)) inside = (1, omega arith, refl)
all_numbers (suc (suc (suc number))) inside = absurd (omega arith)

-- in ascending order of the members their numbers are 1, 2 and 0
ascending_order : IsOrderOf nat_cmp members (1 ∷ 2 ∷ 0 ∷ [])
unfolding IsStrictlySortedBy
ascending_order = record {
  in_range = numbers_in_range;
  as_many = refl;
  all = all_numbers;
  ascending = ((refl, (refl, tt)), ((refl, tt), (tt, tt)));
}

-- not as they came, nor with one left out, nor with one twice
not_as_they_came : IsOrderOf nat_cmp members (0 ∷ 1 ∷ 2 ∷ []) → ⊥
unfolding IsStrictlySortedBy
not_as_they_came order = absurd (cc (order.ascending.0.0))

not_with_one_left_out : IsOrderOf nat_cmp members (1 ∷ 0 ∷ []) → ⊥
not_with_one_left_out order = absurd (cc order.as_many)

not_with_one_twice : IsOrderOf nat_cmp members (1 ∷ 1 ∷ 0 ∷ []) → ⊥
unfolding IsStrictlySortedBy
not_with_one_twice order = absurd (cc (order.ascending.0.0))
