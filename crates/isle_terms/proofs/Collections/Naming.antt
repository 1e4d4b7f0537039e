-- Names are put into a table one by one, and those that occur already are reported.
use Rattle.std.proofs.Common.{◌≡◌, ℕ, zero, suc, ◌+◌, ◌<◌, List, [], ◌∷◌, ◌++◌, length, map, take, Option, Some, None, is_none, true, false, arith}
use Rattle.std.proofs.Common.{ap, sym, subst}
use Rattle.std.proofs.Common.{◌∙◌, slice_get}
use Rattle.std.proofs.lemmas.Bool.{false≢true, true≢false}
use Rattle.std.proofs.lemmas.List.{take-map, map-append, length-map, length-take-le}
use Rattle.std.specs.Option.{option_map}
use Rattle.std.proofs.lemmas.Option.{none-some}
use Rattle.isle_ast.specs.declared.pos.Pos.{Pos}
use Rattle.isle_types.specs.Names.{position_of, AreDistinct}
use Rattle.isle_containers.proofs.Lists.{from_take, within-take, taken_more}
use Rattle.isle_types.proofs.NamePlaces.{place_found, once_pushed}
use Rattle.isle_terms.specs.TermFaults.{names_of, IsTaken}

-- the names so far, with the next one
pub names_more : (pairs : List (List ℕ × Pos)) (i : ℕ) (pair : List ℕ × Pos) → slice_get pairs i ≡ Some pair
    → names_of (take (i + 1) pairs) ≡ names_of (take i pairs) ++ pair.0 ∷ []
names_more pairs i pair at =
    ap names_of (taken_more pairs i pair at) ∙ map-append (λ (other : List ℕ × Pos). other.0) (take i pairs) (pair ∷ [])

-- the name of a pair at a place
pub name_at_place : (pairs : List (List ℕ × Pos)) (i : ℕ) (pair : List ℕ × Pos) → slice_get pairs i ≡ Some pair
    → slice_get (names_of pairs) i ≡ Some pair.0
name_at_place [] i pair at = absurd (none-some pair at)
name_at_place (first ∷ others) zero pair at = ap (option_map (λ (other : List ℕ × Pos). other.0)) at
name_at_place (first ∷ others) (suc i) pair at = name_at_place others i pair at

-- a name that is found among those so far is taken
pub found_is_taken : (pairs : List (List ℕ × Pos)) (i : ℕ) (pair : List ℕ × Pos) (o : Option ℕ) → slice_get pairs i ≡ Some pair
    → position_of (names_of (take i pairs)) pair.0 ≡ o → is_none o ≡ false → IsTaken pairs pair.1
found_is_taken pairs i pair None at found is = absurd (true≢false is)
found_is_taken pairs i pair (Some j) at found is =
    let there : slice_get (take i (names_of pairs)) j ≡ Some pair.0 = ap (λ names. slice_get names j) (take-map (λ (other : List ℕ × Pos). other.0)
    i pairs)
    ∙ place_found (names_of (take i pairs)) pair.0 j found in
    record {
      place = i;
      name = pair.0;
      here = at;
      taken = record {
        item = pair.0;
        earlier = j;
        before = within-take (names_of pairs) i j pair.0 there;
        first = from_take (names_of pairs) i j pair.0 there;
        second = name_at_place pairs i pair at;
      };
    }

-- a name that isn't found is new
pub new_is_distinct : (pairs : List (List ℕ × Pos)) (i : ℕ) (pair : List ℕ × Pos) (o : Option ℕ) → slice_get pairs i ≡ Some pair
    → position_of (names_of (take i pairs)) pair.0 ≡ o → is_none o ≡ true → AreDistinct (names_of (take i pairs))
    → AreDistinct (names_of (take (i + 1) pairs))
new_is_distinct pairs i pair (Some j) at found is once = absurd (false≢true is)
new_is_distinct pairs i pair None at found is once =
    subst AreDistinct (sym (names_more pairs i pair at)) (once_pushed (names_of (take i pairs)) pair.0 once found)

-- the pair of an item at a place
pub pair_at : {X : Type 0} (shown : X → List ℕ × Pos) (xs : List X) (i : ℕ) (x : X) → slice_get xs i ≡ Some x → slice_get (map shown xs) i
    ≡ Some (shown x)
pair_at shown [] i x at = absurd (none-some x at)
pair_at shown (first ∷ others) zero x at = ap (option_map shown) at
pair_at shown (first ∷ others) (suc i) x at = pair_at shown others i x at

-- how many names there are so far
pub count_so_far : (pairs : List (List ℕ × Pos)) (i : ℕ) → i < length pairs → i ≡ length (names_of (take i pairs))
count_so_far pairs i low = sym (length-map (take i pairs) (λ (pair : List ℕ × Pos). pair.0) ∙ length-take-le i pairs (omega (arith, low)))
