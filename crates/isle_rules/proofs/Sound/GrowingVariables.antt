-- Variables of a rule keep their places and types, and names stand for them.
use Rattle.std.proofs.Common.{◌≡◌, ℕ, Bool, true, false, List, [], ◌∷◌, length, Some, slice_get, refl, subst}
use Rattle.std.specs.Str.{bytes_eq}
use Rattle.std.proofs.lemmas.Option.{none-some, same_Some}
use Rattle.isle_containers.proofs.Lists.{slice_get-kept, slice_get-last}
use Rattle.isle_rules.specs.TypedRules.{Variable}
use Rattle.isle_rules.specs.Elaboration.{State, bound, Visible, visible_in}
use Rattle.isle_rules.specs.SoundRules.WellTyped.{HasType}

-- each variable keeps its place in a longer list
abbrev pub Extends : List Variable → List Variable → Type 0
Extends xs ys = (var : ℕ) (variable : Variable) → slice_get xs var ≡ Some variable → slice_get ys var ≡ Some variable

-- variables of the same state, and of a state with one more
pub same_extends : (s t : State) → t ≡ s → Extends s.variables t.variables
same_extends s t e = rw e (λ var variable is. is)

pub bound_extends : (s : State) (name : List ℕ) (ty : ℕ) → Extends s.variables (bound s name ty).variables
bound_extends s name ty var variable is = slice_get-kept s.variables _ var variable is

-- the variable that is bound has its type from then on
pub bound_has_type : (s : State) (name : List ℕ) (ty : ℕ) (variables : List Variable) → Extends (bound s name ty).variables variables
    → HasType variables (length s.variables) ty
bound_has_type s name ty variables more =
    (record { name = name; type = ty }, more (length s.variables) _ (slice_get-last s.variables (record { name = name; type = ty })), refl)

-- each name that can be used stands for a variable of its type
abbrev pub AreTyped : List Variable → List Visible → Type 0
AreTyped variables [] = Unit {0}
AreTyped variables (first ∷ others) = HasType variables first.var first.type × AreTyped variables others

-- so does the innermost of a name
pub seen_typed : (variables : List Variable) (scope : List Visible) (name : List ℕ) (seen : Visible) → AreTyped variables scope
    → visible_in scope name ≡ Some seen → HasType variables seen.var seen.type
seen_typed variables [] name seen h e = absurd (none-some seen e)
seen_typed variables (first ∷ others) name seen h e =
    by_test (bytes_eq first.name name) refl (seen_typed variables others name seen h.1)
  where
    by_test : (b : Bool) → bytes_eq first.name name ≡ b → (visible_in others name ≡ Some seen → HasType variables seen.var seen.type)
        → HasType variables seen.var seen.type
    by_test true t further = subst (λ (z : Visible). HasType variables z.var z.type) (same_Some _ _ (rw t at e)) h.0
    by_test false t further = further (rw t at e)
