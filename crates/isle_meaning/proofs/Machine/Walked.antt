-- What the theory of trees says of walks, and of what their steps bind, for the machine's run.
use Rattle.std.proofs.Common.{◌≡◌, inl, inr, ℕ, ◌<◌, List, [], ◌∷◌, ◌++◌, Option, Some, None, true, refl, ap, subst, arith}
use Rattle.isle_trees.specs.Answers.{Answers}
use Rattle.isle_trees.specs.Builds.{IsOrder}
use Rattle.isle_trees.specs.Got.{Got}
use Rattle.isle_trees.specs.Premises.{IsWellMade}
use Rattle.isle_trees.specs.Rules.{Rules, Want, Elem, IsPartOf, itself, of_part, Matches, Meets}
use Rattle.isle_trees.specs.Scopes.{Scope, emit, emit_all}
use Rattle.isle_trees.specs.Walk.{Outcome}
use Rattle.isle_trees.proofs.Path.{still_emitted}
use Rattle.isle_meaning.specs.Machine.Runs.{opened}

-- how a walk ends
abbrev pub Walk : Type 0
Walk = Outcome

-- a rule of a set matches
abbrev pub SetMatches : {C V : Type 0} → Rules C V → Answers V → ℕ → Type 0
SetMatches R v i = Matches R v i

-- a rule's want is met
abbrev pub IsMet : {C V : Type 0} → Rules C V → Want C → Got V → Type 0
IsMet R w g = Meets R w g

-- What is opened is among the fields.
pub opened_in : (fields : List (Option ℕ)) (x : ℕ) → Elem x (opened fields) → Elem (Some x) fields
opened_in [] x m = absurd m
opened_in (None ∷ fields) x m = inr (opened_in fields x m)
opened_in (Some k ∷ fields) x (inl e) = inl (ap (λ (z : ℕ). Some z) e)
opened_in (Some k ∷ fields) x (inr m) = inr (opened_in fields x m)

-- What is bound in order has its parts bound.
pub order_parts : {C V : Type 0} (R : Rules C V) (sc : Scope C) (xs : List ℕ) (x q : ℕ) → IsOrder R sc xs → Elem x xs → Elem q (R.parts x)
    → (emit_all sc xs).emitted q ≡ true
order_parts R sc [] x q o m n = absurd m
order_parts R sc (y ∷ ys) x q o (inl e) n = still_emitted sc (y ∷ ys) q (o.1 q (subst (λ (z : ℕ). Elem q (R.parts z)) e n))
order_parts R sc (y ∷ ys) x q o (inr m) n = order_parts R (emit sc y) ys x q (o.2) m n

-- Parts stand before.
pub part_before : {C V : Type 0} (R : Rules C V) (sites : List ℕ) (n x : ℕ) → IsWellMade R → ((s : ℕ) → Elem s sites → s < n)
    → IsPartOf R sites x → x < n
part_before R sites n _ w f (itself x m) = f x m
part_before R sites n _ w f (of_part s q h m) = let a = part_before R sites n s w f h in let d = w.lower s q m in omega arith

-- The last of a list is in it.
pub in_end : (ks : List ℕ) (k : ℕ) → Elem k (ks ++ k ∷ [])
in_end [] k = inl refl
in_end (y ∷ ks) k = inr (in_end ks k)

-- So are those before it.
pub in_front : (ks : List ℕ) (k j : ℕ) → Elem j ks → Elem j (ks ++ k ∷ [])
in_front [] k j m = absurd m
in_front (y ∷ ks) k j (inl e) = inl e
in_front (y ∷ ks) k j (inr m) = inr (in_front ks k j m)
