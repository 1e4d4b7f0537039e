-- Which sites can be tested, from step to step.
use Rattle.std.proofs.Common.{◌≡◌, ◌≢◌, inl, inr, ℕ, ◌<◌, ◌&&◌, not, nat_lt, ◌++◌, List, Bool, true, false, Option, Some, is_some, length, refl, sym, ◌∙◌, ap, subst, arith, eq-eqb, [], ◌∷◌, append_assoc}
use Rattle.std.proofs.lemmas.Bool.Decides.{nat_tests}
use Rattle.std.specs.List.{filter}
use Rattle.isle_trees.specs.Rules.{Want, has, one_value, Rules, Elem}
use Rattle.isle_trees.specs.Scopes.{Scope, join, inside, on_match, on_loop}
use Rattle.isle_trees.specs.Search.{HasUsers, IsSamePath, is_marked, is_open}
use Rattle.isle_trees.specs.Rules.{below}
use Rattle.isle_trees.proofs.Basics.{and_both, both_and, clash, has_length, to_filter}
use Rattle.isle_trees.proofs.Building.Lists.{elem_below, elem_left, elem_right, filter_append, less_or}
use Rattle.isle_trees.proofs.Building.Scopes.{get_past}
use Rattle.isle_blocks.specs.declared.ids.BindingId.{BindingId}
use Rattle.isle_blocks.specs.Rows.{numbers_of}
use Rattle.isle_blocks.specs.Inside.Trees.Marking.{AreReady, IsPast, IsSpread, is_testable}
use Rattle.isle_blocks.proofs.Trees.Marking.Spreading.{past_inside}

-- a site that a rule tests has users
users_elem : {C V : Type 0} (R : Rules C V) (users : ℕ → List ℕ) → HasUsers R users → (i x : ℕ) (w : Want C) → R.at i x ≡ Some w → Elem i (users x)
users_elem R users h i x (has c) e = h i (on_match x) (rw e refl)
users_elem R users h i x one_value e = h i (on_loop x) (rw e refl)

users_some : {C V : Type 0} (R : Rules C V) (users : ℕ → List ℕ) → HasUsers R users → (i x : ℕ) (w : Want C) → R.at i x ≡ Some w
    → nat_lt 0 (length (users x)) ≡ true
users_some R users h i x w e = let l : 0 < length (users x) = has_length (users x) i (users_elem R users h i x w e) in grind (arith, nat_tests)

marked_low : (marks : List Bool) (x : ℕ) → is_marked marks x ≡ true → x < length marks
marked_low marks x e = elim (less_or x (length marks)) [ inl l ↦ l | inr l ↦ clash _ e (get_past marks x false l) ]

-- what can be tested is listed still where no more is
pub ready_path : {C V : Type 0} (R : Rules C V) (left rest : List ℕ) (a b : Scope C) (marks : List Bool) (ready : List ℕ)
    → ((y : ℕ) → b.passed y ≡ a.passed y) → ((i : ℕ) → Elem i rest → Elem i left) → AreReady R left a marks ready → AreReady R rest b marks ready
ready_path {C} R left rest a b marks ready p sub h i x w m e o =
    let P : Option (Want C) → Type 0 = λ v. (is_marked marks x && not (is_some v)) ≡ true in h i x w (sub i m) e (subst P (p x) o)

pub ready_joined : {C V : Type 0} (R : Rules C V) (left rest : List ℕ) (sc mid after : Scope C) (a b : ℕ) (marks : List Bool) (ready : List ℕ)
    → IsSamePath sc mid → after ≡ join mid a b → ((i : ℕ) → Elem i rest → Elem i left) → AreReady R left sc marks ready
    → AreReady R rest after marks ready
ready_joined {C} R left rest sc mid after a b marks ready p e sub h =
    ready_path R left rest sc after marks ready (λ y. ap (λ (x : Scope C). x.passed y) e ∙ p.passed y) sub h

-- all are, at the start
pub ready_all : {C V : Type 0} (R : Rules C V) (n : ℕ) (users : ℕ → List ℕ) (left : List ℕ) (sc : Scope C) (marks : List Bool) (ready : List ℕ)
    → HasUsers R users → length marks ≡ n → ready ≡ filter (is_testable users sc marks) (below n) → AreReady R left sc marks ready
ready_all R n users left sc marks ready h size is i x w m e o =
    let low = marked_low marks x ((and_both (is_marked marks x) _ o).0) in
    let P : List ℕ → Type 0 = λ l. Elem x l in
    subst P (sym is)
    (to_filter (is_testable users sc marks) (below n) x (elem_below x n (omega (arith, low, size)))
    (both_and (is_open sc marks x) _ o (users_some R users h i x w e)))

-- and past a test: what could be tested before, and what was marked since
ready_past : {C V : Type 0} (R : Rules C V) (users : ℕ → List ℕ) (left rest : List ℕ) (before sc : Scope C)
    (s : ℕ) (w : Want C) (start marks : List Bool)
    (list ready next : List ℕ) → HasUsers R users → IsSpread R sc s start marks list → IsPast before s sc → sc.passed s ≡ Some w
    → ((i : ℕ) → Elem i rest → Elem i left)
    → AreReady R left before start ready → next ≡ filter (is_testable users sc marks) (ready ++ list) → AreReady R rest sc marks next
ready_past {C} R users left rest before sc s w start marks list ready next h g past here sub old is i x v m e o =
    let both = and_both (is_marked marks x) _ o in
    let P : List ℕ → Type 0 = λ l. Elem x l in
    let Q : Option (Want C) → Type 0 = λ q. not (is_some q) ≡ true in
    let listed : Elem x (ready ++ list) = elim (g.either x (both.0)) [
      | inl kept ↦
          let other : x ≢ s = λ same. let f : sc.passed x ≡ Some w = ap sc.passed same ∙ here in let z : false ≡ true = subst Q f (both.1) in cc in
          elem_left x ready list (old i x v (sub i m) e (both_and (is_marked start x) _ kept (subst Q (past x other) (both.1))))
      | inr new ↦ elem_right x ready list new
    ] in
    subst P (sym is)
    (to_filter (is_testable users sc marks) (ready ++ list) x listed (both_and (is_open sc marks x) _ o (users_some R users h i x v e)))

pub ready_inside : {C V : Type 0} (R : Rules C V) (users : ℕ → List ℕ) (left rest : List ℕ) (sc mid after : Scope C) (s : ℕ) (w : Want C)
    (start marks : List Bool) (list ready next : List ℕ) → HasUsers R users → IsSamePath sc mid → after ≡ inside R mid s w
    → ((i : ℕ) → Elem i rest → Elem i left) → AreReady R left sc start ready → IsSpread R after s start marks list
    → next ≡ filter (is_testable users after marks) (ready ++ list) → AreReady R rest after marks next
ready_inside {C} R users left rest sc mid after s w start marks list ready next h p e sub old g is =
    let f : (inside R mid s w).passed s ≡ Some w = rw (eq-eqb s s refl) refl in
    let here : after.passed s ≡ Some w = ap (λ (x : Scope C). x.passed s) e ∙ f in
    ready_past R users left rest sc after s w start marks list ready next h g (past_inside R sc mid after s w p e) here sub old is

-- one site more was kept where it passes
pub kept_more : (p : ℕ → Bool) (xs : List ℕ) (s : ℕ) (old mid new : List ℕ) → mid ≡ old ++ filter p xs → new ≡ mid ++ filter p (s ∷ [])
    → new ≡ old ++ filter p (xs ++ s ∷ [])
kept_more p xs s old mid new e f =
    f ∙ ap (λ (l : List ℕ). l ++ filter p (s ∷ [])) e ∙ append_assoc old (filter p xs) (filter p (s ∷ []))
    ∙ ap (λ (l : List ℕ). old ++ l) (sym (filter_append p xs (s ∷ [])))

-- what was kept of two lists, as they were passed
pub testable_from : (p : List Bool → ℕ → Bool) (next : List ℕ) (seen marks : List Bool) (a before b more : List BindingId) → seen ≡ marks → a ≡ before
    → b ≡ more → next ≡ filter (p seen) (numbers_of a ++ numbers_of b) → next ≡ filter (p marks) (numbers_of before ++ numbers_of more)
testable_from p next seen marks a before b more e f g h = rw (← e, ← f, ← g) h
