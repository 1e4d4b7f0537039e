-- What a walk has at hand at each step.
use Rattle.std.specs.Prelude.{◌≡◌, ℕ, ◌==◌, ◌||◌, List, [], ◌∷◌, Bool, true, false, Option, Some, None, ◌⊎◌}
use Rattle.isle_trees.specs.Tree.{Steps, done, «match», equal, loop, give, Arms, no_arm, arm}
use Rattle.isle_trees.specs.Rules.{has, one_value, Rules, Elem}

-- the site has several values
abbrev pub IsMulti : {C V : Type 0} → Rules C V → ℕ → Type 0
IsMulti R s = (x : ℕ) × (R.value s ≡ Some x)

-- the arms' bindings are the sites of the fields, a loop's value is the multi call's, and multi calls stand in the orders
pub record IsListed {C V : Type 0} (R : Rules C V) : Type 0 where
  pub fields_listed : (x s : ℕ) (c : C) → R.made x ≡ Some (record { site = s; want = has c }) → Elem (Some x) (R.fields s c)
  pub fields_made : (s x : ℕ) (c : C) → Elem (Some x) (R.fields s c) → R.made x ≡ Some (record { site = s; want = has c })
  pub value_listed : (x s : ℕ) → R.made x ≡ Some (record { site = s; want = one_value }) → R.value s ≡ Some x
  pub multi_stands : (s : ℕ) → IsMulti R s → R.stands s ≡ true

-- the sites that are bound so far
abbrev pub more : (ℕ → Bool) → ℕ → ℕ → Bool
more env x y = (y == x) || env y

abbrev pub know : (ℕ → Bool) → List ℕ → ℕ → Bool
know env [] = env
know env (x ∷ xs) = know (more env x) xs

abbrev pub know_fields : (ℕ → Bool) → List (Option ℕ) → ℕ → Bool
know_fields env [] = env
know_fields env (None ∷ xs) = know_fields env xs
know_fields env (Some x ∷ xs) = know_fields (more env x) xs

-- a site is bound, or stands in no order and is computed from what is
pub data IsReadable {C V : Type 0} (R : Rules C V) (env : ℕ → Bool) : ℕ → Type 0 where
  is_bound : (s : ℕ) → env s ≡ true → IsReadable R env s
  computed : (s : ℕ) → R.stands s ≡ false → ((p : ℕ) → Elem p (R.parts s) → IsReadable R env p) → IsReadable R env s

-- each is bound once, but a multi call again, and after what it is made of
abbrev pub IsInOrder : {C V : Type 0} → Rules C V → (ℕ → Bool) → List ℕ → Type 0
IsInOrder R env [] = Unit {0}
IsInOrder R env (x ∷ xs) =
    ((env x ≡ false) ⊎ IsMulti R x) × ((p : ℕ) → Elem p (R.parts x) → IsReadable R env p) × IsInOrder R (more env x) xs

-- each step reads only what is at hand
abbrev mutual
  pub IsClosed : {C V : Type 0} → Rules C V → (ℕ → Bool) → Steps C → Type 0
  IsClosed R env done = Unit {0}
  IsClosed R env («match» binds s arms next) =
      IsInOrder R env binds × (IsReadable R (know env binds) s × (AreClosed R (know env binds) s arms × IsClosed R (know env binds) next))
  IsClosed R env (equal binds a b body next) =
      IsInOrder R env binds × (IsReadable R (know env binds) a × (IsReadable R (know env binds) b
      × (IsClosed R (know env binds) body × IsClosed R (know env binds) next)))
  IsClosed R env (loop binds x body next) =
      IsInOrder R env binds × (((s : ℕ) × (R.value s ≡ Some x) × (know env binds s ≡ true))
      × (IsClosed R (more (know env binds) x) body × IsClosed R (know env binds) next))
  IsClosed R env (give binds i next) =
      IsInOrder R env binds × (IsReadable R (know env binds) (R.result i) × IsClosed R (know env binds) next)

  pub AreClosed : {C V : Type 0} → Rules C V → (ℕ → Bool) → ℕ → Arms C → Type 0
  AreClosed R env s no_arm = Unit {0}
  AreClosed R env s (arm c bindings body more) =
      ((x : ℕ) → Elem (Some x) bindings → R.made x ≡ Some (record { site = s; want = has c }))
      × (IsClosed R (know_fields env bindings) body × AreClosed R env s more)
