-- Rule sets as functions of rule and site, and when a rule matches.
use Rattle.std.specs.Prelude.{◌≡◌, ◌≢◌, ℕ, ℤ, List, [], ◌∷◌, ◌++◌, Bool, true, false, Option, Some, ◌⊎◌, zero, suc}
use Rattle.isle_trees.specs.Got.{Got, unknown, fails, gives}
use Rattle.isle_trees.specs.Answers.{Answers, HasValue}

-- the numbers below one
abbrev pub below : ℕ → List ℕ
below zero = []
below (suc n) = below n ++ n ∷ []

-- tests of a site, in their order, and what a site holds
pub record Tests (C V : Type 0) : Type 0 where
  pub same : C → C → Bool
  pub at_most : C → C → Bool
  pub passes : C → V → Bool
  pub alike : V → V → Bool

-- what a rule wants of a site: that it passes a test, or one of the values of a multi call
pub data Want (C : Type 0) : Type 0 where
  has : C → Want C
  one_value : Want C

pub record Source (C : Type 0) : Type 0 where
  pub site : ℕ
  pub want : Want C

pub record Rules (C V : Type 0) : Type 0 where
  pub tests : Tests C V
  -- what a rule wants of a site, and whether it has two sites in one class
  pub at : ℕ → ℕ → Option (Want C)
  pub joins : ℕ → ℕ → ℕ → Bool
  pub prio : ℕ → ℤ
  -- a rule's impure calls in order, each before its content where it has one, and the site of its result
  pub calls : ℕ → List ℕ
  pub result : ℕ → ℕ
  -- what a site is made of
  pub parts : ℕ → List ℕ
  -- the test that makes a field, or a value of a multi call
  pub made : ℕ → Option (Source C)
  -- the site is an impure call, is the content of an option that a call gives, stands in the orders
  pub effect : ℕ → Bool
  pub content : ℕ → Bool
  pub stands : ℕ → Bool
  -- the site of a multi call's value
  pub value : ℕ → Option ℕ
  -- the sites of the fields of a site under a test, where they are there
  pub fields : ℕ → C → List (Option ℕ)
  -- the sites of which a rule wants something, its classes, and the multi calls that it uses, ascending
  pub demands : ℕ → List ℕ
  pub classes : ℕ → List (List ℕ)
  pub loops : ℕ → List ℕ

-- a rule's impure calls, then its result
abbrev pub rights : {C V : Type 0} → Rules C V → ℕ → List ℕ
rights R i = R.calls i ++ R.result i ∷ []

abbrev pub Elem : {A : Type 0} → A → List A → Type 0
Elem x [] = ⊥
Elem x (y ∷ ys) = (x ≡ y) ⊎ Elem x ys

-- what a rule demands, and what that is made of at any depth
pub data Asked {C V : Type 0} (R : Rules C V) (i : ℕ) : ℕ → Type 0 where
  by_demand : (s : ℕ) (w : Want C) → R.at i s ≡ Some w → Asked R i s
  by_class : (a b : ℕ) → R.joins i a b ≡ true → Asked R i a
  by_part : (s p : ℕ) → Asked R i s → Elem p (R.parts s) → Asked R i p

-- what a rule demands or its right side has, and what that is made of at any depth
pub data Used {C V : Type 0} (R : Rules C V) (i : ℕ) : ℕ → Type 0 where
  by_asked : (s : ℕ) → Asked R i s → Used R i s
  by_right : (s : ℕ) → Elem s (rights R i) → Used R i s
  by_part_of : (s p : ℕ) → Used R i s → Elem p (R.parts s) → Used R i p

-- one of the sites, or what they are made of at any depth
pub data IsPartOf {C V : Type 0} (R : Rules C V) (sites : List ℕ) : ℕ → Type 0 where
  itself : (s : ℕ) → Elem s sites → IsPartOf R sites s
  of_part : (s p : ℕ) → IsPartOf R sites s → Elem p (R.parts s) → IsPartOf R sites p

abbrev pub passes_got : {C V : Type 0} → Rules C V → C → Got V → Bool
passes_got R c unknown = false
passes_got R c fails = false
passes_got R c (gives x) = R.tests.passes c x

abbrev pub alike_got : {C V : Type 0} → Rules C V → Got V → Got V → Bool
alike_got R (gives x) (gives y) = R.tests.alike x y
alike_got R (gives x) unknown = false
alike_got R (gives x) fails = false
alike_got R unknown h = false
alike_got R fails h = false

-- what is wanted is there
abbrev pub Meets : {C V : Type 0} → Rules C V → Want C → Got V → Type 0
Meets R (has c) g = passes_got R c g ≡ true
Meets R one_value g = HasValue g

-- a rule matches
pub record Matches {C V : Type 0} (R : Rules C V) (v : Answers V) (i : ℕ) : Type 0 where
  pub wants : (s : ℕ) (w : Want C) → R.at i s ≡ Some w → Meets R w (v s)
  pub equals : (a b : ℕ) → R.joins i a b ≡ true → a ≢ b → HasValue (v a) × (v a ≡ v b)
