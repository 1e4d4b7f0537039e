-- What rule sets promise, and answers.
use Rattle.std.specs.Prelude.{◌≡◌, ◌≢◌, ◌⊎◌, ℕ, ◌<◌, List, [], ◌∷◌, true, false, Some, None}
use Rattle.isle_trees.specs.Got.{unknown, fails}
use Rattle.isle_trees.specs.Answers.{Answers, HasValue}
use Rattle.isle_trees.specs.Rules.{Tests, Want, has, one_value, Source, Rules, Elem, Asked, IsPartOf, Meets, Used}

-- tests and values are compared exactly
pub record AreExact {C V : Type 0} (T : Tests C V) : Type 0 where
  pub same : (c d : C) → T.same c d ≡ true → c ≡ d
  pub same_self : (c : C) → T.same c c ≡ true
  pub alike : (x y : V) → T.alike x y ≡ true → x ≡ y
  pub alike_self : (x : V) → T.alike x x ≡ true

-- what `build` gives for each rule set
pub record IsWellMade {C V : Type 0} (R : Rules C V) : Type 0 where
  pub exact : AreExact R.tests
  -- two tests that rules want of one site never both pass
  pub one_test : (i j s : ℕ) (c d : C) (x : V) → R.at i s ≡ Some (has c) → R.at j s ≡ Some (has d)
      → R.tests.passes c x ≡ true → R.tests.passes d x ≡ true → c ≡ d
  -- parts stand before what is made of them, and a field's only part is its source
  pub lower : (s p : ℕ) → Elem p (R.parts s) → p < s
  pub source : (s : ℕ) (m : Source C) → R.made s ≡ Some m → R.parts s ≡ m.site ∷ []
  -- joined sites have no test, in both directions; wants and classes are listed
  pub apart : (i a b : ℕ) → R.joins i a b ≡ true → R.at i a ≡ None
  pub both : (i a b : ℕ) → R.joins i a b ≡ true → R.joins i b a ≡ true
  pub listed : (i s : ℕ) (w : Want C) → R.at i s ≡ Some w → Elem s (R.demands i)
  pub grouped : (i a b : ℕ) → R.joins i a b ≡ true → (c : List ℕ) × Elem c (R.classes i) × Elem a c × Elem b c
  -- a multi call's value is made by taking it
  pub value_made : (s x : ℕ) → R.value s ≡ Some x → R.made x ≡ Some (record { site = s; want = one_value })
  -- fields are no calls, and stand in the orders as impure calls do
  pub field_pure : (s : ℕ) (m : Source C) → R.made s ≡ Some m → R.effect s ≡ false
  pub field_stands : (s : ℕ) (m : Source C) → R.made s ≡ Some m → R.stands s ≡ true
  pub call_stands : (s : ℕ) → R.effect s ≡ true → R.stands s ≡ true

-- a field that a rule's tests ask has its own test among them
abbrev pub TestsItsFields : {C V : Type 0} → Rules C V → Type 0
TestsItsFields {C} {V} R = (i s : ℕ) (m : Source C) → Asked R i s → R.made s ≡ Some m → R.at i m.site ≡ Some m.want

-- impure calls that a site is made of stand before it, and each stands once
abbrev pub EffectsFirst : {C V : Type 0} → Rules C V → ℕ → List ℕ → List ℕ → Type 0
EffectsFirst R r seen [] = (x : ℕ) → IsPartOf R (r ∷ []) x → R.effect x ≡ true → Elem x seen
EffectsFirst R r seen (u ∷ us) =
    ((x : ℕ) → IsPartOf R (R.parts u) x → R.effect x ≡ true → Elem x seen) × (R.effect u ≡ true → Elem u seen → ⊥)
    × EffectsFirst R r (u ∷ seen) us

-- the rules of a term without multi calls: tests ask no impure call, and a right side's impure calls are all listed
pub record IsSingle {C V : Type 0} (R : Rules C V) : Type 0 where
  pub tested : TestsItsFields R
  pub pure : (i s : ℕ) → Asked R i s → R.effect s ≡ false
  pub first : (i : ℕ) → EffectsFirst R (R.result i) [] (R.calls i)

-- none of the rules uses a multi call
abbrev pub UsesNoMulti : {C V : Type 0} → Rules C V → List ℕ → Type 0
UsesNoMulti R left = (i s : ℕ) → Elem i left → R.at i s ≢ Some one_value

-- Answers keep to fields and to calls: a field is there where its test passes, what is made of values doesn't fail but as a field
-- does, and what stands in no order is known. Calls may be left open.
pub record Respects {C V : Type 0} (R : Rules C V) (v : Answers V) : Type 0 where
  pub field : (s : ℕ) (m : Source C) → R.made s ≡ Some m → Meets R m.want (v m.site) → HasValue (v s)
  pub whole : (s : ℕ) → R.made s ≡ None → ((p : ℕ) → Elem p (R.parts s) → HasValue (v p)) → v s ≢ fails
  pub plain : (s : ℕ) → R.stands s ≡ false → ((p : ℕ) → Elem p (R.parts s) → HasValue (v p)) → v s ≢ unknown

-- answers know what the rules' tests ask
abbrev pub KnowsAsked : {C V : Type 0} → Rules C V → Answers V → Type 0
KnowsAsked R v = (i s : ℕ) → Asked R i s → v s ≢ unknown

-- what has a value is made of what has
abbrev pub IsStrict : {C V : Type 0} → Rules C V → Answers V → Type 0
IsStrict R v = (s : ℕ) → HasValue (v s) → (p : ℕ) → Elem p (R.parts s) → HasValue (v p)

-- What a test makes and a rule has, has its test among what the rule wants, or is the content of an option that a call gives. No test
-- makes a multi call.
pub record HasItsTests {C V : Type 0} (R : Rules C V) : Type 0 where
  pub tested : TestsItsFields R
  pub contents : (i s : ℕ) (m : Source C) → Used R i s → R.made s ≡ Some m → (R.at i m.site ≡ Some m.want) ⊎ (R.content s ≡ true)
  pub call_whole : (s x : ℕ) → R.value s ≡ Some x → R.made s ≡ None
