-- Calls as functions of values into lists of values: what each site is then.
use Rattle.std.specs.Prelude.{◌≡◌, ◌≢◌, ℕ, zero, suc, List, [], ◌∷◌, Bool, true, Option, Some, None}
use Rattle.isle_trees.specs.Got.{Got, unknown, fails}
use Rattle.isle_trees.specs.Answers.{HasValue}
use Rattle.isle_trees.specs.Rules.{Want, has, one_value, Source, Rules, Elem}
use Rattle.isle_trees.specs.Bag.{Picks, pick, Model}
use Rattle.isle_trees.specs.Machine.{Makes, gather, read_or}

-- what each multi call lists, where its parts have these values
abbrev pub Lists : Type 0 → Type 0
Lists V = ℕ → List V → List V

abbrev pub taken_from : {C V : Type 0} → Picks V → ℕ → Want C → Option V
taken_from h s (has c) = None
taken_from h s one_value = Some (h s)

abbrev pub taken : {C V : Type 0} → Picks V → Option (Source C) → Option V
taken h None = None
taken h (Some m) = taken_from h m.site m.want

abbrev pub made_from : {V : Type 0} → Makes V → ℕ → Option (List V) → Got V
made_from makes s None = fails
made_from makes s (Some xs) = makes s xs

-- a site is made of its parts, which stand before it
abbrev pub site_value : {C V : Type 0} → Rules C V → Makes V → Picks V → ℕ → ℕ → Got V
site_value R makes h zero s = fails
site_value R makes h (suc n) s = read_or (taken h (R.made s)) (made_from makes s (gather (site_value R makes h n) (R.parts s)))

abbrev pub value_of : {C V : Type 0} → Rules C V → Makes V → Picks V → ℕ → Got V
value_of R makes h s = site_value R makes h (suc s) s

abbrev pub listed : {V : Type 0} → Lists V → ℕ → Option (List V) → List V
listed lists s None = []
listed lists s (Some xs) = lists s xs

abbrev pub model_of : {C V : Type 0} → Rules C V → Makes V → Lists V → (Picks V → Bool) → Model V
model_of R makes lists fits = record {
  fits = fits;
  values = value_of R makes;
  many = λ h s. listed lists s (gather (value_of R makes h) (R.parts s));
}

-- calls answer, and give options where they may have nothing; a field is there under its test; lists hold values that fit
pub record AreFunctions {C V : Type 0} (R : Rules C V) (makes : Makes V) (lists : Lists V) (fits : Picks V → Bool) : Type 0 where
  pub answers : (s : ℕ) (xs : List V) → makes s xs ≢ unknown
  pub whole : (s : ℕ) (xs : List V) → R.made s ≡ None → makes s xs ≢ fails
  pub field : (s : ℕ) (m : Source C) (c : C) (x : V) → R.made s ≡ Some m → m.want ≡ has c → R.tests.passes c x ≡ true
      → HasValue (makes s (x ∷ []))
  pub fit : (h : Picks V) (s : ℕ) (xs : List V) (x : V) → fits h ≡ true → Elem x (lists s xs) → fits (pick h s x) ≡ true
