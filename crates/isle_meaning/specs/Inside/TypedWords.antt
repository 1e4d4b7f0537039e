-- Written-out expressions that are typed, and read only what is bound.
use Rattle.std.specs.Prelude.{◌≡◌, ℕ, zero, suc, true, false, List, [], ◌∷◌, Option, Some, slice_get}
use Rattle.isle_meaning.specs.Facts.{variant_shape, struct_shape}
use Rattle.isle_meaning.specs.Values.{bool_value, int_value, constant_value, Value, Values}
use Rattle.isle_meaning.specs.GroundValues.{IsValueOf, AreValuesOf}
use Rattle.isle_meaning.specs.Words.{Word, var_word, bool_word, int_word, prim_word, variant_word, struct_word, call_word, Words}
use Rattle.isle_meaning.specs.Words.{no_words, more_words, Step}
use Rattle.isle_meaning.specs.Worlds.{CheckedProgram, Event}
use Rattle.isle_meaning.specs.Outcomes.{Outcome, given}

-- a word is of a type, where the variables have these types, and the impure calls, by their places, these; its variables are among
-- these, and of the terms with rules it calls only these
abbrev mutual
  pub IsTypedWord : CheckedProgram → (ℕ → Type 0) → (ℕ → Type 0) → (ℕ → ℕ) → (ℕ → ℕ) → Word → ℕ → Type 0
  IsTypedWord p R S G D (var_word k) u = S k × (G k ≡ u)
  IsTypedWord p R S G D (bool_word ty b) u = IsValueOf p.values (bool_value b) u
  IsTypedWord p R S G D (int_word ty n) u = IsValueOf p.values (int_value n) u
  IsTypedWord p R S G D (prim_word name) u = IsValueOf p.values (constant_value name) u
  IsTypedWord p R S G D (variant_word ty k ws) u = (ty ≡ u) × ((t : ℕ) × (p.terms.shape t ≡ variant_shape k) × (p.terms.type_of t ≡ u))
      × AreTypedWords p R S G D ws (p.terms.variant_fields ty k)
  IsTypedWord p R S G D (struct_word ty ws) u = (ty ≡ u) × ((t : ℕ) × (p.terms.shape t ≡ struct_shape) × (p.terms.type_of t ≡ u))
      × AreTypedWords p R S G D ws (p.terms.struct_fields ty)
  IsTypedWord p R S G D (call_word t ws zero) u =
      (p.terms.type_of t ≡ u) × (p.has_rules t ≡ true → R t) × (p.terms.multi t ≡ false)
      × AreTypedWords p R S G D ws (p.terms.inputs t) × (p.terms.pure t ≡ true)
  IsTypedWord p R S G D (call_word t ws (suc i)) u =
      (p.terms.type_of t ≡ u) × (D i ≡ u) × (p.has_rules t ≡ true → R t) × (p.terms.multi t ≡ false)
      × AreTypedWords p R S G D ws (p.terms.inputs t)

  pub AreTypedWords : CheckedProgram → (ℕ → Type 0) → (ℕ → Type 0) → (ℕ → ℕ) → (ℕ → ℕ) → Words → List ℕ → Type 0
  AreTypedWords p R S G D no_words [] = Unit {0}
  AreTypedWords p R S G D no_words (u ∷ us) = ⊥
  AreTypedWords p R S G D (more_words w ws) [] = ⊥
  AreTypedWords p R S G D (more_words w ws) (u ∷ us) = IsTypedWord p R S G D w u × AreTypedWords p R S G D ws us

-- the values of these variables are of their types
abbrev pub AreTypedVariables : CheckedProgram → (ℕ → Type 0) → (ℕ → ℕ) → (ℕ → Value) → Type 0
AreTypedVariables p S G a = (k : ℕ) → S k → IsValueOf p.values (a k) (G k)

-- so are the answers of the impure calls so far
abbrev pub AreTypedAnswers : CheckedProgram → (ℕ → ℕ) → List (Option Value) → Type 0
AreTypedAnswers p D done = (i : ℕ) (v : Value) → slice_get done i ≡ Some (Some v) → IsValueOf p.values v (D i)

-- an impure call is of its term's type, and its arguments are of the types of its term's
abbrev pub IsTypedStep : CheckedProgram → (ℕ → Type 0) → (ℕ → Type 0) → (ℕ → ℕ) → (ℕ → ℕ) → Step → Type 0
IsTypedStep p R S G D s = (D s.place ≡ p.terms.type_of s.term) × (p.has_rules s.term ≡ true → R s.term)
    × (p.terms.multi s.term ≡ false) × AreTypedWords p R S G D s.args (p.terms.inputs s.term)

-- impure calls are typed, and have places from this one on
abbrev pub AreTypedSteps : CheckedProgram → (ℕ → Type 0) → (ℕ → Type 0) → (ℕ → ℕ) → (ℕ → ℕ) → ℕ → List Step → Type 0
AreTypedSteps p R S G D n [] = Unit {0}
AreTypedSteps p R S G D n (s ∷ steps) = IsTypedStep p R S G D s × (s.place ≡ n) × AreTypedSteps p R S G D (suc n) steps

-- calls one depth lower, of these terms on arguments of their types, give values of their types
abbrev pub GivesTyped : CheckedProgram → (ℕ → Type 0) → (ℕ → Values → List Event → Outcome Value → Type 0) → Type 0
GivesTyped p R below = (t : ℕ) (vs : Values) (effects : List Event) (v : Value) → R t → AreValuesOf p.values vs (p.terms.inputs t)
    → below t vs effects (given v) → IsValueOf p.values v (p.terms.type_of t)
