-- When a rule of a term without `multi` matches, under answers to the pure calls. No sites.
use Rattle.std.specs.Prelude.{◌≡◌, ℕ, List, [], ◌∷◌, Option}
use Rattle.isle_meaning.specs.Values.{Value, bool_value, int_value, constant_value, made_variant, made_struct, Values, no_values}
use Rattle.isle_meaning.specs.Got.{Got, gives}
use Rattle.isle_meaning.specs.Values.{more_values, more, made, built, ask}
use Rattle.isle_rules.specs.TypedRules.{TypedPattern, typed_bind, typed_var, typed_bool, typed_int, typed_prim, typed_term, typed_wildcard}
use Rattle.isle_rules.specs.TypedRules.{typed_and, TypedPatterns, no_typed, more_typed, TypedIfLet, TypedRule}
use Rattle.isle_meaning.specs.Facts.{TermShape, variant_shape, struct_shape, declared_shape, TermFacts}
use Rattle.isle_meaning.specs.Words.{Word, var_word, bool_word, int_word, prim_word, variant_word, struct_word, call_word, Words}
use Rattle.isle_meaning.specs.Words.{no_words, more_words, word_of}
use Rattle.isle_meaning.specs.Answers.{Completion, answer_of}

-- what a word gives, where the variables have these values and the impure calls so far were answered so
abbrev mutual
  pub word_value : Completion → (ℕ → Value) → List (Option Value) → Word → Got Value
  word_value c a done (var_word k) = gives (a k)
  word_value c a done (bool_word ty b) = gives (bool_value b)
  word_value c a done (int_word ty n) = gives (int_value n)
  word_value c a done (prim_word n) = gives (constant_value n)
  word_value c a done (variant_word ty k ws) = made ty k (word_values c a done ws)
  word_value c a done (struct_word ty ws) = built ty (word_values c a done ws)
  word_value c a done (call_word t ws i) = ask (answer_of c done t i) (word_values c a done ws)

  pub word_values : Completion → (ℕ → Value) → List (Option Value) → Words → Got Values
  word_values c a done no_words = gives no_values
  word_values c a done (more_words w ws) = more (word_value c a done w) (word_values c a done ws)

-- the value opens into these: it is that variant or struct of them, or the extractor gives them
abbrev pub OpensInto : Completion → TermShape → ℕ → ℕ → Value → Values → Type 0
OpensInto c (variant_shape k) ty t v vs = v ≡ made_variant ty k vs
OpensInto c struct_shape ty t v vs = v ≡ made_struct ty vs
OpensInto c declared_shape ty t v vs = c.extract t v ≡ gives vs

-- A pattern fits a value, where the variables have these values.
abbrev mutual
  pub Fits : TermFacts → Completion → (ℕ → Value) → TypedPattern → Value → Type 0
  Fits facts c a (typed_bind ty k p) v = (a k ≡ v) × Fits facts c a p v
  Fits facts c a (typed_var ty k) v = a k ≡ v
  Fits facts c a (typed_bool ty b) v = v ≡ bool_value b
  Fits facts c a (typed_int ty n) v = v ≡ int_value n
  Fits facts c a (typed_prim ty n) v = v ≡ constant_value n
  Fits facts c a (typed_term ty t ps) v = (vs : Values) × OpensInto c (facts.shape t) ty t v vs × FitsAll facts c a ps vs
  Fits facts c a (typed_wildcard ty) v = Unit {0}
  Fits facts c a (typed_and ty ps) v = FitsEach facts c a ps v

  -- each fits the value at its place
  pub FitsAll : TermFacts → Completion → (ℕ → Value) → TypedPatterns → Values → Type 0
  FitsAll facts c a no_typed no_values = Unit {0}
  FitsAll facts c a no_typed (more_values x xs) = ⊥
  FitsAll facts c a (more_typed p ps) no_values = ⊥
  FitsAll facts c a (more_typed p ps) (more_values x xs) = Fits facts c a p x × FitsAll facts c a ps xs

  -- each fits the one value
  pub FitsEach : TermFacts → Completion → (ℕ → Value) → TypedPatterns → Value → Type 0
  FitsEach facts c a no_typed v = Unit {0}
  FitsEach facts c a (more_typed p ps) v = Fits facts c a p v × FitsEach facts c a ps v

-- each expression has a value that its pattern fits
abbrev pub IfLetsHold : TermFacts → Completion → (ℕ → Value) → List TypedIfLet → Type 0
IfLetsHold facts c a [] = Unit {0}
IfLetsHold facts c a (x ∷ xs) =
    ((v : Value) × (word_value c a [] (word_of facts x.value) ≡ gives v) × Fits facts c a x.pattern v) × IfLetsHold facts c a xs

-- the rule matches, where its variables have these values
abbrev pub MatchesWith : TermFacts → Completion → Values → TypedRule → (ℕ → Value) → Type 0
MatchesWith facts c args rule a = FitsAll facts c a rule.args args × IfLetsHold facts c a rule.iflets

-- some assignment of the rule's variables makes every pattern fit and every if-let hold
abbrev pub Matches : TermFacts → Completion → Values → TypedRule → Type 0
Matches facts c args rule = (a : ℕ → Value) × MatchesWith facts c args rule a
