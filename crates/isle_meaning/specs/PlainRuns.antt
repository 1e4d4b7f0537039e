-- The plain run of a call: its term's rules are tried one by one, by descending priority, then in the order of the texts.
use Rattle.std.specs.Prelude.{◌≡◌, ◌≢◌, ◌⊎◌, ◌<◌, ◌<ℤ◌, ◌↔◌, ℕ, zero, suc, false, List, [], ◌∷◌, ◌++◌, Option, Some, slice_get, Contains}
use Rattle.isle_rules.specs.TypedRules.{TypedPattern, typed_bind, typed_var, typed_bool, typed_int, typed_prim, typed_term, typed_wildcard}
use Rattle.isle_rules.specs.TypedRules.{typed_and, TypedPatterns, no_typed, more_typed, TypedIfLet, TypedRule}
use Rattle.isle_meaning.specs.Values.{Value, Values, bool_value, int_value, constant_value, made_variant, made_struct, no_values, more_values}
use Rattle.isle_meaning.specs.Facts.{TermShape, variant_shape, struct_shape, declared_shape}
use Rattle.isle_meaning.specs.Words.{Word, var_word, bool_word, int_word, prim_word, variant_word, struct_word, call_word, Words}
use Rattle.isle_meaning.specs.Words.{no_words, more_words, Step, set, word_of, steps_of}
use Rattle.isle_meaning.specs.Worlds.{CheckedProgram, Answers, Event}
use Rattle.isle_meaning.specs.Calls.{IsRuleAt}
use Rattle.isle_meaning.specs.Outcomes.{Outcome, given, missing, ended, After, WorldExtracts, PureRuns, ImpureRuns, Then, unmatched}
use Rattle.isle_meaning.specs.Asking.{spent}

-- An expression is read from left to right, arguments first, its `let`s written out; each call is made where it is met, and the first
-- that comes to no value ends it. The variables have these values, and the impure calls so far these answers.
abbrev mutual
  pub WordRuns : CheckedProgram → Answers → (ℕ → Values → List Event → Outcome Value → Type 0) → (ℕ → Value)
      → List (Option Value) → Word → Outcome Value → Type 0
  WordRuns p w below a done (var_word k) r = r ≡ given (a k)
  WordRuns p w below a done (bool_word ty b) r = r ≡ given (bool_value b)
  WordRuns p w below a done (int_word ty n) r = r ≡ given (int_value n)
  WordRuns p w below a done (prim_word n) r = r ≡ given (constant_value n)
  WordRuns p w below a done (variant_word ty k ws) r =
      (g : Outcome Values) × WordsRun p w below a done ws g × After g (λ vs r. r ≡ given (made_variant ty k vs)) r
  WordRuns p w below a done (struct_word ty ws) r =
      (g : Outcome Values) × WordsRun p w below a done ws g × After g (λ vs r. r ≡ given (made_struct ty vs)) r
  WordRuns p w below a done (call_word t ws zero) r =
      (g : Outcome Values) × WordsRun p w below a done ws g × After g (PureRuns p w below t) r
  WordRuns p w below a done (call_word t ws (suc i)) r =
      (g : Outcome Values) × WordsRun p w below a done ws g × After g (λ vs r. (v : Value) × (slice_get done i ≡ Some (Some v)) × (r ≡ given v)) r

  pub WordsRun : CheckedProgram → Answers → (ℕ → Values → List Event → Outcome Value → Type 0) → (ℕ → Value)
      → List (Option Value) → Words → Outcome Values → Type 0
  WordsRun p w below a done no_words r = r ≡ given no_values
  WordsRun p w below a done (more_words x xs) r =
      (g : Outcome Value) × WordRuns p w below a done x g × After g (λ v r. (h : Outcome Values) × WordsRun p w below a done xs h
      × After h (λ vs r. r ≡ given (more_values v vs)) r) r

-- a test is passed, or the rule is left
abbrev pub Tests : Type 0 → (ℕ → Value) → Outcome (ℕ → Value) → Type 0
Tests passes a r = (passes × (r ≡ given a)) ⊎ ((passes → ⊥) × (r ≡ missing))

-- a variant or a struct is opened, an extractor is called; then its parts are read
abbrev pub OpenRuns : CheckedProgram → Answers → TermShape → ℕ → ℕ → Value → (Values → Outcome (ℕ → Value) → Type 0) → Outcome (ℕ → Value) → Type 0
OpenRuns p w (variant_shape k) ty t v parts r =
    ((vs : Values) × (v ≡ made_variant ty k vs) × parts vs r) ⊎ (((vs : Values) → v ≢ made_variant ty k vs) × (r ≡ missing))
OpenRuns p w struct_shape ty t v parts r =
    ((vs : Values) × (v ≡ made_struct ty vs) × parts vs r) ⊎ (((vs : Values) → v ≢ made_struct ty vs) × (r ≡ missing))
OpenRuns p w declared_shape ty t v parts r = (g : Outcome Values) × WorldExtracts p w t v g × After g parts r

-- A pattern is read from left to right, and gives its variables values; the rule is left where it doesn't fit.
abbrev mutual
  pub PatternRuns : CheckedProgram → Answers → (ℕ → Value) → TypedPattern → Value → Outcome (ℕ → Value) → Type 0
  PatternRuns p w a (typed_bind ty k q) v r =
      (s : Outcome (ℕ → Value)) × PatternRuns p w a q v s × After s (λ b r. r ≡ given (set b k v)) r
  PatternRuns p w a (typed_var ty k) v r = Tests (a k ≡ v) a r
  PatternRuns p w a (typed_bool ty b) v r = Tests (v ≡ bool_value b) a r
  PatternRuns p w a (typed_int ty n) v r = Tests (v ≡ int_value n) a r
  PatternRuns p w a (typed_prim ty n) v r = Tests (v ≡ constant_value n) a r
  PatternRuns p w a (typed_term ty t ps) v r = OpenRuns p w (p.terms.shape t) ty t v (λ vs r. PatternsRun p w a ps vs r) r
  PatternRuns p w a (typed_wildcard ty) v r = r ≡ given a
  PatternRuns p w a (typed_and ty ps) v r = EachRuns p w a ps v r

  -- each on the value at its place
  pub PatternsRun : CheckedProgram → Answers → (ℕ → Value) → TypedPatterns → Values → Outcome (ℕ → Value) → Type 0
  PatternsRun p w a no_typed no_values r = r ≡ given a
  PatternsRun p w a no_typed (more_values v vs) r = r ≡ missing
  PatternsRun p w a (more_typed q qs) no_values r = r ≡ missing
  PatternsRun p w a (more_typed q qs) (more_values v vs) r =
      (s : Outcome (ℕ → Value)) × PatternRuns p w a q v s × After s (λ b r. PatternsRun p w b qs vs r) r

  -- each on the one value
  pub EachRuns : CheckedProgram → Answers → (ℕ → Value) → TypedPatterns → Value → Outcome (ℕ → Value) → Type 0
  EachRuns p w a no_typed v r = r ≡ given a
  EachRuns p w a (more_typed q qs) v r =
      (s : Outcome (ℕ → Value)) × PatternRuns p w a q v s × After s (λ b r. EachRuns p w b qs v r) r

-- each if-let in turn: its expression, then its pattern on that value
abbrev pub IfLetsRun : CheckedProgram → Answers → (ℕ → Values → List Event → Outcome Value → Type 0) → (ℕ → Value)
    → List TypedIfLet → Outcome (ℕ → Value) → Type 0
IfLetsRun p w below a [] r = r ≡ given a
IfLetsRun p w below a (x ∷ xs) r =
    (g : Outcome Value) × WordRuns p w below a [] (word_of p.terms x.value) g
    × After g (λ v r. (s : Outcome (ℕ → Value)) × PatternRuns p w a x.pattern v s × After s (λ b r. IfLetsRun p w below b xs r) r) r

-- no variable has a value yet
abbrev pub no_variables : ℕ → Value
no_variables k = bool_value false

-- a rule is tried: its patterns, then its if-lets
abbrev pub RuleRuns : CheckedProgram → Answers → (ℕ → Values → List Event → Outcome Value → Type 0) → Values
    → TypedRule → Outcome (ℕ → Value) → Type 0
RuleRuns p w below args rule r =
    (s : Outcome (ℕ → Value)) × PatternsRun p w no_variables rule.args args s × After s (λ a r. IfLetsRun p w below a rule.iflets r) r

-- a right side: its impure calls in order, each after the pure calls that its arguments need, then its result
abbrev pub RightRuns : CheckedProgram → Answers → (ℕ → Values → List Event → Outcome Value → Type 0) → (ℕ → Value)
    → List (Option Value) → List Step → Word
    → List Event → Outcome Value → Type 0
RightRuns p w below a done [] result trace r = (trace ≡ []) × WordRuns p w below a done result r
RightRuns p w below a done (s ∷ steps) result trace r =
    (g : Outcome Values) × WordsRun p w below a done s.args g × Then g (λ vs trace r.
    (effects : List Event) × (rest : List Event) × (b : Outcome Value) × (trace ≡ effects ++ rest) × ImpureRuns p below s.term vs effects b
    × Then b (λ v rest r. RightRuns p w below a (done ++ Some v ∷ []) steps result rest r) rest r) trace r

-- what follows when a rule was tried: the next is tried only where it was left; `steps` counts the rules tried
abbrev pub Tried : Outcome (ℕ → Value) → ((ℕ → Value) → List Event → Outcome Value → Type 0) → (ℕ → List Event → Outcome Value → Type 0)
    → ℕ → List Event → Outcome Value → Type 0
Tried (given a) right others steps trace r = (steps ≡ 1) × right a trace r
Tried missing right others steps trace r = (more : ℕ) × (steps ≡ suc more) × others more trace r
Tried (ended e) right others steps trace r = (steps ≡ 1) × (trace ≡ []) × (r ≡ ended e)

-- rules, by their places in the texts, in turn
abbrev pub RulesRun : CheckedProgram → Answers → (ℕ → Values → List Event → Outcome Value → Type 0) → ℕ → Values
    → List ℕ → ℕ → List Event → Outcome Value → Type 0
RulesRun p w below t args [] steps trace r = (steps ≡ 0) × (trace ≡ []) × (r ≡ unmatched (p.terms.partial t) t args)
RulesRun p w below t args (i ∷ is) steps trace r =
    (rule : TypedRule) × (slice_get p.rules i ≡ Some rule) × (s : Outcome (ℕ → Value)) × RuleRuns p w below args rule s
    × Tried s (λ a trace r. RightRuns p w below a [] (steps_of p.terms rule.right) (word_of p.terms rule.right) trace r)
    (RulesRun p w below t args is) steps trace r

-- one rule is tried before another: its priority is greater, or it is the same and the rule stands before
abbrev pub IsTriedBefore : ℕ → TypedRule → ℕ → TypedRule → Type 0
IsTriedBefore i one j other = (other.priority <ℤ one.priority) ⊎ ((one.priority ≡ other.priority) × (i < j))

-- the places of a term's rules, in the order in which they are tried
pub record AreTriedInOrder (p : CheckedProgram) (t : ℕ) (places : List ℕ) : Type 0 where
  pub all : (i : ℕ) → Contains places i ↔ ((rule : TypedRule) × IsRuleAt p t i rule)
  pub order : (k l i j : ℕ) (one other : TypedRule) → k < l → slice_get places k ≡ Some i → slice_get places l ≡ Some j
      → slice_get p.rules i ≡ Some one → slice_get p.rules j ≡ Some other → IsTriedBefore i one j other

-- A call of a term with rules at a depth tries so many rules, makes these effects, and comes to this.
abbrev pub PlainRun : CheckedProgram → Answers → ℕ → ℕ → Values → ℕ → List Event → Outcome Value → Type 0
PlainRun p w zero t args steps trace r = (steps ≡ 0) × (trace ≡ []) × (r ≡ ended spent)
PlainRun p w (suc n) t args steps trace r = (places : List ℕ) × AreTriedInOrder p t places
    × RulesRun p w (λ u vs effects q. (tried : ℕ) × PlainRun p w n u vs tried effects q) t args places steps trace r
