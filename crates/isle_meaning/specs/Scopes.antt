-- What elaboration gives of a rule's variables and calls, and which completions answer what a rule asks.
use Rattle.std.specs.Prelude.{◌≡◌, ◌⊎◌, ℕ, suc, false, List, [], ◌∷◌, length}
use Rattle.isle_meaning.specs.Values.{Values}
use Rattle.isle_rules.specs.TypedRules.{TypedPattern, typed_bind, typed_var, typed_bool, typed_int, typed_prim, typed_term, typed_wildcard}
use Rattle.isle_rules.specs.TypedRules.{typed_and, TypedPatterns, no_typed, more_typed, TypedExpr, built_var, built_bool, built_int}
use Rattle.isle_rules.specs.TypedRules.{built_prim, built_term, built_let, TypedExprs, no_built, more_built, TypedBindings, no_typed_bindings}
use Rattle.isle_rules.specs.TypedRules.{more_typed_bindings, TypedIfLet, TypedRule}
use Rattle.isle_meaning.specs.Facts.{TermShape, variant_shape, struct_shape, declared_shape, TermFacts, patterns}
use Rattle.isle_meaning.specs.Words.{Word, var_word, bool_word, int_word, prim_word, variant_word, struct_word, call_word, Words}
use Rattle.isle_meaning.specs.Words.{no_words, more_words}
use Rattle.isle_meaning.specs.Answers.{Completion}
use Rattle.isle_meaning.specs.Sites.{Site, argument, extractor_call}
use Rattle.isle_meaning.specs.Held.{IsAnswered}
use Rattle.isle_meaning.specs.Demands.{parts, bound, iflet_site, args_bound}

-- the variables that are bound after a pattern
abbrev mutual
  pub scope : TypedPattern → (ℕ → Type 0) → ℕ → Type 0
  scope (typed_bind ty j p) S = λ k. (k ≡ j) ⊎ scope p S k
  scope (typed_var ty j) S = S
  scope (typed_bool ty b) S = S
  scope (typed_int ty n) S = S
  scope (typed_prim ty n) S = S
  scope (typed_term ty t ps) S = scope_all ps S
  scope (typed_wildcard ty) S = S
  scope (typed_and ty ps) S = scope_all ps S

  pub scope_all : TypedPatterns → (ℕ → Type 0) → ℕ → Type 0
  scope_all no_typed S = S
  scope_all (more_typed p ps) S = scope_all ps (scope p S)

abbrev pub iflets_scope : List TypedIfLet → (ℕ → Type 0) → ℕ → Type 0
iflets_scope [] S = S
iflets_scope (x ∷ xs) S = iflets_scope xs (scope x.pattern S)

-- an extractor has a part for each output, and isn't `multi`
abbrev pub IsWellOpened : TermFacts → TermShape → ℕ → ℕ → Type 0
IsWellOpened facts (variant_shape k) t n = Unit {0}
IsWellOpened facts struct_shape t n = Unit {0}
IsWellOpened facts declared_shape t n = (n ≡ length (facts.inputs t)) × (facts.multi t ≡ false)

-- each variable that a pattern reads is bound before, and each that it binds is new
abbrev mutual
  pub IsWellScoped : TermFacts → TypedPattern → (ℕ → Type 0) → Type 0
  IsWellScoped facts (typed_bind ty k p) S = IsWellScoped facts p S × (scope p S k → ⊥)
  IsWellScoped facts (typed_var ty k) S = S k
  IsWellScoped facts (typed_bool ty b) S = Unit {0}
  IsWellScoped facts (typed_int ty n) S = Unit {0}
  IsWellScoped facts (typed_prim ty n) S = Unit {0}
  IsWellScoped facts (typed_term ty t ps) S = IsWellOpened facts (facts.shape t) t (patterns ps) × AreWellScoped facts ps S
  IsWellScoped facts (typed_wildcard ty) S = Unit {0}
  IsWellScoped facts (typed_and ty ps) S = AreWellScoped facts ps S

  pub AreWellScoped : TermFacts → TypedPatterns → (ℕ → Type 0) → Type 0
  AreWellScoped facts no_typed S = Unit {0}
  AreWellScoped facts (more_typed p ps) S = IsWellScoped facts p S × AreWellScoped facts ps (scope p S)

-- a word reads only these variables, and calls no `multi` term
abbrev mutual
  pub Reads : TermFacts → Word → (ℕ → Type 0) → Type 0
  Reads facts (var_word k) S = S k
  Reads facts (bool_word ty b) S = Unit {0}
  Reads facts (int_word ty n) S = Unit {0}
  Reads facts (prim_word n) S = Unit {0}
  Reads facts (variant_word ty k ws) S = ReadAll facts ws S
  Reads facts (struct_word ty ws) S = ReadAll facts ws S
  Reads facts (call_word t ws i) S = (facts.multi t ≡ false) × ReadAll facts ws S

  pub ReadAll : TermFacts → Words → (ℕ → Type 0) → Type 0
  ReadAll facts no_words S = Unit {0}
  ReadAll facts (more_words w ws) S = Reads facts w S × ReadAll facts ws S

abbrev pub IsSingle : TermFacts → TermShape → ℕ → Type 0
IsSingle facts (variant_shape k) t = Unit {0}
IsSingle facts struct_shape t = Unit {0}
IsSingle facts declared_shape t = facts.multi t ≡ false

-- the variables inside a `let`
abbrev pub let_scope : TypedBindings → (ℕ → Type 0) → ℕ → Type 0
let_scope no_typed_bindings S = S
let_scope (more_typed_bindings k ty e bs) S = let_scope bs (λ j. (j ≡ k) ⊎ S j)

-- an expression reads only these variables and those that a `let` around them binds, and calls no `multi` term
abbrev mutual
  pub ReadsExpr : TermFacts → TypedExpr → (ℕ → Type 0) → Type 0
  ReadsExpr facts (built_var ty k) S = S k
  ReadsExpr facts (built_bool ty b) S = Unit {0}
  ReadsExpr facts (built_int ty n) S = Unit {0}
  ReadsExpr facts (built_prim ty n) S = Unit {0}
  ReadsExpr facts (built_term ty t es) S = IsSingle facts (facts.shape t) t × ReadExprs facts es S
  ReadsExpr facts (built_let ty bs body) S = ReadsLets facts bs S × ReadsExpr facts body (let_scope bs S)

  pub ReadExprs : TermFacts → TypedExprs → (ℕ → Type 0) → Type 0
  ReadExprs facts no_built S = Unit {0}
  ReadExprs facts (more_built e es) S = ReadsExpr facts e S × ReadExprs facts es S

  pub ReadsLets : TermFacts → TypedBindings → (ℕ → Type 0) → Type 0
  ReadsLets facts no_typed_bindings S = Unit {0}
  ReadsLets facts (more_typed_bindings k ty e bs) S = ReadsExpr facts e S × ReadsLets facts bs (λ j. (j ≡ k) ⊎ S j)

abbrev pub IfLetsAreWellScoped : TermFacts → List TypedIfLet → (ℕ → Type 0) → Type 0
IfLetsAreWellScoped facts [] S = Unit {0}
IfLetsAreWellScoped facts (x ∷ xs) S =
    ReadsExpr facts x.value S × IsWellScoped facts x.pattern S × IfLetsAreWellScoped facts xs (scope x.pattern S)

abbrev pub none : ℕ → Type 0
none k = ⊥

-- the variables of a rule's patterns
abbrev pub scope_of : TypedRule → ℕ → Type 0
scope_of rule = iflets_scope rule.iflets (scope_all rule.args none)

-- what elaboration gives of a rule that asks no `multi` term
pub record IsWellScopedRule (facts : TermFacts) (rule : TypedRule) : Type 0 where
  pub args : AreWellScoped facts rule.args none
  pub iflets : IfLetsAreWellScoped facts rule.iflets (scope_all rule.args none)
  pub right : ReadsExpr facts rule.right (scope_of rule)

-- no term of a pattern is `multi`
abbrev mutual
  pub TakesOne : TermFacts → TypedPattern → Type 0
  TakesOne facts (typed_bind ty k p) = TakesOne facts p
  TakesOne facts (typed_var ty k) = Unit {0}
  TakesOne facts (typed_bool ty b) = Unit {0}
  TakesOne facts (typed_int ty n) = Unit {0}
  TakesOne facts (typed_prim ty n) = Unit {0}
  TakesOne facts (typed_term ty t ps) = (facts.multi t ≡ false) × TakeOneEach facts ps
  TakesOne facts (typed_wildcard ty) = Unit {0}
  TakesOne facts (typed_and ty ps) = TakeOneEach facts ps

  pub TakeOneEach : TermFacts → TypedPatterns → Type 0
  TakeOneEach facts no_typed = Unit {0}
  TakeOneEach facts (more_typed p ps) = TakesOne facts p × TakeOneEach facts ps

-- nor one of a condition's pattern
abbrev pub IfLetsTakeOne : TermFacts → List TypedIfLet → Type 0
IfLetsTakeOne facts [] = Unit {0}
IfLetsTakeOne facts (x ∷ xs) = TakesOne facts x.pattern × IfLetsTakeOne facts xs

-- no pattern of a rule asks a `multi` extractor
abbrev pub RuleTakesOne : TermFacts → TypedRule → Type 0
RuleTakesOne facts rule = TakeOneEach facts rule.args × IfLetsTakeOne facts rule.iflets

-- this holds of the extractor's call
abbrev pub OfCall : (Site → Type 0) → TermShape → ℕ → Site → Type 0
OfCall A (variant_shape k) t s = Unit {0}
OfCall A struct_shape t s = Unit {0}
OfCall A declared_shape t s = A (extractor_call t s)

-- this holds of the extractor calls that a pattern makes at a site
abbrev mutual
  pub OfCalls : TermFacts → (Site → Type 0) → TypedPattern → Site → Type 0
  OfCalls facts A (typed_bind ty k p) s = OfCalls facts A p s
  OfCalls facts A (typed_var ty k) s = Unit {0}
  OfCalls facts A (typed_bool ty b) s = Unit {0}
  OfCalls facts A (typed_int ty n) s = Unit {0}
  OfCalls facts A (typed_prim ty n) s = Unit {0}
  OfCalls facts A (typed_term ty t ps) s =
      OfCall A (facts.shape t) t s × OfAllCalls facts A ps (parts facts (facts.shape t) t (patterns ps) s)
  OfCalls facts A (typed_wildcard ty) s = Unit {0}
  OfCalls facts A (typed_and ty ps) s = OfAllCalls facts A ps (λ i. s)

  pub OfAllCalls : TermFacts → (Site → Type 0) → TypedPatterns → (ℕ → Site) → Type 0
  OfAllCalls facts A no_typed at = Unit {0}
  OfAllCalls facts A (more_typed p ps) at = OfCalls facts A p (at 0) × OfAllCalls facts A ps (λ i. at (suc i))

-- and of the sites of the if-lets' expressions
abbrev pub OfIfLets : TermFacts → (Site → Type 0) → List TypedIfLet → (ℕ → Site) → Type 0
OfIfLets facts A [] vars = Unit {0}
OfIfLets facts A (x ∷ xs) vars =
    A (iflet_site facts vars x) × OfCalls facts A x.pattern (iflet_site facts vars x)
    × OfIfLets facts A xs (bound facts x.pattern (iflet_site facts vars x) vars)

-- The completion answers each pure call that a rule's patterns and if-lets have and whose arguments have values, whether or not
-- what stands before it holds.
abbrev pub Covers : TermFacts → Completion → Values → TypedRule → Type 0
Covers facts c args rule =
    OfAllCalls facts (IsAnswered facts c args []) rule.args argument
    × OfIfLets facts (IsAnswered facts c args []) rule.iflets (args_bound facts rule)
