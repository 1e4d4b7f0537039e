-- Which call asks which, one depth lower, and where a chain of asking ends.
use Rattle.std.specs.Prelude.{◌≡◌, ◌⊎◌, ◌≤ℤ◌, ℕ, zero, suc, true, false, List, [], ◌∷◌, ◌++◌, Option, Some}
use Rattle.isle_rules.specs.Values.{ValueTree, ValueTrees}
use Rattle.isle_rules.specs.TypedRules.{TypedPattern, typed_bind, typed_var, typed_bool, typed_int, typed_prim, typed_term, typed_wildcard}
use Rattle.isle_rules.specs.TypedRules.{typed_and, TypedPatterns, no_typed, more_typed, TypedIfLet, TypedRule}
use Rattle.isle_meaning.specs.Got.{gives}
use Rattle.isle_meaning.specs.Values.{Value, Values}
use Rattle.isle_meaning.specs.ValueTypes.{IsOfType, AreOfTypes}
use Rattle.isle_meaning.specs.GroundValues.{value_of, values_of}
use Rattle.isle_meaning.specs.Facts.{TermShape, variant_shape, struct_shape, declared_shape, TermFacts, patterns}
use Rattle.isle_meaning.specs.Words.{Word, var_word, bool_word, int_word, prim_word, variant_word, struct_word, call_word, Words}
use Rattle.isle_meaning.specs.Words.{no_words, more_words, Step, word_of, steps_of}
use Rattle.isle_meaning.specs.Sites.{Site, argument, extractor_call, constructor_call, sites_of}
use Rattle.isle_meaning.specs.Subtrees.{IsSubtree, IsSubtreeOfOne}
use Rattle.isle_meaning.specs.Held.{held_value, plain, value, values}
use Rattle.isle_meaning.specs.Demands.{parts, bound, iflet_site, args_bound, vars_of}
use Rattle.isle_meaning.specs.Answers.{Completion}
use Rattle.isle_meaning.specs.Matching.{Matches}
use Rattle.isle_meaning.specs.Scopes.{Covers}
use Rattle.isle_meaning.specs.Worlds.{CheckedProgram, Answers, AllowsValue, AllowsOutputs, Event}
use Rattle.isle_meaning.specs.RightSides.{on_got}
use Rattle.isle_meaning.specs.Calls.{Says, Agrees, Makes, IsRuleAt, CoversAll, Means}

-- a call of a constructor or of an extractor, with its arguments
pub data Asked : Type 0 where
  asks_value : ℕ → Values → Asked
  asks_outputs : ℕ → Value → Asked

-- an extractor's call at a site is this site
abbrev pub IsOpenedAt : TermShape → ℕ → Site → Site → Type 0
IsOpenedAt (variant_shape k) t s u = ⊥
IsOpenedAt struct_shape t s u = ⊥
IsOpenedAt declared_shape t s u = u ≡ extractor_call t s

-- the site is an extractor's call that a pattern makes at a site
abbrev mutual
  pub IsSiteOfPattern : TermFacts → TypedPattern → Site → Site → Type 0
  IsSiteOfPattern facts (typed_bind ty k p) s u = IsSiteOfPattern facts p s u
  IsSiteOfPattern facts (typed_var ty k) s u = ⊥
  IsSiteOfPattern facts (typed_bool ty b) s u = ⊥
  IsSiteOfPattern facts (typed_int ty n) s u = ⊥
  IsSiteOfPattern facts (typed_prim ty n) s u = ⊥
  IsSiteOfPattern facts (typed_term ty t ps) s u =
      IsOpenedAt (facts.shape t) t s u ⊎ IsSiteOfPatterns facts ps (parts facts (facts.shape t) t (patterns ps) s) u
  IsSiteOfPattern facts (typed_wildcard ty) s u = ⊥
  IsSiteOfPattern facts (typed_and ty ps) s u = IsSiteOfPatterns facts ps (λ i. s) u

  pub IsSiteOfPatterns : TermFacts → TypedPatterns → (ℕ → Site) → Site → Type 0
  IsSiteOfPatterns facts no_typed at u = ⊥
  IsSiteOfPatterns facts (more_typed p ps) at u = IsSiteOfPattern facts p (at 0) u ⊎ IsSiteOfPatterns facts ps (λ i. at (suc i)) u

-- the site is that of an if-let's expression, or of its pattern
abbrev pub IsSiteOfIfLets : TermFacts → List TypedIfLet → (ℕ → Site) → Site → Type 0
IsSiteOfIfLets facts [] vars u = ⊥
IsSiteOfIfLets facts (x ∷ xs) vars u =
    (u ≡ iflet_site facts vars x) ⊎ IsSiteOfPattern facts x.pattern (iflet_site facts vars x) u
    ⊎ IsSiteOfIfLets facts xs (bound facts x.pattern (iflet_site facts vars x) vars) u

-- the site is one of the rule's patterns or if-lets
abbrev pub IsSiteOfRule : TermFacts → TypedRule → Site → Type 0
IsSiteOfRule facts rule u = IsSiteOfPatterns facts rule.args argument u ⊎ IsSiteOfIfLets facts rule.iflets (args_bound facts rule) u

-- the site is a pure call of this on these arguments
abbrev pub IsCallOn : TermFacts → Completion → Values → Site → Asked → Type 0
IsCallOn facts c args (extractor_call t s) (asks_outputs u v) = (t ≡ u) × (value facts c args [] s ≡ gives (held_value v))
IsCallOn facts c args (constructor_call t ss zero) (asks_value u vs) = (t ≡ u) × (values facts c args [] ss ≡ gives vs)
IsCallOn facts c args s q = ⊥

-- The site is a call of this, pure or with this number, after these answers to impure calls. Its arguments are these, where the completion
-- answers what they ask.
abbrev pub MayBeCallOn : TermFacts → Completion → Values → List (Option Value) → ℕ → Site → Asked → Type 0
MayBeCallOn facts c args done k (extractor_call t s) (asks_outputs u v) = (t ≡ u) × Says (plain (value facts c args done s)) (gives v)
MayBeCallOn facts c args done k (constructor_call t ss i) (asks_value u vs) =
    ((i ≡ 0) ⊎ (i ≡ k)) × (t ≡ u) × Says (values facts c args done ss) (gives vs)
MayBeCallOn facts c args done k s q = ⊥

-- The right side comes to this call after these effects: a step, or a pure call of one's arguments or of the result. Nothing is said past
-- a step whose arguments the completion leaves open.
abbrev pub RightAsks : TermFacts → (Words → Site → Type 0) → Completion → (ℕ → Values → List Event → Option Value → Type 0) → Values
    → (ℕ → Site) → List (Option Value) → List Step → Word → List Event → Site → Asked → Type 0
RightAsks facts IsCall c makes args vars done [] result trace call q =
    (trace ≡ []) × IsCall (more_words result no_words) call × MayBeCallOn facts c args done 0 call q
RightAsks facts IsCall c makes args vars done (s ∷ steps) result trace call q =
    ((trace ≡ []) × ((call ≡ constructor_call s.term (sites_of facts vars s.args) (suc s.place)) ⊎ IsCall s.args call)
    × MayBeCallOn facts c args done (suc s.place) call q)
    ⊎ on_got (values facts c args done (sites_of facts vars s.args)) ⊥ (λ vs.
    (effects : List Event) × (rest : List Event) × (v : Value) × (trace ≡ effects ++ rest) × makes s.term vs effects (Some v)
    × RightAsks facts IsCall c makes args vars (done ++ Some v ∷ []) steps result rest call q)

-- the site is that of a pure call that a word has, where the variables stand for these sites; what they stand for is no part of the word
abbrev mutual
  pub IsCallOfWord : TermFacts → (ℕ → Site) → Word → Site → Type 0
  IsCallOfWord facts vars (var_word k) u = ⊥
  IsCallOfWord facts vars (bool_word ty b) u = ⊥
  IsCallOfWord facts vars (int_word ty n) u = ⊥
  IsCallOfWord facts vars (prim_word n) u = ⊥
  IsCallOfWord facts vars (variant_word ty k ws) u = IsCallOfWords facts vars ws u
  IsCallOfWord facts vars (struct_word ty ws) u = IsCallOfWords facts vars ws u
  IsCallOfWord facts vars (call_word t ws zero) u = (u ≡ constructor_call t (sites_of facts vars ws) zero) ⊎ IsCallOfWords facts vars ws u
  IsCallOfWord facts vars (call_word t ws (suc i)) u = IsCallOfWords facts vars ws u

  pub IsCallOfWords : TermFacts → (ℕ → Site) → Words → Site → Type 0
  IsCallOfWords facts vars no_words u = ⊥
  IsCallOfWords facts vars (more_words w ws) u = IsCallOfWord facts vars w u ⊎ IsCallOfWords facts vars ws u

-- a call that a rule's right side writes
abbrev pub IsWrittenCall : TermFacts → TypedRule → Words → Site → Type 0
IsWrittenCall facts rule ws u = IsCallOfWords facts (vars_of facts rule) ws u

-- a call that the right side needs: one that it writes, or one behind a variable
abbrev pub IsNeededCall : TermFacts → TypedRule → Words → Site → Type 0
IsNeededCall facts rule ws u = IsSubtreeOfOne u (sites_of facts (vars_of facts rule) ws)

-- Of a rule of the term, one of these sites is the call or has it as a subtree, on the same arguments under every completion that covers
-- the rule.
pub record AsksAtSite (p : CheckedProgram) (w : Answers) (IsSite : TypedRule → Site → Type 0) (n t : ℕ) (args : Values) (q : Asked) : Type 0 where
  pub place : ℕ
  pub rule : TypedRule
  pub at : IsRuleAt p t place rule
  pub site : Site
  pub its : IsSite rule site
  pub call : Site
  pub within : IsSubtree call site
  pub fixed : (c : Completion) → Agrees p w (Means p w n) c → Covers p.terms c args rule → IsCallOn p.terms c args call q

-- a rule of the term has the call in its patterns or if-lets, whether or not what stands before it holds
abbrev pub AsksToChoose : CheckedProgram → Answers → ℕ → ℕ → Values → Asked → Type 0
AsksToChoose p w n t args q = AsksAtSite p w (IsSiteOfRule p.terms) n t args q

-- the rule is chosen, and its right side comes to the call, one of these
pub record ChosenAsks (p : CheckedProgram) (below : ℕ → Values → List Event → Option Value → Type 0) (IsCall : Words → Site → Type 0)
    (c : Completion) (t : ℕ) (args : Values) (rule : TypedRule) (trace : List Event) (call : Site) (q : Asked) : Type 0 where
  pub matches : Matches p.terms c args rule
  pub greatest : (i : ℕ) (other : TypedRule) → IsRuleAt p t i other → Matches p.terms c args other → other.priority ≤ℤ rule.priority
  pub asks : RightAsks p.terms IsCall c (Makes p below) args (vars_of p.terms rule) [] (steps_of p.terms rule.right)
      (word_of p.terms rule.right) trace call q

-- the rule that every covering completion chooses comes to the call, one of these of the rule
pub record AsksToFinish (p : CheckedProgram) (w : Answers) (IsCall : TypedRule → Words → Site → Type 0) (n t : ℕ) (args : Values)
    (trace : List Event) (q : Asked) : Type 0 where
  pub place : ℕ
  pub rule : TypedRule
  pub at : IsRuleAt p t place rule
  pub call : Site
  pub fixed : (c : Completion) → Agrees p w (Means p w n) c → CoversAll p c t args
      → ChosenAsks p (Means p w n) (IsCall rule) c t args rule trace call q

-- which calls a term on arguments asks, each at this depth, before a rule is chosen, and then after these effects
pub record Links : Type 1 where
  pub chooses : ℕ → ℕ → Values → Asked → Type 0
  pub finishes : ℕ → ℕ → Values → List Event → Asked → Type 0

-- the links of a plain run, which makes every call of a rule's patterns and if-lets before the rule is chosen
abbrev pub plain_links : CheckedProgram → Answers → Links
plain_links p w = record { chooses = AsksToChoose p w; finishes = AsksToFinish p w (IsWrittenCall p.terms) }

-- A chain of asking, through these effects, from a call with a depth to a call with a depth: each link is one depth lower, and only its
-- last call may be one of a term without rules.
pub data Chain (p : CheckedProgram) (links : Links) : ℕ → Asked → List Event → ℕ → Asked → Type 0 where
  no_link : {n : ℕ} {q : Asked} → Chain p links n q [] n q
  to_choose : {n m t : ℕ} {args : Values} {r q : Asked} {trace : List Event} → p.has_rules t ≡ true → links.chooses n t args r
      → Chain p links n r trace m q → Chain p links (suc n) (asks_value t args) trace m q
  to_finish : {n m t : ℕ} {args : Values} {r q : Asked} (before trace : List Event) → p.has_rules t ≡ true
      → links.finishes n t args before r → Chain p links n r trace m q → Chain p links (suc n) (asks_value t args) (before ++ trace) m q

-- the chain ends at a term that may not fail of which no rule matches, with depth left
pub record EndsStuck (p : CheckedProgram) (w : Answers) (links : Links) (n : ℕ) (from : Asked) (trace : List Event)
    (t : ℕ) (args : Values) : Type 0 where
  pub left : ℕ
  pub chain : Chain p links n from trace (suc left) (asks_value t args)
  pub has_rules : p.has_rules t ≡ true
  pub infallible : p.terms.partial t ≡ false
  pub none : (c : Completion) → Agrees p w (Means p w left) c → CoversAll p c t args → (i : ℕ) (rule : TypedRule) → IsRuleAt p t i rule
      → Matches p.terms c args rule → ⊥

-- the chain has as many links as the depth, all of terms with rules
pub record EndsSpent (p : CheckedProgram) (w : Answers) (links : Links) (n : ℕ) (from : Asked) (trace : List Event) : Type 0 where
  pub last : ℕ
  pub args : Values
  pub chain : Chain p links n from trace 0 (asks_value last args)
  pub has_rules : p.has_rules last ≡ true

-- the chain ends at a pure constructor without rules whose answer isn't allowed
pub record EndsAtConstructor (p : CheckedProgram) (w : Answers) (links : Links) (n : ℕ) (from : Asked) (trace : List Event)
    (t : ℕ) (args : Values) : Type 0 where
  pub left : ℕ
  pub chain : Chain p links n from trace left (asks_value t args)
  pub outside : p.has_rules t ≡ false
  pub pure : p.terms.pure t ≡ true
  pub trees : ValueTrees
  pub typed : AreOfTypes p.values trees (p.terms.inputs t)
  pub stand : values_of p.values trees ≡ args
  pub wrong : AllowsValue p t (w.construct t trees) → ⊥

-- the chain ends at an extractor whose answer isn't allowed
pub record EndsAtExtractor (p : CheckedProgram) (w : Answers) (links : Links) (n : ℕ) (from : Asked) (trace : List Event)
    (t : ℕ) (v : Value) : Type 0 where
  pub left : ℕ
  pub chain : Chain p links n from trace left (asks_outputs t v)
  pub tree : ValueTree
  pub typed : IsOfType p.values tree (p.terms.type_of t)
  pub stands : value_of p.values tree ≡ v
  pub wrong : AllowsOutputs p t (w.extract t tree) → ⊥

-- the chain ends at an effect whose answer isn't allowed, and that is the last one
pub record EndsAtEffect (p : CheckedProgram) (w : Answers) (links : Links) (n : ℕ) (from : Asked) (trace : List Event)
    (t : ℕ) (args : Values) : Type 0 where
  pub left : ℕ
  pub before : List Event
  pub chain : Chain p links n from before left (asks_value t args)
  pub outside : p.has_rules t ≡ false
  pub impure : p.terms.pure t ≡ false
  pub trees : ValueTrees
  pub answer : Option ValueTree
  pub typed : AreOfTypes p.values trees (p.terms.inputs t)
  pub stand : values_of p.values trees ≡ args
  pub last : trace ≡ before ++ record { term = t; args = trees; answer = answer } ∷ []
  pub wrong : AllowsValue p t answer → ⊥

-- how a call ends that isn't answered: at a call of which no rule matches, for want of depth, or at a call without rules whose answer
-- isn't allowed
pub data Ended : Type 0 where
  stuck : ℕ → Values → Ended
  spent : Ended
  ill_typed : Asked → Ended

abbrev pub IsIllTypedAt : CheckedProgram → Answers → Links → ℕ → Asked → List Event → Asked → Type 0
IsIllTypedAt p w links n from trace (asks_value t args) = EndsAtConstructor p w links n from trace t args ⊎ EndsAtEffect p w links n from trace t args
IsIllTypedAt p w links n from trace (asks_outputs t v) = EndsAtExtractor p w links n from trace t v

-- a chain of asking ends so
abbrev pub EndsAt : CheckedProgram → Answers → Links → ℕ → Asked → List Event → Ended → Type 0
EndsAt p w links n from trace (stuck t args) = EndsStuck p w links n from trace t args
EndsAt p w links n from trace spent = EndsSpent p w links n from trace
EndsAt p w links n from trace (ill_typed q) = IsIllTypedAt p w links n from trace q
