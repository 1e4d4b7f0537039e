-- Laws of the meaning of a call at a depth, and of chains of asking.
use Rattle.std.specs.Prelude.{◌≡◌, ◌≢◌, ◌⊎◌, ℕ, suc, Bool, true, false, List, [], ◌∷◌, ◌++◌, Option, Some, None, slice_get}
use Rattle.isle_rules.specs.Values.{ValueTree}
use Rattle.isle_rules.specs.TypedRules.{TypedExpr, built_var, built_bool, built_int, built_prim, built_term, built_let, TypedExprs}
use Rattle.isle_rules.specs.TypedRules.{no_built, more_built, TypedBindings, no_typed_bindings, more_typed_bindings, TypedIfLet, TypedRule}
use Rattle.isle_rules.specs.TypedRules.{TypedPattern, typed_bind, typed_var, typed_bool, typed_int, typed_prim, typed_term, typed_wildcard}
use Rattle.isle_rules.specs.TypedRules.{typed_and, TypedPatterns, no_typed, more_typed}
use Rattle.isle_meaning.specs.Facts.{TermShape, variant_shape, struct_shape, declared_shape, TermFacts, facts_of}
use Rattle.isle_meaning.specs.Got.{unknown}
use Rattle.isle_meaning.specs.Values.{Value, Values}
use Rattle.isle_meaning.specs.ValueTypes.{IsOfType}
use Rattle.isle_meaning.specs.GroundValues.{value_of, IsValueOf, AreValuesOf}
use Rattle.isle_meaning.specs.Answers.{Completion}
use Rattle.isle_meaning.specs.Faults.{Overlaps}
use Rattle.isle_meaning.specs.Demands.{DemandOf}
use Rattle.isle_rules.specs.Signatures.{Declared}
use Rattle.isle_rules.specs.SoundRules.WellTyped.{IsTypedRule}
use Rattle.isle_meaning.specs.Matching.{Matches}
use Rattle.isle_meaning.specs.Sites.{Site}
use Rattle.isle_meaning.specs.Worlds.{CheckedProgram, Answers, Event}
use Rattle.isle_meaning.specs.Calls.{Agrees, IsRuleAt, CoversAll, Means}
use Rattle.isle_meaning.specs.Asking.{Asked, plain_links, Chain, Ended, spent, EndsAt}
use Rattle.isle_meaning.specs.Outcomes.{Outcome}
use Rattle.isle_meaning.specs.SoundPrograms.{HasSoundData, IsSound}

-- What a call means at a depth it means at the next.
abbrev pub MeaningStays : Type 0
MeaningStays = (p : CheckedProgram) (w : Answers) (n t : ℕ) (args : Values) (trace : List Event) (answer : Option Value)
    → Means p w n t args trace answer → Means p w (suc n) t args trace answer

-- Two chains of asking join, one after the other.
abbrev pub ChainsJoin : Type 0
ChainsJoin = (p : CheckedProgram) (w : Answers) (n m k : ℕ) (from mid to : Asked) (one other : List Event)
    → Chain p (plain_links p w) n from one m mid → Chain p (plain_links p w) m mid other k to
    → Chain p (plain_links p w) n from (one ++ other) k to

-- A chain is one at the next depth, with more depth left.
abbrev pub ChainStays : Type 0
ChainStays = (p : CheckedProgram) (w : Answers) (n m : ℕ) (from to : Asked) (trace : List Event)
    → Chain p (plain_links p w) n from trace m to → Chain p (plain_links p w) (suc n) from trace (suc m) to

-- So is the end of one, but for want of depth.
abbrev pub EndStays : Type 0
EndStays = (p : CheckedProgram) (w : Answers) (n : ℕ) (from : Asked) (trace : List Event) (e : Ended) → e ≢ spent
    → EndsAt p w (plain_links p w) n from trace e → EndsAt p w (plain_links p w) (suc n) from trace e

-- One value of a type has one tree.
abbrev pub TreesAreOne : Type 0
TreesAreOne = (p : CheckedProgram) → HasSoundData p → (a b : ValueTree) (ty : ℕ) → IsOfType p.values a ty → IsOfType p.values b ty
    → value_of p.values a ≡ value_of p.values b → a ≡ b

-- the effects first differ in the world's answer to the same call
pub record FirstDiffer (one other : List Event) : Type 0 where
  pub shared : List Event
  pub here : Event
  pub there : Event
  pub more : List Event
  pub others : List Event
  pub one_is : one ≡ shared ++ here ∷ more
  pub other_is : other ≡ shared ++ there ∷ others
  pub term : here.term ≡ there.term
  pub args : here.args ≡ there.args
  pub answer : here.answer ≢ there.answer

-- the same effects and answers, or effects that first differ in the world's answer
abbrev pub AreOne : List Event → Option Value → List Event → Option Value → Type 0
AreOne one x other y = ((one ≡ other) × (x ≡ y)) ⊎ FirstDiffer one other

-- the same steps, effects and outcome of two runs, or effects that first differ in the world's answer to the same call
abbrev pub AreOneRun : ℕ → List Event → Outcome Value → ℕ → List Event → Outcome Value → Type 0
AreOneRun m one r n other q = ((m ≡ n) × (one ≡ other) × (r ≡ q)) ⊎ FirstDiffer one other

-- two matching rules of one term and one priority are one
abbrev pub HasNoTies : CheckedProgram → (ℕ → Type 0) → Type 0
HasNoTies p R = (c : Completion) (t : ℕ) (args : Values) (i j : ℕ) (one other : TypedRule) → R t → IsRuleAt p t i one
    → IsRuleAt p t j other
    → Matches p.terms c args one → Matches p.terms c args other → one.priority ≡ other.priority → one ≡ other

-- a declared term is one of these
abbrev pub CallOf : (ℕ → Type 0) → TermShape → ℕ → Type 0
CallOf Q (variant_shape k) t = Unit {0}
CallOf Q struct_shape t = Unit {0}
CallOf Q declared_shape t = Q t

-- the declared terms that an expression calls are of these
abbrev mutual
  pub ExprCalls : TermFacts → (ℕ → Type 0) → TypedExpr → Type 0
  ExprCalls facts Q (built_var ty k) = Unit {0}
  ExprCalls facts Q (built_bool ty b) = Unit {0}
  ExprCalls facts Q (built_int ty n) = Unit {0}
  ExprCalls facts Q (built_prim ty n) = Unit {0}
  ExprCalls facts Q (built_term ty t es) = CallOf Q (facts.shape t) t × ExprsCall facts Q es
  ExprCalls facts Q (built_let ty bs body) = BindingsCall facts Q bs × ExprCalls facts Q body

  pub ExprsCall : TermFacts → (ℕ → Type 0) → TypedExprs → Type 0
  ExprsCall facts Q no_built = Unit {0}
  ExprsCall facts Q (more_built e es) = ExprCalls facts Q e × ExprsCall facts Q es

  pub BindingsCall : TermFacts → (ℕ → Type 0) → TypedBindings → Type 0
  BindingsCall facts Q no_typed_bindings = Unit {0}
  BindingsCall facts Q (more_typed_bindings k ty e bs) = ExprCalls facts Q e × BindingsCall facts Q bs

-- so are the declared terms by which a pattern takes values apart
abbrev mutual
  pub PatternCalls : TermFacts → (ℕ → Type 0) → TypedPattern → Type 0
  PatternCalls facts Q (typed_bind ty k p) = PatternCalls facts Q p
  PatternCalls facts Q (typed_var ty k) = Unit {0}
  PatternCalls facts Q (typed_bool ty b) = Unit {0}
  PatternCalls facts Q (typed_int ty n) = Unit {0}
  PatternCalls facts Q (typed_prim ty n) = Unit {0}
  PatternCalls facts Q (typed_term ty t ps) = CallOf Q (facts.shape t) t × PatternsCall facts Q ps
  PatternCalls facts Q (typed_wildcard ty) = Unit {0}
  PatternCalls facts Q (typed_and ty ps) = PatternsCall facts Q ps

  pub PatternsCall : TermFacts → (ℕ → Type 0) → TypedPatterns → Type 0
  PatternsCall facts Q no_typed = Unit {0}
  PatternsCall facts Q (more_typed p ps) = PatternCalls facts Q p × PatternsCall facts Q ps

-- the expressions of if-lets call these, and their patterns take values apart by those
abbrev pub IfLetsCall : TermFacts → (ℕ → Type 0) → (ℕ → Type 0) → List TypedIfLet → Type 0
IfLetsCall facts C E [] = Unit {0}
IfLetsCall facts C E (x ∷ xs) = ExprCalls facts C x.value × PatternCalls facts E x.pattern × IfLetsCall facts C E xs

-- a property of the rules of these terms
abbrev pub EachRule : CheckedProgram → (ℕ → Type 0) → (TypedRule → Type 0) → Type 0
EachRule p R P = (i : ℕ) (rule : TypedRule) → slice_get p.rules i ≡ Some rule → R rule.root → P rule

-- it answers every pure call
pub record IsTotal (c : Completion) : Type 0 where
  pub construct : (t : ℕ) (vs : Values) → c.construct t vs ≢ unknown
  pub extract : (t : ℕ) (v : Value) → c.extract t v ≢ unknown
  pub constructs : (t : ℕ) (vs : Values) → c.constructs t vs ≢ unknown
  pub extracts : (t : ℕ) (v : Value) → c.extracts t v ≢ unknown

-- at each depth a completion that answers every pure call agrees
abbrev pub HasCompletions : CheckedProgram → Answers → Type 0
HasCompletions p w = (n : ℕ) → (c : Completion) × Agrees p w (Means p w n) c × IsTotal c

-- Two meanings of one call at one depth are equal, or their effects first differ in the world's answer to the same call.
abbrev pub OneMeaning : Type 0
OneMeaning = (p : CheckedProgram) (w : Answers) (run : ℕ → Bool) → IsSound p (λ t. run t ≡ true)
    → HasNoTies p (λ t. run t ≡ true) → HasCompletions p w → (n t : ℕ) (args : Values) (one other : List Event) (x y : Option Value)
    → run t ≡ true → Means p w n t args one x → Means p w n t args other y → AreOne one x other y

-- the rules of these terms call only such terms, and take values apart only by them
abbrev pub CallsOnly : CheckedProgram → (ℕ → Type 0) → (ℕ → Type 0) → Type 0
CallsOnly p R Q = EachRule p R (λ rule. PatternsCall p.terms Q rule.args × IfLetsCall p.terms Q Q rule.iflets
    × ExprCalls p.terms Q rule.right)

-- a constructor that may not fail has a value to give, and an extractor that never fails has outputs
pub record HasValues (p : CheckedProgram) (Q : ℕ → Type 0) : Type 0 where
  pub made : (t : ℕ) → Q t → p.terms.partial t ≡ false → (v : Value) × IsValueOf p.values v (p.terms.type_of t)
  pub opened : (t : ℕ) → Q t → p.terms.infallible t ≡ true → (vs : Values) × AreValuesOf p.values vs (p.terms.inputs t)

-- the right sides of a term that may not fail call only terms that may not fail
abbrev pub FailsWherePartial : CheckedProgram → (ℕ → Type 0) → Type 0
FailsWherePartial p R =
    EachRule p R (λ rule. p.terms.partial rule.root ≡ false → ExprCalls p.terms (λ t. p.terms.partial t ≡ false) rule.right)

-- what is known of a program: its rules of these terms are sound, have no ties, and call only those terms; what is called has values,
-- and what may not fail calls only what may not fail
pub record IsWhole (p : CheckedProgram) (R Q : ℕ → Type 0) : Type 0 where
  pub sound : IsSound p R
  pub ties : HasNoTies p R
  pub calls : CallsOnly p R Q
  pub has : HasValues p Q
  pub firm : FailsWherePartial p R

-- Two meanings of one call are one, whether or not there are completions that answer every pure call: one that answers what the call
-- needs can't but be.
abbrev pub OneMeaningAlways : Type 0
OneMeaningAlways = (p : CheckedProgram) (w : Answers) (run called : ℕ → Bool) → IsWhole p (λ t. run t ≡ true) (λ t. called t ≡ true)
    → (n t : ℕ) (args : Values) (one other : List Event) (x y : Option Value) → run t ≡ true → Means p w n t args one x
    → Means p w n t args other y → AreOne one x other y

-- it can't be that not
abbrev pub Surely : Type 0 → Type 0
Surely A = (A → ⊥) → ⊥

-- a completion with more answers
pub record Extends (c d : Completion) : Type 0 where
  pub construct : (t : ℕ) (vs : Values) → c.construct t vs ≢ unknown → d.construct t vs ≡ c.construct t vs
  pub extract : (t : ℕ) (v : Value) → c.extract t v ≢ unknown → d.extract t v ≡ c.extract t v
  pub constructs : (t : ℕ) (vs : Values) → d.constructs t vs ≡ c.constructs t vs
  pub extracts : (t : ℕ) (v : Value) → d.extracts t v ≡ c.extracts t v
  pub place : (s : Site) → d.place s ≡ c.place s

-- a completion that agrees at a depth, has the answers of this one, and answers what a call's rules ask
pub record Covering (p : CheckedProgram) (w : Answers) (n t : ℕ) (args : Values) (c : Completion) : Type 0 where
  pub next : Completion
  pub agrees : Agrees p w (Means p w n) next
  pub extends : Extends c next
  pub covers : CoversAll p next t args

-- Any completion that agrees can't but have more answers with which it answers what a call's rules ask.
abbrev pub CompletionsExtend : Type 0
CompletionsExtend = (p : CheckedProgram) (w : Answers) (run called : ℕ → Bool) → IsWhole p (λ t. run t ≡ true) (λ t. called t ≡ true)
    → (n t : ℕ) (args : Values) (c : Completion) → run t ≡ true → Agrees p w (Means p w n) c → Surely (Covering p w n t args c)

-- an answer is none of a term that may fail, or a value of the term's type
abbrev pub IsGoodAnswer : CheckedProgram → ℕ → Option Value → Type 0
IsGoodAnswer p t None = p.terms.partial t ≡ true
IsGoodAnswer p t (Some v) = IsValueOf p.values v (p.terms.type_of t)

-- What a call on arguments of its types means can't but be such an answer.
abbrev pub MeaningsAreTyped : Type 0
MeaningsAreTyped = (p : CheckedProgram) (w : Answers) (run called : ℕ → Bool) → IsWhole p (λ t. run t ≡ true) (λ t. called t ≡ true)
    → (n t : ℕ) (args : Values) (trace : List Event) (x : Option Value) → run t ≡ true → AreValuesOf p.values args (p.terms.inputs t)
    → Means p w n t args trace x → Surely (IsGoodAnswer p t x)

-- no two rules of one of these terms overlap
abbrev pub HasNoOverlaps : CheckedProgram → (ℕ → Type 0) → Type 0
HasNoOverlaps p R = (i j : ℕ) (one other : TypedRule) → slice_get p.rules i ≡ Some one → slice_get p.rules j ≡ Some other → i ≢ j
    → one.root ≡ other.root → R one.root
    → Overlaps (DemandOf p.terms one) one.priority (DemandOf p.terms other) other.priority → ⊥

-- Where none overlap, none tie.
abbrev pub NoOverlapsNoTies : Type 0
NoOverlapsNoTies = (p : CheckedProgram) (run : ℕ → Bool) → IsSound p (λ t. run t ≡ true) → HasNoOverlaps p (λ t. run t ≡ true)
    → HasNoTies p (λ t. run t ≡ true)

-- The right side of a well typed rule of a term that may not fail calls only what may not fail.
abbrev pub TypedRulesCallWell : Type 0
TypedRulesCallWell = (declared : Declared) (rule : TypedRule) → IsTypedRule declared rule → (facts_of declared).partial rule.root ≡ false
    → ExprCalls (facts_of declared) (λ t. (facts_of declared).partial t ≡ false) rule.right
